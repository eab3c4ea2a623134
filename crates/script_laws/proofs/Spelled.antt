-- the rows of a written world are of the grammar
use Rattle.std.proofs.Common.{◌≡◌, inl, inr, ℕ, ◌+◌, ◌<◌, ◌≤◌, ◌^◌, Bool, true, false, [], ◌∷◌, length, refl, ap, ◌∙◌, arith, Option, Some, None}
use Rattle.std.specs.Prelude.{codes, IfSome}
use Rattle.std.specs.Fmt.{decimal}
use Rattle.unix_names.specs.declared.NodeId.{NodeId}
use Rattle.unix_names.specs.declared.Signal.{Signal}
use Rattle.unix_names.specs.declared.Act.{Act}
use Rattle.unix_names.specs.declared.Act.TheVariants.{Default, Ignore, Catch}
use Rattle.unix_names.specs.Signals.{signal_of}
use Rattle.unix_names.proofs.SignalLaws.{number_of-signal_of}
use Rattle.unix_calls.specs.declared.Arg.{Arg}
use Rattle.unix_calls.specs.declared.Arg.TheVariants.{Zero, One, Nobody, Own, Maker, Var}
use Rattle.unix_calls.specs.declared.Statement.{Statement}
use Rattle.unix_calls.specs.declared.Statement.TheVariants as statement
use Rattle.unix_calls.specs.declared.World.{World}
use Rattle.unix_calls.specs.Valid.{IsNode, IsArgument, IsStatement, IsValid}
use Rattle.script_words.specs.Words.{Word, Row}
use Rattle.script_writer.specs.Written.{script_name, variable_name, arg_word, target_word, selector_word, site_words, wait_word, statement_words}
use Rattle.script_words.specs.Table.{change_words, act_word}
use Rattle.script_words.specs.Writing.{word_or_number, signal_word, member_words}
use Rattle.script_laws.specs.Writable.{IsTarget, IsWanted, IsSelector, IsWrittenStatement}
use Rattle.script_laws.specs.Grammar.{Naming, IsCalled, IsFor, IsArg, Targets, Wants, Selects, IsForSignalNumber, IsSite, IsUser, Joins, Spells, SpellsStart, Lines, Part, ends, skips, starts, begins, says, closes, opens}
use Rattle.script_laws.specs.Grammar as grammar
use Rattle.script_laws.proofs.Masks.{set_spelled}
use Rattle.script_laws.proofs.Chosen.{for_decimal, names_from, name_at}

-- the names that are written
abbrev pub naming_of : World → Naming
naming_of world = record { scripts = names_from 115 0 (length world.scripts); variables = names_from 118 0 world.vars }

none_before : (n : ℕ) → 0 + n ≡ n
none_before n = omega arith

same_change : (a b : Bool) → change_words a b ≡ grammar.change_words a b
same_change false false = refl
same_change true false = refl
same_change false true = refl
same_change true true = refl

same_wait : (b : Bool) → wait_word b ≡ grammar.wait_word b
same_wait true = refl
same_wait false = refl

same_act : (a : Act) → act_word a ≡ grammar.act_word a
same_act Default = refl
same_act Ignore = refl
same_act Catch = refl

signal_spelled : (sig : ℕ) → sig < 2 ^ 32 → IsForSignalNumber (signal_word sig) sig
signal_spelled sig lt = go (signal_of sig) refl
  where
    go : (o : Option Signal) → signal_of sig ≡ o → IsForSignalNumber (word_or_number sig o) sig
    go None e = inr (for_decimal sig lt)
    go (Some s) e = inl (s, refl, number_of-signal_of sig s e)

module _ (world : World) (valid : IsValid world) where
  pub variable_called : (v : ℕ) → v < world.vars → IsCalled (naming_of world).variables (variable_name v) v
  variable_called v lt = name_at 118 0 world.vars v lt ∙ ap (λ (m : ℕ). Some (118 ∷ decimal m)) (none_before v)

  pub script_called : (k : ℕ) → k < length world.scripts → IsCalled (naming_of world).scripts (script_name k) k
  script_called k lt = name_at 115 0 (length world.scripts) k lt ∙ ap (λ (m : ℕ). Some (115 ∷ decimal m)) (none_before k)

  arg_spelled : (arg : Arg) → IsArgument world arg → IsArg (naming_of world) (arg_word arg) arg
  arg_spelled Zero a = refl
  arg_spelled One a = refl
  arg_spelled Nobody a = refl
  arg_spelled Own a = refl
  arg_spelled Maker a = refl
  arg_spelled (Var v) a = variable_called v a

  target_spelled : (minus : Bool) (arg : Arg) → IsArgument world arg → IsTarget minus arg → Targets (naming_of world) (target_word minus arg) minus arg
  target_spelled false arg a t = arg_spelled arg a
  target_spelled true arg a t = (arg_word arg, refl, arg_spelled arg a, t)

  wanted_spelled : (minus : Bool) (arg : Arg) → IsArgument world arg → IsWanted minus arg → Wants (naming_of world) (target_word minus arg) minus arg
  wanted_spelled true One a t = refl
  wanted_spelled true Zero a t = absurd t
  wanted_spelled true Nobody a t = target_spelled true Nobody a t
  wanted_spelled true Own a t = target_spelled true Own a t
  wanted_spelled true Maker a t = target_spelled true Maker a t
  wanted_spelled true (Var v) a t = target_spelled true (Var v) a t
  wanted_spelled false arg a t = arg_spelled arg a

  selector_spelled : (any minus : Bool) (arg : Arg) → IsArgument world arg → IsSelector any minus arg → Selects (naming_of world) (selector_word any minus arg) any minus arg
  selector_spelled true minus arg a s = (refl, s.0, s.1)
  selector_spelled false minus arg a s = target_spelled minus arg a s

  small_node : (n : ℕ) → n < world.nodes → n < 2 ^ 32
  small_node n lt = omega (arith, valid.limits.nodes)

  site_spelled : (at : Option NodeId) → IfSome at (IsNode world) → IsSite (site_words at) at
  site_spelled None a = refl
  site_spelled (Some node) a = (decimal node.0, refl, for_decimal node.0 (small_node node.0 a))

  pub statement_spelled : (k : ℕ) (s : Statement) → k ≤ length world.scripts → IsStatement world k s → IsWrittenStatement s → Spells (naming_of world) (statement_words s) s
  statement_spelled k statement.Getpid few v w = refl
  statement_spelled k statement.Getppid few v w = refl
  statement_spelled k (statement.Getpgid arg) few v w = (arg_word arg, refl, arg_spelled arg v)
  statement_spelled k (statement.Getsid arg) few v w = (arg_word arg, refl, arg_spelled arg v)
  statement_spelled k (statement.Fork var script at) few v w = (variable_name var, script_name script, site_words at, refl, variable_called var v.0, script_called script (omega (arith, v.1)), site_spelled at v.2)
  statement_spelled k (statement.Exec script) few v w = (script_name script, refl, script_called script (omega arith))
  statement_spelled k (statement.Exit n) few v w = (decimal n, refl, for_decimal n w)
  statement_spelled k (statement.Wait sleeps any minus arg stopped continued) few v w =
      (selector_word any minus arg, ap (λ (r : Row). wait_word sleeps ∷ selector_word any minus arg ∷ r) (same_change stopped continued) ∙ ap (λ (x : Word). x ∷ selector_word any minus arg ∷ grammar.change_words stopped continued) (same_wait sleeps), selector_spelled any minus arg v w)
  statement_spelled k (statement.Kill minus arg sig) few v w = (target_word minus arg, signal_word sig, refl, target_spelled minus arg v w.0, signal_spelled sig w.1)
  statement_spelled k (statement.Setpgid pid minus pgid) few v w = (arg_word pid, target_word minus pgid, refl, arg_spelled pid v.0, wanted_spelled minus pgid v.1 w)
  statement_spelled k statement.Setsid few v w = refl
  statement_spelled k (statement.Action sig act) few v w = (signal_word sig, ap (λ (x : Word). codes "action" ∷ signal_word sig ∷ x ∷ []) (same_act act), signal_spelled sig w)
  statement_spelled k (statement.Mask set) few v w = (member_words set, refl, set_spelled set w)
  statement_spelled k statement.Pending few v w = refl
  statement_spelled k (statement.Migrate node) few v w = (decimal node.0, refl, for_decimal node.0 (small_node node.0 v))
