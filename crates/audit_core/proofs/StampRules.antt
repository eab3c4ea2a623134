-- The first rule that a stamped entry breaks.
use Rattle.std.proofs.Common.{◌≡◌, ◌==◌, ◌<◌, ℕ, Bool, true, false, cond, not, ◌&&◌, List, Option, None, Some, option_map, refl, ap, arith}
use Rattle.std.proofs.lemmas.Bool.{eqb-true, eq-eqb}
use Rattle.unix_names.specs.States.{is_living}
use Rattle.unix_calls.specs.declared.World.{World}
use Rattle.process_table.specs.declared.Row.{Row}
use Rattle.process_table.specs.Rows.{row_of}
use Rattle.kernel_model.specs.declared.Rule.TheVariants as rules
use Rattle.kernel_model.specs.declared.Verdict.{Verdict}
use Rattle.kernel_model.specs.declared.Verdict.TheVariants as kernel
use Rattle.kernel_model.specs.Sound.{IsAlive}
use Rattle.kernel_model.specs.Step.{process_of, row_verdict, verdict_at}
use Rattle.proc_image.specs.Follows.{Running}
use Rattle.histories.specs.declared.Stamped.{Stamped}
use Rattle.audit_core.specs.declared.judge.Breach.{Breach}
use Rattle.audit_core.specs.declared.judge.Breach.TheVariants.{UnknownProcess, ScriptOrder, SignalFirst, WrongReply, WrongEvent}
use Rattle.audit_core.specs.declared.stamps.StampRule.{StampRule}
use Rattle.audit_core.specs.declared.stamps.StampRule.TheVariants.{Place, User, Broken}
use Rattle.audit_core.specs.Judge.{place_of, IsFirstRuleAt, IsVerdictAt}
use Rattle.audit_core.specs.Stamped.{IsAbove, is_of_other, rank, BreaksStampAt, IsFirstStampRuleAt, KeepsRulesAt, IsStampVerdictAt}
use Rattle.audit_core.proofs.Verdicts.{breaks_none}

-- ---- users
other_differs : (o : Option Row) (uid : ℕ) → is_of_other o uid ≡ true → option_map (λ r. r.uid) o ≡ Some uid → ⊥
other_differs None uid h e = cc
other_differs (Some r) uid h e = go (is_living r.life) (r.uid == uid) h (eq-eqb r.uid uid (some_same r.uid uid e))
  where
    some_same : (a b : ℕ) → Some a ≡ Some b → a ≡ b
    some_same a b e = cc

    go : (living same : Bool) → (living && not same) ≡ true → same ≡ true → ⊥
    go true true h s = cc
    go false true h s = cc
    go living false h s = cc

other_lives : (o : Option Row) (uid : ℕ) → is_of_other o uid ≡ true → IsAlive o
other_lives None uid h = absurd (cc)
other_lives (Some r) uid h = go (is_living r.life) (r.uid == uid) h
  where
    go : (living same : Bool) → (living && not same) ≡ true → living ≡ true
    go true same h = refl
    go false same h = absurd (cc)

same_user : (o : Option Row) (uid : ℕ) → is_of_other o uid ≡ false → IsAlive o → option_map (λ r. r.uid) o ≡ Some uid
same_user None uid h alive = absurd alive
same_user (Some r) uid h alive = ap Some (eqb-true r.uid uid (go (is_living r.life) (r.uid == uid) h alive))
  where
    go : (living same : Bool) → (living && not same) ≡ false → living ≡ true → same ≡ true
    go true true h l = refl
    go true false h l = absurd (cc)
    go false same h l = absurd (cc)

-- an entry is legal for a living process alone
legal_lives_at : (rows : List Row) (e : _) (o : Option Row) → verdict_at rows o e ≡ kernel.Legal → IsAlive o
legal_lives_at rows e None h = absurd (cc)
legal_lives_at rows e (Some r) h = go (is_living r.life) (row_verdict rows r e) h
  where
    go : (living : Bool) (v : Verdict) → cond living v (kernel.Illegal rules.UnknownProcess) ≡ kernel.Legal → living ≡ true
    go true v h = refl
    go false v h = absurd (cc)

-- ---- the order of the rules
-- a rule of entries that is asked behind the user is asked behind the process
behind_user : (rule : Breach) → rank User < rank (Broken rule) → place_of UnknownProcess < place_of rule
behind_user UnknownProcess h = absurd (omega (arith, h))
behind_user ScriptOrder h = omega arith
behind_user SignalFirst h = omega arith
behind_user WrongReply h = omega arith
behind_user WrongEvent h = omega arith

same_order : (earlier rule : Breach) → rank (Broken earlier) < rank (Broken rule) → place_of earlier < place_of rule
same_order earlier UnknownProcess h = absurd (above_all earlier h)
  where
    above_all : (e : Breach) → rank (Broken e) < 1 → ⊥
    above_all UnknownProcess h = omega (arith, h)
    above_all ScriptOrder h = omega (arith, h)
    above_all SignalFirst h = omega (arith, h)
    above_all WrongReply h = omega (arith, h)
    above_all WrongEvent h = omega (arith, h)
same_order UnknownProcess ScriptOrder h = omega arith
same_order UnknownProcess SignalFirst h = omega arith
same_order UnknownProcess WrongReply h = omega arith
same_order UnknownProcess WrongEvent h = omega arith
same_order ScriptOrder ScriptOrder h = absurd (omega (arith, h))
same_order ScriptOrder SignalFirst h = omega arith
same_order ScriptOrder WrongReply h = omega arith
same_order ScriptOrder WrongEvent h = omega arith
same_order SignalFirst ScriptOrder h = absurd (omega (arith, h))
same_order SignalFirst SignalFirst h = absurd (omega (arith, h))
same_order SignalFirst WrongReply h = omega arith
same_order SignalFirst WrongEvent h = omega arith
same_order WrongReply ScriptOrder h = absurd (omega (arith, h))
same_order WrongReply SignalFirst h = absurd (omega (arith, h))
same_order WrongReply WrongReply h = absurd (omega (arith, h))
same_order WrongReply WrongEvent h = omega arith
same_order WrongEvent ScriptOrder h = absurd (omega (arith, h))
same_order WrongEvent SignalFirst h = absurd (omega (arith, h))
same_order WrongEvent WrongReply h = absurd (omega (arith, h))
same_order WrongEvent WrongEvent h = absurd (omega (arith, h))

-- ---- what is said of one stamped entry
module _ (world : World) (last : Option ℕ) (rows : List Row) (running : Running) (s : Stamped) where
  abbrev row : Option Row
  row = row_of rows (process_of s.entry)

  -- the place is asked before all else
  pub place_first : ¬ IsAbove last s.place → IsFirstStampRuleAt world last rows running s Place
  place_first h = record { broken = h; earlier_hold = λ earlier less. absurd (omega (arith, less)) }

  before_user : IsAbove last s.place → IsAlive row → (earlier : StampRule) → rank earlier < rank User → ¬ BreaksStampAt world last rows running s earlier
  before_user above alive Place less broken = broken above
  before_user above alive User less broken = omega (arith, less)
  before_user above alive (Broken UnknownProcess) less broken = broken alive
  before_user above alive (Broken ScriptOrder) less broken = omega (arith, less)
  before_user above alive (Broken SignalFirst) less broken = omega (arith, less)
  before_user above alive (Broken WrongReply) less broken = omega (arith, less)
  before_user above alive (Broken WrongEvent) less broken = omega (arith, less)

  -- the user is asked of a living process
  pub user_first : IsAbove last s.place → is_of_other row s.uid ≡ true → IsFirstStampRuleAt world last rows running s User
  user_first above other = record {
    broken = other_differs row s.uid other;
    earlier_hold = before_user above (other_lives row s.uid other);
  }

  before_rule : (rule : Breach) → IsAbove last s.place → is_of_other row s.uid ≡ false → IsFirstRuleAt world rows running s.entry rule
      → (earlier : StampRule) → rank earlier < rank (Broken rule) → ¬ BreaksStampAt world last rows running s earlier
  before_rule rule above own first Place less broken = broken above
  before_rule rule above own first User less broken =
      first.earlier_hold UnknownProcess (behind_user rule less) (λ alive. broken (same_user row s.uid own alive))
  before_rule rule above own first (Broken earlier) less broken = first.earlier_hold earlier (same_order earlier rule less) broken

  -- the other rules are asked as they are of an entry without a stamp
  pub entry_said : (v : Option Breach) → IsAbove last s.place → is_of_other row s.uid ≡ false → IsVerdictAt world rows running s.entry v
      → IsStampVerdictAt world last rows running s (option_map Broken v)
  entry_said None above own said = record {
    place = above;
    user = same_user row s.uid own (legal_lives_at rows s.entry row said.0);
    entry = said;
  }
  entry_said (Some rule) above own said = record { broken = said.broken; earlier_hold = before_rule rule above own said }

  -- an entry that keeps every rule breaks none
  pub keeps_none : (rule : StampRule) → KeepsRulesAt world last rows running s → ¬ BreaksStampAt world last rows running s rule
  keeps_none Place keeps broken = broken keeps.place
  keeps_none User keeps broken = broken keeps.user
  keeps_none (Broken rule) keeps broken = breaks_none world rows running s.entry rule keeps.entry.0 keeps.entry.1 broken
