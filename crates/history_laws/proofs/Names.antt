-- the numbers that a process names are pids, or less
use Rattle.std.proofs.Common.{◌≡◌, ◌≤◌, ◌<◌, ℕ, zero, suc, Bool, true, false, List, refl, sym, ap, subst, arith, Option, None, Some, All, slice_get, length, option_and_then}
use Rattle.std.specs.Prelude.{unwrap_or, T, nat_le}
use Rattle.std.specs.Int.Signed.{le_z_yes}
use Rattle.std.proofs.lemmas.Bool.{le-leb}
use Rattle.std.proofs.lemmas.List.Elements.{All-set}
use Rattle.unix_names.specs.declared.Pid.{Pid}
use Rattle.unix_calls.specs.declared.Arg.{Arg}
use Rattle.unix_calls.specs.declared.Arg.TheVariants.{Zero, One, Nobody, Own, Maker, Var}
use Rattle.unix_calls.specs.declared.Call.TheVariants as calls
use Rattle.unix_calls.specs.declared.Reply.{Reply}
use Rattle.unix_calls.specs.declared.Reply.TheVariants.{Again}
use Rattle.unix_calls.specs.declared.Statement.{Statement}
use Rattle.unix_calls.specs.declared.Statement.TheVariants.{Fork, Exec, Wait, Kill, Setpgid}
use Rattle.unix_calls.specs.declared.World.{World}
use Rattle.unix_calls.specs.Calls.{IsName, HasNames}
use Rattle.unix_calls.specs.Valid.{IsValid}
use Rattle.proc_image.specs.Scripts.{Progress, nobody, argument, signed, selected, call_of, call_or_exit, next_statement, next_call, after_wait, after_reply, after_reply_or_exit, moved_on, forked, forked_by, child_of, next_child}
use Rattle.proc_image.proofs.Fits.{All-slice_get, next_statement-valid}

-- the pids that a process has come to know are at most nobody's
pub record KnowsPids (at : Progress) : Type 0 where
  pub maker : at.maker.0 ≤ nobody
  pub vars : All (λ v. v ≤ nobody) at.vars

known : (vars : List ℕ) (v : ℕ) (o : Option ℕ) → slice_get vars v ≡ o → All (λ v. v ≤ nobody) vars → unwrap_or o nobody ≤ nobody
known vars v None e all = omega arith
known vars v (Some n) e all = All-slice_get (λ m. m ≤ nobody) vars v n all e

named : (own : Pid) (at : Progress) (arg : Arg) → own.0 ≤ nobody → KnowsPids at → argument own at arg ≤ nobody
named own at Zero mine k = omega arith
named own at One mine k = omega arith
named own at Nobody mine k = omega arith
named own at Own mine k = mine
named own at Maker mine k = k.maker
named own at (Var v) mine k = known at.vars v (slice_get at.vars v) refl k.vars

yes : (a b : ℕ) → a ≤ b → T (nat_le a b)
yes a b h = subst T (sym (le-leb a b h)) tt

signed_name : (minus : Bool) (n : ℕ) → n ≤ nobody → IsName (signed minus n)
signed_name false n h = (le_z_yes tt, le_z_yes (yes n 4294967295 (omega (arith, h))))
signed_name true zero h = (le_z_yes tt, le_z_yes tt)
signed_name true (suc n) h = (le_z_yes (yes n 4294967294 (omega (arith, h))), le_z_yes tt)

selected_name : (any minus : Bool) (n : ℕ) → n ≤ nobody → IsName (selected any minus n)
selected_name true minus n h = (le_z_yes tt, le_z_yes tt)
selected_name false minus n h = signed_name minus n h

call_names : (own : Pid) (at : Progress) (s : Statement) → own.0 ≤ nobody → KnowsPids at → HasNames (call_of own at s)
call_names own at (Wait sleeps any minus arg stopped continued) mine k = selected_name any minus (argument own at arg) (named own at arg mine k)
call_names own at (Kill minus arg sig) mine k = signed_name minus (argument own at arg) (named own at arg mine k)
call_names own at (Setpgid arg minus group) mine k = signed_name minus (argument own at group) (named own at group mine k)
call_names own at _ mine k = tt

call_or_exit_names : (own : Pid) (at : Progress) (o : Option Statement) → own.0 ≤ nobody → KnowsPids at → HasNames (call_or_exit own at o)
call_or_exit_names own at None mine k = tt
call_or_exit_names own at (Some s) mine k = call_names own at s mine k

-- the numbers of the next call can be names
pub next_names : (world : World) (own : Pid) (at : Progress) → own.0 ≤ nobody → KnowsPids at → HasNames (next_call world own at)
next_names world own at mine k = call_or_exit_names own at (next_statement world at) mine k

-- ---- after a reply
waited_knows : (sleeps : Bool) (reply : Reply) (at : Progress) → KnowsPids at → KnowsPids (after_wait sleeps reply at)
waited_knows true Again at k = k
waited_knows true _ at k = record { maker = k.maker; vars = k.vars }
waited_knows false _ at k = record { maker = k.maker; vars = k.vars }

reply_knows : (own : Pid) (reply : Reply) (at : Progress) (s : Statement) → (call_of own at s ≡ calls.Fork → forked reply ≤ nobody) → KnowsPids at → KnowsPids (after_reply reply at s)
reply_knows own reply at (Fork var script on) forks k = record { maker = k.maker; vars = All-set (λ v. v ≤ nobody) at.vars var (forked reply) (forks refl) k.vars }
reply_knows own reply at (Exec script) forks k = record { maker = k.maker; vars = k.vars }
reply_knows own reply at (Wait sleeps any minus arg stopped continued) forks k = waited_knows sleeps reply at k
reply_knows own reply at _ forks k = record { maker = k.maker; vars = k.vars }

or_exit_knows : (own : Pid) (reply : Reply) (at : Progress) (o : Option Statement) → (call_or_exit own at o ≡ calls.Fork → forked reply ≤ nobody) → KnowsPids at → KnowsPids (after_reply_or_exit reply at o)
or_exit_knows own reply at None forks k = k
or_exit_knows own reply at (Some s) forks k = reply_knows own reply at s forks k

-- a fork's reply is a pid
pub moved_knows : (world : World) (own : Pid) (at : Progress) (reply : Reply) → (next_call world own at ≡ calls.Fork → forked reply ≤ nobody) → KnowsPids at → KnowsPids (moved_on world at reply)
moved_knows world own at reply forks k = or_exit_knows own reply at (next_statement world at) forks k

-- ---- the child of a fork
pub record HasChild (world : World) (own : Pid) (at : Progress) : Type 0 where
  pub child : Progress
  pub is : next_child world own at ≡ Some child
  pub maker : child.maker ≡ own
  pub vars : child.vars ≡ at.vars
  pub script : child.script < length world.scripts

forked_child : (world : World) (own : Pid) (at : Progress) (o : Option Statement) → IsValid world → at.script < length world.scripts → next_statement world at ≡ o → call_or_exit own at o ≡ calls.Fork → HasChild world own at
forked_child world own at None valid fit e is = absurd (cc is)
forked_child world own at (Some (Fork var script on)) valid fit e is =
    let fits = next_statement-valid world at (Fork var script on) valid e in
    let earlier : script < at.script = fits.1 in
    record { child = forked_by own at script; is = ap (option_and_then (child_of own at)) e; maker = refl; vars = refl; script = omega (arith, earlier, fit) }
forked_child world own at (Some _) valid fit e is = absurd (cc is)

pub forks : (world : World) (own : Pid) (at : Progress) → IsValid world → at.script < length world.scripts → next_call world own at ≡ calls.Fork → HasChild world own at
forks world own at valid fit e = forked_child world own at (next_statement world at) valid fit refl e
