-- numbers that were given out
use Rattle.std.proofs.Common.{◌≡◌, inl, inr, ◌<◌, ◌≤◌, ℕ, zero, suc, pos, Bool, true, false, List, refl, sym, subst, arith, Option, None, Some, All, slice_get}
use Rattle.std.specs.Prelude.{neg_ℤ, unwrap_or}
use Rattle.std.proofs.lemmas.List.Elements.{All-set}
use Rattle.unix_names.specs.declared.Pid.{Pid}
use Rattle.unix_calls.specs.declared.Arg.{Arg}
use Rattle.unix_calls.specs.declared.Arg.TheVariants.{Zero, One, Nobody, Own, Maker, Var}
use Rattle.unix_calls.specs.declared.Call.TheVariants as calls
use Rattle.unix_calls.specs.declared.Job.{Job}
use Rattle.unix_calls.specs.declared.Job.TheVariants.{Ask}
use Rattle.unix_calls.specs.declared.Phase.{Phase}
use Rattle.unix_calls.specs.declared.Phase.TheVariants as phases
use Rattle.unix_calls.specs.declared.Reply.{Reply}
use Rattle.unix_calls.specs.declared.Reply.TheVariants.{Again}
use Rattle.unix_calls.specs.declared.Statement.{Statement}
use Rattle.unix_calls.specs.declared.Statement.TheVariants.{Getpgid, Getsid, Fork, Exec, Wait, Kill, Setpgid}
use Rattle.unix_calls.specs.declared.World.{World}
use Rattle.proc_image.specs.declared.image.Image.{Image}
use Rattle.proc_image.specs.Scripts.{Progress, nobody, argument, signed, selected, call_of, call_or_exit, next_statement, next_call, after_wait, after_reply, after_reply_or_exit, moved_on, forked}
use Rattle.proc_image.specs.Images.{progress_of, next_node, unless_stopped}
use Rattle.proc_image.proofs.Fits.{All-slice_get}
use Rattle.cluster_contents.specs.Placement.{JobFits, Contents, Known}
use Rattle.decide_law.specs.Needs.{size}
use Rattle.cluster_contents.specs.Numbers.{IsShort, CallNames, JobNames}
use Rattle.cluster_contents.specs.Standing.{ProgressNames}

-- ---- what a process names
module _ (Given : ℕ → Type 0) (zero_given : Given 0) (one_given : Given 1) (nobody_given : Given nobody) where
  found : (vars : List ℕ) (v : ℕ) (o : Option ℕ) → slice_get vars v ≡ o → All Given vars → Given (unwrap_or o nobody)
  found vars v None e all = nobody_given
  found vars v (Some n) e all = All-slice_get Given vars v n all e

  named : (own : Pid) (at : Progress) (arg : Arg) → Given own.0 → ProgressNames Given at → Given (argument own at arg)
  named own at Zero mine k = zero_given
  named own at One mine k = one_given
  named own at Nobody mine k = nobody_given
  named own at Own mine k = mine
  named own at Maker mine k = k.maker
  named own at (Var v) mine k = found at.vars v (slice_get at.vars v) refl k.vars

  negated : (n : ℕ) → Given n → Given (size (neg_ℤ (pos n)))
  negated zero g = g
  negated (suc n) g = g

  signed_given : (minus : Bool) (n : ℕ) → Given n → Given (size (signed minus n))
  signed_given false n g = g
  signed_given true n g = negated n g

  selected_given : (any minus : Bool) (n : ℕ) → Given n → Given (size (selected any minus n))
  selected_given true minus n g = one_given
  selected_given false minus n g = signed_given minus n g

  call_given : (own : Pid) (at : Progress) (s : Statement) → Given own.0 → ProgressNames Given at → CallNames Given (call_of own at s)
  call_given own at (Getpgid arg) mine k = named own at arg mine k
  call_given own at (Getsid arg) mine k = named own at arg mine k
  call_given own at (Wait sleeps any minus arg stopped continued) mine k = selected_given any minus (argument own at arg) (named own at arg mine k)
  call_given own at (Kill minus arg sig) mine k = signed_given minus (argument own at arg) (named own at arg mine k)
  call_given own at (Setpgid arg minus group) mine k = (named own at arg mine k, signed_given minus (argument own at group) (named own at group mine k))
  call_given own at _ mine k = tt

  next_given : (own : Pid) (at : Progress) (o : Option Statement) → Given own.0 → ProgressNames Given at → CallNames Given (call_or_exit own at o)
  next_given own at None mine k = tt
  next_given own at (Some s) mine k = call_given own at s mine k

  -- the numbers of a job
  pub job_given : (world : World) (image : Image) (job : Job) → JobFits world image job → Given image.pid.0 → ProgressNames Given (progress_of image) → JobNames Given job
  job_given world image job (inl e) mine k = subst (JobNames Given) (sym e) (go image.phase)
    where
      go : (ph : Phase) → JobNames Given (unless_stopped ph (Ask (next_call world image.pid (progress_of image)) (next_node world (progress_of image))))
      go phases.Stopped = tt
      go phases.Ready = next_given image.pid (progress_of image) (next_statement world (progress_of image)) mine k
      go phases.Asleep = next_given image.pid (progress_of image) (next_statement world (progress_of image)) mine k
      go phases.Gone = next_given image.pid (progress_of image) (next_statement world (progress_of image)) mine k
  job_given world image job (inr p) mine k = subst (JobNames Given) (sym p.1) tt

  -- ---- after a reply
  waited_given : (sleeps : Bool) (reply : Reply) (at : Progress) → ProgressNames Given at → ProgressNames Given (after_wait sleeps reply at)
  waited_given true Again at k = k
  waited_given true _ at k = record { maker = k.maker; vars = k.vars }
  waited_given false _ at k = record { maker = k.maker; vars = k.vars }

  reply_given : (own : Pid) (reply : Reply) (at : Progress) (s : Statement) → (call_of own at s ≡ calls.Fork → Given (forked reply)) → ProgressNames Given at → ProgressNames Given (after_reply reply at s)
  reply_given own reply at (Fork var script on) forks k = record { maker = k.maker; vars = All-set Given at.vars var (forked reply) (forks refl) k.vars }
  reply_given own reply at (Exec script) forks k = record { maker = k.maker; vars = k.vars }
  reply_given own reply at (Wait sleeps any minus arg stopped continued) forks k = waited_given sleeps reply at k
  reply_given own reply at _ forks k = record { maker = k.maker; vars = k.vars }

  or_exit_given : (own : Pid) (reply : Reply) (at : Progress) (o : Option Statement) → (call_or_exit own at o ≡ calls.Fork → Given (forked reply)) → ProgressNames Given at → ProgressNames Given (after_reply_or_exit reply at o)
  or_exit_given own reply at None forks k = k
  or_exit_given own reply at (Some s) forks k = reply_given own reply at s forks k

  pub moved_given : (world : World) (own : Pid) (at : Progress) (reply : Reply) → (next_call world own at ≡ calls.Fork → Given (forked reply)) → ProgressNames Given at → ProgressNames Given (moved_on world at reply)
  moved_given world own at reply forks k = or_exit_given own reply at (next_statement world at) forks k

-- ---- the numbers of no node
pub known_small : (world : World) (W : Contents) (q : ℕ) → ((j : ℕ) → 2 ≤ W.serials j) → q < 2 → Known world W q
known_small world W q least small u =
    let a = least u.node in
    let b = u.from in
    let c = u.is in
    omega (arith, small)

pub known_nobody : (world : World) (W : Contents) → Known world W nobody
known_nobody world W u = u.somebody refl

pub short_zero : IsShort 0
short_zero = omega arith

pub short_one : IsShort 1
short_one = omega arith

pub short_nobody : IsShort nobody
short_nobody = omega arith
