-- waitpid, decided on records (POSIX.1-2017, XSH wait)
use Rattle.std.specs.Prelude.{ℤ, Bool, not, [], Option, None, Some, if◌then◌else◌}
use Rattle.std.specs.Option.{option_map}
use Rattle.std.specs.List.{list_any}
use Rattle.unix_names.specs.declared.Pid.{Pid}
use Rattle.unix_names.specs.declared.Errno.TheVariants.{ECHILD}
use Rattle.unix_names.specs.declared.WaitStatus.{WaitStatus}
use Rattle.unix_names.specs.States.{is_living}
use Rattle.unix_calls.specs.declared.Call.{Call}
use Rattle.unix_calls.specs.declared.Call.TheVariants.{Waitpid}
use Rattle.unix_calls.specs.declared.Reply.TheVariants.{Child, Again, Refused}
use Rattle.unix_calls.specs.declared.Entry.TheVariants.{Called}
use Rattle.unix_calls.specs.declared.Phase.TheVariants as phase
use Rattle.unix_calls.specs.Calls.{selector_of}
use Rattle.signal_state.specs.Signals.{Signals}
use Rattle.vproc_record.specs.declared.Vproc.{Vproc}
use Rattle.vproc_record.specs.Vprocs.{without_child}
use Rattle.group_record.specs.declared.Group.{Group}
use Rattle.group_record.specs.Groups.{left}
use Rattle.record_bag.specs.declared.bag.Bag.{Bag}
use Rattle.record_bag.specs.Bags.{vproc_in}
use Rattle.kernel_rules.specs.Wait.{report_of}
use Rattle.decide_law.specs.Counts.{passes}
use Rattle.decide_law.specs.Effects.{only, unless_empty, Effect, plain, replied}
use Rattle.decide_law.specs.Told.{selects, is_ready, first_child}

-- some child is named
abbrev pub has_match : Bag → Vproc → ℤ → Bool
has_match bag v sel = list_any (λ c. passes (selects v (selector_of sel)) (vproc_in bag c)) v.children

-- a change that has been reported is forgotten
abbrev pub reported : Vproc → Vproc
reported u = record u { change = None }

-- a change of a child is reported
abbrev pub tell : Signals → Pid → Call → Vproc → WaitStatus → Effect
tell sig p call u w = plain (Some (Called p call (Child u.pid w))) sig phase.Ready u.pid reported

-- what is held under a process's name once the child c of p is taken
abbrev pub taken_vproc : Pid → Pid → Pid → Option Vproc → Option Vproc
taken_vproc p c q h = only c (λ x. None) q (only p (option_map (λ v. without_child v c)) q h)

-- its group, of which it was a member to the last
abbrev pub leaves : Pid → Option Group → Option Group
leaves c None = None
leaves c (Some g) = unless_empty (left g c)

-- the end of a child is reported, and the child is gone
abbrev pub take : Signals → Pid → Call → Vproc → WaitStatus → Effect
take sig p call u w = record {
  entry = Some (Called p call (Child u.pid w));
  sig = sig;
  phase = phase.Ready;
  born = None;
  nudges = [];
  vprocs = taken_vproc p u.pid;
  groups = only u.group (leaves u.pid);
}

abbrev pub report : Signals → Pid → Call → Vproc → Option WaitStatus → Effect
report sig p call u None = replied p call Again sig
report sig p call u (Some w) = if is_living u.life then tell sig p call u w else take sig p call u w

abbrev pub report_first : Signals → Pid → Call → Bool → Bool → Option Vproc → Effect
report_first sig p call stopped continued None = replied p call Again sig
report_first sig p call stopped continued (Some u) = report sig p call u (report_of u.life u.change stopped continued)

-- what waitpid does, on the bag in which the caller v is settled
abbrev pub wait_effect : Bag → Signals → Pid → Vproc → ℤ → Bool → Bool → Effect
wait_effect bag sig p v sel stopped continued =
    if not (has_match bag v sel) then replied p (Waitpid sel stopped continued) (Refused ECHILD) sig
    else report_first sig p (Waitpid sel stopped continued) stopped continued (first_child bag v (is_ready v (selector_of sel) stopped continued))
