-- method: the code of waitpid first finds what is to be told, and then writes it
use Rattle.std.specs.Prelude.{Bool, not, [], Option, None, Some, if◌then◌else◌, IsSome}
use Rattle.std.specs.Option.{option_map}
use Rattle.std.specs.List.{list_any}
use Rattle.unix_names.specs.declared.Pid.{Pid}
use Rattle.unix_names.specs.declared.Errno.TheVariants.{ECHILD}
use Rattle.unix_names.specs.declared.WaitStatus.{WaitStatus}
use Rattle.unix_names.specs.States.{is_living}
use Rattle.unix_calls.specs.declared.Call.{Call}
use Rattle.unix_calls.specs.declared.Reply.{Reply}
use Rattle.unix_calls.specs.declared.Reply.TheVariants as reply
use Rattle.unix_calls.specs.declared.Entry.TheVariants.{Called}
use Rattle.unix_calls.specs.declared.Phase.TheVariants as phase
use Rattle.unix_calls.specs.declared.Selector.{Selector}
use Rattle.signal_state.specs.Signals.{Signals}
use Rattle.vproc_record.specs.declared.Vproc.{Vproc}
use Rattle.group_record.specs.declared.Group.{Group}
use Rattle.record_bag.specs.declared.bag.Bag.{Bag}
use Rattle.record_bag.specs.Bags.{vproc_in}
use Rattle.kernel_rules.specs.Wait.{report_of}
use Rattle.decide_law.specs.Agrees.{vproc_at, group_at}
use Rattle.decide_law.specs.Counts.{passes}
use Rattle.decide_law.specs.Effects.{Effect, only, same}
use Rattle.decide_law.specs.Told.{selects, is_ready, first_child}
use Rattle.ops_exit_wait.specs.declared.findings.Found.{Found}
use Rattle.ops_exit_wait.specs.declared.findings.Found.TheVariants.{NoChild, Nothing, Change, End}
use Rattle.ops_exit_wait.specs.Waitpid.{reported, taken_vproc, leaves}

-- ---- what is found
abbrev pub finding_of : Vproc → Option WaitStatus → Found
finding_of u None = Nothing
finding_of u (Some w) = if is_living u.life then Change u.pid w else End u.pid u.group w

abbrev pub first_finding : Bool → Bool → Option Vproc → Found
first_finding stopped continued None = Nothing
first_finding stopped continued (Some u) = finding_of u (report_of u.life u.change stopped continued)

abbrev pub finding : Bag → Vproc → Selector → Bool → Bool → Found
finding bag v sel stopped continued =
    if not (list_any (λ c. passes (selects v sel) (vproc_in bag c)) v.children) then NoChild
    else first_finding stopped continued (first_child bag v (is_ready v sel stopped continued))

-- ---- what it does
abbrev pub reply_by : Found → Reply
reply_by NoChild = reply.Refused ECHILD
reply_by Nothing = reply.Again
reply_by (Change c w) = reply.Child c w
reply_by (End c id w) = reply.Child c w

abbrev pub vprocs_by : Pid → Found → Pid → Option Vproc → Option Vproc
vprocs_by p NoChild = same
vprocs_by p Nothing = same
vprocs_by p (Change c w) = only c (option_map reported)
vprocs_by p (End c id w) = taken_vproc p c

abbrev pub groups_by : Found → Pid → Option Group → Option Group
groups_by NoChild = same
groups_by Nothing = same
groups_by (Change c w) = same
groups_by (End c id w) = only id (leaves c)

abbrev pub effect_by : Signals → Pid → Call → Found → Effect
effect_by sig p call f = record {
  entry = Some (Called p call (reply_by f));
  sig = sig;
  phase = phase.Ready;
  born = None;
  nudges = [];
  vprocs = vprocs_by p f;
  groups = groups_by f;
}

-- what is to be written is held
abbrev pub CanTell : Bag → Pid → Found → Type 0
CanTell bag p NoChild = Unit {0}
CanTell bag p Nothing = Unit {0}
CanTell bag p (Change c w) = IsSome (vproc_at bag c)
CanTell bag p (End c id w) = IsSome (vproc_at bag p) × IsSome (vproc_at bag c) × IsSome (group_at bag id)
