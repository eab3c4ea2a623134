-- where a decision is made, and where the image is then
use Rattle.std.specs.Prelude.{ℕ, Bool, true, false, ◌<◌, Option, None, Some}
use Rattle.unix_names.specs.declared.NodeId.{NodeId}
use Rattle.unix_calls.specs.declared.Call.{Call}
use Rattle.unix_calls.specs.declared.Call.TheVariants.{Migrate, Fork}
use Rattle.unix_calls.specs.declared.Reply.{Reply}
use Rattle.unix_calls.specs.declared.Reply.TheVariants.{Fine, Number}
use Rattle.unix_calls.specs.declared.Event.{Event}
use Rattle.unix_calls.specs.declared.Event.TheVariants.{Moved}
use Rattle.unix_calls.specs.declared.Entry.{Entry}
use Rattle.unix_calls.specs.declared.Entry.TheVariants.{Called, Happened}
use Rattle.unix_calls.specs.declared.Job.{Job}
use Rattle.unix_calls.specs.declared.Job.TheVariants.{Ask, Look, Push}

-- the node that is named, or else the caller's place
abbrev pub named_or : Option NodeId → NodeId → NodeId
named_or None place = place
named_or (Some node) place = node

abbrev pub call_destination : Call → Option NodeId → NodeId → Option NodeId
call_destination Fork named place = Some (named_or named place)
call_destination Migrate named place = Some (named_or named place)
call_destination _ named place = None

-- the one node at which a job is done: a fork where the child is to be, a migration and a push where they go; other jobs are done anywhere
abbrev pub destination : Job → NodeId → Option NodeId
destination (Ask call named) place = call_destination call named place
destination (Push node) place = Some node
destination Look place = None

-- whether the job names nodes alone of so many
abbrev pub JobGoes : ℕ → Job → Type 0
JobGoes nodes (Ask call None) = Unit {0}
JobGoes nodes (Ask call (Some k)) = k.0 < nodes
JobGoes nodes Look = Unit {0}
JobGoes nodes (Push k) = k.0 < nodes

-- ---- by the entry
abbrev pub is_fork : Call → Bool
is_fork Fork = true
is_fork _ = false

abbrev pub is_migration : Call → Bool
is_migration Migrate = true
is_migration _ = false

abbrev pub is_placed_call : Reply → Call → Bool
is_placed_call (Number n) call = is_fork call
is_placed_call Fine call = is_migration call
is_placed_call _ call = false

abbrev pub is_move : Event → Bool
is_move Moved = true
is_move _ = false

-- a process was made, or moved
abbrev pub is_placed : Option Entry → Bool
is_placed None = false
is_placed (Some (Called p call reply)) = is_placed_call reply call
is_placed (Some (Happened p event)) = is_move event

-- where the image of p is once this was decided: a migration and a push take it to the site
abbrev pub place_after : Option Entry → NodeId → NodeId → NodeId
place_after (Some (Called p Migrate reply)) was here = here
place_after (Some (Happened p Moved)) was here = here
place_after _ was here = was
