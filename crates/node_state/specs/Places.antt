-- where images stand: in the ready queue, or parked
use Rattle.std.specs.Prelude.{Bool, true, false, [], ◌∷◌, ◌++◌, Option, None, Some, if◌then◌else◌}
use Rattle.unix_names.specs.declared.Pid.{Pid}
use Rattle.unix_calls.specs.declared.Phase.{Phase}
use Rattle.unix_calls.specs.declared.Phase.TheVariants as phases
use Rattle.ordered_table.specs.Entries.{value_at, with_value, without, has_value}
use Rattle.proc_image.specs.declared.Image.{Image}
use Rattle.node_state.specs.declared.ready.Waiting.{Waiting}
use Rattle.node_state.specs.declared.ready.Waiting.TheVariants as waiting
use Rattle.node_state.specs.declared.state.State.{State}
use Rattle.node_state.specs.Ready.{has_image}
use Rattle.node_state.specs.Phases.{woken}

abbrev pub queued : State → Waiting → State
queued s w = record s { ready = s.ready ++ w ∷ [] }

-- who is in a courier or not here yet is marked, and will be told when it comes
abbrev pub poked_by : State → Pid → Option Image → State
poked_by s p (Some image) = queued (record s { parked = without s.parked p }) (waiting.Image (woken image))
poked_by s p None = if has_image p s.ready then s else record s { marks = with_value s.marks p true }

-- a process is told at its place that it may go on
abbrev pub poked : State → Pid → State
poked s p = poked_by s p (value_at s.parked p)

abbrev pub rested : State → Image → Phase → State
rested s image phases.Ready = queued s (waiting.Image image)
rested s image _ = record s { parked = with_value s.parked image.pid image }

abbrev pub placed_by : State → Image → Bool → State
placed_by s image true = queued (record s { marks = without s.marks image.pid }) (waiting.Image (woken image))
placed_by s image false = rested s image image.phase

-- an image comes to stand at this node
abbrev pub placed : State → Image → State
placed s image = placed_by s image (has_value s.marks image.pid)
