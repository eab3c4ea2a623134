-- who stands in the ready queue
use Rattle.std.specs.Prelude.{ℕ, Bool, true, false, not, ◌==◌, List, [], ◌∷◌, filter, length, Option, None, Some, if◌then◌else◌}
use Rattle.std.specs.List.{list_any}
use Rattle.unix_names.specs.declared.Pid.{Pid}
use Rattle.unix_calls.specs.declared.Phase.{Phase}
use Rattle.unix_calls.specs.declared.Phase.TheVariants as phases
use Rattle.proc_image.specs.declared.Image.{Image}
use Rattle.node_state.specs.declared.ready.Waiting.{Waiting}
use Rattle.node_state.specs.declared.ready.Waiting.TheVariants as waiting

abbrev pub is_image_of : Pid → Waiting → Bool
is_image_of p (waiting.Image image) = image.pid.0 == p.0
is_image_of p (waiting.Courier c) = false

-- whether an image of a process stands in the queue; one that rides in a courier does not count
abbrev pub has_image : Pid → List Waiting → Bool
has_image p queue = list_any (is_image_of p) queue

abbrev pub is_stopped_phase : Phase → Bool
is_stopped_phase phases.Stopped = true
is_stopped_phase phase = false

-- the first image of the queue that is not stopped
abbrev pub first_movable : List Waiting → Option Image
first_movable [] = None
first_movable (waiting.Courier c ∷ queue) = first_movable queue
first_movable (waiting.Image image ∷ queue) = if is_stopped_phase image.phase then first_movable queue else Some image

-- the queue without it
abbrev pub without_movable : List Waiting → List Waiting
without_movable [] = []
without_movable (waiting.Courier c ∷ queue) = waiting.Courier c ∷ without_movable queue
without_movable (waiting.Image image ∷ queue) = if is_stopped_phase image.phase then waiting.Image image ∷ without_movable queue else queue

-- whether a push could move who stands there: an image that is not stopped
abbrev pub is_movable : Waiting → Bool
is_movable (waiting.Image image) = not (is_stopped_phase image.phase)
is_movable (waiting.Courier c) = false

-- how many images stand in the queue that are not stopped
abbrev pub movable_count : List Waiting → ℕ
movable_count queue = length (filter is_movable queue)
