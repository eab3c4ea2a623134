-- Images: how far their processes are, and what they ask.
use Rattle.std.specs.Prelude.{◌≡◌, ◌<◌, Option, None, length}
use Rattle.std.specs.Option.{option_map_or}
use Rattle.unix_names.specs.declared.Pid.{Pid}
use Rattle.unix_names.specs.declared.NodeId.{NodeId}
use Rattle.signal_state.specs.declared.Own.{Own}
use Rattle.signal_state.specs.Sig.{fresh, child}
use Rattle.unix_calls.specs.declared.Job.{Job}
use Rattle.unix_calls.specs.declared.Job.TheVariants.{Ask, Look, Push}
use Rattle.unix_calls.specs.declared.Phase.{Phase}
use Rattle.unix_calls.specs.declared.Phase.TheVariants.{Ready, Asleep, Stopped, Gone}
use Rattle.unix_calls.specs.declared.Reply.{Reply}
use Rattle.unix_calls.specs.declared.Start.{Start}
use Rattle.unix_calls.specs.declared.World.{World}
use Rattle.unix_calls.specs.Calls.{HasNames}
use Rattle.proc_image.specs.declared.image.Image.{Image}
use Rattle.proc_image.specs.Scripts.{Progress, next_call, next_statement, node_of, moved_on}
use Rattle.proc_image.specs.Follows.{started}

-- how far the process of an image is
abbrev pub progress_of : Image → Progress
progress_of image = record { maker = image.maker; script = image.script; position = image.position; vars = image.vars }

-- the image's script and variables are those of the world
pub record IsFit (world : World) (image : Image) : Type 0 where
  pub script : image.script < length world.scripts
  pub vars : length image.vars ≡ world.vars

-- a process that is this far and can run
abbrev pub image_of : Pid → Own → Progress → Image
image_of pid own at = record { pid = pid; maker = at.maker; script = at.script; position = at.position; vars = at.vars; phase = Ready; own = own }

-- a start has no signals
abbrev pub start_image : World → Start → Image
start_image world start = image_of start.pid (record { sig = fresh; taken = 0 }) (started world start)

-- a child has its parent's mask and actions (POSIX.1-2017, XSH fork)
abbrev pub child_image : Image → Pid → Progress → Image
child_image parent pid at = image_of pid (record { sig = child parent.own.sig; taken = 0 }) at

-- the same process, this far
abbrev pub with_progress : Image → Progress → Image
with_progress image at = record { pid = image.pid; maker = at.maker; script = at.script; position = at.position; vars = at.vars; phase = image.phase; own = image.own }

abbrev pub moved_image : World → Image → Reply → Image
moved_image world image reply = with_progress image (moved_on world (progress_of image) reply)

-- a stopped process looks at its signals alone
abbrev pub unless_stopped : Phase → Job → Job
unless_stopped Stopped job = Look
unless_stopped Ready job = job
unless_stopped Asleep job = job
unless_stopped Gone job = job

-- the node that the next statement names
abbrev pub next_node : World → Progress → Option NodeId
next_node world at = option_map_or node_of (next_statement world at) None

-- what the process of an image wants next
abbrev pub next_job : World → Image → Job
next_job world image = unless_stopped image.phase (Ask (next_call world image.pid (progress_of image)) (next_node world (progress_of image)))

-- the numbers of a job's call can be names
abbrev pub JobHasNames : Job → Type 0
JobHasNames (Ask call at) = HasNames call
JobHasNames Look = Unit {0}
JobHasNames (Push node_id) = Unit {0}
