-- how a process's image changes by a poke and by a decision
use Rattle.std.specs.Prelude.{Bool, true, false, Option, None, Some, option_and_then}
use Rattle.std.specs.Option.{option_map}
use Rattle.unix_calls.specs.declared.Entry.{Entry}
use Rattle.unix_calls.specs.declared.Entry.TheVariants.{Called, Happened}
use Rattle.unix_calls.specs.declared.Phase.{Phase}
use Rattle.unix_calls.specs.declared.Phase.TheVariants as phases
use Rattle.unix_calls.specs.declared.World.{World}
use Rattle.signal_state.specs.declared.Own.{Own}
use Rattle.vproc_record.specs.declared.Vproc.{Vproc}
use Rattle.proc_image.specs.declared.Image.{Image}
use Rattle.proc_image.specs.Scripts.{next_child, stands_again}
use Rattle.proc_image.specs.Images.{progress_of, child_image, moved_image}

-- who sleeps can run, and who is stopped stays so
abbrev pub woken_phase : Phase → Phase
woken_phase phases.Asleep = phases.Ready
woken_phase phase = phase

abbrev pub woken : Image → Image
woken image = record image { phase = woken_phase image.phase }

-- who can run sleeps instead
abbrev pub asleep_if : Bool → Phase → Phase
asleep_if true phases.Ready = phases.Asleep
asleep_if true phase = phase
asleep_if false phase = phase

-- the image waits after a sleeping wait that was answered Again
abbrev pub phase_after : World → Image → Phase → Entry → Phase
phase_after world image phase (Called caller call reply) = asleep_if (stands_again world (progress_of image) reply) phase
phase_after world image phase (Happened p event) = phase

abbrev pub image_by : World → Image → Entry → Image
image_by world image (Called caller call reply) = moved_image world image reply
image_by world image (Happened p event) = image

-- the caller's image after the decision
abbrev pub image_after : World → Image → Own → Phase → Option Entry → Image
image_after world image own phase None = record image { own = own; phase = phase }
image_after world image own phase (Some entry) = record (image_by world image entry) { own = own; phase = phase_after world image phase entry }

-- the image of the process that was born
abbrev pub child_of : World → Image → Option Vproc → Option Image
child_of world image born = option_and_then (λ v. option_map (child_image image v.pid) (next_child world image.pid (progress_of image))) born
