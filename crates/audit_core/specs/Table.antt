-- how far each process is, as a table of images tells it
use Rattle.std.specs.Prelude.{◌≡◌, ◌==◌, List, Option, None, Some, option_map, find}
use Rattle.unix_names.specs.declared.Pid.{Pid}
use Rattle.unix_calls.specs.declared.Start.{Start}
use Rattle.unix_calls.specs.declared.World.{World}
use Rattle.ordered_table.specs.declared.Entry.{Entry}
use Rattle.ordered_table.specs.Entries.{value_at}
use Rattle.proc_image.specs.declared.Image.{Image}
use Rattle.proc_image.specs.Images.{IsFit, progress_of}
use Rattle.proc_image.specs.Follows.{Running, put, started}

-- a process is as far as its image, and one without an image isn't running
abbrev pub running_of : List (Entry Image) → Running
running_of images pid = option_map progress_of (value_at images (record { 0 = pid }))

-- the image is that of its id, and fits the world
pub record IsKeptAt (world : World) (pid : Pid) (image : Image) : Type 0 where
  pub own_pid : image.pid ≡ pid
  pub fits : IsFit world image

-- every image is that of its id, and fits the world
abbrev pub IsKept : World → List (Entry Image) → Type 0
IsKept world images = (pid : Pid) (image : Image) → value_at images pid ≡ Some image → IsKeptAt world pid image

-- one more process, or a pid that begins anew, if there is an image
abbrev pub begun : Option Image → Running → Running
begun None running = running
begun (Some image) running = put image.pid.0 (Some (progress_of image)) running

-- these starts at the first statements of their scripts
abbrev pub started_from : World → List Start → Running
started_from world starts pid = option_map (started world) (find (λ start. start.pid.0 == pid) starts)
