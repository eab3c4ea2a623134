-- that scripts fork little
use Rattle.std.specs.Prelude.{◌≤◌, List}
use Rattle.unix_calls.specs.declared.Entry.{Entry}
use Rattle.unix_calls.specs.declared.World.{World}
use Rattle.unix_calls.specs.Valid.{IsValid}
use Rattle.proc_image.specs.Follows.{Follows}
use Rattle.fork_laws.specs.Made.{made_from}
use Rattle.unix_calls.specs.declared.limits.TheConstants.{MOST_PROCESSES}

-- a history that follows the scripts of a valid world makes no more processes than a world may make
abbrev pub ForksAreFew : Type 0
ForksAreFew = (world : World) (history : List Entry) → IsValid world → Follows world history → made_from 0 history ≤ MOST_PROCESSES
