-- What a job file becomes.
use Rattle.std.specs.Prelude.{◌≡◌, ℕ, List}
use Rattle.byte_ends.specs.Text.{lines as lines_in}
use Rattle.unix_calls.specs.declared.Entry.{Entry}
use Rattle.unix_calls.specs.declared.World.{World}
use Rattle.unix_calls.specs.Valid.{IsValid}
use Rattle.kernel_model.specs.Legal.{IsLegal}
use Rattle.proc_image.specs.Follows.{Follows}
use Rattle.script_laws.specs.Grammar.{IsFile}
use Rattle.script_writer.specs.Written.{file_text}
use Rattle.job_plans.specs.declared.JobFile.{JobFile}
use Rattle.job_plans.specs.Plans.{plan_of}
use Rattle.job_plans.specs.Worlds.{world_of}
use Rattle.job_reading_laws.specs.Grammar.{IsJobFile}
use Rattle.job_laws.specs.Means.{Means}

-- the lines are a job file, and these are the world that it becomes and that world's text
pub record IsCompiled (lines : List (List ℕ)) (world : World) (text : List ℕ) : Type 0 where
  pub file : JobFile
  pub describes : IsJobFile lines file
  pub becomes : world ≡ world_of file
  pub writes : text ≡ file_text world
  -- the world can be run, and the text is a file of scripts that spells it
  pub valid : IsValid world
  pub spelled : IsFile (lines_in text) world
  -- each legal history that follows the scripts means what the job file says
  pub means : (history : List Entry) → IsLegal world history → Follows world history → Means world (plan_of file) history
