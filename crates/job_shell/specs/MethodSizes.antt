-- method: how large the numbers of a job file's stages can be.
use Rattle.std.specs.Prelude.{◌<◌, ◌^◌, length, All}
use Rattle.job_plans.specs.declared.JobFile.{JobFile}
use Rattle.job_files.specs.MethodBounds.{HasFew}

pub record IsSmall (file : JobFile) : Type 0 where
  pub jobs : All HasFew file.jobs
  pub lines : length file.lines < 2 ^ 31
