-- The text of a job file's world is read back as the world, and its histories mean what the file says.
use Rattle.byte_ends.specs.Text.{lines}
use Rattle.script_writer.specs.Written.{file_text}
use Rattle.byte_ends.specs.Text.{lines}
use Rattle.script_laws.proofs.Back.{written_file, written_read}
use Rattle.job_plans.specs.Worlds.{world_of}
use Rattle.job_laws.proofs.Accepted.{files_mean}
use Rattle.job_world_laws.specs.Worlds.{CompiledIsFile, CompiledIsRead, CompiledIsOnePart, JobFilesMean}
use Rattle.job_world_laws.proofs.OneParts.{one_part}
use Rattle.job_world_laws.proofs.Writable.{valid, writable}

pub compiled_file : CompiledIsFile
compiled_file file accepted = written_file (world_of file) (writable file accepted)

pub compiled_read : CompiledIsRead
compiled_read first file accepted = written_read first (world_of file) (writable file accepted)

pub job_files_mean : JobFilesMean
job_files_mean lines file history describes legal follows =
    let accepted = describes.1.accepted in
    files_mean file history accepted (valid file accepted) legal follows

pub compiled_part : CompiledIsOnePart
compiled_part file accepted = one_part (lines (file_text (world_of file))) (world_of file) (compiled_file file accepted)
