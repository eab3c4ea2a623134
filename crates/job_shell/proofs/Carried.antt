-- What is carried over from the file that was read to the world that it became.
use Rattle.std.proofs.Common.{◌≡◌, ℕ, List, sym, subst, Ok, Err}
use Rattle.byte_ends.specs.Text.{lines as lines_in}
use Rattle.unix_calls.specs.declared.Entry.{Entry}
use Rattle.unix_calls.specs.declared.World.{World}
use Rattle.unix_calls.specs.Valid.{IsValid}
use Rattle.kernel_model.specs.Legal.{IsLegal}
use Rattle.proc_image.specs.Follows.{Follows}
use Rattle.script_laws.specs.Grammar.{IsFile}
use Rattle.script_writer.specs.Written.{file_text}
use Rattle.job_plans.specs.declared.JobFile.{JobFile}
use Rattle.job_plans.specs.Plans.{plan_of}
use Rattle.job_plans.specs.Worlds.{world_of}
use Rattle.job_files.specs.MethodReading.{read_lines}
use Rattle.job_laws.specs.Means.{Means}
use Rattle.job_files.specs.declared.JobFault.{JobFault}
use Rattle.job_reading_laws.specs.Faults.{IsLeastFault}
use Rattle.job_reading_laws.proofs.Read.{grammar_read}
use Rattle.job_reading_laws.proofs.Least.{least_is_told}
use Rattle.job_world_laws.proofs.Writable.{valid}
use Rattle.job_world_laws.proofs.Read.{compiled_file, job_files_mean}
use Rattle.job_shell.specs.Compiled.{IsCompiled}

pub is_compiled : (lines : List (List ℕ)) (file : JobFile) (world : World) (text : List ℕ) → read_lines lines ≡ Ok file → world ≡ world_of file → text ≡ file_text world → IsCompiled lines world text
is_compiled lines file world text reads becomes writes =
    let describes = (grammar_read lines file).0 reads in
    let accepted = describes.1.accepted in
    record {
      file = file;
      describes = describes;
      becomes = becomes;
      writes = writes;
      valid = subst IsValid (sym becomes) (valid file accepted);
      spelled = subst (λ (bytes : List ℕ). IsFile (lines_in bytes) world) (sym writes) (subst (λ (w : World). IsFile (lines_in (file_text w)) w) (sym becomes) (compiled_file file accepted));
      means = subst (λ (w : World). (history : List Entry) → IsLegal w history → Follows w history → Means w (plan_of file) history) (sym becomes) (λ history legal follows. job_files_mean lines file history describes legal follows);
    }

pub is_refused : (lines : List (List ℕ)) (fault : JobFault) → read_lines lines ≡ Err fault → IsLeastFault lines fault
is_refused lines fault e = (least_is_told lines fault).0 e
