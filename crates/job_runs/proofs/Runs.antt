-- What is known of a job file's run.
use Rattle.std.proofs.Common.{◌≡◌, ℕ, Bool, List, map, refl, sym, ap, ◌∙◌, subst, Option, Ok, Err}
use Rattle.byte_ends.specs.Text.{lines, words}
use Rattle.unix_calls.specs.declared.Entry.{Entry}
use Rattle.unix_calls.specs.declared.Turn.{Turn}
use Rattle.unix_calls.specs.declared.World.{World}
use Rattle.unix_calls.specs.Valid.{IsValid}
use Rattle.script_words.specs.Words.{Word}
use Rattle.cluster_state.specs.Possible.{history_of}
use Rattle.cluster_core.specs.declared.Played.{Played}
use Rattle.cluster_core.specs.Played.{IsRunOf}
use Rattle.ops_vector.specs.Answer.{unix_answer}
use Rattle.run_shell.specs.RunOf.{RunOf, IsOfOneKernel}
use Rattle.run_shell.specs.Load.{counts, counts_text}
use Rattle.run_shell.proofs.Runs.{counts_run, same_run}
use Rattle.job_plans.specs.declared.JobFile.{JobFile}
use Rattle.job_plans.specs.Plans.{plan_of}
use Rattle.job_plans.specs.Worlds.{world_of}
use Rattle.job_files.specs.declared.JobFault.{JobFault}
use Rattle.job_files.specs.MethodReading.{read_lines}
use Rattle.job_reading_laws.specs.Faults.{IsLeastFault}
use Rattle.job_reading_laws.proofs.Read.{grammar_read}
use Rattle.job_reading_laws.proofs.Least.{least_is_told}
use Rattle.job_world_laws.proofs.Writable.{valid}
use Rattle.job_world_laws.proofs.Read.{job_files_mean}
use Rattle.job_runs.specs.MethodNames.{names_in}
use Rattle.job_runs.specs.Jobs.{all_turns, jobs_text, RunsFile}
use Rattle.job_runs.proofs.Named.{names_are}

-- ---- a run of what was played
record IsPlayed (world : World) (schedule : List Turn) (played : Played) : Type 0 where
  run : RunOf world schedule
  one_kernel : IsOfOneKernel run
  entries : played.entries.items ≡ history_of run.lines
  is_quiet : played.is_quiet ≡ run.is_quiet

abbrev shown : (world : World) (schedule : List Turn) (played : Played) → IsRunOf world unix_answer schedule played → RunOf world schedule
shown world schedule played r = record {
  cluster = r.cluster;
  made = played.steps.items;
  lines = r.lines;
  is_quiet = played.is_quiet;
  run = r.run;
  quiet = r.quiet;
}

is_played : (world : World) (schedule : List Turn) (played : Played) → IsValid world → IsRunOf world unix_answer schedule played → IsPlayed world schedule played
is_played world schedule played valid r =
    let counted = counts_run world schedule played (counts_text (counts world played.entries.items played.is_quiet)) valid r refl in
    let same = same_run world schedule (shown world schedule played r) counted.run in
    record {
      run = counted.run;
      one_kernel = counted.one_kernel;
      entries = r.entries ∙ ap history_of same.lines;
      is_quiet = same.is_quiet;
    }

-- ---- the world of a file that was read
pub is_valid : (input : List ℕ) (file : JobFile) (world : World) → read_lines (lines input) ≡ Ok file → world ≡ world_of file → IsValid world
is_valid input file world reads becomes = subst IsValid (sym becomes) (valid file ((grammar_read (lines input) file).0 reads).1.accepted)

-- ---- the text
pub runs_file : (input text : List ℕ) (file : JobFile) (world : World) (names : List Word) (played : Played) → read_lines (lines input) ≡ Ok file → world ≡ world_of file → names ≡ names_in (map words (lines input))
    → IsRunOf world unix_answer all_turns played → text ≡ jobs_text names file played.entries.items played.is_quiet → RunsFile input text
runs_file input text file world names played reads becomes named r writes =
    let described = (grammar_read (lines input) file).0 reads in
    let p = is_played (world_of file) all_turns played (valid file described.1.accepted) (subst (λ (w : World). IsRunOf w unix_answer all_turns played) becomes r) in
    let same_names = named ∙ sym (names_are input described.0 file described.1) in
    record {
      names = described.0;
      file = file;
      describes = described.1;
      run = p.run;
      one_kernel = p.one_kernel;
      means = job_files_mean (lines input) file (history_of p.run.lines) described p.one_kernel.legal p.one_kernel.follows;
      writes = writes ∙ ap (λ (ns : List Word). jobs_text ns file played.entries.items played.is_quiet) same_names
          ∙ ap (λ (es : List Entry). jobs_text described.0 file es played.is_quiet) p.entries
          ∙ ap (λ (q : Bool). jobs_text described.0 file (history_of p.run.lines) q) p.is_quiet;
    }

pub is_refused : (lines : List (List ℕ)) (fault : JobFault) → read_lines lines ≡ Err fault → IsLeastFault lines fault
is_refused lines fault e = (least_is_told lines fault).0 e
