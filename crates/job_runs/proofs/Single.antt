-- One input has one answer.
use Rattle.std.proofs.Common.{◌≡◌, ℕ, Bool, List, refl, sym, ap, ◌∙◌, subst, Option}
use Rattle.byte_ends.specs.Text.{lines, words}
use Rattle.unix_calls.specs.declared.Entry.{Entry}
use Rattle.script_words.specs.Words.{Word}
use Rattle.cluster_state.specs.Possible.{history_of}
use Rattle.command_ends.specs.declared.Status.{Status}
use Rattle.command_ends.specs.declared.Status.TheVariants.{Done, BadFile}
use Rattle.command_ends.specs.Laws.{HasOneAnswer}
use Rattle.run_shell.specs.RunOf.{RunOf}
use Rattle.run_shell.proofs.Runs.{same_run}
use Rattle.job_plans.specs.declared.JobFile.{JobFile}
use Rattle.job_plans.specs.Worlds.{world_of}
use Rattle.job_reading_laws.proofs.Either.{one_file, one_fault, no_file}
use Rattle.job_commands.specs.Compiling.{fault_line, Refuses}
use Rattle.job_runs.specs.Jobs.{all_turns, jobs_text, RunsFile, RunsJobs}
use Rattle.job_runs.proofs.Named.{names_are}

abbrev Text : Type 0
Text = List ℕ

-- the text of some run of a file's world
record TellsRun (names : List Word) (file : JobFile) (text : Text) : Type 0 where
  run : RunOf (world_of file) all_turns
  writes : text ≡ jobs_text names file (history_of run.lines) run.is_quiet

one_run : (names : List Word) (file : JobFile) (text text' : Text) → TellsRun names file text → TellsRun names file text' → text ≡ text'
one_run names file text text' a b =
    let same = same_run (world_of file) all_turns a.run b.run in
    a.writes
    ∙ ap (λ (ls : List (Option Entry)). jobs_text names file (history_of ls) a.run.is_quiet) same.lines
    ∙ ap (λ (q : Bool). jobs_text names file (history_of b.run.lines) q) same.is_quiet
    ∙ sym b.writes

one_text : (input text text' : Text) → RunsFile input text → RunsFile input text' → text ≡ text'
one_text input text text' a b =
    let same_file = one_file (lines input) b.file a.file (b.names, b.describes) (a.names, a.describes) in
    let same_names = names_are input a.names a.file a.describes ∙ sym (names_are input b.names b.file b.describes) in
    one_run b.names b.file text text'
    (subst (λ (f : JobFile). TellsRun b.names f text) same_file (subst (λ (ns : List Word). TellsRun ns a.file text) same_names (record { run = a.run; writes = a.writes })))
    (record { run = b.run; writes = b.writes })

one_line : (input text text' : Text) → Refuses input text → Refuses input text' → text ≡ text'
one_line input text text' r r' = r.writes ∙ ap fault_line (one_fault (lines input) r'.fault r.fault r'.least r.least) ∙ sym r'.writes

not_both : (input text text' : Text) → RunsFile input text → Refuses input text' → ⊥
not_both input text text' a r = no_file (lines input) a.file r.fault (a.names, a.describes) r.least

pub one_answer : HasOneAnswer RunsJobs
one_answer input text text' Done Done p q = (refl, one_text input text text' p q)
one_answer input text text' Done BadFile p q = absurd (not_both input text text' p q)
one_answer input text text' Done s' p q = absurd q
one_answer input text text' BadFile Done p q = absurd (not_both input text' text q p)
one_answer input text text' BadFile BadFile p q = (refl, one_line input text text' p q)
one_answer input text text' BadFile s' p q = absurd q
one_answer input text text' s s' p q = absurd p
