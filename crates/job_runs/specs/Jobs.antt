-- What `jobs` writes.
use Rattle.std.specs.Prelude.{◌≡◌, ℕ, ◌+◌, Bool, List, [], ◌∷◌, ◌++◌, codes, Option, None, Some}
use Rattle.std.specs.List.{flat_map}
use Rattle.byte_ends.specs.Text.{lines}
use Rattle.unix_names.specs.declared.WaitStatus.{WaitStatus}
use Rattle.unix_calls.specs.declared.limits.TheConstants.{MOST_TURNS}
use Rattle.unix_calls.specs.declared.Entry.{Entry}
use Rattle.unix_calls.specs.declared.Turn.{Turn}
use Rattle.unix_calls.specs.declared.Turn.TheVariants.{Auto}
use Rattle.script_words.specs.Words.{Word, Row, word_at}
use Rattle.script_words.specs.Writing.{spaced}
use Rattle.histories.specs.History.{status_words, last_line}
use Rattle.cluster_state.specs.Possible.{history_of}
use Rattle.command_ends.specs.declared.Status.TheVariants.{Done, BadFile}
use Rattle.command_ends.specs.Ends.{Texts}
use Rattle.run_shell.specs.RunOf.{RunOf, IsOfOneKernel}
use Rattle.job_plans.specs.declared.Stage.{Stage}
use Rattle.job_plans.specs.declared.JobLine.{JobLine}
use Rattle.job_plans.specs.declared.JobLine.TheVariants.{Run, Start, Stop, End, Bring}
use Rattle.job_plans.specs.declared.JobFile.{JobFile}
use Rattle.job_plans.specs.Files.{stages_of}
use Rattle.job_plans.specs.Plans.{plan_of, first_of}
use Rattle.job_plans.specs.Worlds.{world_of}
use Rattle.job_reading_laws.specs.Grammar.{Describes}
use Rattle.job_laws.specs.Reports.{Report, reports_of}
use Rattle.job_laws.specs.Means.{Means}
use Rattle.job_commands.specs.Compiling.{Refuses}

-- ---- the text
-- the status of the first of some reports
abbrev pub status_of : List Report → Option WaitStatus
status_of [] = None
status_of (report ∷ later) = Some report.status

-- how a stage ended: its status in words, or a dash where no end was reported
abbrev pub end_words : Option WaitStatus → Row
end_words None = codes "-" ∷ []
end_words (Some status) = status_words status

module _ (history : List Entry) where
  -- how stages ended that were forked one after the other, from the v-th on
  abbrev pub ends_from : ℕ → List Stage → Row
  ends_from v [] = []
  ends_from v (stage ∷ stages) = end_words (status_of (reports_of v history)) ++ ends_from (v + 1) stages

-- the line of a job of this name: how each of its stages ended, in the order of the stages
abbrev pub job_text : Word → JobFile → List Entry → ℕ → List ℕ
job_text name file history j = name ++ (spaced (ends_from history (first_of file j) (stages_of file.jobs j)) ++ 10 ∷ [])

-- what is said of a line of the shell: it is told how the job ended where the line waits for it
abbrev pub line_text : List Word → JobFile → List Entry → JobLine → List ℕ
line_text names file history (Run j) = job_text (word_at names j) file history j
line_text names file history (Start j) = []
line_text names file history (Stop j) = []
line_text names file history (End j) = []
line_text names file history (Bring j) = job_text (word_at names j) file history j

-- what is said of a history: its jobs in the order of the lines that wait for them, and whether nothing was left to do
abbrev pub jobs_text : List Word → JobFile → List Entry → Bool → List ℕ
jobs_text names file history is_quiet = flat_map (line_text names file history) file.lines ++ last_line is_quiet

-- ---- the command
-- how a job file is run: 200,000 turns by the rule of `auto`
abbrev pub all_turns : List Turn
all_turns = Auto MOST_TURNS ∷ []

-- The input is a job file that describes these jobs of these names; the run of its world on its nodes is one of the one kernel, its history means what the file says, and what that history reports is written.
pub record RunsFile (input output : List ℕ) : Type 0 where
  pub names : List Word
  pub file : JobFile
  pub describes : Describes (lines input) names file
  pub run : RunOf (world_of file) all_turns
  pub one_kernel : IsOfOneKernel run
  pub means : Means (world_of file) (plan_of file) (history_of run.lines)
  pub writes : output ≡ jobs_text names file (history_of run.lines) run.is_quiet

-- what is said of the run of a job file, or its least fault
abbrev pub RunsJobs : Texts
RunsJobs Done input output = RunsFile input output
RunsJobs BadFile input output = Refuses input output
RunsJobs _ input output = ⊥
