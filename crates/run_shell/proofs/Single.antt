-- an input has one answer
use Rattle.std.proofs.Common.{◌≡◌, ℕ, List, refl, sym, ap, subst, ◌∙◌, Option, Bool}
use Rattle.unix_calls.specs.declared.Entry.{Entry}
use Rattle.unix_calls.specs.declared.Turn.{Turn}
use Rattle.unix_calls.specs.declared.World.{World}
use Rattle.cluster_state.specs.Possible.{history_of}
use Rattle.cluster_core.specs.Played.{numbers_of}
use Rattle.command_ends.specs.declared.Status.TheVariants.{Done, BadFile}
use Rattle.command_ends.specs.Laws.{HasOneAnswer}
use Rattle.given_files.specs.declared.Given.{Given}
use Rattle.given_files.specs.Input.{IsFaultOfRun, Refuses, fault_line}
use Rattle.given_files.proofs.Meanings.{one_run}
use Rattle.run_shell.specs.declared.replays.Format.{Format}
use Rattle.run_shell.specs.Replay.{written, WritesRun, Runs, ReplaysAs}
use Rattle.run_shell.proofs.Runs.{same_run}

module _ (format : Format) where
  same_written : (world : World) (schedule : List Turn) (text text' : List ℕ) → WritesRun format world schedule text → WritesRun format world schedule text' → text ≡ text'
  same_written world schedule text text' a b =
      let same = same_run world schedule a.run b.run in
      a.writes
      ∙ ap (λ (ls : List (Option Entry)). written format world (history_of ls) (numbers_of 0 ls) a.run.is_quiet) same.lines
      ∙ ap (λ (q : Bool). written format world (history_of b.run.lines) (numbers_of 0 b.run.lines) q) same.is_quiet
      ∙ sym b.writes

  one_history : (input text text' : List ℕ) → Runs format input text → Runs format input text' → text ≡ text'
  one_history input text text' a b =
      let same = (one_run input).one a.given b.given a.reads b.reads in
      same_written b.given.world b.given.turns text text' (subst (λ (g : Given). WritesRun format g.world g.turns text) same a.writes) b.writes

  one_refusal : (input text text' : List ℕ) → Refuses IsFaultOfRun input text → Refuses IsFaultOfRun input text' → text ≡ text'
  one_refusal input text text' a b = a.writes ∙ ap fault_line ((one_run input).one_fault a.fault b.fault a.refused b.refused) ∙ sym b.writes

  runs_or_refuses : (input text text' : List ℕ) → Runs format input text → Refuses IsFaultOfRun input text' → ⊥
  runs_or_refuses input text text' a b = (one_run input).not_both a.given b.fault a.reads b.refused

  pub one_replay : HasOneAnswer (ReplaysAs format)
  one_replay input text text' Done Done a b = (refl, one_history input text text' a b)
  one_replay input text text' Done BadFile a b = absurd (runs_or_refuses input text text' a b)
  one_replay input text text' Done s' a b = absurd b
  one_replay input text text' BadFile Done a b = absurd (runs_or_refuses input text' text b a)
  one_replay input text text' BadFile BadFile a b = (refl, one_refusal input text text' a b)
  one_replay input text text' BadFile s' a b = absurd b
  one_replay input text text' s s' a b = absurd a
