-- what is so of runs by the decisions on records
use Rattle.std.proofs.Common.{◌≡◌, ℕ, Bool, true, false, List, [], ◌∷◌, length, refl, sym, ap, subst, ◌∙◌, Option, All}
use Rattle.std.specs.Prelude.{◌↔◌, IsTrue}
use Rattle.std.proofs.lemmas.List.Elements.{All-nil, All-cons, All-head, All-tail}
use Rattle.unix_calls.specs.declared.Entry.{Entry}
use Rattle.unix_calls.specs.declared.Turn.{Turn}
use Rattle.unix_calls.specs.declared.World.{World}
use Rattle.unix_calls.specs.Calls.{IsEntry}
use Rattle.unix_calls.specs.Valid.{IsValid}
use Rattle.kernel_model.specs.Legal.{IsLegal}
use Rattle.kernel_model.specs.Legal.{boot}
use Rattle.kernel_model.specs.Step.{after}
use Rattle.process_table.specs.declared.Row.{Row}
use Rattle.histories.specs.declared.Stamped.{Stamped}
use Rattle.audit_core.specs.Stamped.{stamped_from, stamped_entries}
use Rattle.decide_law.specs.Vector.{Fits}
use Rattle.ops_vector.specs.Answer.{unix_answer}
use Rattle.ops_vector.proofs.Lawful.{is_vector}
use Rattle.cluster_state.specs.Cluster.{Cluster, first_cluster}
use Rattle.cluster_state.specs.Possible.{history_of}
use Rattle.cluster_state.specs.Quiet.{IsQuiet}
use Rattle.cluster_state.specs.Run.{Run, orders}
use Rattle.turn_laws.proofs.Playing.{plays_ran, plays_one}
use Rattle.cluster_laws.specs.Runs.{IsRun}
use Rattle.cluster_laws.proofs.Simulation.{runs_are_legal, runs_follow, runs_are_written, quiet_is_finished}
use Rattle.cluster_core.specs.declared.Played.{Played}
use Rattle.cluster_core.specs.Deciding.{MayDecide}
use Rattle.cluster_core.specs.Played.{IsRunOf}
use Rattle.run_shell.specs.declared.replays.Format.{Format}
use Rattle.run_shell.specs.RunOf.{RunOf, IsOfOneKernel}
use Rattle.run_shell.specs.Replay.{written, WritesRun}
use Rattle.run_shell.specs.Load.{counts, counts_text, CountsRun}
use Rattle.run_shell.specs.MethodRuns.{CanBeWritten}
use Rattle.run_shell.proofs.Stamps.{numbered, stamped_legal}

-- these decisions may be made at the nodes of any world
pub may_decide : (world : World) → MayDecide world (λ pid job own bag site. Fits pid job own bag site) (λ pid job own bag site. unix_answer pid job own bag site)
may_decide world = record { lawful = is_vector world.nodes; asked = λ pid job own bag site h. h }

-- ---- the laws of runs
is_run : (world : World) (schedule : List Turn) (C : Cluster) (made : List Turn) (lines : List (Option Entry)) → IsValid world → Run world unix_answer schedule C made lines → IsRun world unix_answer made C lines
is_run world schedule C made lines valid run = record {
  valid = valid;
  lawful = is_vector world.nodes;
  ran = plays_ran world unix_answer (first_cluster world) C (orders schedule) made lines run;
}

of_one_kernel : (world : World) (schedule : List Turn) → IsValid world → (r : RunOf world schedule) → IsOfOneKernel r
of_one_kernel world schedule valid r =
    let run = is_run world schedule r.cluster r.made r.lines valid r.run in
    let legal = runs_are_legal world unix_answer r.made r.cluster r.lines run in
    let follows = runs_follow world unix_answer r.made r.cluster r.lines run in
    record {
      legal = legal;
      follows = follows;
      stamped = stamped_legal world r.lines legal follows;
      finished = quiet_is_finished world unix_answer r.made r.cluster r.lines run;
    }

-- ---- what was played
abbrev run_of : (world : World) (schedule : List Turn) (played : Played) → IsRunOf world unix_answer schedule played → RunOf world schedule
run_of world schedule played r = record {
  cluster = r.cluster;
  made = played.steps.items;
  lines = r.lines;
  is_quiet = played.is_quiet;
  run = r.run;
  quiet = r.quiet;
}

-- what was played can be written
pub can_write : (world : World) (schedule : List Turn) (played : Played) → IsValid world → IsRunOf world unix_answer schedule played → CanBeWritten world played
can_write world schedule played valid r =
    let run = is_run world schedule r.cluster played.steps.items r.lines valid r.run in
    record {
      entries = subst (All IsEntry) (sym r.entries) (runs_are_written world unix_answer played.steps.items r.cluster r.lines run);
      legal = subst (IsLegal world) (sym r.entries) (runs_are_legal world unix_answer played.steps.items r.cluster r.lines run);
      numbers = ap length r.numbers ∙ numbered 0 r.lines ∙ ap length (sym r.entries);
    }

-- each entry that is stamped stays one that a history can hold
stamped_from_all : (rows : List Row) (es : List Entry) (ps : List ℕ) → All IsEntry es → All (λ (s : Stamped). IsEntry s.entry) (stamped_from rows es ps)
stamped_from_all rows [] ps all = All-nil (λ (s : Stamped). IsEntry s.entry)
stamped_from_all rows (e ∷ es) [] all = All-nil (λ (s : Stamped). IsEntry s.entry)
stamped_from_all rows (e ∷ es) (p ∷ ps) all =
    All-cons (λ (s : Stamped). IsEntry s.entry) _ (stamped_from (after rows e) es ps) (All-head IsEntry e es all) (stamped_from_all (after rows e) es ps (All-tail IsEntry e es all))

pub all_stamped : (world : World) (es : List Entry) (ps : List ℕ) → All IsEntry es → All (λ (s : Stamped). IsEntry s.entry) (stamped_entries world es ps)
all_stamped world es ps all = stamped_from_all (boot world) es ps all

-- the text of what was played is that of the schedule's run
pub writes_run : (format : Format) (world : World) (schedule : List Turn) (played : Played) (text : List ℕ) → IsValid world → IsRunOf world unix_answer schedule played
    → text ≡ written format world played.entries.items played.numbers.items played.is_quiet → WritesRun format world schedule text
writes_run format world schedule played text valid r e =
    let run = run_of world schedule played r in
    record {
      run = run;
      one_kernel = of_one_kernel world schedule valid run;
      writes = e ∙ ap (λ (es : List Entry). written format world es played.numbers.items played.is_quiet) r.entries
          ∙ ap (λ (ns : List ℕ). written format world (history_of r.lines) ns played.is_quiet) r.numbers;
    }

-- and so are its counts
pub counts_run : (world : World) (schedule : List Turn) (played : Played) (text : List ℕ) → IsValid world → IsRunOf world unix_answer schedule played
    → text ≡ counts_text (counts world played.entries.items played.is_quiet) → CountsRun world schedule text
counts_run world schedule played text valid r e =
    let run = run_of world schedule played r in
    record {
      run = run;
      one_kernel = of_one_kernel world schedule valid run;
      writes = e ∙ ap (λ (es : List Entry). counts_text (counts world es played.is_quiet)) r.entries;
    }

-- ---- one run
true_false : true ≡ false → ⊥
true_false e = cc

same_truth : {P : Type 0} (a b : Bool) → IsTrue a ↔ P → IsTrue b ↔ P → a ≡ b
same_truth true true h k = refl
same_truth false false h k = refl
same_truth true false h k = absurd (true_false (sym (k.1 (h.0 refl))))
same_truth false true h k = absurd (true_false (sym (h.1 (k.0 refl))))

-- the lines of a schedule's run and whether it is quiet
pub record IsSameRun {world : World} {schedule : List Turn} (r s : RunOf world schedule) : Type 0 where
  pub lines : r.lines ≡ s.lines
  pub is_quiet : r.is_quiet ≡ s.is_quiet

pub same_run : (world : World) (schedule : List Turn) (r s : RunOf world schedule) → IsSameRun r s
same_run world schedule r s =
    let one = plays_one world unix_answer (first_cluster world) r.cluster s.cluster (orders schedule) r.made s.made r.lines s.lines r.run s.run in
    record {
      lines = one.2;
      is_quiet = same_truth r.is_quiet s.is_quiet (subst (λ (C : Cluster). IsTrue r.is_quiet ↔ IsQuiet world.nodes C) one.0 r.quiet) s.quiet;
    }
