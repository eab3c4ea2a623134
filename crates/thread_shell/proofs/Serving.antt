-- what the threads did, written, is what `run` is to write
use Rattle.std.proofs.Common.{◌≡◌, ℕ, ◌<◌, ◌^◌, List, [], ◌∷◌, map, Option, refl, ap, sym, subst, ◌∙◌, arith}
use Rattle.byte_ends.specs.Text.{lines}
use Rattle.unix_calls.specs.declared.Entry.{Entry}
use Rattle.unix_calls.specs.declared.Turn.{Turn}
use Rattle.unix_calls.specs.declared.World.{World}
use Rattle.unix_calls.specs.Valid.{IsValid}
use Rattle.file_parts.specs.Parts.{schedule_lines}
use Rattle.run_text.specs.Schedule.{turn_line}
use Rattle.histories.specs.History.{text as history_text}
use Rattle.kernel_model.specs.Legal.{IsLegal}
use Rattle.proc_image.specs.Follows.{Follows}
use Rattle.audit_core.specs.Finished.{IsFinished}
use Rattle.audit_core.specs.Stamped.{stamped_entries, IsLegalTwo}
use Rattle.ops_vector.specs.Answer.{unix_answer}
use Rattle.cluster_state.specs.Cluster.{Cluster, first_cluster}
use Rattle.cluster_state.specs.Possible.{Ran, node_of, history_of}
use Rattle.cluster_state.specs.Quiet.{IsQuiet}
use Rattle.cluster_state.specs.Run.{Run, orders}
use Rattle.turn_laws.proofs.Playing.{plays_ran, plays_one}
use Rattle.cluster_core.specs.declared.playing.Played.{Played}
use Rattle.cluster_core.specs.Played.{IsRunOf, numbers_of}
use Rattle.node_workers.specs.Serving.{IsServed}
use Rattle.run_shell.specs.RunOf.{RunOf, IsOfOneKernel}
use Rattle.run_shell.specs.MethodRuns.{CanBeWritten}
use Rattle.run_shell.specs.declared.replays.Format.TheVariants.{One}
use Rattle.run_shell.proofs.Runs.{can_write, writes_run}
use Rattle.thread_shell.specs.Served.{served_text, WritesServed}
use Rattle.thread_shell.proofs.ServedLines.{AreInWorld, lines_say, served_part}

-- turns that are possible are those of nodes of the world
ran_inside : (world : World) (C D : Cluster) (ts : List Turn) (es : List (Option Entry)) → Ran world unix_answer C ts D es → AreInWorld world ts
ran_inside world C D [] es r = tt
ran_inside world C D (t ∷ ts) es r = let d = r.1 in (d.inside, ran_inside world (r.0).cluster D ts r.2 r.4)

pub made_inside : (world : World) (schedule : List Turn) (C : Cluster) (made : List Turn) (es : List (Option Entry)) → Run world unix_answer schedule C made es → AreInWorld world made
made_inside world schedule C made es run = ran_inside world (first_cluster world) C made es (plays_ran world unix_answer (first_cluster world) C (orders schedule) made es run)

pub few_nodes : (world : World) → IsValid world → world.nodes < 2 ^ 32
few_nodes world valid = let few = valid.limits.nodes in omega (arith, few)

-- a schedule has one run, so what is true of one is true of another
same_kernel : (world : World) (schedule : List Turn) (r s : RunOf world schedule) → IsOfOneKernel r → IsOfOneKernel s
same_kernel world schedule r s k =
    let same = plays_one world unix_answer (first_cluster world) r.cluster s.cluster (orders schedule) r.made s.made r.lines s.lines r.run s.run in
    record {
      legal = subst (λ (ls : List (Option Entry)). IsLegal world (history_of ls)) same.2 k.legal;
      follows = subst (λ (ls : List (Option Entry)). Follows world (history_of ls)) same.2 k.follows;
      stamped = subst (λ (ls : List (Option Entry)). IsLegalTwo world (stamped_entries world (history_of ls) (numbers_of 0 ls))) same.2 k.stamped;
      finished = λ q. subst (λ (ls : List (Option Entry)). IsFinished world (history_of ls)) same.2 (k.finished (subst (IsQuiet world.nodes) (sym same.0) q));
    }

-- what was played
abbrev run_of : (world : World) (played : Played) → IsRunOf world unix_answer played.steps.items played → RunOf world played.steps.items
run_of world played r = record {
  cluster = r.cluster;
  made = played.steps.items;
  lines = r.lines;
  is_quiet = played.is_quiet;
  run = r.run;
  quiet = r.quiet;
}

pub can_write_served : (world : World) (played : Played) → IsValid world → IsServed world played → CanBeWritten world played
can_write_served world played valid s = can_write world played.steps.items played valid s.run.whole

pub writes_served : (world : World) (played : Played) (text : List ℕ) → IsValid world → IsServed world played
    → text ≡ served_text played.entries.items played.is_quiet played.steps.items → WritesServed world text
writes_served world played text valid s e =
    let whole = s.run.whole in
    let steps : List Turn = played.steps.items in
    let replayed = writes_run One world steps played (history_text played.entries.items played.is_quiet) valid whole refl in
    let run = run_of world played whole in
    record {
      part = map turn_line steps;
      there = ap (λ (t : List ℕ). schedule_lines (lines t)) e ∙ served_part played.entries.items played.is_quiet steps;
      steps = steps;
      says = lines_say world steps (few_nodes world valid) (made_inside world steps whole.cluster steps whole.lines whole.run);
      run = run;
      possible = refl;
      one_kernel = same_kernel world steps replayed.run run replayed.one_kernel;
      writes = e ∙ ap (λ (es : List Entry). served_text es played.is_quiet steps) whole.entries;
      ends = λ left. let full = s.run.ends left in record { node = node_of full.next; most = full.most };
    }
