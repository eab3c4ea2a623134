-- a written schedule is read back, and replays to the same history
use Rattle.std.proofs.Common.{◌≡◌, ℕ, List, [], ◌∷◌, ◌++◌, map, Option, Bool, Some, ap, sym, subst, ◌∙◌, arith, codes}
use Rattle.std.specs.Prelude.{All}
use Rattle.std.proofs.lemmas.List.Elements.{All-nil, All-cons}
use Rattle.byte_ends.specs.Text.{lines}
use Rattle.unix_calls.specs.declared.Entry.{Entry}
use Rattle.unix_calls.specs.declared.Turn.{Turn}
use Rattle.unix_calls.specs.declared.Turn.TheVariants.{Go, Push, Take, Auto}
use Rattle.unix_calls.specs.declared.World.{World}
use Rattle.file_parts.specs.Parts.{Lines, schedule_lines}
use Rattle.script_laws.specs.Grammar.{IsFile}
use Rattle.run_text.specs.Schedule.{HasNodes, turn_line, schedule, schedule_text}
use Rattle.run_text.proofs.ScheduleLaws.{schedule-written}
use Rattle.cluster_state.specs.Possible.{IsInWorld, history_of}
use Rattle.given_files.specs.declared.Given.{Given}
use Rattle.given_files.specs.Input.{turns_given, schedule_first}
use Rattle.given_files.proofs.Meanings.{one_run}
use Rattle.run_shell.specs.declared.replays.Format.TheVariants.{One}
use Rattle.run_shell.specs.Replay.{WritesRun}
use Rattle.run_shell.proofs.Runs.{same_run}
use Rattle.thread_shell.specs.Served.{served_text}
use Rattle.thread_shell.specs.Laws.{WrittenSchedulesAreRead, WrittenSchedulesReplay}
use Rattle.thread_shell.proofs.ServedLines.{AreInWorld, served_part}
use Rattle.run_text.proofs.ScheduleLaws.{turn-lines}
use Rattle.thread_shell.proofs.Serving.{made_inside, few_nodes}

has_nodes : (world : World) (t : Turn) → IsInWorld world t → HasNodes world.nodes t
has_nodes world (Go n) h = h
has_nodes world (Push n k) h = h
has_nodes world (Take n m) h = h
has_nodes world (Auto k) h = absurd h

all_have : (world : World) (ts : List Turn) → AreInWorld world ts → All (HasNodes world.nodes) ts
all_have world [] h = All-nil (HasNodes world.nodes)
all_have world (t ∷ ts) h = All-cons (HasNodes world.nodes) t ts (has_nodes world t h.0) (all_have world ts h.1)

pub written_are_read : WrittenSchedulesAreRead
written_are_read input output file s few same_world same_schedule no_history =
    let world : World = s.given.world in
    let w = s.writes in
    let steps : List Turn = w.steps in
    let file_is = s.reads.means.world in
    let nodes = few_nodes world file_is.valid in
    let inside : AreInWorld world steps = subst (AreInWorld world) w.possible (made_inside world steps w.run.cluster w.run.made w.run.lines w.run.run) in
    let part : schedule_lines (lines file) ≡ Some (map turn_line steps) =
    same_schedule ∙ ap (λ (t : List ℕ). schedule_lines (lines t)) w.writes ∙ served_part (history_of w.run.lines) w.run.is_quiet steps in
    record {
      means = record {
        world = subst (λ (ls : Lines). IsFile ls world) (sym same_world) file_is;
        turns = ap (turns_given world.nodes (schedule_first file)) part
            ∙ ap (schedule world.nodes (schedule_first file)) (sym (turn-lines steps))
            ∙ schedule-written world.nodes (schedule_first file) steps (omega (arith, nodes)) (all_have world steps inside) few;
      };
      no_history = no_history;
    }

pub written_replay : WrittenSchedulesReplay
written_replay input output file history s reads r =
    let world : World = s.given.world in
    let w = s.writes in
    let steps : List Turn = w.steps in
    let meant : Given = record { world = world; turns = steps } in
    let same = (one_run file).one r.given meant r.reads reads in
    let again : WritesRun One world steps history = subst (λ (g : Given). WritesRun One g.world g.turns history) same r.writes in
    let one = same_run world steps w.run again.run in
    w.writes
    ∙ ap (λ (ls : List (Option Entry)). served_text (history_of ls) w.run.is_quiet steps) one.lines
    ∙ ap (λ (q : Bool). served_text (history_of again.run.lines) q steps) one.is_quiet
    ∙ ap (λ (h : List ℕ). h ++ (codes "schedule" ++ 10 ∷ schedule_text steps)) (sym again.writes)
