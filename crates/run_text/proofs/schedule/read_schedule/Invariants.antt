use Rattle.std.proofs.Common.{◌≡◌, ◌+◌, ◌-◌, ◌≤◌, [], length, drop, fold, Ok}
use Rattle.unix_calls.specs.declared.limits.TheConstants.{MOST_TURNS}
use Rattle.std.specs.Prelude.{All}
use Rattle.byte_ends.specs.Text.{lines}
use Rattle.run_text.specs.Schedule.{after_line, HasNodes}
use Rattle.run_text.proofs.schedule.read_schedule.Given as goal

abbrev pub invariant-loop-from : goal.invariant-loop-from
invariant-loop-from l = record {
  within : l.at ≤ length l.text;
  kept : fold (after_line l.nodes) (Ok (record { turns = l.turns.items; count = l.count; number = l.line })) (lines (drop l.at l.text))
      ≡ fold (after_line l.nodes) (Ok (record { turns = []; count = 0; number = l.fn.part.first_line })) (lines l.text);
  number : l.line ≤ l.fn.part.first_line + l.at;
  few : l.count ≤ MOST_TURNS;
  nodes : All (HasNodes l.nodes) l.turns.items;
}

abbrev pub decreases-loop-from : goal.decreases-loop-from
decreases-loop-from l = length l.text - l.at
