use Rattle.std.proofs.Common.{◌≡◌, take}
use Rattle.std.specs.String.{string_bytes}
use Rattle.run_text.specs.Schedule.{schedule_text}
use Rattle.run_text.proofs.schedule.put_schedule.Given as goal

abbrev pub invariant-loop-turn : goal.invariant-loop-turn
invariant-loop-turn l = string_bytes l.text ≡ schedule_text (take l.turn-index l.turns)
