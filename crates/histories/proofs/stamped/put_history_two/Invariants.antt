use Rattle.std.proofs.Common.{◌≡◌, ◌++◌, codes, take}
use Rattle.std.specs.List.{flat_map}
use Rattle.std.specs.String.{string_bytes}
use Rattle.histories.specs.Stamped.{stamped_line}
use Rattle.histories.proofs.stamped.put_history_two.Given as goal

abbrev pub invariant-loop-entry : goal.invariant-loop-entry
invariant-loop-entry l = string_bytes l.text ≡ codes "format 2\n" ++ flat_map stamped_line (take l.entry-index l.entries)
