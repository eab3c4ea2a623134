use Rattle.std.proofs.Common.{◌-◌, length}
use Rattle.file_parts.specs.Parts.{is_only}
use Rattle.file_parts.proofs.Dividing.{Reached}
use Rattle.file_parts.proofs.parts.divided.Given as goal

abbrev pub invariant-loop-from : goal.invariant-loop-from
invariant-loop-from l = Reached l.text l.at l.count (is_only l.word)

abbrev pub decreases-loop-from : goal.decreases-loop-from
decreases-loop-from l = length l.text - l.at
