use Rattle.std.proofs.Common.{◌≡◌, take, length}
use Rattle.process_table.specs.MethodMarks.{AreMarked}
use Rattle.process_table.proofs.marks.marks_of.Given as goal

abbrev pub invariant-loop-row : goal.invariant-loop-row
invariant-loop-row l = record {
  marked : AreMarked l.marks (take l.row-index l.rows) l.fn.group;
  len : length l.marks ≡ 4096;
}
