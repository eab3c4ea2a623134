use Rattle.std.proofs.Common.{◌≡◌, ◌≤◌, ℕ, [], length, drop}
use Rattle.unix_calls.specs.Work.{total_work}
use Rattle.script_reader.specs.MethodReading.{judged_with}
use Rattle.script_reader.proofs.starts.judged.Given as goal

abbrev pub invariant-loop-start : goal.invariant-loop-start
invariant-loop-start l = record {
  few : length l.starts.list ≤ l.start-index;
  total : l.starts.total ≡ total_work l.works l.starts.list;
  told : (number : ℕ) → judged_with l.works l.starts.list (drop l.start-index l.marked) l.fault number [] ≡ judged_with l.works [] l.marked l.fault number [];
}
