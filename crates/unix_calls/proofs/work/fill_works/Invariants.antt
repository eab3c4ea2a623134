use Rattle.std.proofs.Common.{◌≡◌, length, take}
use Rattle.unix_calls.specs.Work.{works}
use Rattle.unix_calls.proofs.work.fill_works.Given as goal

abbrev pub invariant-loop-k : goal.invariant-loop-k
invariant-loop-k l = record {
  long : length l.list ≡ length l.scripts;
  done : take l.k l.list ≡ works (take l.k l.scripts);
}
