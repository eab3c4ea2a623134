use Rattle.std.proofs.Common.{◌≡◌, [], drop}
use Rattle.kernel_model.specs.Legal.{booted}
use Rattle.kernel_model.proofs.kernel.boot_table.Given as goal

abbrev pub invariant-loop-start : goal.invariant-loop-start
invariant-loop-start l = booted l.table (drop l.start-index l.starts) ≡ booted [] l.starts
