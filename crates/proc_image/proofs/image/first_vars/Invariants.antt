use Rattle.std.proofs.Common.{◌≡◌, length, take, fold, replicate, slice_set}
use Rattle.proc_image.specs.Scripts.{nobody}
use Rattle.proc_image.proofs.image.first_vars.Given as goal

abbrev pub invariant-loop-start : goal.invariant-loop-start
invariant-loop-start l = record {
  value : l.vars ≡ fold (λ vars start. slice_set vars start.var start.pid.0) (replicate l.world.vars nobody) (take l.start-index l.starts);
  len : length l.vars ≡ l.world.vars;
}
