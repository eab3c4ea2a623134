use Rattle.std.proofs.Common.{◌≡◌, ◌++◌, drop}
use Rattle.ops_ending.specs.MethodEnding.{others_left}
use Rattle.ops_ending.proofs.told.add_others.Given as goal

abbrev pub invariant-loop-m : goal.invariant-loop-m
invariant-loop-m l = l.nudges ++ others_left l.bag l.end.pid l.end.vanishes (drop l.m-index l.members) ≡ l.initial.nudges ++ others_left l.bag l.end.pid l.end.vanishes l.members
