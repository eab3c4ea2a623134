use Rattle.std.proofs.Common.{◌≡◌, ◌++◌, drop}
use Rattle.decide_law.specs.Nudges.{others_of}
use Rattle.ops_signal.proofs.kill.others_of.Given as goal

abbrev pub invariant-loop-m : goal.invariant-loop-m
invariant-loop-m l = l.pids ++ others_of l.caller (drop l.m-index l.members) ≡ others_of l.caller l.members
