use Rattle.std.proofs.Common.{◌≡◌, drop}
use Rattle.courier_core.specs.Wants.{least_of, lacking}
use Rattle.courier_core.proofs.wants.least_lacking.Given as goal

abbrev pub invariant-loop-name : goal.invariant-loop-name
invariant-loop-name l = least_of l.least (lacking l.bag (drop l.name-index l.names)) ≡ least_of l.initial.least (lacking l.bag l.initial.names)
