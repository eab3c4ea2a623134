use Rattle.std.proofs.Common.{◌≡◌, drop, take, length}
use Rattle.courier_core.specs.Wants.{all_added}
use Rattle.courier_core.proofs.wants.add_all.Given as goal

abbrev pub invariant-loop-name : goal.invariant-loop-name
invariant-loop-name l = record {
  rest : all_added l.wants (drop l.name-index l.names) ≡ all_added l.initial.wants l.initial.names;
  front : take (length l.initial.wants) l.wants ≡ l.initial.wants;
}
