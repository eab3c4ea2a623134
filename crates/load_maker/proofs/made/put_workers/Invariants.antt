use Rattle.std.proofs.Common.{◌≡◌, ◌++◌}
use Rattle.std.specs.List.{flat_map}
use Rattle.std.specs.String.{string_bytes}
use Rattle.load_maker.specs.Made.{line_of, all_workers, after_workers}
use Rattle.load_maker.proofs.made.put_workers.Given as goal

abbrev pub invariant-loop-number : goal.invariant-loop-number
invariant-loop-number l = (string_bytes l.text ≡ string_bytes l.initial.text ++ flat_map line_of (all_workers l.nodes l.number l.initial.draws.state)) × (l.draws.state ≡ after_workers l.number l.initial.draws.state)
