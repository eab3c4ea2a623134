use Rattle.std.proofs.Common.{◌≡◌, ◌++◌, min}
use Rattle.std.specs.List.{flat_map}
use Rattle.std.specs.String.{string_bytes}
use Rattle.load_maker.specs.Made.{line_of, all_leaders, after_leaders}
use Rattle.load_maker.proofs.made.put_leaders.Given as goal

abbrev pub invariant-loop-number : goal.invariant-loop-number
invariant-loop-number l = (string_bytes l.text ≡ string_bytes l.initial.text ++ flat_map line_of (all_leaders (min l.followers 8) l.nodes l.followers l.number l.initial.draws.state)) × (l.draws.state ≡ after_leaders l.followers l.number l.initial.draws.state)
