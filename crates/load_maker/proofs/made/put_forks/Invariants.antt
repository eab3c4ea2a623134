use Rattle.std.proofs.Common.{◌≡◌, ◌++◌}
use Rattle.std.specs.List.{flat_map}
use Rattle.std.specs.String.{string_bytes}
use Rattle.load_maker.specs.Made.{line_of, fork_rows, after_children}
use Rattle.load_maker.proofs.made.put_forks.Given as goal

abbrev pub invariant-loop-number : goal.invariant-loop-number
invariant-loop-number l = (string_bytes l.text ≡ string_bytes l.initial.text ++ flat_map line_of (fork_rows l.workers l.nodes l.number l.initial.draws.state)) × (l.draws.state ≡ after_children l.number l.initial.draws.state)
