use Rattle.std.proofs.Common.{All, take}
use Rattle.unix_calls.specs.Calls.{EntryHasNames}
use Rattle.kernel_tests.proofs.judgements.have_names.Given as goal

abbrev pub invariant-loop-entry : goal.invariant-loop-entry
invariant-loop-entry l = All EntryHasNames (take l.entry-index l.entries)
