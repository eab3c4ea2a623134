use Rattle.std.proofs.Common.{◌≡◌, take}
use Rattle.audit_core.specs.Stamped.{entries_of}
use Rattle.history_shell.proofs.hearing.entries_of.Given as goal

abbrev pub invariant-loop-stamped : goal.invariant-loop-stamped
invariant-loop-stamped l = l.bare.items ≡ entries_of (take l.stamped-index l.entries)
