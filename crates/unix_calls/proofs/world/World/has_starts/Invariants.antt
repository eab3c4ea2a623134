use Rattle.std.proofs.Common.{◌≡◌, ℕ, ◌<◌, Some, slice_get, take}
use Rattle.unix_calls.specs.declared.world.Start.{Start}
use Rattle.unix_calls.specs.Valid.{IsStart}
use Rattle.unix_calls.proofs.world.World.has_starts.Given as goal

abbrev pub invariant-loop-k : goal.invariant-loop-k
invariant-loop-k l = (k : ℕ) → k < l.k → (x : Start) → slice_get l.self.starts k ≡ Some x → IsStart l.self (take k l.self.starts) x
