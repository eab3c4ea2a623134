use Rattle.std.proofs.Common.{◌≡◌, ℕ, ◌<◌, Some, slice_get}
use Rattle.unix_calls.specs.declared.world.Script.{Script}
use Rattle.unix_calls.specs.Valid.{IsScript}
use Rattle.unix_calls.proofs.world.World.has_scripts.Given as goal

abbrev pub invariant-loop-k : goal.invariant-loop-k
invariant-loop-k l = (k : ℕ) (x : Script) → k < l.k → slice_get l.self.scripts k ≡ Some x → IsScript l.self k x
