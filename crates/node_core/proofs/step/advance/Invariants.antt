use Rattle.std.proofs.Common.{◌≡◌, ℕ, Some}
use Rattle.node_core.specs.Advance.{advanced, Advanced}
use Rattle.node_core.specs.Conditions.{AsksFit, IsKept}
use Rattle.node_core.proofs.Universe.{universe}
use Rattle.node_core.proofs.Nearer.{left_for, IsWithin}
use Rattle.node_core.proofs.step.advance.Given as goal

abbrev pub invariant-asking : goal.invariant-asking
invariant-asking g l = record {
  kept : IsKept l.world l.courier;
  within : IsWithin (universe l.initial.courier) l.courier;
  asks : (n : ℕ) → AsksFit (g.O.OpVector.fits l.ops) l.world (g.O.OpVector.answer l.ops) n l.state l.courier;
  back : (n : ℕ) (r : Advanced) → advanced l.world (g.O.OpVector.answer l.ops) n l.state l.courier ≡ Some r → (m : ℕ) × (advanced l.world (g.O.OpVector.answer l.ops) m l.initial.state l.initial.courier ≡ Some r);
}

abbrev pub decreases-asking : goal.decreases-asking
decreases-asking g l = left_for (universe l.initial.courier) l.courier
