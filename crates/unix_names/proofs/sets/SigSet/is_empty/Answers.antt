use Rattle.std.proofs.Common.{◌≡◌, eq-eqb, arith}
use Rattle.std.proofs.lemmas.Bool.Decides.{nat_tests}
use Rattle.unix_names.proofs.SetLaws.{has-none, none-empty}
use Rattle.unix_names.proofs.sets.SigSet.is_empty.Goals as goal

pub returns-clause-members : goal.returns-clause-members
returns-clause-members c = rw (← c.self.view_is) (
  (λ empty t. let zero_bits : c.self.inside.0 ≡ 0 = grind (arith, nat_tests) in rw zero_bits (has-none t)),
  (λ none. eq-eqb c.self.inside.0 0 (none-empty c.self.inside.0 c.self.invariant none)),
)
