use Rattle.std.proofs.Common.{◌≡◌, ◌∷◌, [], drop}
use Rattle.std.specs.Prelude.{flat_map}
use Rattle.unix_names.specs.declared.Name.TheVariants.{V}
use Rattle.decide_law.specs.MethodNeeds.{wanted}
use Rattle.ops_exit_wait.proofs.findings.want_children.Given as goal

abbrev pub invariant-loop-child : goal.invariant-loop-child
invariant-loop-child l = wanted l.bag (flat_map (λ c. V c ∷ []) (drop l.child-index l.children)) l.names ≡ wanted l.bag (flat_map (λ c. V c ∷ []) l.children) l.initial.names
