use Rattle.std.proofs.Common.{◌≡◌, [], ◌∷◌, ◌++◌, List, sym, ap, ◌∙◌, subst, arith}
use Rattle.std.proofs.lemmas.Grind.{common_steps}
use Rattle.std.proofs.lemmas.List.{replicate-append-replicate}
use Rattle.node_state.specs.declared.Sent.{Sent}
use Rattle.cluster_core.specs.MethodArrivals.{AllSilent}
use Rattle.cluster_core.proofs.Hearing.{none_heard}
use Rattle.cluster_core.proofs.arrivals.Arrivals.new.Goals as goal

pub loop-preserved : goal.loop-preserved
loop-preserved c =
    let pushed : c.push.new.self.items ≡ c.loop.wires.items ++ c.new.result ∷ [] = grind (arith, common_steps) in
    pushed ∙ ap (λ (q : List Sent). c.loop.wires.items ++ q ∷ []) c.new.ensures ∙ ap (λ (w : List (List Sent)). w ++ [] ∷ []) c.loop.invariant ∙ replicate-append-replicate c.loop.counter 1 []

pub invariant_of-result : goal.invariant_of-result
invariant_of-result c e = subst AllSilent (sym c.loop.invariant) (none_heard c.loop.counter)
