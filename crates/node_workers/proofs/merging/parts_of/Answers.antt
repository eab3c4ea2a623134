use Rattle.std.proofs.Common.{rules, ◌≡◌, ◌+◌, ◌∷◌, [], ◌++◌, length, length-append, ap, arith}
use Rattle.node_workers.proofs.AllTurns.{parts_pushed, part_of, items_of, items_last}
use Rattle.node_workers.proofs.merging.parts_of.Goals as goal

pub loop-station-preserved : goal.loop-station-preserved
loop-station-preserved g c =
    let i = c.loop-station.invariant in
    let left = c.into_parts-has_failed.result in
    let e = c.into_parts-has_failed.ensures.parts in
    let ps : c.push.new.self.items ≡ c.loop-station.passes.items ++ left.1 ∷ [] = search rules in
    let ls : c.push-in-Some.new.self.items ≡ c.loop-station.lists.items ++ left.2 ∷ [] = search rules in
    let popped : c.loop-station.stations.items ≡ c.pop.new.self.items ++ c.in-Some.station ∷ [] = search rules in
    record {
      many = (let m = i.many in let a = ap (λ l. length l) ps in let b = ap (λ l. length l) popped in let d = length-append c.loop-station.passes.items (left.1 ∷ []) in let f = length-append c.pop.new.self.items (c.in-Some.station ∷ []) in omega (arith, m, a, b, d, f));
      parts = parts_pushed g.W.WorldName.world g.J.LogName.log c.loop-station.passes.items c.push.new.self.items _ _ left.1 left.2.items ps (items_last c.push-in-Some.new.self.items c.loop-station.lists.items left.2 ls) i.parts
          (part_of g.W.WorldName.world g.J.LogName.log _ left.1 left.2.items left.0 c.into_parts-has_failed.ensures.kept e.0 c.if-has_failed.false e.1 e.2);
    }
