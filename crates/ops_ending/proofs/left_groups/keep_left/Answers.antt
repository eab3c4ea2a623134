use Rattle.std.proofs.Common.{◌≡◌, ◌<◌, ◌∙◌, ◌++◌, List, Bool, not, false, take, drop, get_or, length, ap, sym, arith}
use Rattle.std.specs.Prelude.{filter}
use Rattle.group_record.specs.declared.Member.{Member}
use Rattle.record_bag.specs.Bags.{vproc_in}
use Rattle.decide_law.specs.Counts.{passes}
use Rattle.ops_ending.specs.Ending.{goes}
use Rattle.ops_ending.proofs.Kept.{failed-goes}
use Rattle.ops_ending.proofs.left_groups.keep_left.Goals as goal

pub loop-at-preserved-then-goes_at : goal.loop-at-preserved-then-goes_at
loop-at-preserved-then-goes_at c =
    let test : Member → Bool = λ m. not (passes (goes c.args.end.pid c.args.end.vanishes) (vproc_in c.args.bag.now m.pid)) in
    let none : Member = record { pid = record { 0 = 0 }; from = 0; uid = 0 } in
    let within : c.loop-at.at < length c.loop-at.members = omega (arith, c.loop-at-test.true, c.len.ensures) in
    let fails : test (get_or c.loop-at.members c.loop-at.at none) ≡ false =
    ap (λ (l : List Member). test (get_or l c.loop-at.at none)) (sym c.as_slice.ensures.items) ∙ ap not (sym c.goes_at.ensures ∙ c.if-goes_at.true) in
    ap (λ (l : List Member). take c.loop-at.at l ++ filter test (drop c.loop-at.at l)) c.remove_at.ensures
    ∙ failed-goes test c.loop-at.members c.loop-at.at none within fails ∙ c.loop-at.invariant
