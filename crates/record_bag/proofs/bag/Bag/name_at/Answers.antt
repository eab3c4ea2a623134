use Rattle.std.proofs.Common.{arith}
use Rattle.record_bag.proofs.NameLaws.{name-at_vproc, name-at_group, name-past, AreRising-names}
use Rattle.record_bag.proofs.bag.Bag.name_at.Goals as goal

pub returns-then-k-vprocs-clause-name : goal.returns-then-k-vprocs-clause-name
returns-then-k-vprocs-clause-name c =
    let at = name-at_vproc c.as_slice-vprocs.result.now c.as_slice-groups.result.now c.args.k c.index-vprocs-k.result c.if-k-vprocs.true in
    cc

pub returns-then-k-vprocs-clause-order : goal.returns-then-k-vprocs-clause-order
returns-then-k-vprocs-clause-order c = AreRising-names _ _ c.as_slice-vprocs.ensures.rising c.as_slice-groups.ensures.rising

pub returns-then-k-vprocs-2-clause-name : goal.returns-then-k-vprocs-2-clause-name
returns-then-k-vprocs-2-clause-name c =
    let at = name-at_group c.as_slice-vprocs.result.now c.as_slice-groups.result.now c.args.k _ c.index-groups-k.result (omega arith) c.if-k-vprocs-2.true in
    cc

pub returns-then-k-vprocs-2-clause-order : goal.returns-then-k-vprocs-2-clause-order
returns-then-k-vprocs-2-clause-order c = AreRising-names _ _ c.as_slice-vprocs.ensures.rising c.as_slice-groups.ensures.rising

pub returns-else-k-vprocs-2-clause-name : goal.returns-else-k-vprocs-2-clause-name
returns-else-k-vprocs-2-clause-name c =
    let at = name-past c.as_slice-vprocs.result.now c.as_slice-groups.result.now c.args.k (omega arith) in
    cc

pub returns-else-k-vprocs-2-clause-order : goal.returns-else-k-vprocs-2-clause-order
returns-else-k-vprocs-2-clause-order c = AreRising-names _ _ c.as_slice-vprocs.ensures.rising c.as_slice-groups.ensures.rising
