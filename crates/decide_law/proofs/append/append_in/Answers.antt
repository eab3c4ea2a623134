use Rattle.std.proofs.Common.{ap}
use Rattle.std.specs.Option.{option_map}
use Rattle.decide_law.specs.Effects.{told_to}
use Rattle.decide_law.proofs.Appended.{on_ok, on_err, changed_group}
use Rattle.decide_law.proofs.Tables.{lent, lent_same, not_lent}
use Rattle.decide_law.proofs.append.append_in.Goals as goal

pub returns-in-Some-clause-ok : goal.returns-in-Some-clause-ok
returns-in-Some-clause-ok c = on_ok c.append.result (λ e.
    changed_group c.args.bag.now c.args.id (option_map (told_to c.args.entry)) _ (lent c.args.id (told_to c.args.entry) c.args.bag.now.groups c.in-Some.g.now _ c.record_mut.ensures.rising c.in-Some.ensures.value e)) c.append.ensures.ok

pub returns-in-Some-clause-err : goal.returns-in-Some-clause-err
returns-in-Some-clause-err c = on_err c.append.result (λ e. ap (λ gs. record c.args.bag.now { groups = gs }) (lent_same c.args.id c.args.bag.now.groups c.in-Some.g.now _ c.in-Some.ensures.value e)) c.append.ensures.err

pub returns-in-None-clause-ok : goal.returns-in-None-clause-ok
returns-in-None-clause-ok c =
    changed_group c.args.bag.now c.args.id (option_map (told_to c.args.entry)) _ (not_lent c.args.id (told_to c.args.entry) c.args.bag.now.groups c.record_mut.ensures.rising c.requires c.in-None.ensures.value)
