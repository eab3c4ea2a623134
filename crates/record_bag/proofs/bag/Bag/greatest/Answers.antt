use Rattle.std.proofs.Common.{sym, ap, ◌∙◌}
use Rattle.std.specs.Option.{option_map}
use Rattle.unix_names.specs.declared.Name.TheVariants.{V}
use Rattle.record_bag.proofs.NameLaws.{last-in_groups, last-in_vprocs, NoneAfter-group, NoneAfter-vproc}
use Rattle.record_bag.proofs.bag.Bag.greatest.Goals as goal

pub returns-in-Some-clause-last : goal.returns-in-Some-clause-last
returns-in-Some-clause-last c = sym (last-in_groups c.args.self.now.vprocs c.args.self.now.groups c.in-Some.pid (sym c.in-Some.ensures.last))

pub returns-in-Some-clause-greatest : goal.returns-in-Some-clause-greatest
returns-in-Some-clause-greatest c = NoneAfter-group c.in-Some.pid c.args.self.now.vprocs c.args.self.now.groups c.in-Some.ensures.greatest

pub returns-in-Some-greatest-clause-last : goal.returns-in-Some-greatest-clause-last
returns-in-Some-greatest-clause-last c =
    let bag = c.args.self.now in
    ap (option_map V) c.in-Some-greatest.ensures.last ∙ sym (last-in_vprocs bag.vprocs bag.groups (sym c.in-None.ensures.last))

pub returns-in-Some-greatest-clause-greatest : goal.returns-in-Some-greatest-clause-greatest
returns-in-Some-greatest-clause-greatest c =
    let bag = c.args.self.now in
    NoneAfter-vproc c.in-Some-greatest.pid bag.vprocs bag.groups (sym c.in-None.ensures.last) c.in-Some-greatest.ensures.greatest

pub returns-in-None-greatest-clause-last : goal.returns-in-None-greatest-clause-last
returns-in-None-greatest-clause-last c =
    let bag = c.args.self.now in
    ap (option_map V) c.in-None-greatest.ensures.last ∙ sym (last-in_vprocs bag.vprocs bag.groups (sym c.in-None.ensures.last))
