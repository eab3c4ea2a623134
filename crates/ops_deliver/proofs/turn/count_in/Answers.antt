use Rattle.std.proofs.Common.{◌∙◌, ap, sym, Some, None}
use Rattle.std.specs.Option.{option_map}
use Rattle.ordered_table.specs.Entries.{with_each}
use Rattle.list_laws.proofs.Filters.{map-id}
use Rattle.decide_law.specs.Effects.{only}
use Rattle.decide_law.proofs.Tables.{replaced, taken_and_put}
use Rattle.ops_deliver.specs.MethodTurn.{counting}
use Rattle.ops_deliver.proofs.turn.count_in.Goals as goal

pub returns-in-Some-clause-bag : goal.returns-in-Some-clause-bag
returns-in-Some-clause-bag c =
    ap (λ gs. record c.args.bag.now { groups = gs }) (taken_and_put c.args.id (option_map (counting c.args.stopped)) c.args.bag.now.groups _ _ (Some c.in-Some.g) None c.both_rise.ensures.groups c.in-Some.ensures.before c.in-Some.ensures.after c.replace-in-Some.ensures.after)
    ∙ ap (λ vs. record { vprocs = vs; groups = with_each (only c.args.id (option_map (counting c.args.stopped))) c.args.bag.now.groups }) (sym (map-id c.args.bag.now.vprocs))

pub returns-in_default-clause-bag : goal.returns-in_default-clause-bag
returns-in_default-clause-bag c =
    ap (λ gs. record c.args.bag.now { groups = gs }) (replaced c.args.id (option_map (counting c.args.stopped)) c.args.bag.now.groups _ None c.both_rise.ensures.groups c.in_default.ensures.before c.in_default.ensures.after)
    ∙ ap (λ vs. record { vprocs = vs; groups = with_each (only c.args.id (option_map (counting c.args.stopped))) c.args.bag.now.groups }) (sym (map-id c.args.bag.now.vprocs))
