use Rattle.std.proofs.Common.{◌∙◌, ap, sym, Some, None}
use Rattle.std.specs.Option.{option_map}
use Rattle.ordered_table.specs.Entries.{with_each}
use Rattle.list_laws.proofs.Filters.{map-id}
use Rattle.decide_law.specs.Effects.{only}
use Rattle.decide_law.proofs.Tables.{replaced, taken_and_put}
use Rattle.ops_deliver.specs.Turn.{turned_vproc}
use Rattle.ops_deliver.proofs.turn.turn_vproc.Goals as goal

pub returns-in-Some-clause-bag : goal.returns-in-Some-clause-bag
returns-in-Some-clause-bag c =
    ap (λ vs. record c.args.bag.now { vprocs = vs }) (taken_and_put c.args.pid (option_map (turned_vproc c.args.life c.args.status)) c.args.bag.now.vprocs _ _ (Some c.in-Some.v) None c.both_rise.ensures.vprocs c.in-Some.ensures.before c.in-Some.ensures.after c.replace-in-Some.ensures.after)
    ∙ ap (λ gs. record { vprocs = with_each (only c.args.pid (option_map (turned_vproc c.args.life c.args.status))) c.args.bag.now.vprocs; groups = gs }) (sym (map-id c.args.bag.now.groups))

pub returns-in_default-clause-bag : goal.returns-in_default-clause-bag
returns-in_default-clause-bag c =
    ap (λ vs. record c.args.bag.now { vprocs = vs }) (replaced c.args.pid (option_map (turned_vproc c.args.life c.args.status)) c.args.bag.now.vprocs _ None c.both_rise.ensures.vprocs c.in_default.ensures.before c.in_default.ensures.after)
    ∙ ap (λ gs. record { vprocs = with_each (only c.args.pid (option_map (turned_vproc c.args.life c.args.status))) c.args.bag.now.vprocs; groups = gs }) (sym (map-id c.args.bag.now.groups))
