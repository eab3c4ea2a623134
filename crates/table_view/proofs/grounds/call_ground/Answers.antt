use Rattle.std.proofs.Common.{ap, ◌∙◌}
use Rattle.table_view.specs.declared.grounds.Ground.TheVariants.{Refusal}
use Rattle.table_view.proofs.Numbers.{none_refused, some_refused}
use Rattle.table_view.proofs.grounds.call_ground.Goals as goal

pub returns-in-None : goal.returns-in-None
returns-in-None c = none_refused c.args.table.now c.args.caller.now c.args.call.now c.refusal.result c.refusal.ensures c.in-None.is

pub returns-in-Some : goal.returns-in-Some
returns-in-Some c = ap (λ n. Refusal n) c.number_of.ensures ∙ some_refused c.args.table.now c.args.caller.now c.args.call.now c.refusal.result c.in-Some.errno c.refusal.ensures c.in-Some.is
