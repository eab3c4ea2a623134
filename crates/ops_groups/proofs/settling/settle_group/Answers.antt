use Rattle.std.proofs.Common.{◌∙◌, List, Option, None, Some, sym, ap}
use Rattle.std.specs.Option.{option_map}
use Rattle.group_record.specs.declared.Group.{Group}
use Rattle.ordered_table.specs.declared.Entry.{Entry}
use Rattle.ordered_table.specs.Entries.{with_value}
use Rattle.decide_law.specs.Effects.{settled_for}
use Rattle.decide_law.proofs.Tables.{taken_and_put, replaced}
use Rattle.ops_groups.proofs.JoinedCode.{none_there}
use Rattle.ops_groups.proofs.settling.settle_group.Goals as goal

pub returns-then-not-has : goal.returns-then-not-has
returns-then-not-has c = ap (λ (gs : List (Entry (Option Group))). record c.args.bag.now { groups = gs }) (sym (none_there c.args.by.group (option_map (settled_for c.args.by.pid)) c.args.bag.now.groups c.groups_rise.ensures (sym c.has.ensures ∙ c.if-not-has.true)))

pub returns-in_default : goal.returns-in_default
returns-in_default c = ap (λ (gs : List (Entry (Option Group))). record c.args.bag.now { groups = gs }) (replaced c.args.by.group (option_map (settled_for c.args.by.pid)) c.args.bag.now.groups _ None c.groups_rise.ensures c.in_default.ensures.before c.in_default.ensures.after)

pub returns-in-Some : goal.returns-in-Some
returns-in-Some c = ap (λ (gs : List (Entry (Option Group))). record c.args.bag.now { groups = gs })
    (taken_and_put c.args.by.group (option_map (settled_for c.args.by.pid)) c.args.bag.now.groups _ _ (Some c.in-Some.g) None c.groups_rise.ensures c.in-Some.ensures.before c.in-Some.ensures.after
    (c.replace-in-Some.ensures.after ∙ ap (λ (g : Group). with_value c.replace.new.self c.args.by.group (Some g)) c.settle.ensures.settled))
