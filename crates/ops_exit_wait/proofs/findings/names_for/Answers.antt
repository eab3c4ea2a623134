use Rattle.std.proofs.Common.{◌∙◌, sym, ap}
use Rattle.decide_law.specs.Footprints.{selected_footprint}
use Rattle.decide_law.specs.MethodNeeds.{wanted}
use Rattle.ops_exit_wait.proofs.WaitCode.{names_selected, names_all}
use Rattle.ops_exit_wait.proofs.findings.names_for.Goals as goal

pub returns-then-not-is_none : goal.returns-then-not-is_none
returns-then-not-is_none c = names_selected c.args.bag.now c.args.v.now c.args.search.selector c.args.search.stopped c.args.search.continued _ (c.in_ok-want_selected.ensures ∙ ap (wanted c.args.bag.now (selected_footprint c.args.v.now c.args.search.selector)) c.new-names.ensures) (sym c.is_none.ensures ∙ c.if-not-is_none.true)

pub returns : goal.returns
returns c = names_all c.args.bag.now c.args.v.now c.args.search.selector c.args.search.stopped c.args.search.continued _ _ (c.in_ok-want_selected.ensures ∙ ap (wanted c.args.bag.now (selected_footprint c.args.v.now c.args.search.selector)) c.new-names.ensures) (sym c.is_none.ensures ∙ c.if-not-is_none.false) c.in_ok-want_ended_group.ensures
