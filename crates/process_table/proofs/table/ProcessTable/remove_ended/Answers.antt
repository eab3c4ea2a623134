use Rattle.std.proofs.Common.{◌∙◌, ap, rules, not}
use Rattle.std.specs.Prelude.{filter}
use Rattle.std.proofs.lemmas.Fn.{filter_same}
use Rattle.process_table.specs.Rows.{is_ended_at}
use Rattle.process_table.proofs.StayLaws.{knows-gone}
use Rattle.process_table.proofs.table.ProcessTable.remove_ended.Goals as goal

pub invariant_of-self : goal.invariant_of-self
invariant_of-self c =
    knows-gone c.self.inside.index c.forget.new.self (λ x. not (is_ended_at c.args.pid x)) c.self.inside.rows.items c.retain.new.self.items c.forget.ensures
    (filter_same _ (λ x. not (is_ended_at c.args.pid x)) _ (λ x b f' k. search rules) _ _ c.retain.ensures.filtered) c.self.invariant

pub returns : goal.returns
returns c = filter_same _ (λ x. not (is_ended_at c.args.pid x)) _ (λ x b f' k. search rules) _ _ c.retain.ensures.filtered ∙ ap (filter (λ x. not (is_ended_at c.args.pid x))) c.self.view_is
