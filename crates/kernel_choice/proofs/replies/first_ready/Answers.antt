use Rattle.std.proofs.Common.{◌∙◌, sym}
use Rattle.kernel_rules.specs.Wait.{is_ready_match}
use Rattle.kernel_choice.proofs.ReplyLaws.{none_found}
use Rattle.kernel_choice.proofs.replies.first_ready.Goals as goal

pub returns-else-has_ready_match : goal.returns-else-has_ready_match
returns-else-has_ready_match c =
    sym (none_found (is_ready_match c.args.caller.now c.args.selector c.args.stopped c.args.continued) c.args.table.now (sym c.has_ready_match.ensures ∙ c.if-has_ready_match.false))
