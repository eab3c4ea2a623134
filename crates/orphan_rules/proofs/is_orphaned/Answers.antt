use Rattle.std.proofs.Common.{ap, ◌∙◌, sym, not}
use Rattle.orphan_rules.proofs.OrphanLaws.{no_link, links_none}
use Rattle.orphan_rules.proofs.is_orphaned.Goals as goal

pub returns-clause-rule : goal.returns-clause-rule
returns-clause-rule c = ap not c.has_link.ensures ∙ no_link c.args.kin.now c.args.group

pub returns-clause-counted : goal.returns-clause-counted
returns-clause-counted c = ap not c.has_link.ensures ∙ no_link c.args.kin.now c.args.group ∙ sym (links_none c.args.kin.now c.args.group)
