use Rattle.std.proofs.Common.{◌∙◌}
use Rattle.histories.proofs.LooseLaws.{number-told}
use Rattle.histories.proofs.loose.is_number.Goals as goal

pub returns : goal.returns
returns c = c.is_some.ensures ∙ number-told c.args.word.now c.number_at.result c.number_at.ensures
