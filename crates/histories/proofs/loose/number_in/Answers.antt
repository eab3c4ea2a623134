use Rattle.std.proofs.Common.{◌∙◌}
use Rattle.histories.proofs.LooseLaws.{number-found}
use Rattle.histories.proofs.loose.number_in.Goals as goal

pub returns : goal.returns
returns c = c.unwrap_or.ensures ∙ number-found c.args.word.now c.number_at.result c.number_at.ensures
