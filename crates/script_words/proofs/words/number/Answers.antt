use Rattle.std.proofs.Common.{◌∙◌, arith}
use Rattle.script_words.proofs.Numbers.{number_read}
use Rattle.script_words.proofs.words.number.Goals as goal

pub returns : goal.returns
returns c = c.ok_or.ensures.value ∙ number_read c.args.word.now c.number_at.result (grind arith) c.number_at.ensures
