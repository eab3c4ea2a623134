use Rattle.std.proofs.Common.{◌∙◌}
use Rattle.script_words.proofs.Texts.{text_found}
use Rattle.script_words.proofs.words.is_utf8.Goals as goal

pub returns : goal.returns
returns c = c.is_ok.ensures.value ∙ text_found c.args.line.now c.from_utf8.result _ _ c.from_utf8.ensures.cases
