use Rattle.std.proofs.Common.{not, codes, ◌∙◌, rules, tests}
use Rattle.std.proofs.lemmas.Iterator.{YieldsList-from_slice}
use Rattle.std.proofs.lemmas.Iterator.Consumers.{count_from_yields_List, YieldsList-at}
use Rattle.std.proofs.lemmas.Iterator.Search.{YieldsList-from_take_while}
use Rattle.script_words.specs.Words.{is_same}
use Rattle.histories.proofs.LooseLaws.{before-told}
use Rattle.histories.proofs.loose.words_before.Goals as goal

pub returns-clause-value : goal.returns-clause-value
returns-clause-value c =
    count_from_yields_List _ c.count.result c.count.ensures.ran (
    YieldsList-from_take_while _ (λ word. not (is_same word.now (codes "=")))
    (YieldsList-at c.take_while.ensures.source (YieldsList-from_slice c.args.words.now c.iter.ensures.rest))
    c.take_while.ensures.closure c.take_while.ensures.done (λ x b q k. search (rules, tests)))
    ∙ before-told c.args.words.now
