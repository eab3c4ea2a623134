use Rattle.histories.proofs.Numerals.{small_some, small_none}
use Rattle.histories.proofs.stamped.small_numeral.Goals as goal

pub returns-clause-some : goal.returns-clause-some
returns-clause-some c = small_some c.args.word.now c.in_ok-number.number c.try_from.result c.ok.result c.in_ok-number.ensures.some.0 c.try_from.ensures c.ok.ensures.value

pub returns-clause-none : goal.returns-clause-none
returns-clause-none c = small_none c.args.word.now c.in_ok-number.number c.try_from.result c.ok.result c.in_ok-number.ensures.some c.try_from.ensures c.ok.ensures.value
