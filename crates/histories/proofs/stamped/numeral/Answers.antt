use Rattle.std.proofs.Common.{◌≡◌, true, false, sym, ap, ◌∙◌}
use Rattle.histories.specs.MethodNumeral.{begins_otherwise}
use Rattle.histories.proofs.Numerals.{decimal_begins, parse_some, parse_none, written_utf8}
use Rattle.histories.proofs.stamped.numeral.Goals as goal

pub returns-then-begins_otherwise-clause-none : goal.returns-then-begins_otherwise-clause-none
returns-then-begins_otherwise-clause-none c = λ n small e.
    let told = c.begins_otherwise.ensures in
    let test = c.if-begins_otherwise.true in
    let clash : true ≡ false = sym test ∙ told ∙ ap begins_otherwise e ∙ decimal_begins n small in
    absurd (cc)

pub returns-in-Ok-clause-some : goal.returns-in-Ok-clause-some
returns-in-Ok-clause-some c =
    let told = c.begins_otherwise.ensures in
    let test = c.if-begins_otherwise.false in
    let begins : begins_otherwise c.args.word.now ≡ false = sym told ∙ test in
    parse_some c.args.word.now c.in-Ok.text.now c.parse.result c.ok.result c.in-Ok.ensures.cases.0 begins c.parse.ensures.value.0 c.ok.ensures.value

pub returns-in-Ok-clause-none : goal.returns-in-Ok-clause-none
returns-in-Ok-clause-none c = parse_none c.args.word.now c.in-Ok.text.now c.parse.result c.ok.result c.in-Ok.ensures.cases.0 c.parse.ensures.value.0 c.ok.ensures.value

pub returns-in-Err-clause-none : goal.returns-in-Err-clause-none
returns-in-Err-clause-none c = λ n small e. c.in-Err.ensures.cases.0 (written_utf8 c.args.word.now n small e)
