use Rattle.std.proofs.Common.{◌≡◌, Ok, Err, Some, None, true, false, sym, ◌∙◌}
use Rattle.std.specs.Prelude.{is_some}
use Rattle.script_reader.specs.MethodReading.{started}
use Rattle.script_reader.proofs.Steps.{marked-behind, marked-bad, marked-start, marked-other}
use Rattle.script_reader.proofs.marks.Marks.take_line.Goals as goal

pub returns-then-is_some-clause-judged : goal.returns-then-is_some-clause-judged
returns-then-is_some-clause-judged c = λ works earlier row rest.
    let holds : is_some c.args.self.now.fault ≡ true = cc (c.is_some.ensures, c.if-is_some.true) in
    marked-behind works earlier c.args.self.now.starts c.args.self.now.fault c.args.number (row, c.args.read.now) rest holds

pub returns-in-Err-clause-judged : goal.returns-in-Err-clause-judged
returns-in-Err-clause-judged c = λ works earlier row rest.
    let isnt : is_some c.args.self.now.fault ≡ false = cc (c.is_some.ensures, c.if-is_some.false) in
    let is : started c.args.read.now ≡ Err c.in-Err.kind = sym c.started.ensures ∙ c.in-Err.is in
    marked-bad works earlier c.args.self.now.starts c.args.self.now.fault c.args.number row rest c.args.read.now c.in-Err.kind isnt is

pub returns-in_ok-push-in-Ok-Some-clause-judged : goal.returns-in_ok-push-in-Ok-Some-clause-judged
returns-in_ok-push-in-Ok-Some-clause-judged c = λ works earlier row rest.
    let isnt : is_some c.args.self.now.fault ≡ false = cc (c.is_some.ensures, c.if-is_some.false) in
    let is : started c.args.read.now ≡ Ok (Some c.in-Ok-Some.line) = cc (c.started.ensures, c.in-Ok-Some.is, c.in-Ok-Some.field-0-is) in
    rw c.in_ok-push-in-Ok-Some.ensures.ok (marked-start works earlier c.args.self.now.starts c.args.self.now.fault c.args.number row rest c.args.read.now c.in-Ok-Some.line isnt is)

pub returns-in-Ok-None-clause-judged : goal.returns-in-Ok-None-clause-judged
returns-in-Ok-None-clause-judged c = λ works earlier row rest.
    let isnt : is_some c.args.self.now.fault ≡ false = cc (c.is_some.ensures, c.if-is_some.false) in
    let is : started c.args.read.now ≡ Ok None = cc (c.started.ensures, c.in-Ok-None.is, c.in-Ok-None.field-0-is) in
    marked-other works earlier c.args.self.now.starts c.args.self.now.fault c.args.number row rest c.args.read.now isnt is
