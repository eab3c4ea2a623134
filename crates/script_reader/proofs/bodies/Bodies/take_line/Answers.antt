use Rattle.std.proofs.Common.{◌≡◌, map, codes, true, false, sym, ◌∙◌}
use Rattle.script_reader.specs.Files.{begins_with}
use Rattle.script_reader.proofs.Steps.{take-script, take-statement, take-nothing}
use Rattle.script_reader.proofs.bodies.Bodies.take_line.Goals as goal

pub returns-in_ok-begin : goal.returns-in_ok-begin
returns-in_ok-begin c = λ rest.
    let row = map (λ w. w.now) c.args.words.now in
    let holds : begins_with (codes "script") row ≡ true = sym c.begins_with.ensures ∙ c.if-begins_with.true in
    let b = c.in_ok-begin.ensures in
    take-script c.args.self.now c.begin.new.self row c.args.read.now rest holds b.begun b.last b.whole

pub returns-in_ok-push-in-Some : goal.returns-in_ok-push-in-Some
returns-in_ok-push-in-Some c = λ rest.
    let row = map (λ w. w.now) c.args.words.now in
    let isnt : begins_with (codes "script") row ≡ false = sym c.begins_with.ensures ∙ c.if-begins_with.false in
    rw c.in_ok-push-in-Some.ensures.ok (take-statement c.args.self.now row c.args.read.now rest c.in-Some.statement isnt (sym c.in-Some.ensures))

pub returns-in-None : goal.returns-in-None
returns-in-None c = λ rest.
    let row = map (λ w. w.now) c.args.words.now in
    let isnt : begins_with (codes "script") row ≡ false = sym c.begins_with.ensures ∙ c.if-begins_with.false in
    take-nothing c.args.self.now row c.args.read.now rest isnt (sym c.in-None.ensures)
