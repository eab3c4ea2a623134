use Rattle.std.proofs.Common.{◌≡◌, [], ◌∷◌, drop, length, Err, ap, ◌∙◌, arith, rules}
use Rattle.std.specs.Prelude.{slice_range}
use Rattle.std.proofs.lemmas.List.{drop_all}
use Rattle.std.proofs.lemmas.Grind.{common_steps}
use Rattle.byte_ends.specs.Text.{lines}
use Rattle.script_words.specs.declared.Fault.{Fault}
use Rattle.run_text.specs.Schedule.{SoFar, read_turn, schedule}
use Rattle.run_text.proofs.Turns.{stops, ends}
use Rattle.run_text.proofs.schedule.read_schedule.Goals as goal

pub returns-in-Err-clause-fault : goal.returns-in-Err-clause-fault
unfolding schedule
returns-in-Err-clause-fault c = λ fault e.
    let text = slice_range c.args.bytes.now c.args.part.from c.args.part.to in
    let state : SoFar = record { turns = c.loop-from.turns.items; count = c.loop-from.count; number = c.loop-from.line } in
    let line = c.in-Some.ensures.line in
    let value = c.read_turn.ensures.value in
    let first : lines (drop c.loop-from.at text) ≡ slice_range text c.in-Some.from c.in-Some.to ∷ lines (drop c.in-Some.next text) = cc in
    let bad : read_turn c.args.nodes c.loop-from.count (slice_range text c.in-Some.from c.in-Some.to) ≡ Err c.in-Err.kind = cc in
    let told : record { line = c.loop-from.line; kind = c.in-Err.kind } ≡ fault = cc in
    stops c.args.nodes state (slice_range text c.in-Some.from c.in-Some.to) (lines (drop c.loop-from.at text)) (lines (drop c.in-Some.next text)) _ c.in-Err.kind first bad c.loop-from.invariant.kept
    ∙ ap (λ (f : Fault). Err f) told

pub returns-clause-turns : goal.returns-clause-turns
unfolding schedule
returns-clause-turns c =
    let text = slice_range c.args.bytes.now c.args.part.from c.args.part.to in
    let state : SoFar = record { turns = c.loop-from.turns.items; count = c.loop-from.count; number = c.loop-from.line } in
    let none = c.in_default.ensures.none in
    let end : c.loop-from.at ≡ length text = first_of (search rules, grind (arith, common_steps)) in
    let past : lines (drop c.loop-from.at text) ≡ [] = ap lines (drop_all c.loop-from.at text (omega arith)) in
    ends c.args.nodes state (lines (drop c.loop-from.at text)) _ past c.loop-from.invariant.kept
