use Rattle.std.proofs.Common.{◌≡◌, ℕ, [], ◌∷◌, true, false, drop, length, ap, subst, arith, rules}
use Rattle.std.specs.Prelude.{slice_range}
use Rattle.std.proofs.lemmas.List.{drop_all}
use Rattle.std.proofs.lemmas.Grind.{common_steps}
use Rattle.byte_ends.specs.Text.{lines}
use Rattle.histories.specs.declared.reader.BadLine.{BadLine}
use Rattle.histories.specs.Reading.{is_nothing, is_schedule, IsEndBad}
use Rattle.histories.proofs.HistoryLaws.{quiet-end, quiet-nothing, quiet-schedule, quiet-bad}
use Rattle.histories.proofs.reader.ends.Goals as goal

pub loop-from-preserved : goal.loop-from-preserved
loop-from-preserved c =
    let text = c.args.text.now in
    let i = c.loop-from.invariant in
    let o = c.in-Some.ensures.order in
    let line = c.in-Some.ensures.line in
    let first : lines (drop c.loop-from.at text) ≡ slice_range text c.in-Some.from c.in-Some.to ∷ lines (drop c.in-Some.next text) = cc in
    let skipped = c.is_skipped.ensures in
    let row = c.in_ok-words.ensures in
    let value = c.deref.ensures.value in
    let test = c.if-not-is_skipped.false in
    let nothing : is_nothing (slice_range text c.in-Some.from c.in-Some.to) ≡ true = cc in
    record {
      after = omega arith;
      within = omega arith;
      number = omega arith;
      quiet = quiet-nothing (lines (drop c.args.from text)) (lines (drop c.loop-from.at text)) c.args.first c.loop-from.number i.quiet (slice_range text c.in-Some.from c.in-Some.to) (lines (drop c.in-Some.next text)) first nothing;
    }

pub returns-then-is_only-clause-good : goal.returns-then-is_only-clause-good
returns-then-is_only-clause-good c =
    let text = c.args.text.now in
    let i = c.loop-from.invariant in
    let line = c.in-Some.ensures.line in
    let first : lines (drop c.loop-from.at text) ≡ slice_range text c.in-Some.from c.in-Some.to ∷ lines (drop c.in-Some.next text) = cc in
    let skipped = c.is_skipped.ensures in
    let only = c.is_only.ensures in
    let row = c.in_ok-words.ensures in
    let value = c.deref.ensures.value in
    let again = c.deref-then-not-is_skipped.ensures.value in
    let test = c.if-not-is_skipped.true in
    let nothing : is_nothing (slice_range text c.in-Some.from c.in-Some.to) ≡ false = cc in
    let told : is_schedule (slice_range text c.in-Some.from c.in-Some.to) ≡ true = cc in
    quiet-schedule (lines (drop c.args.from text)) (lines (drop c.loop-from.at text)) c.args.first c.loop-from.number i.quiet (slice_range text c.in-Some.from c.in-Some.to) (lines (drop c.in-Some.next text)) first nothing told

pub returns-then-not-is_skipped-clause-bad : goal.returns-then-not-is_skipped-clause-bad
returns-then-not-is_skipped-clause-bad c = λ bad e.
    let text = c.args.text.now in
    let i = c.loop-from.invariant in
    let line = c.in-Some.ensures.line in
    let first : lines (drop c.loop-from.at text) ≡ slice_range text c.in-Some.from c.in-Some.to ∷ lines (drop c.in-Some.next text) = cc in
    let skipped = c.is_skipped.ensures in
    let only = c.is_only.ensures in
    let row = c.in_ok-words.ensures in
    let value = c.deref.ensures.value in
    let again = c.deref-then-not-is_skipped.ensures.value in
    let test = c.if-not-is_skipped.true in
    let nothing : is_nothing (slice_range text c.in-Some.from c.in-Some.to) ≡ false = cc in
    let told : is_schedule (slice_range text c.in-Some.from c.in-Some.to) ≡ false = cc in
    let named : record { line = c.loop-from.number } ≡ bad = cc in
    let same : c.loop-from.number ≡ bad.line = ap (λ (b : BadLine). b.line) named in
    let P : ℕ → Type 0 = λ n. IsEndBad (lines (drop c.args.from text)) c.args.first n in
    subst P same (quiet-bad (lines (drop c.args.from text)) (lines (drop c.loop-from.at text)) c.args.first c.loop-from.number i.quiet (slice_range text c.in-Some.from c.in-Some.to) (lines (drop c.in-Some.next text)) first nothing told)

pub returns-clause-good : goal.returns-clause-good
returns-clause-good c =
    let text = c.args.text.now in
    let end : c.loop-from.at ≡ length text = first_of (search rules, grind (arith, common_steps)) in
    let past : lines (drop c.loop-from.at text) ≡ [] = ap lines (drop_all c.loop-from.at text (omega arith)) in
    quiet-end (lines (drop c.args.from text)) (lines (drop c.loop-from.at text)) c.args.first c.loop-from.number c.loop-from.invariant.quiet past
