use Rattle.std.proofs.Common.{◌≡◌, ℕ, ◌+◌, [], ◌∷◌, ◌++◌, true, false, refl, List, drop, length, ap, sym, subst, arith, rules}
use Rattle.std.specs.Prelude.{slice_range}
use Rattle.std.proofs.lemmas.List.{drop_all}
use Rattle.std.proofs.lemmas.Result.{err_from_is_err_and}
use Rattle.std.proofs.lemmas.Grind.{common_steps}
use Rattle.byte_ends.specs.Text.{lines}
use Rattle.histories.specs.declared.reader.BadLine.{BadLine}
use Rattle.histories.specs.Reading.{Meanings, is_nothing, is_schedule, is_last, IsFirstBadOf}
use Rattle.histories.proofs.HistoryLaws.{Reached, reached-end, reached-nothing, reached-entry, reached-schedule, reached-last, reached-bad, reached-bad_end}
use Rattle.histories.proofs.reader.read_values.Goals as goal
use Rattle.histories.proofs.reader.read_values.Goals.{then-not-is_skipped+else-is_only+else-is_last+in-Ok-Some+else-is_err, else-not-is_skipped}

pub returns-then-is_only-clause-values : goal.returns-then-is_only-clause-values
returns-then-is_only-clause-values g c =
    let M : Meanings g.row.M.Denot = g.M.Meaning.means in
    let text = c.args.text.now in
    let at = c.loop-from.at in
    let l = slice_range text c.in-Some.from c.in-Some.to in
    let r = c.loop-from.invariant.reached in
    let line = c.in-Some.ensures.line in
    let first : lines (drop at text) ≡ l ∷ lines (drop c.in-Some.next text) = cc in
    let skipped = c.is_skipped.ensures in
    let row = c.in_ok-words.ensures in
    let value = c.deref.ensures.value in
    let test = c.if-not-is_skipped.true in
    let again = c.deref-then-not-is_skipped.ensures.value in
    let only = c.is_only.ensures in
    let nothing : is_nothing l ≡ false = cc in
    let told : is_schedule l ≡ true = cc in
    reached-schedule M (lines (drop c.args.from text)) (lines (drop at text)) c.args.first c.loop-from.number c.loop-from.values.items r l (lines (drop c.in-Some.next text)) first nothing told

pub returns-in_err-ends-clause-bad : goal.returns-in_err-ends-clause-bad
returns-in_err-ends-clause-bad g c = λ bad e.
    let M : Meanings g.row.M.Denot = g.M.Meaning.means in
    let text = c.args.text.now in
    let at = c.loop-from.at in
    let l = slice_range text c.in-Some.from c.in-Some.to in
    let r = c.loop-from.invariant.reached in
    let line = c.in-Some.ensures.line in
    let first : lines (drop at text) ≡ l ∷ lines (drop c.in-Some.next text) = cc in
    let skipped = c.is_skipped.ensures in
    let row = c.in_ok-words.ensures in
    let value = c.deref.ensures.value in
    let test = c.if-not-is_skipped.true in
    let again = c.deref-then-not-is_skipped.ensures.value in
    let only = c.is_only.ensures in
    let nothing : is_nothing l ≡ false = cc in
    let third = c.deref-then-not-is_skipped-2.ensures.value in
    let ending = c.is_last.ensures in
    let unscheduled : is_schedule l ≡ false = cc in
    let told : is_last l ≡ true = cc in
    let p = err_from_is_err_and c.from_residual-in_err-ends.result c.from_residual-in_err-ends.ensures.1 in
    reached-bad_end M (lines (drop c.args.from text)) (lines (drop at text)) c.args.first c.loop-from.number c.loop-from.values.items r l (lines (drop c.in-Some.next text)) first bad.line nothing unscheduled told (c.in_err-ends.ensures.bad bad (cc))

pub returns-then-is_last-clause-values : goal.returns-then-is_last-clause-values
returns-then-is_last-clause-values g c =
    let M : Meanings g.row.M.Denot = g.M.Meaning.means in
    let text = c.args.text.now in
    let at = c.loop-from.at in
    let l = slice_range text c.in-Some.from c.in-Some.to in
    let r = c.loop-from.invariant.reached in
    let line = c.in-Some.ensures.line in
    let first : lines (drop at text) ≡ l ∷ lines (drop c.in-Some.next text) = cc in
    let skipped = c.is_skipped.ensures in
    let row = c.in_ok-words.ensures in
    let value = c.deref.ensures.value in
    let test = c.if-not-is_skipped.true in
    let again = c.deref-then-not-is_skipped.ensures.value in
    let only = c.is_only.ensures in
    let nothing : is_nothing l ≡ false = cc in
    let third = c.deref-then-not-is_skipped-2.ensures.value in
    let ending = c.is_last.ensures in
    let unscheduled : is_schedule l ≡ false = cc in
    let told : is_last l ≡ true = cc in
    reached-last M (lines (drop c.args.from text)) (lines (drop at text)) c.args.first c.loop-from.number c.loop-from.values.items r l (lines (drop c.in-Some.next text)) first nothing unscheduled told c.in_ok-ends.ensures.good

pub returns-in-Ok-None-clause-bad : goal.returns-in-Ok-None-clause-bad
returns-in-Ok-None-clause-bad g c = λ bad e.
    let M : Meanings g.row.M.Denot = g.M.Meaning.means in
    let text = c.args.text.now in
    let at = c.loop-from.at in
    let l = slice_range text c.in-Some.from c.in-Some.to in
    let r = c.loop-from.invariant.reached in
    let line = c.in-Some.ensures.line in
    let first : lines (drop at text) ≡ l ∷ lines (drop c.in-Some.next text) = cc in
    let skipped = c.is_skipped.ensures in
    let row = c.in_ok-words.ensures in
    let value = c.deref.ensures.value in
    let test = c.if-not-is_skipped.true in
    let again = c.deref-then-not-is_skipped.ensures.value in
    let only = c.is_only.ensures in
    let nothing : is_nothing l ≡ false = cc in
    let third = c.deref-then-not-is_skipped-2.ensures.value in
    let ending = c.is_last.ensures in
    let unscheduled : is_schedule l ≡ false = cc in
    let told : is_last l ≡ false = cc in
    let named : record { line = c.loop-from.number } ≡ bad = cc in
    let same : c.loop-from.number ≡ bad.line = ap (λ (b : BadLine). b.line) named in
    let P : ℕ → Type 0 = λ n. IsFirstBadOf M (lines (drop c.args.from text)) c.args.first n in
    subst P same (reached-bad M (lines (drop c.args.from text)) (lines (drop at text)) c.args.first c.loop-from.number c.loop-from.values.items r l (lines (drop c.in-Some.next text)) first nothing unscheduled told ((rw c.in-Ok-None.field-0-is at c.in-Ok-None.ensures.none) refl))

pub loop-from-preserved : goal.loop-from-preserved
loop-from-preserved g c =
    let M : Meanings g.row.M.Denot = g.M.Meaning.means in
    let text = c.args.text.now in
    let at = c.loop-from.at in
    let l = slice_range text c.in-Some.from c.in-Some.to in
    let r = c.loop-from.invariant.reached in
    let line = c.in-Some.ensures.line in
    let first : lines (drop at text) ≡ l ∷ lines (drop c.in-Some.next text) = cc in
    let skipped = c.is_skipped.ensures in
    let row = c.in_ok-words.ensures in
    let value = c.deref.ensures.value in
    let o = c.in-Some.ensures.order in
    let Q : List g.row.M.Denot → Type 0 = λ es. Reached M (lines (drop c.args.from text)) (lines (drop c.in-Some.next text)) c.args.first (c.loop-from.number + 1) es in
    record {
      after = omega arith;
      within = omega arith;
      number = omega arith;
      reached = elim c.if-not-is_skipped.branch [
        | then-not-is_skipped+else-is_only+else-is_last+in-Ok-Some+else-is_err w ↦
            let test = w.if-not-is_skipped.true in
            let again = w.deref-then-not-is_skipped.ensures.value in
            let only = w.is_only.ensures in
            let shut = w.if-is_only.false in
            let third = w.deref-then-not-is_skipped-2.ensures.value in
            let ending = w.is_last.ensures in
            let going = w.if-is_last.false in
            let nothing : is_nothing l ≡ false = cc in
            let unscheduled : is_schedule l ≡ false = cc in
            let told : is_last l ≡ false = cc in
            let means : M l w.in-Ok-Some.value = rw w.in-Ok-Some.field-0-is at w.in-Ok-Some.ensures.found in
            let pushed : c.if-not-is_skipped.values.items ≡ c.loop-from.values.items ++ w.in-Ok-Some.value ∷ [] = grind (arith, common_steps) in
            subst Q (sym pushed) (reached-entry M (lines (drop c.args.from text)) (lines (drop at text)) c.args.first c.loop-from.number c.loop-from.values.items r l (lines (drop c.in-Some.next text)) first w.in-Ok-Some.value nothing unscheduled told means)
        | else-not-is_skipped w ↦
            let test = w.if-not-is_skipped.false in
            let kept = w.values-is in
            let nothing : is_nothing l ≡ true = cc in
            let same : c.if-not-is_skipped.values.items ≡ c.loop-from.values.items = cc in
            subst Q (sym same) (reached-nothing M (lines (drop c.args.from text)) (lines (drop at text)) c.args.first c.loop-from.number c.loop-from.values.items r l (lines (drop c.in-Some.next text)) first nothing)
      ];
    }

pub returns-clause-values : goal.returns-clause-values
returns-clause-values g c =
    let M : Meanings g.row.M.Denot = g.M.Meaning.means in
    let text = c.args.text.now in
    let end : c.loop-from.at ≡ length text = first_of (search rules, grind (arith, common_steps)) in
    let past : lines (drop c.loop-from.at text) ≡ [] = ap lines (drop_all c.loop-from.at text (omega arith)) in
    reached-end M (lines (drop c.args.from text)) (lines (drop c.loop-from.at text)) c.args.first c.loop-from.number c.loop-from.values.items c.loop-from.invariant.reached past
