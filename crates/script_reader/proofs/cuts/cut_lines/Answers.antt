use Rattle.std.proofs.Common.{◌≡◌, ◌∷◌, ◌++◌, [], ℕ, ◌+◌, ◌≤◌, List, length, map, drop, refl, sym, ap, ◌∙◌, arith, append_assoc, length-append}
use Rattle.std.specs.Prelude.{slice_range}
use Rattle.std.specs.List.{sum_by}
use Rattle.std.proofs.lemmas.List.{length-map, append-nil}
use Rattle.std.proofs.lemmas.List.Sums.{sum_by-append}
use Rattle.byte_ends.specs.Text.{lines, words}
use Rattle.script_reader.specs.declared.cuts.CutLine.{CutLine}
use Rattle.script_reader.specs.MethodCuts.{CutRow, cut_row, cut_rows}
use Rattle.script_reader.proofs.Rows.{few-words, rows-push}
use Rattle.script_reader.proofs.Steps.{no-lines}
use Rattle.script_reader.proofs.cuts.cut_lines.Goals as goal

pub loop-from-init : goal.loop-from-init
unfolding cut_rows
loop-from-init c = record {
  within = omega arith;
  few = rw c.new-lines.ensures.items (omega arith);
  shared = rw (c.new-lines.ensures.items, c.new-words.ensures.items) refl;
  lines = rw c.new-lines.ensures.items refl;
}

pub overflow_cast-len : goal.overflow_cast-len
overflow_cast-len c =
    let line = slice_range c.args.text.now c.in-Some.from c.in-Some.to in
    let size : length c.deref.result.now ≡ length (words line) = sym (length-map c.deref.result.now (λ w. w.now)) ∙ ap length (ap (map (λ w. w.now)) c.deref.ensures.value ∙ c.in_ok-take_words.ensures.words) in
    let few : length (words line) ≤ length line + 1 = few-words line in
    let short : length line ≤ length c.args.text.now = grind arith in
    omega (arith, c.requires.short, c.deref.ensures.len, c.len.ensures)

pub loop-from-preserved : goal.loop-from-preserved
loop-from-preserved c =
    let text = c.args.text.now in
    let at = c.loop-from.at in
    let next = c.in-Some.next in
    let line = slice_range text c.in-Some.from c.in-Some.to in
    let all = c.loop-from.words.items in
    let cut = c.loop-from.lines.items in
    let row = c.deref.result.now in
    let last : CutLine = record { word_count = c.len.result; is_utf8 = c.is_utf8.result } in
    let first : lines (drop at text) ≡ line ∷ lines (drop next text) = c.in-Some.ensures.line in
    let count : length row ≡ c.len.result = c.deref.ensures.len ∙ sym c.len.ensures in
    let is : (map (λ w. w.now) row, c.is_utf8.result) ≡ cut_row line = rw (c.is_utf8.ensures, c.deref.ensures.value) (ap (λ (r : List (List ℕ)). (r, Rattle.std.specs.Str.is_utf8 line)) c.in_ok-take_words.ensures.words) in
    let more : c.extend_from_slice.new.self.items ≡ all ++ row = c.in_ok-extend_from_slice.ensures.items in
    let pushed : c.push.new.self.items ≡ cut ++ last ∷ [] = c.in_ok-push.ensures.items in
    rw (more, pushed) (record {
      within = omega (arith, c.in-Some.ensures.order);
      few = omega (arith, length-append cut (last ∷ []), c.loop-from.invariant.few, c.in-Some.ensures.order);
      shared = omega (arith, sum_by-append (λ line. line.word_count) cut (last ∷ []), length-append all row, c.loop-from.invariant.shared, count);
      lines = ap (λ (rows : List CutRow). rows ++ map cut_row (lines (drop next text))) (rows-push all row cut 0 last (omega (arith, c.loop-from.invariant.shared)) count)
          ∙ append_assoc (cut_rows all 0 cut) ((map (λ w. w.now) row, c.is_utf8.result) ∷ []) (map cut_row (lines (drop next text)))
          ∙ ap (λ (r : CutRow). cut_rows all 0 cut ++ r ∷ map cut_row (lines (drop next text))) is
          ∙ ap (λ (ls : List (List ℕ)). cut_rows all 0 cut ++ map cut_row ls) (sym first)
          ∙ c.loop-from.invariant.lines;
    })

pub returns : goal.returns
returns c =
    let none = no-lines c.args.text.now c.loop-from.at (c.in_default.ensures.none.0 refl) in
    record {
      lines = sym (append-nil (cut_rows c.loop-from.words.items 0 c.loop-from.lines.items)) ∙ ap (λ (ls : List (List ℕ)). cut_rows c.loop-from.words.items 0 c.loop-from.lines.items ++ map cut_row ls) (sym none) ∙ c.loop-from.invariant.lines;
      few = omega (arith, c.loop-from.invariant.few, c.loop-from.invariant.within);
    }
