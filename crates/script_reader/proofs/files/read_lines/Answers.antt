use Rattle.std.proofs.Common.{◌≡◌, ◌∷◌, [], ◌+◌, ◌<◌, ◌≤◌, false, List, length, map, drop, get_or, refl, rules, sym, ap, ◌∙◌, arith}
use Rattle.std.specs.Prelude.{slice_range}
use Rattle.std.proofs.lemmas.List.Sums.{sum_by-drop_more}
use Rattle.unix_calls.specs.declared.Work.{Work}
use Rattle.script_words.specs.Words.{Row}
use Rattle.script_reader.specs.declared.cuts.CutLine.{CutLine}
use Rattle.script_reader.specs.Lines.{place_after}
use Rattle.script_reader.specs.Files.{Told, first_place, place_behind, scripts_of, judged}
use Rattle.script_reader.specs.MethodCuts.{CutRow, cut_rows, read_cut, cut_tells}
use Rattle.script_reader.specs.MethodReading.{scripts_with, judged_with}
use Rattle.script_reader.proofs.Bounds.{fine-cut, has-node, within-after}
use Rattle.script_reader.proofs.Rows.{rows-more, rows-all}
use Rattle.script_reader.proofs.Steps.{scripts-more, place-more, marks-more}
use Rattle.script_reader.proofs.files.read_lines.Goals as goal

pub loop-line-init : goal.loop-line-init
unfolding scripts_with judged_with
loop-line-init c =
    let size : length c.new-marks.result.starts ≡ 0 = ap length c.new-marks.ensures.starts in
    record {
      shared = search rules;
      bounds = record { scripts = omega arith; statements = omega arith; starts = omega arith; nodes = omega arith };
      number = omega arith;
      nodes = λ k d lt. absurd (omega (arith, size, lt));
      few = omega (arith, size);
      scripts = rw c.new-bodies.ensures refl;
      place = refl;
      marks = λ works. rw (c.new-marks.ensures.starts, c.new-marks.ensures.fault) refl;
    }

pub loop-line-preserved : goal.loop-line-preserved
loop-line-preserved c =
    let names = c.args.names.now in
    let all = c.args.cut.now.words.items in
    let lines = c.args.cut.now.lines.items in
    let i = c.loop-line.line-index in
    let from = c.loop-line.from in
    let place = c.loop-line.place in
    let number = c.loop-line.number in
    let d : CutLine = record { word_count = 0; is_utf8 = false } in
    let here = get_or lines i d in
    let to = from + here.word_count in
    let line : CutRow = (map (λ w. w.now) (slice_range all from to), here.is_utf8) in
    let rows = cut_rows all from (drop i lines) in
    let rest = cut_rows all to (drop (i + 1) lines) in
    let told = cut_tells names first_place (cut_rows all 0 lines) in
    let lt : i < length lines = rw c.deref-line-items.ensures.value at c.loop-line-test.true in
    let first : rows ≡ line ∷ rest = rows-more all from lines i d lt in
    let is : c.read_line-read.result ≡ read_cut names place line = rw (c.deref.ensures.value, c.deref-line-items.ensures.value) at c.read_line-read.ensures in
    let after : c.place_after-place.result ≡ place_after place line.0 (read_cut names place line) = rw is at (rw (c.deref.ensures.value, c.deref-line-items.ensures.value) at c.place_after-place.ensures) in
    let taken : (more : List Told) → scripts_with c.take_line.new.self more ≡ scripts_with c.loop-line.bodies ((line.0, read_cut names place line) ∷ more) = λ more. rw is at (rw (c.deref.ensures.value, c.deref-line-items.ensures.value) at (c.in_ok-take_line.ensures more)) in
    let marked : (works : List Work) (r : Row) (more : List Told) → judged_with works [] c.take_line-in-loop-line.new.self.starts c.take_line-in-loop-line.new.self.fault (number + 1) more
    ≡ judged_with works [] c.loop-line.marks.starts c.loop-line.marks.fault number ((r, read_cut names place line) ∷ more) = λ works r more. rw is at (c.in_ok-take_line-2.ensures.judged works [] r more) in
    rw c.deref-line-items.ensures.value (record {
      shared = omega (arith, sum_by-drop_more (λ l. l.word_count) lines i d lt, c.loop-line.invariant.shared);
      bounds = rw after (within-after i place line.0 (read_cut names place line) (fine-cut names place line) c.loop-line.invariant.bounds);
      number = omega (arith, c.loop-line.invariant.number);
      nodes = c.in_ok-take_line-2.ensures.nodes;
      few = omega (arith, c.in_ok-take_line-2.ensures.few, c.loop-line.invariant.few);
      scripts = rw after (scripts-more names place line rows rest first c.loop-line.bodies c.take_line.new.self (scripts_of told) taken c.loop-line.invariant.scripts);
      place = rw after (place-more names place line rows rest first (place_behind first_place told) c.loop-line.invariant.place);
      marks = λ works. rw after (marks-more names place line rows rest first works c.loop-line.marks c.take_line-in-loop-line.new.self number (judged works [] c.args.first_line told) (marked works) (c.loop-line.invariant.marks works));
    })

pub take_line-requires-in-loop-line-clause-node : goal.take_line-requires-in-loop-line-clause-node
take_line-requires-in-loop-line-clause-node c =
    rw c.read_line-read.ensures (has-node c.loop-line.place.nodes _ (fine-cut c.args.names.now c.loop-line.place _) c.loop-line.invariant.bounds.nodes)

pub returns : goal.returns
unfolding cut_tells place_behind
returns c =
    let names = c.args.names.now in
    let lines = c.args.cut.now.lines.items in
    let place = c.loop-line.place in
    let end : length lines ≤ c.loop-line.line-index = rw c.deref-line-items.ensures.value at c.loop-line-test.false in
    let none = rows-all c.args.cut.now.words.items c.loop-line.from lines c.loop-line.line-index end in
    record {
      scripts = c.in_ok-scripts.ensures ∙ ap (λ (rows : List CutRow). scripts_with c.loop-line.bodies (cut_tells names place rows)) (sym none) ∙ c.loop-line.invariant.scripts;
      place = ap (λ (rows : List CutRow). place_behind place (cut_tells names place rows)) (sym none) ∙ c.loop-line.invariant.place;
      marks = λ works. ap (λ (rows : List CutRow). judged_with works [] c.loop-line.marks.starts c.loop-line.marks.fault c.loop-line.number (cut_tells names place rows)) (sym none) ∙ c.loop-line.invariant.marks works;
      nodes = c.loop-line.invariant.nodes;
      few = omega (arith, c.loop-line.invariant.few, c.requires.short);
      behind = omega (arith, c.loop-line.invariant.number);
    }
