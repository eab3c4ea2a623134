use Rattle.std.proofs.Common.{◌≡◌, ◌+◌, ◌≤◌, List, [], length, drop}
use Rattle.std.specs.List.{sum_by}
use Rattle.unix_calls.specs.declared.Work.{Work}
use Rattle.script_reader.specs.Files.{first_place, place_behind, scripts_of, judged}
use Rattle.script_reader.specs.MethodCuts.{cut_rows, cut_tells}
use Rattle.script_reader.specs.MethodReading.{scripts_with, HaveNodes, judged_with}
use Rattle.script_reader.proofs.Bounds.{IsWithin}
use Rattle.script_reader.proofs.files.read_lines.Given as goal

abbrev pub invariant-loop-line : goal.invariant-loop-line
invariant-loop-line l = record {
  shared : l.from + sum_by (λ line. line.word_count) (drop l.line-index l.cut.lines.items) ≡ length l.cut.words.items;
  bounds : IsWithin l.line-index l.place;
  number : l.number ≡ l.first_line + l.line-index;
  nodes : HaveNodes l.marks.starts;
  few : length l.marks.starts ≤ l.line-index;
  scripts : scripts_with l.bodies (cut_tells l.names l.place (cut_rows l.cut.words.items l.from (drop l.line-index l.cut.lines.items))) ≡ scripts_of (cut_tells l.names first_place (cut_rows l.cut.words.items 0 l.cut.lines.items));
  place : place_behind l.place (cut_tells l.names l.place (cut_rows l.cut.words.items l.from (drop l.line-index l.cut.lines.items))) ≡ place_behind first_place (cut_tells l.names first_place (cut_rows l.cut.words.items 0 l.cut.lines.items));
  marks : (works : List Work) → judged_with works [] l.marks.starts l.marks.fault l.number (cut_tells l.names l.place (cut_rows l.cut.words.items l.from (drop l.line-index l.cut.lines.items))) ≡ judged works [] l.first_line (cut_tells l.names first_place (cut_rows l.cut.words.items 0 l.cut.lines.items));
}
