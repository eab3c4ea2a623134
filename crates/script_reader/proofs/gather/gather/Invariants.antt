use Rattle.std.proofs.Common.{◌≡◌, ◌+◌, ◌++◌, map, length, drop, codes}
use Rattle.std.specs.List.{sum_by}
use Rattle.script_reader.specs.Files.{words_behind}
use Rattle.script_reader.specs.MethodCuts.{row_of, cut_rows}
use Rattle.script_reader.proofs.gather.gather.Given as goal

abbrev pub invariant-loop-line : goal.invariant-loop-line
invariant-loop-line l = record {
  shared : l.from + sum_by (λ line. line.word_count) (drop l.line-index l.cut.lines.items) ≡ length l.cut.words.items;
  scripts : map (λ w. w.now) l.scripts.items ++ words_behind (codes "script") 1 (map row_of (cut_rows l.cut.words.items l.from (drop l.line-index l.cut.lines.items)))
      ≡ words_behind (codes "script") 1 (map row_of (cut_rows l.cut.words.items 0 l.cut.lines.items));
  forks : map (λ w. w.now) l.forks.items ++ words_behind (codes "fork") 1 (map row_of (cut_rows l.cut.words.items l.from (drop l.line-index l.cut.lines.items)))
      ≡ words_behind (codes "fork") 1 (map row_of (cut_rows l.cut.words.items 0 l.cut.lines.items));
  starts : map (λ w. w.now) l.starts.items ++ words_behind (codes "start") 3 (map row_of (cut_rows l.cut.words.items l.from (drop l.line-index l.cut.lines.items)))
      ≡ words_behind (codes "start") 3 (map row_of (cut_rows l.cut.words.items 0 l.cut.lines.items));
}
