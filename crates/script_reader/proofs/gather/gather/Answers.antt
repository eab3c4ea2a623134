use Rattle.std.proofs.Common.{◌≡◌, ◌∷◌, ◌++◌, [], ◌+◌, ◌<◌, ◌≤◌, false, length, map, drop, get_or, codes, refl, ap, ◌∙◌, arith}
use Rattle.std.specs.Prelude.{slice_range}
use Rattle.std.proofs.lemmas.List.Sums.{sum_by-drop_more}
use Rattle.script_reader.specs.declared.cuts.CutLine.{CutLine}
use Rattle.script_reader.specs.Files.{words_behind, numbered, listed, gather}
use Rattle.script_reader.specs.MethodCuts.{CutRow, row_of, cut_rows}
use Rattle.script_reader.proofs.Gathered.{words-more, words-all, scripts-behind, forks-behind, starts-behind}
use Rattle.script_reader.proofs.Rows.{rows-more, rows-all}
use Rattle.script_reader.proofs.gather.gather.Goals as goal

pub loop-line-preserved-then-line-eq0 : goal.loop-line-preserved-then-line-eq0
loop-line-preserved-then-line-eq0 c =
    let all = c.args.cut.now.words.items in
    let lines = c.args.cut.now.lines.items in
    let i = c.loop-line.line-index in
    let from = c.loop-line.from in
    let d : CutLine = record { word_count = 0; is_utf8 = false } in
    let lt : i < length lines = rw c.deref-line-items.ensures.value at c.loop-line-test.true in
    let none : (get_or lines i d).word_count ≡ 0 = rw c.deref-line-items.ensures.value at c.if-line-eq0.true in
    record {
      shared = omega (arith, sum_by-drop_more (λ l. l.word_count) lines i d lt, none, c.loop-line.invariant.shared);
      scripts = scripts-behind all from lines i d lt none _ _ c.loop-line.invariant.scripts;
      forks = forks-behind all from lines i d lt none _ _ c.loop-line.invariant.forks;
      starts = starts-behind all from lines i d lt none _ _ c.loop-line.invariant.starts;
    }

pub loop-line-preserved : goal.loop-line-preserved
loop-line-preserved c =
    let all = c.args.cut.now.words.items in
    let lines = c.args.cut.now.lines.items in
    let i = c.loop-line.line-index in
    let from = c.loop-line.from in
    let d : CutLine = record { word_count = 0; is_utf8 = false } in
    let here = get_or lines i d in
    let to = from + here.word_count in
    let line : CutRow = (map (λ w. w.now) (slice_range all from to), here.is_utf8) in
    let rest = cut_rows all to (drop (i + 1) lines) in
    let whole = cut_rows all 0 lines in
    let lt : i < length lines = rw c.deref-line-items.ensures.value at c.loop-line-test.true in
    let first : cut_rows all from (drop i lines) ≡ line ∷ rest = rows-more all from lines i d lt in
    let scripts = map (λ w. w.now) c.loop-line.scripts.items in
    let forks = map (λ w. w.now) c.loop-line.forks.items in
    let starts = map (λ w. w.now) c.loop-line.starts.items in
    let scripts' : map (λ w. w.now) c.collect.new.found.items ≡ scripts ++ words_behind (codes "script") 1 (line.0 ∷ []) = rw (c.deref.ensures.value, c.deref-line-items.ensures.value) at c.in_ok-collect.ensures in
    let forks' : map (λ w. w.now) c.collect-in-loop-line.new.found.items ≡ forks ++ words_behind (codes "fork") 1 (line.0 ∷ []) = rw (c.deref.ensures.value, c.deref-line-items.ensures.value) at c.in_ok-collect-2.ensures in
    let starts' : map (λ w. w.now) c.collect-in-loop-line-2.new.found.items ≡ starts ++ words_behind (codes "start") 3 (line.0 ∷ []) = rw (c.deref.ensures.value, c.deref-line-items.ensures.value) at c.in_ok-collect-3.ensures in
    rw c.deref-line-items.ensures.value (record {
      shared = omega (arith, sum_by-drop_more (λ l. l.word_count) lines i d lt, c.loop-line.invariant.shared);
      scripts = rw scripts' (words-more (codes "script") 1 line (cut_rows all from (drop i lines)) rest scripts (words_behind (codes "script") 1 (map row_of whole)) first c.loop-line.invariant.scripts);
      forks = rw forks' (words-more (codes "fork") 1 line (cut_rows all from (drop i lines)) rest forks (words_behind (codes "fork") 1 (map row_of whole)) first c.loop-line.invariant.forks);
      starts = rw starts' (words-more (codes "start") 3 line (cut_rows all from (drop i lines)) rest starts (words_behind (codes "start") 3 (map row_of whole)) first c.loop-line.invariant.starts);
    })

pub returns : goal.returns
unfolding gather
returns c =
    let all = c.args.cut.now.words.items in
    let lines = c.args.cut.now.lines.items in
    let from = c.loop-line.from in
    let rows = map row_of (cut_rows all 0 lines) in
    let end : length lines ≤ c.loop-line.line-index = rw c.deref-line-items.ensures.value at c.loop-line-test.false in
    let none = rows-all all from lines c.loop-line.line-index end in
    let scripts : map (λ w. w.now) c.loop-line.scripts.items ≡ words_behind (codes "script") 1 rows = words-all (codes "script") 1 _ _ _ none c.loop-line.invariant.scripts in
    let forks : map (λ w. w.now) c.loop-line.forks.items ≡ words_behind (codes "fork") 1 rows = words-all (codes "fork") 1 _ _ _ none c.loop-line.invariant.forks in
    let starts : map (λ w. w.now) c.loop-line.starts.items ≡ words_behind (codes "start") 3 rows = words-all (codes "start") 3 _ _ _ none c.loop-line.invariant.starts in
    let forks' : map (λ w. w.now) c.deref-2.result.now ≡ words_behind (codes "fork") 1 rows = ap (map (λ w. w.now)) c.deref-2.ensures.value ∙ forks in
    let starts' : map (λ w. w.now) c.deref-3.result.now ≡ words_behind (codes "start") 3 rows = ap (map (λ w. w.now)) c.deref-3.ensures.value ∙ starts in
    let scripts'' : map (λ w. w.now) c.deref-4.result.now ≡ words_behind (codes "script") 1 rows = ap (map (λ w. w.now)) c.deref-4.ensures.value ∙ scripts in
    let starts'' : map (λ w. w.now) c.deref-5.result.now ≡ words_behind (codes "start") 3 rows = ap (map (λ w. w.now)) c.deref-5.ensures.value ∙ starts in
    let first : c.list.new.numbers ≡ listed [] (words_behind (codes "fork") 1 rows) = cc (c.in_ok-list.ensures, c.new-variables.ensures, forks') in
    let second : c.list-2.new.numbers ≡ listed (listed [] (words_behind (codes "fork") 1 rows)) (words_behind (codes "start") 3 rows) = cc (c.in_ok-list-2.ensures, first, starts') in
    let third : c.in_ok-numbered.field-0 ≡ numbered [] 0 (words_behind (codes "script") 1 rows) = cc (c.in_ok-numbered.ensures, scripts'') in
    let fourth : c.in_ok-numbered-2.field-0 ≡ numbered [] 0 (words_behind (codes "start") 3 rows) = cc (c.in_ok-numbered-2.ensures, starts'') in
    rw (second, third, fourth) refl
