-- what an index knows still holds after a row has come as the last one
use Rattle.std.proofs.Common.{◌≡◌, ◌++◌, ◌==◌, ◌||◌, ◌<◌, Bool, true, false, List, [], ◌∷◌, None, Some, refl, sym, ap, subst, ◌∙◌, inl, inr, arith}
use Rattle.std.specs.Prelude.{unwrap_or}
use Rattle.std.specs.List.{list_any}
use Rattle.std.proofs.lemmas.Bool.{eq-eqb, ltb-true, or_left, or_right, or_cases, cases_eq}
use Rattle.std.proofs.lemmas.List.Folds.{list_any-append}
use Rattle.unix_names.specs.declared.Pid.{Pid}
use Rattle.ordered_table.specs.Entries.{value_at}
use Rattle.ordered_table.specs.Lists.{Lists, members_of, joined}
use Rattle.ordered_table.proofs.MapLaws.{put-same, put-other}
use Rattle.process_table.specs.declared.rows.Row.{Row}
use Rattle.process_table.specs.declared.index.Index.{Index}
use Rattle.process_table.specs.Rows.{is_same}
use Rattle.process_table.specs.MethodIndex.{AllAbove, IsRising, is_next, is_listed, AreListed, IsIndexOf}

-- ---- the pids still rise
first-below : (c : Row) (rows : List Row) (p : Pid) → IsRising (c ∷ rows) → is_next (c ∷ rows) p ≡ true → c.pid.0 < p.0
first-below c [] p rising next = ltb-true c.pid.0 p.0 next
first-below c (d ∷ rows) p rising next =
    let lower = rising.0.0 in
    let rest = first-below d rows p rising.1 next in
    omega arith

above-push : (p : Pid) (rows : List Row) (c : Row) → p.0 < c.pid.0 → AllAbove p rows → AllAbove p (rows ++ c ∷ [])
above-push p [] c lower above = (lower, tt)
above-push p (d ∷ rows) c lower above = (above.0, above-push p rows c lower above.1)

rising-push : (rows : List Row) (c : Row) → IsRising rows → is_next rows c.pid ≡ true → IsRising (rows ++ c ∷ [])
rising-push [] c rising next = (tt, tt)
rising-push (d ∷ []) c rising next = ((ltb-true d.pid.0 c.pid.0 next, tt), (tt, tt))
rising-push (d ∷ e ∷ rows) c rising next = (above-push d.pid (e ∷ rows) c (first-below d (e ∷ rows) c.pid rising next) rising.0, rising-push (e ∷ rows) c rising.1 next)

-- ---- a list only grows
members-joined : (lists : Lists) (p q : Pid) → members_of (joined p q lists) p ≡ members_of lists p ++ q ∷ []
members-joined lists p q = ap (λ o. unwrap_or o []) (put-same lists p (members_of lists p ++ q ∷ []))

members-other : (lists : Lists) (p q r : Pid) → (r.0 ≡ p.0 → ⊥) → members_of (joined p q lists) r ≡ members_of lists r
members-other lists p q r other = ap (λ o. unwrap_or o []) (put-other lists p r (members_of lists p ++ q ∷ []) other)

any-joined : (t : Pid → Bool) (lists : Lists) (p q : Pid) → list_any t (members_of (joined p q lists) p) ≡ (list_any t (members_of lists p) || list_any t (q ∷ []))
any-joined t lists p q = ap (list_any t) (members-joined lists p q) ∙ list_any-append t (members_of lists p) (q ∷ [])

kept-joined : (t : Pid → Bool) (lists : Lists) (p q r : Pid) → list_any t (members_of lists r) ≡ true → list_any t (members_of (joined p q lists) r) ≡ true
kept-joined t lists p q r here = elim (cases_eq r.0 p.0) as (λ _. list_any t (members_of (joined p q lists) r) ≡ true) [
  | inl e ↦
      let same : p ≡ r = ap (λ (n : _). record { 0 = n }) (sym e) in
      subst (λ s. list_any t (members_of (joined p q lists) s) ≡ true) same (any-joined t lists p q ∙ or_left _ (list_any t (q ∷ [])) (ap (λ s. list_any t (members_of lists s)) same ∙ here))
  | inr other ↦ ap (list_any t) (members-other lists p q r other) ∙ here
]

listed-kept : (lists : Lists) (p q : Pid) (c : Row) → is_listed lists c ≡ true → is_listed (joined p q lists) c ≡ true
listed-kept lists p q c listed = elim (or_cases (c.parent.0 == 1) (list_any (is_same c.pid) (members_of lists c.parent)) listed) as (λ _. is_listed (joined p q lists) c ≡ true) [
  | inl system ↦ or_left _ (list_any (is_same c.pid) (members_of (joined p q lists) c.parent)) system
  | inr here ↦ or_right (c.parent.0 == 1) _ (kept-joined (is_same c.pid) lists p q c.parent here)
]

listed-joined : (lists : Lists) (c : Row) → is_listed (joined c.parent c.pid lists) c ≡ true
listed-joined lists c = or_right (c.parent.0 == 1) _ (any-joined (is_same c.pid) lists c.parent c.pid ∙ or_right (list_any (is_same c.pid) (members_of lists c.parent)) _ (or_left _ false (eq-eqb c.pid.0 c.pid.0 refl)))

listed-push : (lists : Lists) (rows : List Row) (p q : Pid) (c : Row) → is_listed (joined p q lists) c ≡ true → AreListed lists rows → AreListed (joined p q lists) (rows ++ c ∷ [])
listed-push lists [] p q c joins listed = (joins, tt)
listed-push lists (d ∷ rows) p q c joins listed = (listed-kept lists p q d listed.0, listed-push lists rows p q c joins listed.1)

-- the index once the row is listed with its parent, and no group is noted
pub index-push : (old new : Index) (rows : List Row) (c : Row) → is_next rows c.pid ≡ true → new.children ≡ joined c.parent c.pid old.children → new.orphaned ≡ [] → IsIndexOf old rows → IsIndexOf new (rows ++ c ∷ [])
index-push old new rows c next joins forgets known = record {
  rising = rising-push rows c known.rising next;
  listed = subst (λ lists. AreListed lists (rows ++ c ∷ [])) (sym joins) (listed-push old.children rows c.parent c.pid c (listed-joined old.children c) known.listed);
  right = λ g b noted. let none : None ≡ Some b = ap (λ es. value_at es g) (sym forgets) ∙ noted in cc;
}
