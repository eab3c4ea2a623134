-- where a process stands among the members
use Rattle.std.proofs.Common.{◌≡◌, ◌==◌, ◌≤◌, ◌<◌, ◌+◌, ◌-◌, ℕ, zero, suc, Bool, true, false, cond, List, [], ◌∷◌, ◌++◌, length, take, drop, get_or, slice_get, slice_set, refl, sym, ap, ◌∙◌, arith, length-drop, length-take, take_all, Some, None, if◌then◌else◌}
use Rattle.std.specs.Prelude.{map, is_some}
use Rattle.std.proofs.lemmas.List.{get_or_default}
use Rattle.std.proofs.lemmas.Option.{slice_get_past, slice_get-get_or}
use Rattle.std.proofs.lemmas.List.Edits.{map_over_more}
use Rattle.std.proofs.Math.ListN.{length-set}
use Rattle.unix_names.specs.declared.Pid.{Pid}
use Rattle.group_record.specs.declared.member.Member.{Member}
use Rattle.group_record.specs.Members.{member_of, has_member, lowered}
use Rattle.group_record.specs.MethodPlaces.{others_first}

pub place-within : (p : Pid) (ms : List Member) → others_first p ms ≤ length ms
place-within p [] = omega arith
place-within p (m ∷ ms) = go (m.pid.0 == p.0) (place-within p ms)
  where
    go : (b : Bool) → others_first p ms ≤ length ms → (if b then zero else suc (others_first p ms)) ≤ suc (length ms)
    go true h = omega arith
    go false h = omega arith

-- who stands there
pub place-member : (p : Pid) (ms : List Member) → slice_get ms (others_first p ms) ≡ member_of ms p
place-member p [] = refl
place-member p (m ∷ ms) = go (m.pid.0 == p.0) (place-member p ms)
  where
    go : (b : Bool) → slice_get ms (others_first p ms) ≡ member_of ms p → slice_get (m ∷ ms) (if b then zero else suc (others_first p ms)) ≡ cond b (Some m) (member_of ms p)
    go true rest = refl
    go false rest = rest

-- who stands nowhere is no member
pub place-absent : (p : Pid) (ms : List Member) → length ms ≤ others_first p ms → member_of ms p ≡ None
place-absent p ms past = sym (place-member p ms) ∙ slice_get_past ms (others_first p ms) past

-- who stands somewhere is one
pub place-present : (p : Pid) (ms : List Member) (d : Member) → others_first p ms < length ms → has_member ms p ≡ true
place-present p ms d within = ap is_some (sym (place-member p ms) ∙ slice_get-get_or ms (others_first p ms) d within)

-- ---- looking among the first few, and then among the rest
pub place-early : (p : Pid) (k : ℕ) (ms : List Member) → others_first p (take k ms) < length (take k ms) → others_first p (take k ms) ≡ others_first p ms
place-early p zero ms early = absurd (omega arith)
place-early p (suc k) [] early = absurd (omega arith)
place-early p (suc k) (m ∷ ms) early = go (m.pid.0 == p.0) early (place-early p k ms)
  where
    go : (b : Bool) → (if b then zero else suc (others_first p (take k ms))) < suc (length (take k ms)) → (others_first p (take k ms) < length (take k ms) → others_first p (take k ms) ≡ others_first p ms) → (if b then zero else suc (others_first p (take k ms))) ≡ (if b then zero else suc (others_first p ms))
    go true h rest = refl
    go false h rest = ap suc (rest (omega arith))

pub place-late : (p : Pid) (k : ℕ) (ms : List Member) → k ≤ length ms → length (take k ms) ≤ others_first p (take k ms) → k + others_first p (drop k ms) ≡ others_first p ms
place-late p zero ms within late = omega arith
place-late p (suc k) [] within late = absurd (omega arith)
place-late p (suc k) (m ∷ ms) within late = go (m.pid.0 == p.0) late (place-late p k ms (omega arith))
  where
    go : (b : Bool) → suc (length (take k ms)) ≤ (if b then zero else suc (others_first p (take k ms))) → (length (take k ms) ≤ others_first p (take k ms) → k + others_first p (drop k ms) ≡ others_first p ms) → suc k + others_first p (drop k ms) ≡ (if b then zero else suc (others_first p ms))
    go true h rest = absurd (omega arith)
    go false h rest = let more : k + others_first p (drop k ms) ≡ others_first p ms = rest (omega arith) in omega arith

pub found-early : (p : Pid) (k : ℕ) (ms : List Member) (j : ℕ) → k ≤ length ms → j ≡ others_first p (take k ms) → j < k → j ≡ others_first p ms
found-early p k ms j within is early = let long = length-take k ms in is ∙ place-early p k ms (omega arith)

-- the slice from a place on, as far as the list goes
to-end : (p : Pid) (a : ℕ) (ys : List Member) → others_first p (take (length ys - a) (drop a ys)) ≡ others_first p (drop a ys)
to-end p a ys = let left = length-drop a ys in ap (others_first p) (take_all (length ys - a) (drop a ys) (omega arith))

pub found-late : (p : Pid) (k : ℕ) (ms : List Member) (j i : ℕ) → k ≤ length ms → j ≡ others_first p (take k ms) → k ≤ j → i ≡ others_first p (take (length ms - k) (drop k ms)) → k + i ≡ others_first p ms
found-late p k ms j i within is late more = let long = length-take k ms in ap (λ n. k + n) (more ∙ to-end p k ms) ∙ place-late p k ms within (omega arith)

-- how far the members have been lowered
pub record IsLowered (by : ℕ) (old : List Member) (a : ℕ) (ms : List Member) : Type 0 where
  pub within : a ≤ length ms
  pub same : length ms ≡ length old
  pub done : ms ≡ map (lowered by) (take a old) ++ drop a old

pub lowered-next : (by : ℕ) (old : List Member) (a j : ℕ) (ms : List Member) (y d : Member) → IsLowered by old a ms → a < length ms → y ≡ lowered by (get_or ms a d) → j ≡ a + 1 → IsLowered by old j (slice_set ms a y)
lowered-next by old a j ms y d r lt is e =
    let long : length (slice_set ms a y) ≡ length ms = length-set ms a y in
    let same = r.same in
    record {
      within = omega arith;
      same = long ∙ same;
      done = ap (slice_set ms a) is ∙ map_over_more (lowered by) old ms a (get_or ms a d) (omega arith) r.done (get_or_default _ _ _ _ lt) ∙ ap (λ i. map (lowered by) (take i old) ++ drop i old) (sym e);
    }

pub lowered-four : (by : ℕ) (old : List Member) (a : ℕ) (ms : List Member) (x y z w d : Member) → IsLowered by old a ms → a + 4 ≤ length ms → x ≡ lowered by (get_or ms a d) → y ≡ lowered by (get_or (slice_set ms a x) (a + 1) d) →
    z ≡ lowered by (get_or (slice_set (slice_set ms a x) (a + 1) y) (a + 2) d) → w ≡ lowered by (get_or (slice_set (slice_set (slice_set ms a x) (a + 1) y) (a + 2) z) (a + 3) d) →
    IsLowered by old (a + 4) (slice_set (slice_set (slice_set (slice_set ms a x) (a + 1) y) (a + 2) z) (a + 3) w)
lowered-four by old a ms x y z w d r room ix iy iz iw =
    let one = lowered-next by old a (a + 1) ms x d r (omega arith) ix refl in
    let lx : length (slice_set ms a x) ≡ length ms = length-set ms a x in
    let two = lowered-next by old (a + 1) (a + 2) (slice_set ms a x) y d one (omega arith) iy (omega arith) in
    let ly : length (slice_set (slice_set ms a x) (a + 1) y) ≡ length (slice_set ms a x) = length-set (slice_set ms a x) (a + 1) y in
    let three = lowered-next by old (a + 2) (a + 3) (slice_set (slice_set ms a x) (a + 1) y) z d two (omega arith) iz (omega arith) in
    let lz : length (slice_set (slice_set (slice_set ms a x) (a + 1) y) (a + 2) z) ≡ length (slice_set (slice_set ms a x) (a + 1) y) = length-set (slice_set (slice_set ms a x) (a + 1) y) (a + 2) z in
    lowered-next by old (a + 3) (a + 4) (slice_set (slice_set (slice_set ms a x) (a + 1) y) (a + 2) z) w d three (omega arith) iw (omega arith)

pub lowered-all : (by : ℕ) (old : List Member) (a : ℕ) (ms : List Member) → IsLowered by old a ms → length ms ≤ a → ms ≡ map (lowered by) old
lowered-all by old a ms r past =
    let same = r.same in
    let gone = length-drop a old in
    let none : drop a old ≡ [] = drop_all a old (omega arith) in
    r.done ∙ ap (λ l. map (lowered by) l ++ drop a old) (take_all a old (omega arith)) ∙ ap (λ l. map (lowered by) old ++ l) none ∙ append-nil (map (lowered by) old)
  where
    drop_all : (a : ℕ) (l : List Member) → length l ≤ a → drop a l ≡ []
    drop_all zero [] h = refl
    drop_all (suc a) [] h = refl
    drop_all zero (m ∷ l) h = absurd (omega arith)
    drop_all (suc a) (m ∷ l) h = drop_all a l (omega arith)

    append-nil : (l : List Member) → l ++ [] ≡ l
    append-nil [] = refl
    append-nil (m ∷ l) = ap (λ k. m ∷ k) (append-nil l)
