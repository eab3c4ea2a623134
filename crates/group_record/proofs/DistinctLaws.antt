-- where members stand, and what their changes leave, when no process is a member twice
use Rattle.std.proofs.Common.{◌≡◌, ◌==◌, ◌<◌, ◌+◌, ℕ, zero, suc, Bool, true, false, cond, not, List, [], ◌∷◌, ◌++◌, length, take, drop, length-append, slice_get, slice_set, refl, sym, ap, ◌∙◌, subst, arith, Option, None, Some}
use Rattle.std.specs.Prelude.{map, filter, remove, is_some, if◌then◌else◌}
use Rattle.std.proofs.lemmas.Bool.{eqb-true, eq-eqb, false≢true}
use Rattle.std.proofs.lemmas.List.{take_at}
use Rattle.std.proofs.lemmas.List.Edits.{length-remove}
use Rattle.list_laws.specs.Keyed.{at, Distinct}
use Rattle.list_laws.proofs.Filters.{length-map}
use Rattle.list_laws.proofs.Finding.{absent_differs, absent_rest, distinct-append, distinct-filter, distinct-map}
use Rattle.unix_names.specs.declared.Pid.{Pid}
use Rattle.group_record.specs.declared.member.Member.{Member}
use Rattle.group_record.specs.Members.{member_number, member_of, has_member, lowered, begun_at}
use Rattle.group_record.specs.MethodPlaces.{others_first}
use Rattle.group_record.proofs.MemberLaws.{absent-left, begun_at-number}

-- ---- where a process stands
absent-there : (q : ℕ) (ms : List Member) (a : ℕ) (x : Member) → at member_number q ms ≡ None → slice_get ms a ≡ Some x → (x.pid.0 == q) ≡ false
absent-there q [] a x none there = cc
absent-there q (m ∷ ms) zero x none there = let same : m ≡ x = cc in ap (λ (y : Member). y.pid.0 == q) (sym same) ∙ absent_differs member_number q m ms none
absent-there q (m ∷ ms) (suc a) x none there = absent-there q ms a x (absent_rest member_number q m ms none) there

pub place-found : (p : Pid) (ms : List Member) (a : ℕ) (x : Member) → Distinct member_number ms → slice_get ms a ≡ Some x → (x.pid.0 == p.0) ≡ true → a ≡ others_first p ms
place-found p [] a x d there own = cc
place-found p (m ∷ ms) zero x d there own = let same : m ≡ x = cc in sym (ap (λ (b : Bool). if b then zero else suc (others_first p ms)) (ap (λ (y : Member). y.pid.0 == p.0) same ∙ own))
place-found p (m ∷ ms) (suc a) x d there own = go (m.pid.0 == p.0) refl (place-found p ms a x d.1 there own)
  where
    go : (b : Bool) → (m.pid.0 == p.0) ≡ b → a ≡ others_first p ms → suc a ≡ (if b then zero else suc (others_first p ms))
    go true e rest =
        let again : (x.pid.0 == m.pid.0) ≡ true = eq-eqb _ _ (eqb-true _ _ own ∙ sym (eqb-true _ _ e)) in
        absurd (false≢true (sym (absent-there m.pid.0 ms a x d.0 there) ∙ again))
    go false e rest = ap suc rest

-- ---- leaving
absent-same : (p : Pid) (ms : List Member) → member_of ms p ≡ None → filter (λ m. not (m.pid.0 == p.0)) ms ≡ ms
absent-same p [] none = refl
absent-same p (m ∷ ms) none =
    ap (λ (b : Bool). cond (not b) (m ∷ filter (λ m. not (m.pid.0 == p.0)) ms) (filter (λ m. not (m.pid.0 == p.0)) ms)) (absent_differs member_number p.0 m ms none)
    ∙ ap (λ (l : List Member). m ∷ l) (absent-same p ms (absent_rest member_number p.0 m ms none))

pub unmoved-left : (p : Pid) (ms : List Member) → member_of ms p ≡ None → ms ≡ filter (λ m. not (m.pid.0 == p.0)) ms
unmoved-left p ms none = sym (absent-same p ms none)

-- the others stay where one is taken out at its place
pub removed-left : (p : Pid) (ms : List Member) → Distinct member_number ms → others_first p ms < length ms → remove ms (others_first p ms) ≡ filter (λ m. not (m.pid.0 == p.0)) ms
removed-left p [] d within = absurd (omega arith)
removed-left p (m ∷ ms) d within = go (m.pid.0 == p.0) refl within (removed-left p ms d.1)
  where
    kept : List Member
    kept = filter (λ m. not (m.pid.0 == p.0)) ms

    go : (b : Bool) → (m.pid.0 == p.0) ≡ b → (if b then zero else suc (others_first p ms)) < suc (length ms) → (others_first p ms < length ms → remove ms (others_first p ms) ≡ kept) → remove (m ∷ ms) (if b then zero else suc (others_first p ms)) ≡ filter (λ m. not (m.pid.0 == p.0)) (m ∷ ms)
    go true e h rest =
        let none : member_of ms p ≡ None = subst (λ (n : ℕ). at member_number n ms ≡ None) (eqb-true _ _ e) d.0 in
        sym (ap (λ (b : Bool). cond (not b) (m ∷ kept) kept) e ∙ absent-same p ms none)
    go false e h rest = ap (λ (l : List Member). m ∷ l) (rest (omega arith)) ∙ sym (ap (λ (b : Bool). cond (not b) (m ∷ kept) kept) e)

absent-removed : (q : ℕ) (ms : List Member) (a : ℕ) → at member_number q ms ≡ None → at member_number q (remove ms a) ≡ None
absent-removed q [] zero none = refl
absent-removed q [] (suc a) none = refl
absent-removed q (m ∷ ms) zero none = absent_rest member_number q m ms none
absent-removed q (m ∷ ms) (suc a) none =
    ap (λ (b : Bool). cond b (Some m) (at member_number q (remove ms a))) (absent_differs member_number q m ms none)
    ∙ absent-removed q ms a (absent_rest member_number q m ms none)

pub distinct-removed : (ms : List Member) (a : ℕ) → Distinct member_number ms → Distinct member_number (remove ms a)
distinct-removed [] zero d = tt
distinct-removed [] (suc a) d = tt
distinct-removed (m ∷ ms) zero d = d.1
distinct-removed (m ∷ ms) (suc a) d = (absent-removed m.pid.0 ms a d.0, distinct-removed ms a d.1)

-- what a slice of the same length leaves where it is written over the whole
overwritten-same : (ws old : List Member) → length ws ≡ length old → take (length old) (ws ++ drop (length ws) old) ≡ ws
overwritten-same ws old long = take_at ws (drop (length ws) old) (length old) long

-- ---- joining
pub distinct-joined : (ms : List Member) (m : Member) → has_member ms m.pid ≡ false → Distinct member_number ms → Distinct member_number (ms ++ m ∷ [])
distinct-joined ms m absent d = distinct-append member_number ms m (none (member_of ms m.pid) absent) d
  where
    none : (o : Option Member) → is_some o ≡ false → o ≡ None
    none None e = refl
    none (Some x) e = cc

pub distinct-moved : (ms : List Member) (m : Member) → Distinct member_number ms → Distinct member_number (filter (λ k. not (k.pid.0 == m.pid.0)) ms ++ m ∷ [])
distinct-moved ms m d = distinct-append member_number (filter (λ k. not (k.pid.0 == m.pid.0)) ms) m (absent-left m.pid ms) (distinct-filter member_number (λ k. not (k.pid.0 == m.pid.0)) ms d)

pub moved-last : (m : Member) (a : ℕ) (old ws : List Member) → Distinct member_number old → a < length old → a ≡ others_first m.pid old → ws ≡ remove old a ++ m ∷ [] →
    take (length old) (ws ++ drop (length ws) old) ≡ filter (λ k. not (k.pid.0 == m.pid.0)) old ++ m ∷ []
moved-last m a old ws d within e is =
    let long : length ws ≡ length (remove old a) + 1 = ap length is ∙ length-append (remove old a) (m ∷ []) in
    overwritten-same ws old (long ∙ length-remove old a within) ∙ is ∙ ap (λ l. l ++ m ∷ []) (ap (remove old) e ∙ removed-left m.pid old d (subst (λ (k : ℕ). k < length old) e within))

pub distinct-moved-last : (m : Member) (a : ℕ) (old ws : List Member) → Distinct member_number old → a < length old → a ≡ others_first m.pid old → ws ≡ remove old a ++ m ∷ [] →
    Distinct member_number (take (length old) (ws ++ drop (length ws) old))
distinct-moved-last m a old ws d within e is = subst (λ (l : List Member). Distinct member_number l) (sym (moved-last m a old ws d within e is)) (distinct-moved old m d)

-- ---- where parts of the log begin
pub unmoved-begun : (n : ℕ) (p : Pid) (ms : List Member) → member_of ms p ≡ None → ms ≡ map (begun_at n p) ms
unmoved-begun n p [] none = refl
unmoved-begun n p (m ∷ ms) none =
    sym (ap (λ (b : Bool). cond b (record m { from = n }) m ∷ map (begun_at n p) ms) (absent_differs member_number p.0 m ms none)
    ∙ ap (λ (l : List Member). m ∷ l) (sym (unmoved-begun n p ms (absent_rest member_number p.0 m ms none))))

pub set-begun : (n : ℕ) (p : Pid) (ms : List Member) (x : Member) → Distinct member_number ms → slice_get ms (others_first p ms) ≡ Some x → slice_set ms (others_first p ms) (record x { from = n }) ≡ map (begun_at n p) ms
set-begun n p [] x d there = cc
set-begun n p (m ∷ ms) x d there = go (m.pid.0 == p.0) refl there (set-begun n p ms x d.1)
  where
    go : (b : Bool) → (m.pid.0 == p.0) ≡ b → slice_get (m ∷ ms) (if b then zero else suc (others_first p ms)) ≡ Some x → (slice_get ms (others_first p ms) ≡ Some x → slice_set ms (others_first p ms) (record x { from = n }) ≡ map (begun_at n p) ms) →
        slice_set (m ∷ ms) (if b then zero else suc (others_first p ms)) (record x { from = n }) ≡ map (begun_at n p) (m ∷ ms)
    go true e here rest =
        let same : x ≡ m = cc in
        let none : member_of ms p ≡ None = subst (λ (k : ℕ). at member_number k ms ≡ None) (eqb-true _ _ e) d.0 in
        ap (λ (y : Member). record y { from = n } ∷ ms) same ∙ ap (λ (l : List Member). (record m { from = n }) ∷ l) (unmoved-begun n p ms none)
        ∙ sym (ap (λ (b : Bool). cond b (record m { from = n }) m ∷ map (begun_at n p) ms) e)
    go false e here rest = ap (λ (l : List Member). m ∷ l) (rest here) ∙ sym (ap (λ (b : Bool). cond b (record m { from = n }) m ∷ map (begun_at n p) ms) e)

pub set-begun-at : (n : ℕ) (p : Pid) (ms : List Member) (a : ℕ) (x : Member) → Distinct member_number ms → a ≡ others_first p ms → slice_get ms a ≡ Some x → slice_set ms a (record x { from = n }) ≡ map (begun_at n p) ms
set-begun-at n p ms a x d e there = ap (λ i. slice_set ms i (record x { from = n })) e ∙ set-begun n p ms x d (ap (slice_get ms) (sym e) ∙ there)

-- a change of each that keeps the ids
mapped-distinct : (f : Member → Member) → ((m : Member) → member_number (f m) ≡ member_number m) → (old ws : List Member) → Distinct member_number old → ws ≡ map f old → Distinct member_number (take (length old) (ws ++ drop (length ws) old))
mapped-distinct f same old ws d is =
    subst (λ (l : List Member). Distinct member_number l) (sym (overwritten-same ws old (ap length is ∙ length-map f old) ∙ is)) (distinct-map member_number member_number f same old d)

pub distinct-begun : (n : ℕ) (p : Pid) (old ws : List Member) → Distinct member_number old → ws ≡ map (begun_at n p) old → Distinct member_number (take (length old) (ws ++ drop (length ws) old))
distinct-begun n p old ws d is = mapped-distinct (begun_at n p) (begun_at-number n p) old ws d is

pub distinct-lowered : (by : ℕ) (old ws : List Member) → Distinct member_number old → ws ≡ map (lowered by) old → Distinct member_number (take (length old) (ws ++ drop (length ws) old))
distinct-lowered by old ws d is = mapped-distinct (lowered by) (λ m. refl) old ws d is
