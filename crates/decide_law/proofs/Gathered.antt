-- the needed names are the same in whatever order they were asked for
use Rattle.std.proofs.Common.{◌≡◌, ◌==◌, ◌||◌, ◌&&◌, ◌++◌, ◌≤◌, Bool, true, false, not, List, [], ◌∷◌, refl, sym, ap, ◌∙◌, subst, arith, if◌then◌else◌, zero, suc, length, Option, None, Some}
use Rattle.std.proofs.lemmas.Bool.{eq-eqb, ne_eqb}
use Rattle.unix_names.specs.declared.Name.{Name}
use Rattle.unix_names.specs.declared.Name.TheVariants.{V, G}
use Rattle.unix_names.specs.Names.{IsBefore, is_before}
use Rattle.unix_names.proofs.NameLaws.{IsBefore-self, IsBefore-trans}
use Rattle.record_bag.specs.declared.bag.Bag.{Bag}
use Rattle.record_bag.specs.Bags.{is_held}
use Rattle.record_bag.specs.Names.{AllAfter, AreRising}
use Rattle.decide_law.specs.Answer.{is_name, listed}
use Rattle.decide_law.specs.Footprints.{with_name, lacking, needed}
use Rattle.decide_law.specs.MethodNeeds.{wanted, passed, not_before}
use Rattle.decide_law.proofs.Answers.{same_name, own_name}
use Rattle.decide_law.proofs.Needed.{held_name, listed_with, rising_with, rising_in_order, listed_needed, before}
use Rattle.std.specs.Prelude.{slice_get}
use Rattle.std.specs.List.{insert}
use Rattle.list_laws.proofs.Filters.{some_same}

-- ---- rising lists of the same names are one
-- a name that comes before all of a list is none of it
not_listed : (n : Name) (ms : List Name) → AllAfter n ms → listed n ms ≡ false
not_listed n [] a = refl
not_listed n (m ∷ ms) a = go (is_name n m) refl (not_listed n ms a.1)
  where
    go : (b : Bool) → is_name n m ≡ b → listed n ms ≡ false → (b || listed n ms) ≡ false
    go true e rest = absurd (IsBefore-self n (subst (IsBefore n) (same_name n m e) a.0))
    go false e rest = rest

-- names that stand in a list before which n comes come after n
after_listed : (n k : Name) (ms : List Name) → AllAfter n ms → listed k ms ≡ true → IsBefore n k
after_listed n k [] a e = cc
after_listed n k (m ∷ ms) a e = go (is_name k m) refl e (after_listed n k ms a.1)
  where
    go : (b : Bool) → is_name k m ≡ b → (b || listed k ms) ≡ true → (listed k ms ≡ true → IsBefore n k) → IsBefore n k
    go true s e rest = subst (IsBefore n) (same_name k m s) a.0
    go false s e rest = rest e

asymmetric : (n m : Name) → IsBefore n m → IsBefore m n → ⊥
asymmetric n m a b = IsBefore-self n (IsBefore-trans n m n a b)

or_cases : (a b : Bool) → a ≡ false → (a || b) ≡ true → b ≡ true
or_cases true b e h = cc
or_cases false b e h = h

-- the first names are one
heads_same : (n m : Name) (ns ms : List Name) → AreRising (n ∷ ns) → AreRising (m ∷ ms) → ((k : Name) → listed k (n ∷ ns) ≡ listed k (m ∷ ms)) → is_name n m ≡ true
heads_same n m ns ms rn rm same = go (is_name n m) refl
  where
    in_first : listed n (m ∷ ms) ≡ true
    in_first = sym (same n) ∙ ap (λ b. b || listed n ns) (own_name n)

    in_second : listed m (n ∷ ns) ≡ true
    in_second = same m ∙ ap (λ b. b || listed m ms) (own_name m)

    flip : (a b : Name) → is_name a b ≡ false → is_name b a ≡ false
    flip (V p) (V q) e = ne_eqb q.0 p.0 (λ s. let yes : (p.0 == q.0) ≡ true = eq-eqb p.0 q.0 (sym s) in let f : true ≡ false = sym yes ∙ e in cc)
    flip (V p) (G g) e = refl
    flip (G g) (V q) e = refl
    flip (G g) (G h) e = ne_eqb h.0 g.0 (λ s. let yes : (g.0 == h.0) ≡ true = eq-eqb g.0 h.0 (sym s) in let f : true ≡ false = sym yes ∙ e in cc)

    go : (b : Bool) → is_name n m ≡ b → b ≡ true
    go true e = refl
    go false e = absurd (asymmetric m n (after_listed m n ms rm.0 (or_cases (is_name n m) (listed n ms) e in_first)) (after_listed n m ns rn.0 (or_cases (is_name m n) (listed m ns) (flip n m e) in_second)))

rest_same : (n k : Name) (ns ms : List Name) → AllAfter n ns → AllAfter n ms → (is_name k n || listed k ns) ≡ (is_name k n || listed k ms) → listed k ns ≡ listed k ms
rest_same n k ns ms an am e = go (is_name k n) refl e
  where
    go : (b : Bool) → is_name k n ≡ b → (b || listed k ns) ≡ (b || listed k ms) → listed k ns ≡ listed k ms
    go false s h = h
    go true s h = let one : n ≡ k = same_name k n s in subst (λ (x : Name). listed x ns ≡ listed x ms) one (not_listed n ns an ∙ sym (not_listed n ms am))

pub rising_same : (ns ms : List Name) → AreRising ns → AreRising ms → ((k : Name) → listed k ns ≡ listed k ms) → ns ≡ ms
rising_same [] [] rn rm same = refl
rising_same [] (m ∷ ms) rn rm same = let f : false ≡ true = same m ∙ ap (λ b. b || listed m ms) (own_name m) in cc
rising_same (n ∷ ns) [] rn rm same = let f : true ≡ false = sym (ap (λ b. b || listed n ns) (own_name n)) ∙ same n in cc
rising_same (n ∷ ns) (m ∷ ms) rn rm same =
    let one : m ≡ n = same_name n m (heads_same n m ns ms rn rm same) in
    let after : AllAfter n ms = subst (λ (x : Name). AllAfter x ms) one rm.0 in
    ap (λ (x : Name). x ∷ ns) (sym one) ∙ ap (λ l. m ∷ l) (rising_same ns ms rn.1 rm.1 (λ k. rest_same n k ns ms rn.0 after (same k ∙ ap (λ (x : Name). is_name k x || listed k ms) one)))

-- ---- one name after another
-- each name that was asked for and is not held has come, and stays in its place
rising_wanted : (bag : Bag) (ns acc : List Name) → AreRising acc → AreRising (wanted bag ns acc)
rising_wanted bag [] acc r = r
rising_wanted bag (n ∷ ns) acc r = rising_wanted bag ns (if is_held bag n then acc else with_name n acc) (go (is_held bag n))
  where
    go : (b : Bool) → AreRising (if b then acc else with_name n acc)
    go true = r
    go false = rising_with n acc r

swap : (a b c : Bool) → ((a || b) || c) ≡ (b || (a || c))
swap true true c = refl
swap true false c = refl
swap false true c = refl
swap false false c = refl

listed_wanted : (bag : Bag) (k : Name) (ns acc : List Name) → listed k (wanted bag ns acc) ≡ ((listed k ns && not (is_held bag k)) || listed k acc)
listed_wanted bag k [] acc = refl
listed_wanted bag k (n ∷ ns) acc = listed_wanted bag k ns (if is_held bag n then acc else with_name n acc) ∙ go (is_held bag n) (is_name k n) refl refl
  where
    held_true : (x l a h : Bool) → h ≡ true → ((l && not h) || a) ≡ (((x || l) && not h) || a)
    held_true true true a true e = refl
    held_true true false a true e = refl
    held_true false l a true e = refl
    held_true x l a false e = cc

    held_false : (l a h : Bool) → h ≡ false → ((l && not h) || (true || a)) ≡ ((true && not h) || a)
    held_false true a false e = refl
    held_false false a false e = refl
    held_false l a true e = cc

    go : (b s : Bool) → is_held bag n ≡ b → is_name k n ≡ s → ((listed k ns && not (is_held bag k)) || listed k (if b then acc else with_name n acc)) ≡ (((s || listed k ns) && not (is_held bag k)) || listed k acc)
    go true true h e = held_true true (listed k ns) (listed k acc) (is_held bag k) (held_name bag k n e ∙ h)
    go true false h e = refl
    go false true h e = ap (λ b. (listed k ns && not (is_held bag k)) || b) (listed_with k n acc ∙ ap (λ b. b || listed k acc) e) ∙ held_false (listed k ns) (listed k acc) (is_held bag k) (held_name bag k n e ∙ h)
    go false false h e = ap (λ b. (listed k ns && not (is_held bag k)) || b) (listed_with k n acc ∙ ap (λ b. b || listed k acc) e)

or_none : (b : Bool) → (b || false) ≡ b
or_none true = refl
or_none false = refl

-- what was gathered from nothing is what is needed
pub wanted_needed : (bag : Bag) (ns : List Name) → wanted bag ns [] ≡ needed bag ns
wanted_needed bag ns = rising_same (wanted bag ns []) (needed bag ns) (rising_wanted bag ns [] tt) (rising_in_order (lacking bag ns)) (λ k. listed_wanted bag k ns [] ∙ or_none (listed k ns && not (is_held bag k)) ∙ sym (listed_needed bag k ns))

-- gathered in two parts
pub wanted_more : (bag : Bag) (ns ms acc : List Name) → wanted bag (ns ++ ms) acc ≡ wanted bag ms (wanted bag ns acc)
wanted_more bag [] ms acc = refl
wanted_more bag (n ∷ ns) ms acc = wanted_more bag ns ms (if is_held bag n then acc else with_name n acc)

-- ---- the place of a name
no_both : (n m : Name) → is_before n m ≡ true → is_before m n ≡ true → ⊥
no_both n m a b = asymmetric n m (before n m a) (before m n b)

-- all that come before are passed; the name stands there, or is put there
pub name_there : (n : Name) (ms : List Name) (m : Name) → slice_get ms (passed n ms) ≡ Some m → is_before n m ≡ false → with_name n ms ≡ ms
name_there n [] m e f = cc
name_there n (k ∷ ms) m e f = go (is_before n k) (is_before k n) refl refl e (λ h. name_there n ms m h f)
  where
    go : (a b : Bool) → is_before n k ≡ a → is_before k n ≡ b → slice_get (k ∷ ms) (if b then suc (passed n ms) else zero) ≡ Some m → (slice_get ms (passed n ms) ≡ Some m → with_name n ms ≡ ms) →
        (if a then n ∷ k ∷ ms else (if b then k ∷ with_name n ms else k ∷ ms)) ≡ k ∷ ms
    go true true ea eb h rest = absurd (no_both n k ea eb)
    go true false ea eb h rest = let same : k ≡ m = some_same k m h in let yes : is_before n m ≡ true = ap (is_before n) (sym same) ∙ ea in absurd (let c : true ≡ false = sym yes ∙ f in cc)
    go false true ea eb h rest = ap (λ l. k ∷ l) (rest h)
    go false false ea eb h rest = refl

pub name_put : (n : Name) (ms : List Name) → ((m : Name) → slice_get ms (passed n ms) ≡ Some m → is_before n m ≡ true) → with_name n ms ≡ insert ms (passed n ms) n
name_put n [] f = refl
name_put n (k ∷ ms) f = go (is_before n k) (is_before k n) refl refl f (name_put n ms)
  where
    go : (a b : Bool) → is_before n k ≡ a → is_before k n ≡ b → ((m : Name) → slice_get (k ∷ ms) (if b then suc (passed n ms) else zero) ≡ Some m → is_before n m ≡ true) →
        (((m : Name) → slice_get ms (passed n ms) ≡ Some m → is_before n m ≡ true) → with_name n ms ≡ insert ms (passed n ms) n) →
        (if a then n ∷ k ∷ ms else (if b then k ∷ with_name n ms else k ∷ ms)) ≡ insert (k ∷ ms) (if b then suc (passed n ms) else zero) n
    go true true ea eb h rest = absurd (no_both n k ea eb)
    go true false ea eb h rest = refl
    go false true ea eb h rest = ap (λ l. k ∷ l) (rest h)
    go false false ea eb h rest = absurd (let c : false ≡ true = sym ea ∙ h k refl in cc)

pub passed_within : (n : Name) (ms : List Name) → passed n ms ≤ length ms
passed_within n [] = omega arith
passed_within n (k ∷ ms) = go (is_before k n) (passed_within n ms)
  where
    go : (b : Bool) → passed n ms ≤ length ms → (if b then suc (passed n ms) else zero) ≤ length (k ∷ ms)
    go true h = omega arith
    go false h = omega arith

-- ---- by the test of the name at that place
pub stands_there : (n : Name) (ms : List Name) → not_before n (slice_get ms (passed n ms)) ≡ true → with_name n ms ≡ ms
stands_there n ms e = go (slice_get ms (passed n ms)) refl e
  where
    go : (o : Option Name) → slice_get ms (passed n ms) ≡ o → not_before n o ≡ true → with_name n ms ≡ ms
    go None s e = cc
    go (Some m) s e = name_there n ms m s (flip (is_before n m) e)
      where
        flip : (b : Bool) → not b ≡ true → b ≡ false
        flip true e = cc
        flip false e = refl

pub stands_not : (n : Name) (ms : List Name) → not_before n (slice_get ms (passed n ms)) ≡ false → with_name n ms ≡ insert ms (passed n ms) n
stands_not n ms e = name_put n ms (λ m s. flip (is_before n m) (ap (not_before n) (sym s) ∙ e))
  where
    flip : (b : Bool) → not b ≡ false → b ≡ true
    flip true e = refl
    flip false e = cc
