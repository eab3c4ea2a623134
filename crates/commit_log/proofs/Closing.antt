-- what the passes of all nodes know together
use Rattle.std.proofs.Common.{◌≡◌, ℕ, zero, suc, ◌+◌, ◌==◌, ◌<◌, ◌≤◌, ◌≢◌, ◌⊎◌, inl, inr, ⊎_elim, List, [], ◌∷◌, ◌++◌, length, Option, Some, None, refl, ap, sym, ◌∙◌, subst, arith, length-append, slice_index_or, All}
use mathlib.Core.Option.{some, none, some-injective, some-ne-none}
use mathlib.Core.Logic.{dite}
use native.Mathlib.Decide.{ℕ_discrete}
use lib.ListN.{get_elem?}
use Rattle.atomic_table.specs.Table.{State}
use Rattle.commit_log.specs.declared.word.Knower.{Knower}
use Rattle.pasts.specs.Pasts.{Stands, Knows}
use Rattle.past_lists.specs.Own.{count}
use Rattle.past_lists.proofs.Seen.{hit, miss, get_lt, same_place, sum_counts, sum_all}
use Rattle.commit_log.specs.Passes.{Known, HasDrawn, IsPassOf, AreAllOf}
use Rattle.commit_log.specs.MethodWord.{Each, knower, own, tally, Fits, IsKept, gathered}
use Rattle.commit_log.proofs.Keeps.{own_append, tally_one}

module _ {A : Type 0} where
  pub stands_below : (l : List A) (j : ℕ) → j < length l → (x : A) × (get_elem? l j ≡ some x)
  stands_below [] j lt = absurd (omega arith)
  stands_below (x ∷ l) zero lt = (x, refl)
  stands_below (x ∷ l) (suc j) lt = stands_below l j (omega arith)

module _ {S : Type 0} where
  abbrev pub at : Known S → ℕ
  at p = p.node

  -- how many of the passes are the node's
  abbrev pub many : ℕ → List (Known S) → ℕ
  many n ps = count at n ps

  pub many_own : (n : ℕ) (ps : List (Known S)) → own n (gathered ps) ≡ many n ps
  many_own n [] = refl
  many_own n (p ∷ ps) = let a = own_append n (gathered ps) (knower (Some p.node) p.seen ∷ []) in let b = many_own n ps in omega arith

  pub many_one : (ps : List (Known S)) (k : ℕ) (p : Known S) (n : ℕ) → get_elem? ps k ≡ some p → p.node ≡ n → 1 ≤ many n ps
  many_one [] k p n e h = absurd (some-ne-none p (sym e))
  many_one (q ∷ ps) zero p n e h = let a = hit q.node n (ap at (some-injective q p e) ∙ h) in omega arith
  many_one (q ∷ ps) (suc k) p n e h = let a = many_one ps k p n e h in omega arith

  pub many_apart : (ps : List (Known S)) (k l : ℕ) (p q : Known S) (n : ℕ) → many n ps ≤ 1 → get_elem? ps k ≡ some p → get_elem? ps l ≡ some q → p.node ≡ n → q.node ≡ n → k ≡ l
  many_apart [] k l p q n le e f a b = absurd (some-ne-none p (sym e))
  many_apart (r ∷ ps) zero zero p q n le e f a b = refl
  many_apart (r ∷ ps) zero (suc l) p q n le e f a b = let h = hit r.node n (ap at (some-injective r p e) ∙ a) in let m = many_one ps l q n f b in absurd (omega arith)
  many_apart (r ∷ ps) (suc k) zero p q n le e f a b = let h = hit r.node n (ap at (some-injective r q f) ∙ b) in let m = many_one ps k p n e a in absurd (omega arith)
  many_apart (r ∷ ps) (suc k) (suc l) p q n le e f a b = ap suc (many_apart ps k l p q n (omega arith) e f a b)

  pub find : (ps : List (Known S)) (n : ℕ) → 1 ≤ many n ps → (k : ℕ) × (p : Known S) × (get_elem? ps k ≡ some p) × (p.node ≡ n)
  find [] n h = absurd (omega arith)
  find (p ∷ ps) n h = dite (ℕ_discrete p.node n) (λ e. (0, p, refl, e)) (λ ne. let m = miss p.node n ne in let r = find ps n (omega arith) in (suc r.0, r.1, r.2, r.3))

  pub sum_le : (n : ℕ) (ps : List (Known S)) → ((m : ℕ) → many m ps ≤ 1) → sum_counts at n ps ≤ n
  sum_le zero ps h = omega arith
  sum_le (suc n) ps h = let a = sum_le n ps h in let b = h n in omega arith

  pub sum_less : (n m : ℕ) (ps : List (Known S)) → ((m : ℕ) → many m ps ≤ 1) → m < n → many m ps ≡ 0 → sum_counts at n ps < n
  sum_less zero m ps h lt z = absurd (omega arith)
  sum_less (suc n) m ps h lt z = dite (ℕ_discrete m n) (λ e. let a = sum_le n ps h in let b : many n ps ≡ 0 = subst (λ (i : ℕ). many i ps ≡ 0) e z in omega arith) (λ ne. let a = sum_less n m ps h (omega arith) z in let b = h n in omega arith)

  module _ (P : Knower S → Type 0) where
    pub each_right : (xs ys : List (Knower S)) → Each P (xs ++ ys) → Each P ys
    each_right [] ys e = e
    each_right (x ∷ xs) ys e = each_right xs ys e.1

    pub each_left : (xs ys : List (Knower S)) → Each P (xs ++ ys) → Each P xs
    each_left [] ys e = tt
    each_left (x ∷ xs) ys e = (e.0, each_left xs ys e.1)

    pub each_gathered : (ps : List (Known S)) (k : ℕ) (p : Known S) → Each P (gathered ps) → get_elem? ps k ≡ some p → P (knower (Some p.node) p.seen)
    each_gathered [] k p e h = absurd (some-ne-none p (sym h))
    each_gathered (q ∷ ps) zero p e h = subst (λ (r : Known S). P (knower (Some r.node) r.seen)) (some-injective q p h) (each_right (gathered ps) (knower (Some q.node) q.seen ∷ []) e).0
    each_gathered (q ∷ ps) (suc k) p e h = each_gathered ps k p (each_left (gathered ps) (knower (Some q.node) q.seen ∷ []) e) h

  module _ (node_of : S → ℕ) (lawful : List S → Type 0) where
    -- the passes of all nodes have drawn each place of the list, and no two of them the same
    pub all_of : (log : List S) (nodes : ℕ) (ps : List (Known S)) → lawful log → ((k : ℕ) (p : Known S) → get_elem? ps k ≡ some p → IsPassOf node_of lawful log p)
        → ((k l : ℕ) (p q : Known S) → get_elem? ps k ≡ some p → get_elem? ps l ≡ some q → p.node ≡ q.node → k ≡ l) → ((n : ℕ) → n < nodes → (k : ℕ) × (p : Known S) × (get_elem? ps k ≡ some p) × (p.node ≡ n))
        → ((j : ℕ) (x : S) → Stands log j x → node_of x < nodes) → AreAllOf node_of lawful log nodes ps
    all_of log nodes ps legal right apart each inside = record {
      legal = legal;
      own_steps = right;
      apart = apart;
      each = each;
      inside = inside;
      drawn = λ j lt. let x = stands_below log j lt in let k = each (node_of x.0) (inside j x.0 x.1) in
          (k.0, record { pass = k.1; stands = k.2; step = x.0; knows = (right k.0 k.1 k.2).whole j x.0 x.1 (sym k.3); own = sym k.3 });
      once = λ j k l a b. apart k l a.pass b.pass a.stands b.stands (sym a.own ∙ (ap node_of (same_place log j a.step b.step ((right k a.pass a.stands).past.past.part j a.step a.knows) ((right l b.pass b.stands).past.past.part j b.step b.knows)) ∙ b.own));
      below = λ j k a. get_lt log j a.step ((right k a.pass a.stands).past.past.part j a.step a.knows);
    }

    pub closing : (nodes : ℕ) (ps : List (Known S)) (id : ℕ) (s : State (Unit {0}) (List (Knower S))) (places : ℕ) → IsKept node_of lawful nodes s → get_elem? s.views id ≡ some (gathered ps) → length ps ≡ nodes
        → get_elem? s.words 0 ≡ some places → (log : List S) × (length log ≡ places) × AreAllOf node_of lawful log nodes ps
    closing nodes ps id s places kept at_id len word =
        let fits = kept.knowers id (gathered ps) at_id in
        let once : (n : ℕ) → many n ps ≤ 1 = λ n. let a = tally_one n s.views id (gathered ps) at_id in let b = kept.once n in let c = many_own n ps in omega arith in
        let below : (k : ℕ) (p : Known S) → Stands ps k p → at p < nodes = λ k p e. (each_gathered (Fits node_of lawful nodes kept.log) ps k p fits e).there p.node refl in
        let sum : sum_counts at nodes ps ≡ length ps = sum_all at nodes ps below in (
          kept.log,
          some-injective (length kept.log) places (sym (ap (λ (w : List ℕ). get_elem? w 0) kept.word) ∙ word),
          all_of kept.log nodes ps kept.legal
              (λ k p e. let f = each_gathered (Fits node_of lawful nodes kept.log) ps k p fits e in record { past = f.past; whole = f.whole p.node refl })
              (λ k l p q e f same. many_apart ps k l p q q.node (once q.node) e f same refl)
              (λ n lt. find ps n (dite (ℕ_discrete (many n ps) 0) (λ z. let a = sum_less nodes n ps once lt z in absurd (omega arith)) (λ ne. omega arith)))
              kept.inside,
        )

module _ {A : Type 0} where
  at_middle : (rest taken : List A) (x d : A) → slice_index_or ((rest ++ x ∷ []) ++ taken) (length rest) d ≡ x
  at_middle [] taken x d = refl
  at_middle (y ∷ rest) taken x d = at_middle rest taken x d

  -- what is true of all is true of the last of those that are left
  pub popped : (P : A → Type 0) (all left taken rest : List A) (x : A) → All P all → all ≡ left ++ taken → left ≡ rest ++ x ∷ [] → P x
  popped P all left taken rest x e a b =
      let split : all ≡ (rest ++ x ∷ []) ++ taken = a ∙ ap (λ (l : List A). l ++ taken) b in
      let h : All P ((rest ++ x ∷ []) ++ taken) = subst (All P) split e in
      let inside : length rest < length ((rest ++ x ∷ []) ++ taken) = omega (arith, length-append (rest ++ x ∷ []) taken, length-append rest (x ∷ [])) in
      subst P (at_middle rest taken x x) (h (length rest) x inside)

module _ {S : Type 0} (node_of : S → ℕ) (lawful : List S → Type 0) where
  pub closes : (nodes : ℕ) (passes left taken : List (Known S)) (id : ℕ) (me : List (Knower S)) (s : State (Unit {0}) (List (Knower S))) (words : List ℕ) (places : ℕ) → IsKept node_of lawful nodes s → get_elem? s.views id ≡ some me → s.words ≡ words
      → get_elem? words 0 ≡ some places → length passes ≡ nodes → passes ≡ left ++ taken → left ≡ [] → me ≡ gathered taken → (log : List S) × (length log ≡ places) × AreAllOf node_of lawful log nodes passes
  closes nodes passes left taken id me s words places kept view ws word len split empty is =
      let same : passes ≡ taken = split ∙ ap (λ (l : List (Known S)). l ++ taken) empty in
      closing node_of lawful nodes passes id s places kept (view ∙ ap (λ (m : List (Knower S)). some m) (is ∙ ap gathered (sym same))) len (ap (λ (w : List ℕ). get_elem? w 0) ws ∙ word)
