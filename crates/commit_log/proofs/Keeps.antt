-- the steps on the word keep its rule
use Rattle.std.proofs.Common.{◌≡◌, ℕ, zero, suc, ◌+◌, ◌-◌, ◌^◌, ◌*◌, ◌%◌, ◌==◌, ◌<◌, ◌≤◌, ◌≢◌, ◌⊎◌, inl, inr, ⊎_elim, Bool, true, false, List, [], ◌∷◌, ◌++◌, length, Option, Some, None, length-append, refl, ap, sym, ◌∙◌, subst, arith, eqb, eq-eqb, ne_eqb, set, slice_set, slice_index}
use Rattle.std.proofs.Math.Nat.{mod-eq_of_lt}
use mathlib.Core.Option.{some, none, some-injective, some-ne-none}
use mathlib.Core.Logic.{dite}
use native.Mathlib.Decide.{ℕ_discrete}
use lib.ListN.{get_elem?}
use Rattle.atomic_table.specs.Table.{State, Me, Step, Act, keeps, Allows, Splits, Joins}
use Rattle.atomic_table.specs.Seated.{TableId}
use Rattle.atomic_table.proofs.Lists.{at_set, at_snoc, at_longer, at_last, set_here, set_else}
use Rattle.commit_log.specs.declared.word.Knower.{Knower}
use Rattle.list_laws.specs.Keyed.{one_if}
use Rattle.pasts.specs.Pasts.{steps_of, Knows, Stands, first_of, union, IsPast, HasAll, IsLawfulPast, MergeLaw, CausalLaw}
use Rattle.past_lists.specs.Own.{added, count}
use Rattle.commit_log.specs.Passes.{Known, first_passes}
use Rattle.commit_log.specs.MethodWord.{Each, knower, is_at, own, tally, Fits, IsKept, IsCommitted, IsUnited, head_knower, rest_knowers, told, fresh}
use Rattle.past_lists.proofs.Seen.{hit, miss, get_lt, snoc_cases, same_place, union_left, union_right, union_cases, union_short, union_past, steps_added, added_here, added_old, added_cases, added_length, count_append, count_all, length_most}

module _ {S : Type 0} where
  pub own_append : (n : ℕ) (xs ys : List (Knower S)) → own n (xs ++ ys) ≡ own n xs + own n ys
  own_append n [] ys = omega arith
  own_append n (x ∷ xs) ys = let h = own_append n xs ys in omega arith

  pub tally_append : (n : ℕ) (xs ys : List (List (Knower S))) → tally n (xs ++ ys) ≡ tally n xs + tally n ys
  tally_append n [] ys = omega arith
  tally_append n (x ∷ xs) ys = let h = tally_append n xs ys in omega arith

  pub tally_set : (n : ℕ) (l : List (List (Knower S))) (i : ℕ) (a b : List (Knower S)) → get_elem? l i ≡ some a → tally n (set l i b) + own n a ≡ tally n l + own n b
  tally_set n [] i a b e = absurd (some-ne-none a (sym e))
  tally_set n (x ∷ xs) zero a b e = let h = ap (own n) (some-injective x a e) in omega arith
  tally_set n (x ∷ xs) (suc i) a b e = let h = tally_set n xs i a b e in omega arith

  pub tally_one : (n : ℕ) (l : List (List (Knower S))) (i : ℕ) (a : List (Knower S)) → get_elem? l i ≡ some a → own n a ≤ tally n l
  tally_one n [] i a e = absurd (some-ne-none a (sym e))
  tally_one n (x ∷ xs) zero a e = let h = ap (own n) (some-injective x a e) in omega arith
  tally_one n (x ∷ xs) (suc i) a e = let h = tally_one n xs i a e in omega arith

  -- two seats
  pub tally_two : (n : ℕ) (l : List (List (Knower S))) (i j : ℕ) (a b : List (Knower S)) → get_elem? l i ≡ some a → get_elem? l j ≡ some b → j ≢ i → own n a + own n b ≤ tally n l
  tally_two n [] i j a b e f ne = absurd (some-ne-none a (sym e))
  tally_two n (x ∷ xs) zero zero a b e f ne = absurd (ne refl)
  tally_two n (x ∷ xs) zero (suc j) a b e f ne = let h = ap (own n) (some-injective x a e) in let k = tally_one n xs j b f in omega arith
  tally_two n (x ∷ xs) (suc i) zero a b e f ne = let h = ap (own n) (some-injective x b f) in let k = tally_one n xs i a e in omega arith
  tally_two n (x ∷ xs) (suc i) (suc j) a b e f ne = let k = tally_two n xs i j a b e f (λ h. ne (ap suc h)) in omega arith

  module _ (node_of : S → ℕ) (lawful : List S → Type 0) (nodes : ℕ) where
    abbrev K : State (Unit {0}) (List (Knower S)) → Type 0
    K s = IsKept node_of lawful nodes s

    abbrev F : List S → Knower S → Type 0
    F = Fits node_of lawful nodes

    pub all_append : (P : Knower S → Type 0) (xs ys : List (Knower S)) → Each P xs → Each P ys → Each P (xs ++ ys)
    all_append P [] ys a b = b
    all_append P (x ∷ xs) ys a b = (a.0, all_append P xs ys a.1 b)

    -- a note knows what the pass knows
    pub tells : (id : ℕ) (v : List (Knower S)) → Splits K id v v (told v)
    tells id v s kept at = record {
      log = kept.log;
      word = kept.word;
      legal = kept.legal;
      inside = kept.inside;
      bound = kept.bound;
      knowers = λ i w e. ⊎_elim (λ h. ⊎_elim (λ t. subst (λ (u : List (Knower S)). Each (F kept.log) u) t.1 (kept.knowers id v at)) (λ t. kept.knowers i w t.1) (at_set s.views id i v w h)) (λ h. subst (λ (u : List (Knower S)). Each (F kept.log) u) h (told_fits kept.log v (kept.knowers id v at))) (at_snoc (set s.views id v) (told v) w i e);
      once = λ n. let a = tally_append n (set s.views id v) (told v ∷ []) in let b = tally_set n s.views id v v at in let c = told_none n v in let d = kept.once n in omega arith;
    }
      where
        told_fits : (log : List S) (v : List (Knower S)) → Each (F log) v → Each (F log) (told v)
        told_fits log [] a = a
        told_fits log (p ∷ ps) a = (record { past = a.0.past; whole = λ n e. absurd (cc e); there = λ n e. absurd (cc e) }, tt)

        told_none : (n : ℕ) (v : List (Knower S)) → own n (told v) ≡ 0
        told_none n [] = refl
        told_none n (p ∷ ps) = refl

    -- the knowers of both stand in one seat
    pub gathers : (id : ℕ) (v : List (Knower S)) (other : ℕ) (w : List (Knower S)) → Joins K id v other w (v ++ w) []
    gathers id v other w s kept at ne there =
        let away : get_elem? s.views other ≡ some w = sym (set_else s.views id other (v ++ w) ne) ∙ there in record {
          log = kept.log;
          word = kept.word;
          legal = kept.legal;
          inside = kept.inside;
          bound = kept.bound;
          knowers = λ i u e. ⊎_elim (λ t. subst (λ (x : List (Knower S)). Each (F kept.log) x) t.1 tt)
              (λ t. ⊎_elim (λ r. subst (λ (x : List (Knower S)). Each (F kept.log) x) r.1 (all_append (F kept.log) v w (kept.knowers id v at) (kept.knowers other w away))) (λ r. kept.knowers i u r.1) (at_set s.views id i (v ++ w) u t.1))
              (at_set (set s.views id (v ++ w)) other i [] u e);
          once = λ n. let a = tally_set n s.views id v (v ++ w) at in let b = tally_set n (set s.views id (v ++ w)) other w [] there in let c = own_append n v w in let d = kept.once n in omega arith;
        }

    -- the first knower gets a seat of its own
    pub deals : (id : ℕ) (p : Knower S) (ps : List (Knower S)) → Splits K id (p ∷ ps) ps (p ∷ [])
    deals id p ps s kept at = record {
      log = kept.log;
      word = kept.word;
      legal = kept.legal;
      inside = kept.inside;
      bound = kept.bound;
      knowers = λ i w e. ⊎_elim (λ h. ⊎_elim (λ t. subst (λ (u : List (Knower S)). Each (F kept.log) u) t.1 (kept.knowers id (p ∷ ps) at).1) (λ t. kept.knowers i w t.1) (at_set s.views id i ps w h)) (λ h. subst (λ (u : List (Knower S)). Each (F kept.log) u) h ((kept.knowers id (p ∷ ps) at).0, tt)) (at_snoc (set s.views id ps) (p ∷ []) w i e);
      once = λ n. let a = tally_append n (set s.views id ps) ((p ∷ []) ∷ []) in let b = tally_set n s.views id (p ∷ ps) ps at in let d = kept.once n in omega arith;
    }

    -- two knowers become one, by the merge law
    pub unites_keeps : MergeLaw node_of lawful → (slots id : ℕ) (node other : Option ℕ) (p q : List (Option S)) (st : Step (Unit {0}))
        → Allows K slots id (knower node p ∷ knower other q ∷ [], []) 0 (λ n. n) (IsUnited node_of lawful st (knower node p ∷ knower other q ∷ [], []))
    unites_keeps merge slots id node other p q st s kept homes at small =
        let fits : Each (F kept.log) (knower node p ∷ knower other q ∷ []) = kept.knowers id (knower node p ∷ knower other q ∷ []) at in
        let P = fits.0.past in
        let Q = fits.1.0.past in
        let both : IsLawfulPast node_of lawful kept.log (union p q) = record { past = union_past node_of lawful kept.log p q P.past Q.past; lawful_here = merge kept.log p q kept.legal P Q } in
        let whole : (n : ℕ) → node ≡ Some n → HasAll node_of kept.log (union p q) n = λ n e j x a b. union_left p q j x (fits.0.whole n e j x a b) in (
          knower node (union p q) ∷ [],
          keeps,
          tt,
          record {
            log = kept.log;
            word = word_same s.words (length kept.log) kept.word;
            legal = kept.legal;
            inside = kept.inside;
            bound = kept.bound;
            knowers = λ i w e. ⊎_elim (λ t. subst (λ (u : List (Knower S)). Each (F kept.log) u) t.1 (record { past = both; whole = whole; there = fits.0.there }, tt)) (λ t. kept.knowers i w t.1) (at_set s.views id i (knower node (union p q) ∷ []) w e);
            once = λ n. let b = tally_set n s.views id (knower node p ∷ knower other q ∷ []) (knower node (union p q) ∷ []) at in let d = kept.once n in omega arith;
          },
          (refl, (kept.log, kept.legal, P, Q, both, fits.0.whole)),
        )
      where
        word_same : (ws : List ℕ) (n : ℕ) → ws ≡ n ∷ [] → set ws 0 (slice_index ws 0) ≡ n ∷ []
        word_same ws n e = subst (λ (x : List ℕ). set x 0 (slice_index x 0) ≡ n ∷ []) (sym e) refl

    -- a knower that is not the node's is one of the longer list too
    pub fits_longer : (log : List S) (x : S) (p : Knower S) → F log p → is_at (node_of x) p.node ≡ 0 → F (log ++ x ∷ []) p
    fits_longer log x p f nil = record {
      past = record { past = past_longer log x p.seen f.past.past; lawful_here = f.past.lawful_here };
      whole = λ n e j y a b. ⊎_elim (λ h. f.whole n e j y h b) (λ h. absurd (not_at n e (ap node_of h.1 ∙ b))) (snoc_cases log x y j a);
      there = f.there;
    }
      where
        not_at : (n : ℕ) → p.node ≡ Some n → node_of x ≡ n → ⊥
        not_at n e h = let a : one_if (n == node_of x) ≡ 0 = subst (λ (o : Option ℕ). is_at (node_of x) o ≡ 0) e nil in let b = hit n (node_of x) (sym h) in omega arith

        past_longer : (log : List S) (x : S) (seen : List (Option S)) → IsPast node_of log seen → IsPast node_of (log ++ x ∷ []) seen
        past_longer log x seen f = record {
          short = let l = length_snoc log x in let s = f.short in omega arith;
          part = λ j y k. get_longer log x j y (f.part j y k);
          closed = λ j k y z lt st kn same. ⊎_elim (λ h. f.closed j k y z lt h kn same) (λ h. let a = get_lt seen k (Some z) kn in let b = f.short in let c = h.0 in absurd (omega arith)) (snoc_cases log x y j st);
        }
          where
            length_snoc : (l : List S) (a : S) → length (l ++ a ∷ []) ≡ suc (length l)
            length_snoc [] a = refl
            length_snoc (b ∷ l) a = ap suc (length_snoc l a)

            get_longer : (l : List S) (a : S) (i : ℕ) (b : S) → get_elem? l i ≡ some b → get_elem? (l ++ a ∷ []) i ≡ some b
            get_longer [] a i b e = absurd (some-ne-none b (sym e))
            get_longer (c ∷ l) a zero b e = e
            get_longer (c ∷ l) a (suc i) b e = get_longer l a i b e

    pub each_longer : (log : List S) (x : S) (v : List (Knower S)) → Each (F log) v → own (node_of x) v ≡ 0 → Each (F (log ++ x ∷ [])) v
    each_longer log x [] e nil = tt
    each_longer log x (p ∷ ps) e nil = (fits_longer log x p e.0 (omega arith), each_longer log x ps e.1 (omega arith))

    pub fits_added : (log : List S) (x : S) (k : ℕ) (p : List (Option S)) → F log (knower (Some k) p) → node_of x ≡ k → lawful (steps_of p ++ x ∷ []) → F (log ++ x ∷ []) (knower (Some k) (added p (length log) x))
    fits_added log x k p f is ok =
        let short = f.past.past.short in record {
          past = record {
            past = record {
              short = let a = length-append log (x ∷ []) in let b = added_length p (length log) x short in omega arith;
              part = λ j y kn. ⊎_elim (λ h. at_longer log (x ∷ []) j y (f.past.past.part j y h)) (λ h. subst (λ (i : ℕ). Stands (log ++ x ∷ []) i y) (sym h.0) (subst (λ (z : S). Stands (log ++ x ∷ []) (length log) z) h.1 (at_last log x (length log) refl))) (added_cases p (length log) j x y short kn);
              closed = λ j m y z lt st kn same. ⊎_elim
                  (λ h. ⊎_elim (λ s. added_old p (length log) j x y (f.past.past.closed j m y z lt s h same)) (λ s. let a = get_lt p m (Some z) h in let b = s.0 in absurd (omega arith)) (snoc_cases log x y j st))
                  (λ h. ⊎_elim (λ s. added_old p (length log) j x y (f.whole k refl j y s (same ∙ (ap node_of (sym h.1) ∙ is)))) (λ s. let a = h.0 in let b = s.0 in absurd (omega arith)) (snoc_cases log x y j st))
                  (added_cases p (length log) m x z short kn);
            };
            lawful_here = subst lawful (sym (steps_added p (length log) x short)) ok;
          };
          whole = λ n e j y st b. ⊎_elim (λ h. added_old p (length log) j x y (f.whole n e j y h b)) (λ h. subst (λ (i : ℕ). Knows (added p (length log) x) i y) (sym h.0) (subst (λ (z : S). Knows (added p (length log) x) (length log) z) h.1 (added_here p (length log) x short))) (snoc_cases log x y j st);
          there = f.there;
        }

    pub commits_keeps : CausalLaw node_of lawful → nodes ≤ 1024 → (slots id k : ℕ) (p : List (Option S)) (x : S) (st : Step (Unit {0})) → node_of x ≡ k → lawful (steps_of p ++ x ∷ []) → count node_of k (steps_of p) < 2 ^ 40
        → Allows K slots id (knower (Some k) p ∷ [], []) 0 (λ n. (n + 1) % 2 ^ 64) (IsCommitted (Some x) st (knower (Some k) p ∷ [], []))
    commits_keeps causal few slots id k p x st is ok room s kept homes at small =
        let log = kept.log in
        let fits : F log (knower (Some k) p) = (kept.knowers id (knower (Some k) p ∷ []) at).0 in
        let found : slice_index s.words 0 ≡ length log = found_is s.words (length log) kept.word in
        let bound' : (n : ℕ) → count node_of n (log ++ x ∷ []) ≤ 2 ^ 40 = λ n. let a = count_append node_of n log (x ∷ []) in
        dite (ℕ_discrete (node_of x) n) (λ e. let h = hit (node_of x) n e in let c = count_all node_of n log p (fits.whole n (ap Some (sym is ∙ e))) in let r : count node_of n (steps_of p) < 2 ^ 40 = subst (λ (m : ℕ). count node_of m (steps_of p) < 2 ^ 40) (sym is ∙ e) room in omega arith)
        (λ ne. let m = miss (node_of x) n ne in let b = kept.bound n in omega arith) in
        let inside' : (j : ℕ) (y : S) → Stands (log ++ x ∷ []) j y → node_of y < nodes = λ j y e. ⊎_elim (λ h. kept.inside j y h) (λ h. subst (λ (z : S). node_of z < nodes) h.1 (subst (λ (m : ℕ). m < nodes) (sym is) (fits.there k refl))) (snoc_cases log x y j e) in
        let most : length (log ++ x ∷ []) ≤ nodes * 2 ^ 40 = length_most node_of nodes (2 ^ 40) (log ++ x ∷ []) inside' bound' in
        let len = length-append log (x ∷ []) in
        let small' : length log + 1 < 2 ^ 64 = few_words nodes (length log) few (omega arith) in (
          knower (Some k) (added p (slice_index s.words 0) x) ∷ [],
          keeps,
          tt,
          subst (λ (m : ℕ). K record { words = set s.words 0 ((slice_index s.words 0 + 1) % 2 ^ 64); homes = s.homes; views = set s.views id (knower (Some k) (added p m x) ∷ []) }) (sym found) (record {
            log = log ++ x ∷ [];
            word = word_next s.words (length log) (length (log ++ x ∷ [])) kept.word (mod-eq_of_lt small' ∙ sym len);
            legal = causal log p x kept.legal fits.past (subst (λ (m : ℕ). HasAll node_of log p m) (sym is) (fits.whole k refl)) ok;
            inside = inside';
            bound = bound';
            knowers = λ i w e. ⊎_elim (λ t. subst (λ (u : List (Knower S)). Each (F (log ++ x ∷ [])) u) t.1 (fits_added log x k p fits is ok, tt))
                (λ t. each_longer log x w (kept.knowers i w t.1) (let a = tally_two (node_of x) s.views id i (knower (Some k) p ∷ []) w at t.1 t.0 in let b = kept.once (node_of x) in let c = hit k (node_of x) (sym is) in omega arith))
                (at_set s.views id i (knower (Some k) (added p (length log) x) ∷ []) w e);
            once = λ n. let b = tally_set n s.views id (knower (Some k) p ∷ []) (knower (Some k) (added p (length log) x) ∷ []) at in let d = kept.once n in omega arith;
          }),
          (let a = fits.past.past.short in omega arith, refl),
        )
      where
        found_is : (ws : List ℕ) (n : ℕ) → ws ≡ n ∷ [] → slice_index ws 0 ≡ n
        found_is ws n e = ap (λ (w : List ℕ). slice_index w 0) e

        word_next : (ws : List ℕ) (n m : ℕ) → ws ≡ n ∷ [] → (n + 1) % 2 ^ 64 ≡ m → set ws 0 ((slice_index ws 0 + 1) % 2 ^ 64) ≡ m ∷ []
        word_next ws n m e h = subst (λ (w : List ℕ). set w 0 ((slice_index w 0 + 1) % 2 ^ 64) ≡ m ∷ []) (sym e) (ap (λ (z : ℕ). z ∷ []) h)

        few_words : (nodes n : ℕ) → nodes ≤ 1024 → n + 1 ≤ nodes * 2 ^ 40 → n + 1 < 2 ^ 64
        few_words nodes n a b = omega arith

pub joined : {S : Type 0} (a b : Me (Unit {0}) (List (Knower S))) (p q : Knower S) → a ≡ (p ∷ [], []) → b ≡ (q ∷ [], []) → ◌≡◌ {A = Me (Unit {0}) (List (Knower S))} (a.0 ++ b.0, a.1) (p ∷ q ∷ [], [])
joined {S} a b p q e f = ap (λ (x : Me (Unit {0}) (List (Knower S))). (x.0 ++ b.0, x.1)) e ∙ ap (λ (y : Me (Unit {0}) (List (Knower S))). (p ∷ y.0, [])) f

module _ {S : Type 0} (node_of : S → ℕ) (lawful : List S → Type 0) where
  -- the word at the start
  pub opens : (nodes : ℕ) → lawful [] → IsKept node_of lawful nodes record { words = 0 ∷ []; homes = []; views = fresh 0 nodes ∷ [] }
  opens nodes empty = record {
    log = [];
    word = refl;
    legal = empty;
    inside = λ j x e. absurd (some-ne-none x (sym e));
    bound = λ n. omega arith;
    knowers = opening_knowers;
    once = λ n. let a = fresh_own n 0 nodes in omega arith;
  }
    where
      fresh_own : (n k m : ℕ) → own {S = S} n (fresh k m) ≤ 1
      fresh_own n k zero = omega arith
      fresh_own n k (suc m) = dite (ℕ_discrete k n) (λ e. let a = hit k n e in let b = fresh_below n (suc k) m (omega arith) in omega arith) (λ ne. let a = miss k n ne in let b = fresh_own n (suc k) m in omega arith)
        where
          fresh_below : (n k m : ℕ) → n < k → own {S = S} n (fresh k m) ≡ 0
          fresh_below n k zero h = refl
          fresh_below n k (suc m) h = let a = miss k n (λ e. omega arith) in let b = fresh_below n (suc k) m (omega arith) in omega arith

      fits_none : (k : ℕ) → k < nodes → Fits node_of lawful nodes [] (knower (Some k) [])
      fits_none k h = record {
        past = record { past = record { short = omega arith; part = λ j x e. absurd (some-ne-none (Some x) (sym e)); closed = λ j m x y lt st kn same. absurd (some-ne-none x (sym st)) }; lawful_here = empty };
        whole = λ n e j x st same. absurd (some-ne-none x (sym st));
        there = λ n e. let a : k ≡ n = cc e in omega arith;
      }

      each_fresh : (k m : ℕ) → k + m ≤ nodes → Each (Fits node_of lawful nodes []) (fresh k m)
      each_fresh k zero h = tt
      each_fresh k (suc m) h = (fits_none k (omega arith), each_fresh (suc k) m (omega arith))

      opening_knowers : (i : ℕ) (v : List (Knower S)) → get_elem? (fresh 0 nodes ∷ []) i ≡ some v → Each (Fits node_of lawful nodes []) v
      opening_knowers zero v e = subst (Each (Fits node_of lawful nodes [])) (some-injective (fresh 0 nodes) v e) (each_fresh 0 nodes (omega arith))
      opening_knowers (suc i) v e = absurd (some-ne-none v (sym e))

module _ {S : Type 0} where
  pub fresh_next : (k n : ℕ) → k < n → rest_knowers {S = S} (fresh k (n - k)) ≡ fresh (k + 1) (n - (k + 1))
  fresh_next k n lt =
      let a : n - k ≡ suc (n - (k + 1)) = omega arith in
      let b : suc k ≡ k + 1 = omega arith in
      ap (λ (m : ℕ). rest_knowers {S = S} (fresh k m)) a ∙ ap (λ (j : ℕ). fresh {S = S} j (n - (k + 1))) b

  pub known_snoc : (log : TableId) (j k : ℕ) (p : Known S) → p ≡ record { log = log; node = j + k; seen = [] } → first_passes log j k ++ p ∷ [] ≡ first_passes log j (k + 1)
  known_snoc log j k p e = let z : suc k ≡ k + 1 = omega arith in known_suc log j k p e ∙ ap (λ (n : ℕ). first_passes {S = S} log j n) z
    where
      known_suc : (log : TableId) (j k : ℕ) (p : Known S) → p ≡ record { log = log; node = j + k; seen = [] } → first_passes log j k ++ p ∷ [] ≡ first_passes log j (suc k)
      known_suc log j zero p e = let z : j + 0 ≡ j = omega arith in ap (λ (q : Known S). q ∷ []) (e ∙ ap (λ (n : ℕ). record { log = log; node = n; seen = [] }) z)
      known_suc log j (suc k) p e = let z : j + suc k ≡ suc j + k = omega arith in ap (λ (l : List (Known S)). record { log = log; node = j; seen = [] } ∷ l) (known_suc log (suc j) k p (e ∙ ap (λ (n : ℕ). record { log = log; node = n; seen = [] }) z))
