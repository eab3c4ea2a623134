-- the laws of the pasts of a run
use Rattle.std.proofs.Common.{◌≡◌, ◌⊎◌, inl, inr, ◌+◌, ◌-◌, ◌≤◌, ℕ, zero, suc, List, [], ◌∷◌, ◌++◌, length, map, refl, sym, ap, ◌∙◌, subst, arith, Option, None, Some, append-nil}
use mathlib.Core.Option.{some, some-injective, some-ne-none}
use lib.ListN.{get_elem?}
use Rattle.unix_calls.specs.declared.Entry.{Entry}
use Rattle.unix_calls.specs.declared.Turn.{Turn}
use Rattle.unix_calls.specs.declared.World.{World}
use Rattle.pasts.specs.Pasts.{steps_of, Knows, Stands, union, IsPast, MergeLaw, CausalLaw}
use Rattle.node_state.specs.declared.Sent.{Sent}
use Rattle.node_core.specs.Advance.{Ask}
use Rattle.cluster_state.specs.Cluster.{Cluster, first_cluster, Turned}
use Rattle.cluster_state.specs.Possible.{node_of, Does, Ran, Given, Possible}
use Rattle.turn_laws.specs.MethodNumbers.{takes_one, Counts, with_turn}
use Rattle.turn_laws.proofs.Steps.{does_one, ran_join}
use Rattle.past_laws.specs.MethodBehind.{Outrun, Behind}
use Rattle.past_laws.specs.Laws.{takes, spread, IsTrue, IsWithin, KnowsAll, StaysTrue}
use Rattle.past_laws.proofs.Behind.{fewer, does_both, turned_late}

-- ---- pasts
abbrev Part : Type 0
Part = List (Option Turn)

-- the past knows a turn of this node
abbrev pub Ahead : Part → ℕ → Type 0
Ahead p k = (j : ℕ) × (x : Turn) × Knows p j x × (node_of x ≡ k)

pub ahead_tail : (o : Option Turn) (p : Part) (k : ℕ) → Ahead p k → Ahead (o ∷ p) k
ahead_tail o p k a = (suc a.0, a.1, a.2, a.3)

pub past_tail : (x : Turn) (log : List Turn) (o : Option Turn) (p : Part) → IsPast node_of (x ∷ log) (o ∷ p) → IsPast node_of log p
past_tail x log o p P = record {
  short = let s = P.short in omega arith;
  part = λ j y k. P.part (suc j) y k;
  closed = λ j k y z lt st kn e. P.closed (suc j) (suc k) y z (omega arith) st kn e;
}

pub past_head : (x : Turn) (log : List Turn) (y : Turn) (p : Part) → IsPast node_of (x ∷ log) (Some y ∷ p) → y ≡ x
past_head x log y p P = sym (some-injective x y (P.part zero y refl))

-- of a node whose turn isn't known, no later turn is known
pub past_cut : (x : Turn) (log : List Turn) (p : Part) → IsPast node_of (x ∷ log) (None ∷ p) → Ahead p (node_of x) → ⊥
past_cut x log p P a = let k = P.closed zero (suc a.0) x a.1 (omega arith) refl a.2 (sym a.3) in cc k

pub past_nil : (o : Option Turn) (p : Part) → IsPast node_of [] (o ∷ p) → ⊥
past_nil o p P = let s = P.short in omega arith

-- ---- a part in a larger one
pub within_tail : (o w : Option Turn) (u p : Part) → IsWithin (o ∷ u) (w ∷ p) → IsWithin u p
within_tail o w u p P = record {
  part = λ j y k. P.part (suc j) y k;
  closed = λ j k y z lt a b e. P.closed (suc j) (suc k) y z (omega arith) a b e;
}

short_tail : (w : Option Turn) (p : Part) → IsWithin [] (w ∷ p) → IsWithin [] p
short_tail w p P = record {
  part = λ j y k. let n = P.part (suc j) y k in absurd (some-ne-none (Some y) (sym n));
  closed = λ j k y z lt a b e. absurd (some-ne-none (Some y) (sym a));
}

within_nil : (u : Part) → IsWithin u []
within_nil u = record { part = λ j y k. absurd (some-ne-none (Some y) (sym k)); closed = λ j k y z lt a b e. absurd (some-ne-none (Some z) (sym b)) }

within_cut : (x : Turn) (u p : Part) → IsWithin (Some x ∷ u) (None ∷ p) → Ahead p (node_of x) → ⊥
within_cut x u p P a = let k = P.closed zero (suc a.0) x a.1 (omega arith) refl a.2 (sym a.3) in cc k

-- the whole list as a part
abbrev pub whole : List Turn → Part
whole log = map (λ x. Some x) log

pub knows_whole : (log : List Turn) (j : ℕ) (x : Turn) → Stands log j x → Knows (whole log) j x
knows_whole [] j x e = absurd (some-ne-none x (sym e))
knows_whole (y ∷ log) zero x e = ap (λ (z : Turn). some (Some z)) (some-injective y x e)
knows_whole (y ∷ log) (suc j) x e = knows_whole log j x e

pub stands_whole : (log : List Turn) (j : ℕ) (x : Turn) → Knows (whole log) j x → Stands log j x
stands_whole [] j x e = absurd (some-ne-none (Some x) (sym e))
stands_whole (y ∷ log) zero x e = let s : y ≡ x = cc e in ap (λ (z : Turn). some z) s
stands_whole (y ∷ log) (suc j) x e = stands_whole log j x e

pub steps_whole : (log : List Turn) → steps_of (whole log) ≡ log
steps_whole [] = refl
steps_whole (x ∷ log) = ap (λ (l : List Turn). x ∷ l) (steps_whole log)

pub within_whole : (log : List Turn) (p : Part) → IsPast node_of log p → IsWithin (whole log) p
within_whole log p P = record {
  part = λ j x k. knows_whole log j x (P.part j x k);
  closed = λ j k x y lt a b e. P.closed j k x y lt (stands_whole log j x a) b e;
}

unspread : (log : List Turn) (es : List (Option Entry)) (j : ℕ) (e : Option Entry) → Knows (spread (whole log) es) j e → Stands es j e
unspread [] es j e k = absurd (some-ne-none (Some e) (sym k))
unspread (x ∷ log) [] zero e k = absurd (cc k)
unspread (x ∷ log) [] (suc j) e k = let n = unspread log [] j e k in absurd (some-ne-none e (sym n))
unspread (x ∷ log) (d ∷ es) zero e k = let s : d ≡ e = cc k in ap (λ (o : Option Entry). some o) s
unspread (x ∷ log) (d ∷ es) (suc j) e k = unspread log es j e k

get_front : (xs ys : List Sent) (j : ℕ) (m : Sent) → get_elem? xs j ≡ some m → get_elem? (xs ++ ys) j ≡ some m
get_front [] ys j m e = absurd (some-ne-none m (sym e))
get_front (x ∷ xs) ys zero m e = e
get_front (x ∷ xs) ys (suc j) m e = get_front xs ys j m e

get_behind : (xs ys : List Sent) (j : ℕ) (m : Sent) → get_elem? (xs ++ ys) (j + length xs) ≡ some m → get_elem? ys j ≡ some m
get_behind [] ys j m e = let z : j + 0 ≡ j = omega arith in ap (λ (n : ℕ). get_elem? ys n) (sym z) ∙ e
get_behind (x ∷ xs) ys j m e = let z : j + suc (length xs) ≡ suc (j + length xs) = omega arith in get_behind xs ys j m (ap (λ (n : ℕ). get_elem? (x ∷ (xs ++ ys)) n) (sym z) ∙ e)

-- ---- runs
module _ (world : World) (ask : Ask) where
  -- where a run of two lists comes from
  pub record Split (C E : Cluster) (xs ys : List Turn) (es : List (Option Entry)) : Type 0 where
    pub middle : Cluster
    pub first : List (Option Entry)
    pub later : List (Option Entry)
    pub is : es ≡ first ++ later
    pub before : Ran world ask C xs middle first
    pub after : Ran world ask middle ys E later

  pub ran_split : (C E : Cluster) (xs ys : List Turn) (es : List (Option Entry)) → Ran world ask C (xs ++ ys) E es → Split C E xs ys es
  ran_split C E [] ys es a = record { middle = C; first = []; later = es; is = refl; before = (refl, refl); after = a }
  ran_split C E (x ∷ xs) ys es a =
      let s = ran_split (a.0).cluster E xs ys a.2 a.4 in
      record { middle = s.middle; first = (a.0).entry ∷ s.first; later = s.later; is = a.3 ∙ ap (λ (l : List (Option Entry)). (a.0).entry ∷ l) s.is; before = (a.0, a.1, s.first, refl, s.before); after = s.after }

  -- ---- a past beside a larger one
  -- where the past is still to go, or stays whole
  abbrev pub Sees : (ℕ → Type 0) → Part → ℕ → Type 0
  Sees Z p k = Ahead p k ⊎ Z k

  pub sees_tail : (Z : ℕ → Type 0) (o : Option Turn) (p : Part) (k : ℕ) → Sees Z p k → Sees Z (o ∷ p) k
  sees_tail Z o p k (inl a) = inl (ahead_tail o p k a)
  sees_tail Z o p k (inr z) = inr z

  -- the runs of a past and of a larger one, where so many more messages were taken before
  pub record Beside (Z : ℕ → Type 0) (u p : Part) (d : Counts) (A B : Cluster) (known entries : List (Option Entry)) : Type 0 where
    pub taken : Counts
    pub behind : Behind Z taken A B
    pub many : (i k : ℕ) → taken i k + takes i k (steps_of p) ≡ d i k + takes i k (steps_of u)
    pub entry_is : (j : ℕ) (e : Option Entry) → Knows (spread p known) j e → Knows (spread u entries) j e

  beside_late : (Z : ℕ → Type 0) (u p : Part) (x : Turn) (d : Counts) (A B : Cluster) (known rest entries : List (Option Entry)) (e : Option Entry) → entries ≡ e ∷ rest → Beside Z u p (with_turn x d) A B known rest → Beside Z (Some x ∷ u) (None ∷ p) d A B known entries
  beside_late Z u p x d A B known rest entries e is b = record {
    taken = b.taken;
    behind = b.behind;
    many = λ i k. let h = b.many i k in omega arith;
    entry_is = λ j y k. subst (λ (l : List (Option Entry)). Knows (spread (Some x ∷ u) l) j y) (sym is) (at j y k);
  }
    where
      at : (j : ℕ) (y : Option Entry) → Knows (None ∷ spread p known) j y → Knows (Some e ∷ spread u rest) j y
      at zero y k = absurd (cc k)
      at (suc j) y k = b.entry_is j y k

  beside_both : (Z : ℕ → Type 0) (u p : Part) (x y : Turn) (n : Counts) (A B : Cluster) (known more rest entries : List (Option Entry)) (d e : Option Entry) → y ≡ x → known ≡ d ∷ more → entries ≡ e ∷ rest → e ≡ d → Beside Z u p n A B more rest → Beside Z (Some x ∷ u) (Some y ∷ p) n A B known entries
  beside_both Z u p x y n A B known more rest entries d e yx is_d is_e same b = record {
    taken = b.taken;
    behind = b.behind;
    many = λ i k. let h = b.many i k in let g = ap (λ (t : Turn). takes_one i k t) yx in omega arith;
    entry_is = λ j z k. subst (λ (l : List (Option Entry)). Knows (spread (Some x ∷ u) l) j z) (sym is_e) (at j z (subst (λ (l : List (Option Entry)). Knows (spread (Some y ∷ p) l) j z) is_d k));
  }
    where
      at : (j : ℕ) (z : Option Entry) → Knows (Some d ∷ spread p more) j z → Knows (Some e ∷ spread u rest) j z
      at zero z k = ap (λ (o : Option Entry). some (Some o)) same ∙ k
      at (suc j) z k = b.entry_is j z k

  -- where neither has a turn
  beside_none : (Z : ℕ → Type 0) (u p : Part) (d : Counts) (A B : Cluster) (known entries : List (Option Entry)) → Beside Z u p d A B known entries → Beside Z (None ∷ u) (None ∷ p) d A B known entries
  beside_none Z u p d A B known entries b = record { taken = b.taken; behind = b.behind; many = b.many; entry_is = at }
    where
      at : (j : ℕ) (z : Option Entry) → Knows (None ∷ spread p known) j z → Knows (None ∷ spread u entries) j z
      at zero z k = absurd (cc k)
      at (suc j) z k = b.entry_is j z k

  -- the end of a past is as nothing known
  beside_short : (Z : ℕ → Type 0) (u : Part) (o : Option Turn) (d : Counts) (A B : Cluster) (known entries : List (Option Entry)) → Beside Z (o ∷ u) (None ∷ []) d A B known entries → Beside Z (o ∷ u) [] d A B known entries
  beside_short Z u o d A B known entries b = record { taken = b.taken; behind = b.behind; many = b.many; entry_is = λ j e k. absurd (some-ne-none (Some e) (sym k)) }

  beside_long : (Z : ℕ → Type 0) (p : Part) (d : Counts) (A B : Cluster) (known entries : List (Option Entry)) → Beside Z [] p d A B known entries → Beside Z [] (None ∷ p) d A B known entries
  beside_long Z p d A B known entries b = record { taken = b.taken; behind = b.behind; many = b.many; entry_is = at }
    where
      at : (j : ℕ) (z : Option Entry) → Knows (None ∷ spread p known) j z → Knows [] j z
      at zero z k = absurd (cc k)
      at (suc j) z k = let n = b.entry_is j z k in absurd (some-ne-none (Some z) (sym n))

  follow : (Z : ℕ → Type 0) (u p : Part) (d : Counts) (C D A B : Cluster) (known entries : List (Option Entry)) → IsWithin u p → ((k : ℕ) → Z k → KnowsAll u p k) → Behind (Sees Z p) d C D → Ran world ask C (steps_of p) A known → Ran world ask D (steps_of u) B entries → Beside Z u p d A B known entries
  follow Z [] [] d C D A B known entries P all h a b = record {
    taken = d;
    behind = subst (λ (X : Cluster). Behind Z d X B) (sym a.0) (subst (λ (X : Cluster). Behind Z d C X) (sym b.0) (fewer (Sees Z []) d C D h Z (λ k z. inr z)));
    many = λ i k. refl;
    entry_is = λ j e k. absurd (some-ne-none (Some e) (sym k));
  }
  follow Z [] (None ∷ p) d C D A B known entries P all h a b = beside_long Z p d A B known entries
      (follow Z [] p d C D A B known entries (short_tail None p P) (λ k z j y n is. absurd (some-ne-none (Some y) (sym n))) (fewer (Sees Z (None ∷ p)) d C D h (Sees Z p) (sees_tail Z None p)) a b)
  follow Z [] (Some y ∷ p) d C D A B known entries P all h a b = let k = P.part zero y refl in absurd (some-ne-none (Some y) (sym k))
  follow Z (None ∷ u) [] d C D A B known entries P all h a b = beside_short Z u None d A B known entries (beside_none Z u [] d A B known entries
      (follow Z u [] d C D A B known entries (within_nil u) (λ k z j y n is. all k z (suc j) y n is) h a b))
  follow Z (None ∷ u) (None ∷ p) d C D A B known entries P all h a b = beside_none Z u p d A B known entries
      (follow Z u p d C D A B known entries (within_tail None None u p P) (λ k z j y n is. all k z (suc j) y n is) (fewer (Sees Z (None ∷ p)) d C D h (Sees Z p) (sees_tail Z None p)) a b)
  follow Z (None ∷ u) (Some y ∷ p) d C D A B known entries P all h a b = let k = P.part zero y refl in absurd (cc k)
  follow Z (Some x ∷ u) [] d C D A B known entries P all h a b = beside_short Z u (Some x) d A B known entries
      (beside_late Z u [] x d A B known b.2 entries (b.0).entry b.3
      (follow Z u [] (with_turn x d) C (b.0).cluster A B known b.2 (within_nil u) (λ k z j y n is. all k z (suc j) y n is)
      (turned_late world ask (Sees Z []) d (b.1).questions C D x b.0 h not (b.1).is) a b.4))
    where
      not : Sees Z [] (node_of x) → ⊥
      not (inl s) = some-ne-none (Some s.1) (sym s.2)
      not (inr z) = let k = all (node_of x) z zero x refl refl in some-ne-none (Some x) (sym k)
  follow Z (Some x ∷ u) (None ∷ p) d C D A B known entries P all h a b =
      beside_late Z u p x d A B known b.2 entries (b.0).entry b.3
      (follow Z u p (with_turn x d) C (b.0).cluster A B known b.2 (within_tail (Some x) None u p P) (λ k z j y n is. all k z (suc j) y n is)
      (turned_late world ask (Sees Z p) d (b.1).questions C D x b.0 (fewer (Sees Z (None ∷ p)) d C D h (Sees Z p) (sees_tail Z None p)) not (b.1).is) a b.4)
    where
      not : Sees Z p (node_of x) → ⊥
      not (inl s) = within_cut x u p P s
      not (inr z) = let k = all (node_of x) z zero x refl refl in cc k
  follow Z (Some x ∷ u) (Some y ∷ p) d C D A B known entries P all h a b =
      let same : y ≡ x = let k = P.part zero y refl in cc k in
      let l = does_both world ask (Sees Z (Some y ∷ p)) d C D y a.0 h (inl (zero, y, refl, refl)) a.1 in
      let one = does_one world ask D x b.0 l.other b.1 (subst (λ (t : Turn). Does world ask D t l.other) same l.does) in
      beside_both Z u p x y d A B known a.2 b.2 entries (a.0).entry (b.0).entry same a.3 b.3 (ap (λ (t : Turned). t.entry) one ∙ l.entry)
      (follow Z u p d (a.0).cluster (b.0).cluster A B a.2 b.2 (within_tail (Some x) (Some y) u p P) (λ k z j t n is. all k z (suc j) t n is)
      (subst (λ (t : Turned). Behind (Sees Z p) d (a.0).cluster t.cluster) (sym one) (fewer (Sees Z (Some y ∷ p)) d (a.0).cluster (l.other).cluster l.behind (Sees Z p) (sees_tail Z (Some y) p))) a.4 b.4)

  abbrev pub none_taken : Counts
  none_taken = λ i k. 0

  pub level : (K : ℕ → Type 0) (C : Cluster) → Behind K none_taken C C
  level K C = record { nodes = λ k h. refl; wires = λ i k. record { gone = []; new = []; is = append-nil (C.wires i k); many = refl; none_gone = λ h. refl; none_new = λ h. refl } }

  -- a past in a larger one
  beside : (C : Cluster) (u p : Part) (A B : Cluster) (known entries : List (Option Entry)) → IsWithin u p → Ran world ask C (steps_of p) A known → Ran world ask C (steps_of u) B entries → Beside (KnowsAll u p) u p none_taken A B known entries
  beside C u p A B known entries P a b = follow (KnowsAll u p) u p none_taken C C A B known entries P (λ k z. z) (level (Sees (KnowsAll u p) p) C) a b

  pub stays_true : (C : Cluster) (u p : Part) (A B : Cluster) (known entries : List (Option Entry)) → IsWithin u p → Ran world ask C (steps_of p) A known → Ran world ask C (steps_of u) B entries → StaysTrue u p A B known entries
  stays_true C u p A B known entries P a b =
      let r = beside C u p A B known entries P a b in
      record {
        states = (r.behind).nodes;
        entry_is = r.entry_is;
        messages = λ i k n m f less. let w = still i k n m (takes i k (steps_of p)) (takes i k (steps_of u)) (r.taken i k) (A.wires i k) (B.wires i k) ((r.behind).wires i k) (r.many i k) f.place f.is_number f.there less in record { place = w.0; is_number = w.1; there = w.2 };
      }
    where
      still : (i k n : ℕ) (m : Sent) (s t g : ℕ) (v w : List Sent) → Outrun (KnowsAll u p) i k g v w → g + s ≡ 0 + t → (place : ℕ) → place + s ≡ n → get_elem? v place ≡ some m → t ≤ n → (q : ℕ) × (q + t ≡ n) × (get_elem? w q ≡ some m)
      still i k n m s t g v w o many place is there less =
          let len = o.many in
          let in_all = get_front v o.new place m there in
          let split : (q : ℕ) × (q + length o.gone ≡ place) = (place - length o.gone, omega arith) in
          (split.0, (let e = split.1 in omega arith), get_behind o.gone w split.0 m (ap (λ (x : ℕ). get_elem? (o.gone ++ w) x) split.1 ∙ (ap (λ (l : List Sent). get_elem? l place) (sym o.is) ∙ in_all)))

  -- ---- a past in the whole list
  pub true_past : (C : Cluster) (log : List Turn) (p : Part) (A B : Cluster) (known entries : List (Option Entry)) → IsPast node_of log p → Ran world ask C (steps_of p) A known → Ran world ask C log B entries → IsTrue log p A B known entries
  true_past C log p A B known entries P a b =
      let r = beside C (whole log) p A B known entries (within_whole log p P) a (subst (λ (l : List Turn). Ran world ask C l B entries) (sym (steps_whole log)) b) in
      record { states = λ k all. (r.behind).nodes k (λ j x n is. all j x (stands_whole log j x n) is); entry_is = λ j e k. unspread log entries j e (r.entry_is j e k) }

  pub causal : CausalLaw node_of (Possible world ask)
  causal log p x legal P all more =
      let C = first_cluster world in
      let s = ran_split C more.cluster (steps_of p) (x ∷ []) more.entries more.ran in
      let r = beside C (whole log) p s.middle legal.cluster s.first legal.entries (within_whole log p P.past) s.before (subst (λ (l : List Turn). Ran world ask (first_cluster world) l legal.cluster legal.entries) (sym (steps_whole log)) legal.ran) in
      let l = does_both world ask (KnowsAll (whole log) p) r.taken s.middle legal.cluster x (s.after).0 r.behind (λ j y n is. all j y (stands_whole log j y n) is) (s.after).1 in
      record {
        cluster = (l.other).cluster;
        entries = legal.entries ++ (l.other).entry ∷ [];
        ran = ran_join world ask C legal.cluster (l.other).cluster log (x ∷ []) legal.entries ((l.other).entry ∷ []) legal.ran (l.other, l.does, [], refl, (refl, refl));
      }

  -- ---- two pasts
  more_given : (D : Cluster) (x : Turn) (xs : List Turn) (r : Turned) → Does world ask D x r → Given world ask r.cluster xs → Given world ask D (x ∷ xs)
  more_given D x xs r d g = record { cluster = g.cluster; entries = r.entry ∷ g.entries; ran = (r, d, g.entries, refl, g.ran) }

  -- a past that runs alone beside
  alone : (p : Part) (d : Counts) (C D A : Cluster) (known : List (Option Entry)) → Behind (Ahead p) d C D → Ran world ask C (steps_of p) A known → Given world ask D (steps_of p)
  alone [] d C D A known h a = record { cluster = D; entries = []; ran = (refl, refl) }
  alone (None ∷ p) d C D A known h a = alone p d C D A known (fewer (Ahead (None ∷ p)) d C D h (Ahead p) (ahead_tail None p)) a
  alone (Some x ∷ p) d C D A known h a =
      let l = does_both world ask (Ahead (Some x ∷ p)) d C D x a.0 h (zero, x, refl, refl) a.1 in
      more_given D x (steps_of p) l.other l.does (alone p d (a.0).cluster (l.other).cluster A a.2 (fewer (Ahead (Some x ∷ p)) d (a.0).cluster (l.other).cluster l.behind (Ahead p) (ahead_tail (Some x) p)) a.4)

  merge_from : (log : List Turn) (p q : Part) (c d : Counts) (C D U A B : Cluster) (es fs : List (Option Entry)) → IsPast node_of log p → IsPast node_of log q → Behind (Ahead p) c C U → Behind (Ahead q) d D U → Ran world ask C (steps_of p) A es → Ran world ask D (steps_of q) B fs → Given world ask U (steps_of (union p q))
  merge_from log [] q c d C D U A B es fs P Q g h a b = alone q d D U B fs h b
  merge_from log (o ∷ p) [] c d C D U A B es fs P Q g h a b = alone (o ∷ p) c C U A es g a
  merge_from [] (o ∷ p) (w ∷ q) c d C D U A B es fs P Q g h a b = absurd (past_nil o p P)
  merge_from (x ∷ log) (None ∷ p) (None ∷ q) c d C D U A B es fs P Q g h a b =
      merge_from log p q c d C D U A B es fs (past_tail x log None p P) (past_tail x log None q Q) (fewer (Ahead (None ∷ p)) c C U g (Ahead p) (ahead_tail None p)) (fewer (Ahead (None ∷ q)) d D U h (Ahead q) (ahead_tail None q)) a b
  merge_from (x ∷ log) (Some y ∷ p) (None ∷ q) c d C D U A B es fs P Q g h a b =
      let l = does_both world ask (Ahead (Some y ∷ p)) c C U y a.0 g (zero, y, refl, refl) a.1 in
      more_given U y (steps_of (union p q)) l.other l.does
      (merge_from log p q c (with_turn y d) (a.0).cluster D (l.other).cluster A B a.2 fs (past_tail x log (Some y) p P) (past_tail x log None q Q)
      (fewer (Ahead (Some y ∷ p)) c (a.0).cluster (l.other).cluster l.behind (Ahead p) (ahead_tail (Some y) p))
      (turned_late world ask (Ahead q) d (l.does).questions D U y l.other (fewer (Ahead (None ∷ q)) d D U h (Ahead q) (ahead_tail None q)) (λ s. past_cut x log q Q (subst (λ (t : Turn). Ahead q (node_of t)) (past_head x log y p P) s)) (l.does).is) a.4 b)
  merge_from (x ∷ log) (None ∷ p) (Some z ∷ q) c d C D U A B es fs P Q g h a b =
      let l = does_both world ask (Ahead (Some z ∷ q)) d D U z b.0 h (zero, z, refl, refl) b.1 in
      more_given U z (steps_of (union p q)) l.other l.does
      (merge_from log p q (with_turn z c) d C (b.0).cluster (l.other).cluster A B es b.2 (past_tail x log None p P) (past_tail x log (Some z) q Q)
      (turned_late world ask (Ahead p) c (l.does).questions C U z l.other (fewer (Ahead (None ∷ p)) c C U g (Ahead p) (ahead_tail None p)) (λ s. past_cut x log p P (subst (λ (t : Turn). Ahead p (node_of t)) (past_head x log z q Q) s)) (l.does).is)
      (fewer (Ahead (Some z ∷ q)) d (b.0).cluster (l.other).cluster l.behind (Ahead q) (ahead_tail (Some z) q)) a b.4)
  merge_from (x ∷ log) (Some y ∷ p) (Some z ∷ q) c d C D U A B es fs P Q g h a b =
      let same : z ≡ y = past_head x log z q Q ∙ sym (past_head x log y p P) in
      let l = does_both world ask (Ahead (Some y ∷ p)) c C U y a.0 g (zero, y, refl, refl) a.1 in
      let m = does_both world ask (Ahead (Some z ∷ q)) d D U z b.0 h (zero, z, refl, refl) b.1 in
      let one = does_one world ask U y m.other l.other (subst (λ (t : Turn). Does world ask U t m.other) same m.does) l.does in
      more_given U y (steps_of (union p q)) l.other l.does
      (merge_from log p q c d (a.0).cluster (b.0).cluster (l.other).cluster A B a.2 b.2 (past_tail x log (Some y) p P) (past_tail x log (Some z) q Q)
      (fewer (Ahead (Some y ∷ p)) c (a.0).cluster (l.other).cluster l.behind (Ahead p) (ahead_tail (Some y) p))
      (subst (λ (t : Turned). Behind (Ahead q) d (b.0).cluster t.cluster) one (fewer (Ahead (Some z ∷ q)) d (b.0).cluster (m.other).cluster m.behind (Ahead q) (ahead_tail (Some z) q))) a.4 b.4)

  pub merge : MergeLaw node_of (Possible world ask)
  merge log p q legal P Q =
      merge_from log p q none_taken none_taken (first_cluster world) (first_cluster world) (first_cluster world) (P.lawful_here).cluster (Q.lawful_here).cluster (P.lawful_here).entries (Q.lawful_here).entries P.past Q.past
      (level (Ahead p) (first_cluster world)) (level (Ahead q) (first_cluster world)) (P.lawful_here).ran (Q.lawful_here).ran

  pub nothing : Possible world ask []
  nothing = record { cluster = first_cluster world; entries = []; ran = (refl, refl) }
