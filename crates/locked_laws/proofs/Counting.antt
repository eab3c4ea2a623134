-- what a node counts as taken of another is what its turns have taken, and a message flies with its own number
use Rattle.std.proofs.Common.{◌≡◌, ◌+◌, ◌<◌, ◌==◌, ◌&&◌, ℕ, zero, suc, Bool, true, false, cond, slice_index, slice_set, List, [], ◌∷◌, length, refl, sym, ap, ◌∙◌, subst, arith, Option, Some}
use mathlib.Core.Option.{some, some-injective, some-ne-none}
use lib.ListN.{get_elem?}
use Rattle.std.specs.Option.{option_map}
use Rattle.std.proofs.lemmas.List.{length-set, length-replicate, get_or-set_same, get_or-set_other, get_or-replicate}
use Rattle.std.proofs.lemmas.Bool.{eqb-true, eqb-false}
use Rattle.list_laws.proofs.Filters.{mapped_some}
use Rattle.unix_calls.specs.declared.Entry.{Entry}
use Rattle.unix_calls.specs.declared.Turn.{Turn}
use Rattle.unix_calls.specs.declared.Turn.TheVariants.{Go, Push, Take, Auto}
use Rattle.unix_calls.specs.declared.World.{World}
use Rattle.node_state.specs.declared.State.{State}
use Rattle.node_state.specs.declared.Sent.{Sent}
use Rattle.node_state.specs.Wires.{one_taken, sent_off}
use Rattle.node_core.specs.Advance.{Ask, Advanced}
use Rattle.cluster_state.specs.Cluster.{Cluster, Turned, turned_at, with_wire, took, turned, first_cluster}
use Rattle.cluster_state.specs.Possible.{Ran}
use Rattle.turn_laws.specs.Numbers.{AreNumbered}
use Rattle.turn_laws.specs.MethodNumbers.{one_if, takes_one}
use Rattle.turn_laws.proofs.Posting.{going_posts, pushed_posts, came_posts}
use Rattle.turn_laws.proofs.Numbering.{numbers_fit}
use Rattle.past_laws.specs.Laws.{takes, Flies}

-- one list of counts after another: as long, and at a place so much more
pub record More (before after : List ℕ) (i more : ℕ) : Type 0 where
  pub long : length after ≡ length before
  pub is : slice_index after i ≡ slice_index before i + more

no_more : (l m : List ℕ) (i : ℕ) → m ≡ l → More l m i 0
no_more l m i e = record { long = ap (λ (x : List ℕ). length x) e; is = (let h = ap (λ (x : List ℕ). slice_index x i) e in omega arith) }

-- where one more is counted from a node
one_more : (l : List ℕ) (i from : ℕ) (b : Bool) → (i == from) ≡ b → i < length l → More l (slice_set l from (slice_index l from + 1)) i (one_if b)
one_more l i from true e lt =
    let same = eqb-true i from e in
    record { long = length-set l from (slice_index l from + 1); is = subst (λ (j : ℕ). slice_index (slice_set l j (slice_index l j + 1)) i ≡ slice_index l i + 1) same (get_or-set_same l i (slice_index l i + 1) 0 lt) }
one_more l i from false e lt =
    let h = get_or-set_other l from i (slice_index l from + 1) 0 (eqb-false i from e) in
    record { long = length-set l from (slice_index l from + 1); is = omega arith }

module _ (world : World) (ask : Ask) (i k : ℕ) where
  abbrev counts_of : Cluster → List ℕ
  counts_of C = (C.nodes k).taken

  -- a turn of a node that began in the state s
  counts_turned : (C : Cluster) (j : ℕ) (s : State) (o : Option Advanced) (r : Turned) → ((a : Advanced) → o ≡ Some a → a.state.taken ≡ s.taken) → option_map (turned_at C j) o ≡ Some r → counts_of r.cluster ≡ cond (k == j) s.taken (counts_of C)
  counts_turned C j s o r stays e = let a = mapped_some (turned_at C j) o r e in ap (λ (t : Turned). counts_of t.cluster) a.2 ∙ go (k == j) (a.0).state (stays a.0 a.1)
    where
      go : (b : Bool) (t : State) → t.taken ≡ s.taken → (cond b (sent_off t) (C.nodes k)).taken ≡ cond b s.taken (counts_of C)
      go true t same = same
      go false t same = refl

  own_counts : (C : Cluster) (j : ℕ) → cond (k == j) (C.nodes j).taken (counts_of C) ≡ counts_of C
  own_counts C j = go (k == j) refl
    where
      go : (b : Bool) → (k == j) ≡ b → cond b (C.nodes j).taken (counts_of C) ≡ counts_of C
      go true e = ap (λ (n : ℕ). (C.nodes n).taken) (sym (eqb-true k j e))
      go false e = refl

  -- node j takes a message of another
  counts_took : (C : Cluster) (j from : ℕ) (b c : Bool) → (k == j) ≡ b → (i == from) ≡ c → i < length (counts_of C) → More (counts_of C) (cond b (one_taken (C.nodes j) from).taken (counts_of C)) i (one_if (c && b))
  counts_took C j from true true e g lt = subst (λ (n : ℕ). More (counts_of C) (one_taken (C.nodes n) from).taken i 1) (eqb-true k j e) (one_more (counts_of C) i from true g lt)
  counts_took C j from true false e g lt = subst (λ (n : ℕ). More (counts_of C) (one_taken (C.nodes n) from).taken i 0) (eqb-true k j e) (one_more (counts_of C) i from false g lt)
  counts_took C j from false true e g lt = no_more (counts_of C) (counts_of C) i refl
  counts_took C j from false false e g lt = no_more (counts_of C) (counts_of C) i refl

  turn_counts : (n : ℕ) (C : Cluster) (x : Turn) (r : Turned) → i < length (counts_of C) → turned world ask n C x ≡ Some r → More (counts_of C) (counts_of r.cluster) i (takes_one i k x)
  turn_counts n C (Go j) r lt e = no_more (counts_of C) (counts_of r.cluster) i (counts_turned C j (C.nodes j) _ r (λ a is. (going_posts world ask n (C.nodes j) a is).taken) e ∙ own_counts C j)
  turn_counts n C (Push j to) r lt e = no_more (counts_of C) (counts_of r.cluster) i (counts_turned C j (C.nodes j) _ r (λ a is. (pushed_posts world ask n (C.nodes j) (record { 0 = to }) a is).taken) e ∙ own_counts C j)
  turn_counts n C (Take j from) r lt e = go (C.wires from j) e
    where
      go : (w : List Sent) → took world ask n C j from w ≡ Some r → More (counts_of C) (counts_of r.cluster) i (takes_one i k (Take j from))
      go [] e = cc
      go (m ∷ ms) e =
          let now = counts_turned (with_wire C from j ms) j (one_taken (C.nodes j) from) _ r (λ a is. (came_posts world ask n (one_taken (C.nodes j) from) m.message a is).taken) e in
          subst (λ (l : List ℕ). More (counts_of C) l i (one_if ((i == from) && (k == j)))) (sym now) (counts_took C j from (k == j) (i == from) refl refl lt)
  turn_counts n C (Auto count) r lt e = cc

  run_counts : (C D : Cluster) (turns : List Turn) (lines : List (Option Entry)) → i < length (counts_of C) → Ran world ask C turns D lines → slice_index (counts_of D) i ≡ slice_index (counts_of C) i + takes i k turns
  run_counts C D [] lines lt a = let h = ap (λ (X : Cluster). slice_index (counts_of X) i) a.0 in omega arith
  run_counts C D (x ∷ turns) lines lt a =
      let t = turn_counts (a.1).questions C x a.0 lt (a.1).is in
      let long = t.long in
      let more = t.is in
      let rest = run_counts (a.0).cluster D turns a.2 (omega arith) a.4 in
      omega arith

  -- after each run a node's count of what it took from another is what its turns have taken
  pub counts_fit : (turns : List Turn) (D : Cluster) (lines : List (Option Entry)) → Ran world ask (first_cluster world) turns D lines → i < world.nodes → slice_index (D.nodes k).taken i ≡ takes i k turns
  counts_fit turns D lines a lt =
      let long : length (counts_of (first_cluster world)) ≡ world.nodes = length-replicate world.nodes 0 in
      let none : slice_index (counts_of (first_cluster world)) i ≡ 0 = get_or-replicate world.nodes i 0 0 lt in
      let run = run_counts (first_cluster world) D turns lines (omega arith) a in
      omega arith

number_at : (n : ℕ) (w : List Sent) (p : ℕ) (m : Sent) → AreNumbered n w → get_elem? w p ≡ some m → m.number ≡ p + n
number_at n [] p m a e = absurd (some-ne-none m (sym e))
number_at n (x ∷ w) zero m a e = let s = ap (λ (y : Sent). y.number) (some-injective x m e) in let h = a.0 in omega arith
number_at n (x ∷ w) (suc p) m a e = let h = number_at (suc n) w p m a.1 e in omega arith

-- a message on a wire flies with its own number
pub flies_by_number : (world : World) (ask : Ask) (turns : List Turn) (D : Cluster) (lines : List (Option Entry)) (i k p : ℕ) (m : Sent) → Ran world ask (first_cluster world) turns D lines → i < world.nodes → k < world.nodes → get_elem? (D.wires i k) p ≡ some m → Flies D turns i k m.number m
flies_by_number world ask turns D lines i k p m a in_i in_k e =
    let is = number_at (slice_index (D.nodes k).taken i) (D.wires i k) p m (numbers_fit world ask turns D lines a i k in_i in_k).numbers e in
    let counts = counts_fit world ask i k turns D lines a in_i in
    record { place = p; is_number = omega arith; there = e }
