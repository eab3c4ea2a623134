-- a cluster that is behind another stays so: a turn in both, and a turn in the other alone
use Rattle.std.proofs.Common.{◌≡◌, ◌+◌, ◌==◌, ◌&&◌, ℕ, Bool, true, false, cond, List, [], ◌∷◌, ◌++◌, length, refl, sym, ap, ◌∙◌, subst, arith, Option, Some, append_assoc, append-nil}
use Rattle.std.specs.Option.{option_map}
use Rattle.std.proofs.lemmas.List.{length-append}
use Rattle.std.proofs.lemmas.Bool.{eqb-true}
use Rattle.unix_calls.specs.declared.Turn.{Turn}
use Rattle.unix_calls.specs.declared.Turn.TheVariants.{Go, Push, Take, Auto}
use Rattle.unix_calls.specs.declared.World.{World}
use Rattle.list_laws.proofs.Filters.{mapped_some}
use Rattle.node_state.specs.declared.State.{State}
use Rattle.node_state.specs.declared.Sent.{Sent}
use Rattle.node_state.specs.Wires.{one_taken}
use Rattle.node_core.specs.Advance.{Ask, Advanced}
use Rattle.node_core.specs.Turns.{led, going, pushed, came}
use Rattle.cluster_state.specs.Cluster.{Cluster, Turned, with_wire, sends_to, delivered, turned_at, took, turned}
use Rattle.cluster_state.specs.Possible.{node_of, Does}
use Rattle.turn_laws.specs.MethodNumbers.{one_if, Counts, with_turn}
use Rattle.past_laws.specs.MethodBehind.{Outrun, Behind}

-- ---- a cluster that is ahead stays so
tail_same : (x y : Sent) (xs ys : List Sent) → x ∷ xs ≡ y ∷ ys → xs ≡ ys
tail_same x y xs ys e = cc

module _ (K : ℕ → Type 0) where
  abbrev Wire : ℕ → ℕ → ℕ → List Sent → List Sent → Type 0
  Wire i k d v w = Outrun K i k d v w

  -- both get more of the same
  grow_both : (i k d : ℕ) (v w xs : List Sent) → K i → Wire i k d v w → Wire i k d (v ++ xs) (w ++ xs)
  grow_both i k d v w xs in_i o = record {
    gone = o.gone;
    new = [];
    is = append-nil (v ++ xs) ∙ (ap (λ (l : List Sent). l ++ xs) (sym (append-nil v) ∙ (ap (λ (l : List Sent). v ++ l) (sym (o.none_new in_i)) ∙ o.is)) ∙ append_assoc o.gone w xs);
    many = o.many;
    none_gone = o.none_gone;
    none_new = λ h. refl;
  }

  -- the second gets more
  grow_late : (i k d : ℕ) (v w xs : List Sent) → (K i → ⊥) → Wire i k d v w → Wire i k d v (w ++ xs)
  grow_late i k d v w xs not o = record {
    gone = o.gone;
    new = o.new ++ xs;
    is = sym (append_assoc v o.new xs) ∙ (ap (λ (l : List Sent). l ++ xs) o.is ∙ append_assoc o.gone w xs);
    many = o.many;
    none_gone = o.none_gone;
    none_new = λ h. absurd (not h);
  }

  -- the second gives one away
  lose_late : (i k d : ℕ) (v w : List Sent) (m : Sent) → (K k → ⊥) → Wire i k d v (m ∷ w) → Wire i k (d + 1) v w
  lose_late i k d v w m not o = record {
    gone = o.gone ++ m ∷ [];
    new = o.new;
    is = o.is ∙ sym (append_assoc o.gone (m ∷ []) w);
    many = length-append o.gone (m ∷ []) ∙ ap (λ (n : ℕ). n + 1) o.many;
    none_gone = λ h. absurd (not h);
    none_new = o.none_new;
  }

  -- both give one away, which is the same
  same_first : (i k d : ℕ) (v w : List Sent) (m n : Sent) → K k → Wire i k d (m ∷ v) (n ∷ w) → m ≡ n
  same_first i k d v w m n in_k o = let e : m ∷ (v ++ o.new) ≡ n ∷ w = o.is ∙ ap (λ (l : List Sent). l ++ n ∷ w) (o.none_gone in_k) in cc e

  is_there : (i k d : ℕ) (v : List Sent) (m : Sent) → K k → Wire i k d (m ∷ v) [] → ⊥
  is_there i k d v m in_k o = let e : m ∷ (v ++ o.new) ≡ [] = o.is ∙ ap (λ (l : List Sent). l ++ []) (o.none_gone in_k) in cc e

  lose_both : (i k d : ℕ) (v w : List Sent) (m n : Sent) → K k → Wire i k d (m ∷ v) (n ∷ w) → Wire i k d v w
  lose_both i k d v w m n in_k o = record {
    gone = [];
    new = o.new;
    is = tail_same m n (v ++ o.new) w (o.is ∙ ap (λ (l : List Sent). l ++ n ∷ w) (o.none_gone in_k));
    many = ap (λ (l : List Sent). length l) (sym (o.none_gone in_k)) ∙ o.many;
    none_gone = λ h. refl;
    none_new = o.none_new;
  }

module _ (K : ℕ → Type 0) (d : Counts) (A B : Cluster) (behind : Behind K d A B) where
  pub fewer : (J : ℕ → Type 0) → ((k : ℕ) → J k → K k) → Behind J d A B
  fewer J sub = record { nodes = λ k j. behind.nodes k (sub k j); wires = λ i k. on (behind.wires i k) }
    where
      on : {i k n : ℕ} {v w : List Sent} → Outrun K i k n v w → Outrun J i k n v w
      on {i} {k} o = record { gone = o.gone; new = o.new; is = o.is; many = o.many; none_gone = λ h. o.none_gone (sub k h); none_new = λ h. o.none_new (sub i h) }

  pub both_deliver : (k : ℕ) (s : State) → K k → Behind K d (delivered A k s) (delivered B k s)
  both_deliver k s in_k = record { nodes = λ j h. by_node j h (j == k); wires = λ i j. by_wire i j (i == k) refl }
    where
      by_node : (j : ℕ) → K j → (b : Bool) → cond b (record s { out = [] }) (A.nodes j) ≡ cond b (record s { out = [] }) (B.nodes j)
      by_node j h true = refl
      by_node j h false = behind.nodes j h

      by_wire : (i j : ℕ) (b : Bool) → (i == k) ≡ b → Outrun K i j (d i j) (cond b (A.wires i j ++ sends_to j s.out) (A.wires i j)) (cond b (B.wires i j ++ sends_to j s.out) (B.wires i j))
      by_wire i j true e = grow_both K i j (d i j) (A.wires i j) (B.wires i j) (sends_to j s.out) (subst K (sym (eqb-true _ _ e)) in_k) (behind.wires i j)
      by_wire i j false e = behind.wires i j

  pub late_deliver : (k : ℕ) (s : State) → (K k → ⊥) → Behind K d A (delivered B k s)
  late_deliver k s not = record { nodes = λ j h. by_node j h (j == k) refl; wires = λ i j. by_wire i j (i == k) refl }
    where
      by_node : (j : ℕ) → K j → (b : Bool) → (j == k) ≡ b → A.nodes j ≡ cond b (record s { out = [] }) (B.nodes j)
      by_node j h true e = absurd (not (subst K (eqb-true _ _ e) h))
      by_node j h false e = behind.nodes j h

      by_wire : (i j : ℕ) (b : Bool) → (i == k) ≡ b → Outrun K i j (d i j) (A.wires i j) (cond b (B.wires i j ++ sends_to j s.out) (B.wires i j))
      by_wire i j true e = grow_late K i j (d i j) (A.wires i j) (B.wires i j) (sends_to j s.out) (λ h. not (subst K (eqb-true _ _ e) h)) (behind.wires i j)
      by_wire i j false e = behind.wires i j

  one_more : (i l : ℕ) → Outrun K i l (d i l + 0) (A.wires i l) (B.wires i l)
  one_more i l = let z : d i l ≡ d i l + 0 = omega arith in subst (λ (n : ℕ). Outrun K i l n (A.wires i l) (B.wires i l)) z (behind.wires i l)

  -- nothing was taken
  pub untaken : Behind K (λ i l. d i l + 0) A B
  untaken = record { nodes = behind.nodes; wires = one_more }

  at_wire : (C : Cluster) (i l from k : ℕ) → (i == from) ≡ true → (l == k) ≡ true → C.wires i l ≡ C.wires from k
  at_wire C i l from k e f = ap (λ j. C.wires j l) (eqb-true _ _ e) ∙ ap (C.wires from) (eqb-true _ _ f)

  pub both_take : (from k : ℕ) (m n : Sent) (ms ns : List Sent) → K k → A.wires from k ≡ m ∷ ms → B.wires from k ≡ n ∷ ns → Behind K d (with_wire A from k ms) (with_wire B from k ns)
  both_take from k m n ms ns in_k a b = record { nodes = behind.nodes; wires = λ i l. by_wire i l (i == from) (l == k) refl refl }
    where
      by_wire : (i l : ℕ) (t u : Bool) → (i == from) ≡ t → (l == k) ≡ u → Outrun K i l (d i l) (cond (t && u) ms (A.wires i l)) (cond (t && u) ns (B.wires i l))
      by_wire i l true true e f = lose_both K i l (d i l) ms ns m n (subst K (sym (eqb-true _ _ f)) in_k)
          (subst (λ (v : List Sent). Outrun K i l (d i l) v (n ∷ ns)) (at_wire A i l from k e f ∙ a) (subst (λ (w : List Sent). Outrun K i l (d i l) (A.wires i l) w) (at_wire B i l from k e f ∙ b) (behind.wires i l)))
      by_wire i l true false e f = behind.wires i l
      by_wire i l false u e f = behind.wires i l

  pub late_take : (from k : ℕ) (n : Sent) (ns : List Sent) → (K k → ⊥) → B.wires from k ≡ n ∷ ns → Behind K (with_turn (Take k from) d) A (with_wire B from k ns)
  late_take from k n ns not b = record { nodes = behind.nodes; wires = λ i l. by_wire i l (i == from) (l == k) refl refl }
    where
      by_wire : (i l : ℕ) (t u : Bool) → (i == from) ≡ t → (l == k) ≡ u → Outrun K i l (d i l + one_if (t && u)) (A.wires i l) (cond (t && u) ns (B.wires i l))
      by_wire i l true true e f = lose_late K i l (d i l) (A.wires i l) ns n (λ h. not (subst K (eqb-true _ _ f) h))
          (subst (λ (w : List Sent). Outrun K i l (d i l) (A.wires i l) w) (at_wire B i l from k e f ∙ b) (behind.wires i l))
      by_wire i l true false e f = one_more i l
      by_wire i l false u e f = one_more i l

-- ---- a turn in both clusters, and in the second alone
module _ (world : World) (ask : Ask) (K : ℕ → Type 0) (d : Counts) where
  -- the same turn in the second cluster
  pub record Likewise (A B : Cluster) (x : Turn) (r : Turned) : Type 0 where
    pub other : Turned
    pub does : Does world ask B x other
    pub entry : other.entry ≡ r.entry
    pub behind : Behind K d r.cluster other.cluster

  in_both : (A' B' : Cluster) (k : ℕ) (f g : Option Advanced) (r : Turned) → Behind K d A' B' → K k → f ≡ g → option_map (turned_at A' k) f ≡ Some r → (t : Turned) × (option_map (turned_at B' k) g ≡ Some t) × (t.entry ≡ r.entry) × Behind K d r.cluster t.cluster
  in_both A' B' k f g r behind in_k same e =
      let a = mapped_some (turned_at A' k) f r e in
      (turned_at B' k a.0, ap (option_map (turned_at B' k)) (sym same ∙ a.1), ap (λ (t : Turned). t.entry) (sym a.2), subst (λ (t : Turned). Behind K d t.cluster (delivered B' k (a.0).state)) (sym a.2) (both_deliver K d A' B' behind k (a.0).state in_k))

  pub turned_both : (n : ℕ) (A B : Cluster) (x : Turn) (r : Turned) → Behind K d A B → K (node_of x) → turned world ask n A x ≡ Some r → (t : Turned) × (turned world ask n B x ≡ Some t) × (t.entry ≡ r.entry) × Behind K d r.cluster t.cluster
  turned_both n A B (Go k) r behind in_k e = in_both A B k _ _ r behind in_k (ap (λ (s : State). led world ask n (going world s)) (behind.nodes k in_k)) e
  turned_both n A B (Push k to) r behind in_k e = in_both A B k _ _ r behind in_k (ap (λ (s : State). led world ask n (pushed s (record { 0 = to }))) (behind.nodes k in_k)) e
  turned_both n A B (Take k from) r behind in_k e = go (A.wires from k) (B.wires from k) refl refl (behind.wires from k) e
    where
      go : (v w : List Sent) → A.wires from k ≡ v → B.wires from k ≡ w → Outrun K from k (d from k) v w → took world ask n A k from v ≡ Some r → (t : Turned) × (took world ask n B k from w ≡ Some t) × (t.entry ≡ r.entry) × Behind K d r.cluster t.cluster
      go [] w a b o e = cc
      go (m ∷ ms) [] a b o e = absurd (is_there K from k (d from k) ms m in_k o)
      go (m ∷ ms) (m' ∷ ns) a b o e =
          in_both (with_wire A from k ms) (with_wire B from k ns) k _ _ r (both_take K d A B behind from k m m' ms ns in_k a b) in_k
          (ap (λ (h : Sent). came world ask n (one_taken (A.nodes k) from) h.message) (same_first K from k (d from k) ms ns m m' in_k o) ∙ ap (λ s. came world ask n (one_taken s from) m'.message) (behind.nodes k in_k)) e
  turned_both n A B (Auto count) r behind in_k e = cc

  pub does_both : (A B : Cluster) (x : Turn) (r : Turned) → Behind K d A B → K (node_of x) → Does world ask A x r → Likewise A B x r
  does_both A B x r behind in_k does =
      let t = turned_both does.questions A B x r behind in_k does.is in
      record { other = t.0; does = record { inside = does.inside; questions = does.questions; is = t.1 }; entry = t.2; behind = t.3 }

in_late : (K : ℕ → Type 0) (d : Counts) (A B : Cluster) (k : ℕ) (f : Option Advanced) (r : Turned) → Behind K d A B → (K k → ⊥) → option_map (turned_at B k) f ≡ Some r → Behind K d A r.cluster
in_late K d A B k f r behind not e =
    let a = mapped_some (turned_at B k) f r e in
    subst (λ (t : Turned). Behind K d A t.cluster) (sym a.2) (late_deliver K d A B behind k (a.0).state not)

module _ (world : World) (ask : Ask) (K : ℕ → Type 0) (d : Counts) where
  pub turned_late : (n : ℕ) (A B : Cluster) (x : Turn) (r : Turned) → Behind K d A B → (K (node_of x) → ⊥) → turned world ask n B x ≡ Some r → Behind K (with_turn x d) A r.cluster
  turned_late n A B (Go k) r behind not e = in_late K _ A B k _ r (untaken K d A B behind) not e
  turned_late n A B (Push k to) r behind not e = in_late K _ A B k _ r (untaken K d A B behind) not e
  turned_late n A B (Take k from) r behind not e = go (B.wires from k) refl e
    where
      go : (w : List Sent) → B.wires from k ≡ w → took world ask n B k from w ≡ Some r → Behind K (with_turn (Take k from) d) A r.cluster
      go [] is e = cc
      go (m ∷ ms) is e = in_late K _ A (with_wire B from k ms) k _ r (late_take K d A B behind from k m ms not is) not e
  turned_late n A B (Auto count) r behind not e = cc
