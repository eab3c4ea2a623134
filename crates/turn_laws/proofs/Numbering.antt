-- in each run the numbers fit the wires
use Rattle.std.proofs.Common.{◌≡◌, ◌+◌, ◌<◌, ◌==◌, ◌&&◌, ℕ, suc, Bool, true, false, cond, slice_index, slice_set, List, [], ◌∷◌, ◌++◌, length, replicate, refl, sym, ap, ◌∙◌, subst, arith, Option, Some}
use Rattle.std.specs.Option.{option_map}
use Rattle.std.proofs.lemmas.List.{length-append, length-set, length-replicate, get_or-set_same, get_or-set_other, get_or-replicate}
use Rattle.std.proofs.lemmas.Bool.{eqb-true, eqb-false}
use Rattle.list_laws.proofs.Filters.{mapped_some}
use Rattle.unix_calls.specs.declared.Entry.{Entry}
use Rattle.unix_calls.specs.declared.Turn.{Turn}
use Rattle.unix_calls.specs.declared.Turn.TheVariants.{Go, Push, Take, Auto}
use Rattle.unix_calls.specs.declared.World.{World}
use Rattle.node_state.specs.declared.State.{State}
use Rattle.node_state.specs.declared.Sent.{Sent}
use Rattle.node_core.specs.Advance.{Ask, Advanced}
use Rattle.cluster_state.specs.Cluster.{Cluster, Turned, turned_at, with_wire, took, turned, sends_to, first_cluster}
use Rattle.node_state.specs.Wires.{one_taken, sent_off}
use Rattle.cluster_state.specs.Possible.{IsInWorld, Ran}
use Rattle.turn_laws.specs.Numbers.{AreNumbered, AreExpected}
use Rattle.turn_laws.specs.MethodNumbers.{one_if, Counts, with_turn, Posts, Fit}
use Rattle.turn_laws.proofs.Posting.{numbered_append, going_posts, pushed_posts, came_posts}

-- the nodes, with this state of node k
abbrev pub with_node : ℕ → State → (ℕ → State) → ℕ → State
with_node k s N = λ j. cond (j == k) s (N j)

self : (k : ℕ) (N : ℕ → State) (j : ℕ) → N j ≡ with_node k (N k) N j
self k N j = go (j == k) refl
  where
    go : (b : Bool) → (j == k) ≡ b → N j ≡ cond b (N k) (N j)
    go true e = ap N (eqb-true j k e)
    go false e = refl

module _ (nodes : ℕ) where
  fit_same : (T : Counts) (N M : ℕ → State) (W : ℕ → ℕ → List Sent) → ((j : ℕ) → N j ≡ M j) → Fit nodes T N W → Fit nodes T M W
  fit_same T N M W e f = subst (λ (X : ℕ → State). Fit nodes T X W) (λ i j. e j i) f

  fit_counts : (T U : Counts) (N : ℕ → State) (W : ℕ → ℕ → List Sent) → ((i k : ℕ) → T i k ≡ U i k) → Fit nodes T N W → Fit nodes U N W
  fit_counts T U N W e f = subst (λ (X : Counts). Fit nodes X N W) (λ p i k. e i k p) f

  -- ---- what was posted goes to its wires
  module _ (T : Counts) (N : ℕ → State) (W : ℕ → ℕ → List Sent) (k : ℕ) (s t : State) (p : Posts s t) (f : Fit nodes T (with_node k s N) W) where
    abbrev Wires : ℕ → ℕ → List Sent
    Wires i l = cond (i == k) (W i l ++ sends_to l t.out) (W i l)

    in_s : (i l : ℕ) → l < nodes → length s.sent ≡ nodes → s.out ≡ [] → (xs : List Sent) × (sends_to l t.out ≡ xs) × AreNumbered (slice_index s.sent l) xs × (slice_index t.sent l ≡ slice_index s.sent l + length xs)
    in_s i l lt room out = let n = p.news l (omega arith) in (n.0, n.1 ∙ ap (λ (o : List Sent). sends_to l o ++ n.0) out, n.2, n.3)

    by_sent : (i l : ℕ) → l < nodes → (b : Bool) → length (cond b s (N i)).sent ≡ nodes → (cond b s (N i)).out ≡ [] → slice_index (cond b s (N i)).sent l ≡ T i l + length (W i l) →
        slice_index (cond b (sent_off t) (N i)).sent l ≡ T i l + length (cond b (W i l ++ sends_to l t.out) (W i l))
    by_sent i l lt true room out e =
        let n = in_s i l lt room out in
        let a = n.3 in
        let b = length-append (W i l) (sends_to l t.out) in
        let c = ap (λ (o : List Sent). length o) n.1 in
        omega arith
    by_sent i l lt false room out e = e

    by_numbers : (i l : ℕ) → l < nodes → (b : Bool) → length (cond b s (N i)).sent ≡ nodes → (cond b s (N i)).out ≡ [] → slice_index (cond b s (N i)).sent l ≡ T i l + length (W i l) → AreNumbered (T i l) (W i l) →
        AreNumbered (T i l) (cond b (W i l ++ sends_to l t.out) (W i l))
    by_numbers i l lt true room out e a =
        let n = in_s i l lt room out in
        numbered_append (T i l) (W i l) (sends_to l t.out) a (subst (λ (o : List Sent). AreNumbered (T i l + length (W i l)) o) (sym n.1) (subst (λ (m : ℕ). AreNumbered m n.0) e n.2))
    by_numbers i l lt false room out e a = a

    by_room : (j : ℕ) (b : Bool) → length (cond b s (N j)).sent ≡ nodes → length (cond b (sent_off t) (N j)).sent ≡ nodes
    by_room j true e = p.room ∙ e
    by_room j false e = e

    by_room_taken : (j : ℕ) (b : Bool) → length (cond b s (N j)).taken ≡ nodes → length (cond b (sent_off t) (N j)).taken ≡ nodes
    by_room_taken j true e = ap (λ (l : List ℕ). length l) p.taken ∙ e
    by_room_taken j false e = e

    by_out : (j : ℕ) (b : Bool) → (cond b s (N j)).out ≡ [] → (cond b (sent_off t) (N j)).out ≡ []
    by_out j true e = refl
    by_out j false e = e

    by_taken : (i j : ℕ) (b : Bool) → slice_index (cond b s (N j)).taken i ≡ T i j → slice_index (cond b (sent_off t) (N j)).taken i ≡ T i j
    by_taken i j true e = ap (λ (l : List ℕ). slice_index l i) p.taken ∙ e
    by_taken i j false e = e

    pub fit_delivered : Fit nodes T (with_node k (sent_off t) N) Wires
    fit_delivered = record {
      room_sent = λ j lt. by_room j (j == k) (f.room_sent j lt);
      room_taken = λ j lt. by_room_taken j (j == k) (f.room_taken j lt);
      out = λ j lt. by_out j (j == k) (f.out j lt);
      taken = λ i j a b. by_taken i j (j == k) (f.taken i j a b);
      sent = λ i l a b. by_sent i l b (i == k) (f.room_sent i a) (f.out i a) (f.sent i l a b);
      numbers = λ i l a b. by_numbers i l b (i == k) (f.room_sent i a) (f.out i a) (f.sent i l a b) (f.numbers i l a b);
    }

  -- ---- a message is taken
  module _ (T : Counts) (N : ℕ → State) (W : ℕ → ℕ → List Sent) (from k : ℕ) (m : Sent) (ms : List Sent) (in_from : from < nodes) (in_k : k < nodes) (is : W from k ≡ m ∷ ms) (f : Fit nodes T N W) where
    abbrev S : State
    S = one_taken (N k) from

    -- what is so for node k before is so after
    kept : (P : State → Type 0) (j : ℕ) → (P (N k) → P (one_taken (N k) from)) → P (N j) → P (with_node k (one_taken (N k) from) N j)
    kept P j step h = go (j == k) refl
      where
        go : (b : Bool) → (j == k) ≡ b → P (cond b (one_taken (N k) from) (N j))
        go true e = step (subst (λ (i : ℕ). P (N i)) (eqb-true j k e) h)
        go false e = h

    wire_at : (i l : ℕ) → (i == from) ≡ true → (l == k) ≡ true → W i l ≡ m ∷ ms
    wire_at i l e g = ap (λ j. W j l) (eqb-true i from e) ∙ (ap (W from) (eqb-true l k g) ∙ is)

    by_taken2 : (i l : ℕ) → i < nodes → (t u : Bool) → (i == from) ≡ t → (l == k) ≡ u → slice_index (N l).taken i ≡ T i l → length (N k).taken ≡ nodes → slice_index (cond u (one_taken (N k) from) (N l)).taken i ≡ T i l + one_if (t && u)
    by_taken2 i l lt true true e g h room =
        let a = eqb-true i from e in
        let old : slice_index (N k).taken from ≡ T i l = ap (λ j. slice_index (N j).taken from) (sym (eqb-true l k g)) ∙ (ap (slice_index (N l).taken) (sym a) ∙ h) in
        let new : slice_index (slice_set (N k).taken from (slice_index (N k).taken from + 1)) from ≡ slice_index (N k).taken from + 1 = get_or-set_same (N k).taken from (slice_index (N k).taken from + 1) 0 (omega arith) in
        ap (slice_index (slice_set (N k).taken from (slice_index (N k).taken from + 1))) a ∙ (new ∙ ap (λ (n : ℕ). n + 1) old)
    by_taken2 i l lt false true e g h room =
        let old : slice_index (N k).taken i ≡ T i l = ap (λ j. slice_index (N j).taken i) (sym (eqb-true l k g)) ∙ h in
        let new : slice_index (slice_set (N k).taken from (slice_index (N k).taken from + 1)) i ≡ slice_index (N k).taken i = get_or-set_other (N k).taken from i (slice_index (N k).taken from + 1) 0 (eqb-false i from e) in
        omega arith
    by_taken2 i l lt true false e g h room = omega arith
    by_taken2 i l lt false false e g h room = omega arith

    by_sent2 : (i l n : ℕ) (t u : Bool) → (i == from) ≡ t → (l == k) ≡ u → n ≡ T i l + length (W i l) → n ≡ (T i l + one_if (t && u)) + length (cond (t && u) ms (W i l))
    by_sent2 i l n true true e g h = let a = ap (λ (w : List Sent). length w) (wire_at i l e g) in omega arith
    by_sent2 i l n true false e g h = omega arith
    by_sent2 i l n false u e g h = omega arith

    more_zero : (i l : ℕ) → AreNumbered (T i l) (W i l) → AreNumbered (T i l + 0) (W i l)
    more_zero i l h = let z : T i l ≡ T i l + 0 = omega arith in subst (λ (n : ℕ). AreNumbered n (W i l)) z h

    by_numbers2 : (i l : ℕ) (t u : Bool) → (i == from) ≡ t → (l == k) ≡ u → AreNumbered (T i l) (W i l) → AreNumbered (T i l + one_if (t && u)) (cond (t && u) ms (W i l))
    by_numbers2 i l true true e g h = let a = subst (λ (w : List Sent). AreNumbered (T i l) w) (wire_at i l e g) h in let z : suc (T i l) ≡ T i l + 1 = omega arith in subst (λ (n : ℕ). AreNumbered n ms) z a.1
    by_numbers2 i l true false e g h = more_zero i l h
    by_numbers2 i l false u e g h = more_zero i l h

    pub fit_taken : Fit nodes (with_turn (Take k from) T) (with_node k S N) (λ i l. cond ((i == from) && (l == k)) ms (W i l))
    fit_taken = record {
      room_sent = λ j lt. kept (λ (s : State). length s.sent ≡ nodes) j (λ h. h) (f.room_sent j lt);
      room_taken = λ j lt. kept (λ (s : State). length s.taken ≡ nodes) j (λ h. length-set (N k).taken from (slice_index (N k).taken from + 1) ∙ h) (f.room_taken j lt);
      out = λ j lt. kept (λ (s : State). s.out ≡ []) j (λ h. h) (f.out j lt);
      taken = λ i l a b. by_taken2 i l a (i == from) (l == k) refl refl (f.taken i l a b) (f.room_taken k in_k);
      sent = λ i l a b. kept (λ (s : State). slice_index s.sent l ≡ (T i l + one_if ((i == from) && (l == k))) + length (cond ((i == from) && (l == k)) ms (W i l))) i (λ h. h) (by_sent2 i l (slice_index (N i).sent l) (i == from) (l == k) refl refl (f.sent i l a b));
      numbers = λ i l a b. by_numbers2 i l (i == from) (l == k) refl refl (f.numbers i l a b);
    }

-- ---- turns and runs
module _ (world : World) (ask : Ask) where
  abbrev pub Fits : Counts → Cluster → Type 0
  Fits T C = Fit world.nodes T C.nodes C.wires

  fit_turned : (T : Counts) (C : Cluster) (k : ℕ) (s : State) (o : Option Advanced) (r : Turned) → ((a : Advanced) → o ≡ Some a → Posts s a.state) → Fit world.nodes T (with_node k s C.nodes) C.wires → option_map (turned_at C k) o ≡ Some r → Fits T r.cluster
  fit_turned T C k s o r posts f e =
      let a = mapped_some (turned_at C k) o r e in
      subst (λ (t : Turned). Fits T t.cluster) (sym a.2) (fit_delivered world.nodes T C.nodes C.wires k s (a.0).state (posts a.0 a.1) f)

  here : (T : Counts) (C : Cluster) (k : ℕ) → Fits T C → Fit world.nodes T (with_node k (C.nodes k) C.nodes) C.wires
  here T C k f = fit_same world.nodes T C.nodes (with_node k (C.nodes k) C.nodes) C.wires (self k C.nodes) f

  zero_more : (T : Counts) (C : Cluster) → Fits T C → Fits (λ i k. T i k + 0) C
  zero_more T C f = fit_counts world.nodes T (λ i k. T i k + 0) C.nodes C.wires (λ i k. omega arith) f

  turned_fits : (n : ℕ) (T : Counts) (C : Cluster) (x : Turn) (r : Turned) → IsInWorld world x → Fits T C → turned world ask n C x ≡ Some r → Fits (with_turn x T) r.cluster
  turned_fits n T C (Go k) r inside f e = zero_more T r.cluster (fit_turned T C k (C.nodes k) _ r (λ a is. going_posts world ask n (C.nodes k) a is) (here T C k f) e)
  turned_fits n T C (Push k to) r inside f e = zero_more T r.cluster (fit_turned T C k (C.nodes k) _ r (λ a is. pushed_posts world ask n (C.nodes k) (record { 0 = to }) a is) (here T C k f) e)
  turned_fits n T C (Take k from) r inside f e = go (C.wires from k) refl e
    where
      go : (w : List Sent) → C.wires from k ≡ w → took world ask n C k from w ≡ Some r → Fits (with_turn (Take k from) T) r.cluster
      go [] is e = cc
      go (m ∷ ms) is e = fit_turned (with_turn (Take k from) T) (with_wire C from k ms) k (one_taken (C.nodes k) from) _ r (λ a got. came_posts world ask n (one_taken (C.nodes k) from) m.message a got)
          (fit_taken world.nodes T C.nodes C.wires from k m ms inside.1 inside.0 is f) e
  turned_fits n T C (Auto count) r inside f e = absurd inside

  ran_fits : (T : Counts) (C D : Cluster) (xs : List Turn) (es : List (Option Entry)) → Fits T C → Ran world ask C xs D es → (U : Counts) × Fits U D
  ran_fits T C D [] es f a = (T, subst (λ (X : Cluster). Fits T X) (sym a.0) f)
  ran_fits T C D (x ∷ xs) es f a = ran_fits (with_turn x T) (a.0).cluster D xs a.2 (turned_fits (a.1).questions T C x a.0 (a.1).inside f (a.1).is) a.4

  zeros : (i : ℕ) → i < world.nodes → slice_index (replicate world.nodes 0) i ≡ 0
  zeros i lt = get_or-replicate world.nodes i 0 0 lt

  first_fits : Fits (λ i k. 0) (first_cluster world)
  first_fits = record {
    room_sent = λ j lt. length-replicate world.nodes 0;
    room_taken = λ j lt. length-replicate world.nodes 0;
    out = λ j lt. refl;
    taken = λ i k a b. zeros i a;
    sent = λ i k a b. zeros k b;
    numbers = λ i k a b. tt;
  }

  -- after each run the messages on the wires have the numbers that their takers expect
  pub numbers_fit : (turns : List Turn) (D : Cluster) (es : List (Option Entry)) → Ran world ask (first_cluster world) turns D es → (from k : ℕ) → from < world.nodes → k < world.nodes → AreExpected D from k
  numbers_fit turns D es a from k in_from in_k =
      let f = ran_fits (λ i k. 0) (first_cluster world) D turns es first_fits a in
      let t = (f.1).taken from k in_from in_k in
      let rt = (f.1).room_taken k in_k in
      let rs = (f.1).room_sent from in_from in
      record { numbers = subst (λ (n : ℕ). AreNumbered n (D.wires from k)) (sym t) ((f.1).numbers from k in_from in_k); counts_taken = omega (arith, rt, in_from); counts_sent = omega (arith, rs, in_k) }

  -- ---- nothing waits to be sent
  out_turned : (C : Cluster) (k : ℕ) (o : Option Advanced) (r : Turned) → ((j : ℕ) → (C.nodes j).out ≡ []) → option_map (turned_at C k) o ≡ Some r → (j : ℕ) → ((r.cluster).nodes j).out ≡ []
  out_turned C k o r out e j =
      let a = mapped_some (turned_at C k) o r e in
      subst (λ (t : Turned). ((t.cluster).nodes j).out ≡ []) (sym a.2) (go (j == k) (a.0).state)
    where
      go : (b : Bool) (s : State) → (cond b (sent_off s) (C.nodes j)).out ≡ []
      go true s = refl
      go false s = out j

  out_does : (n : ℕ) (C : Cluster) (x : Turn) (r : Turned) → ((j : ℕ) → (C.nodes j).out ≡ []) → turned world ask n C x ≡ Some r → (j : ℕ) → ((r.cluster).nodes j).out ≡ []
  out_does n C (Go k) r out e = out_turned C k _ r out e
  out_does n C (Push k to) r out e = out_turned C k _ r out e
  out_does n C (Take k from) r out e = go (C.wires from k) e
    where
      go : (w : List Sent) → took world ask n C k from w ≡ Some r → (j : ℕ) → ((r.cluster).nodes j).out ≡ []
      go [] e = cc
      go (m ∷ ms) e = out_turned (with_wire C from k ms) k _ r out e
  out_does n C (Auto count) r out e = cc

  out_ran : (C D : Cluster) (xs : List Turn) (es : List (Option Entry)) → ((j : ℕ) → (C.nodes j).out ≡ []) → Ran world ask C xs D es → (j : ℕ) → (D.nodes j).out ≡ []
  out_ran C D [] es out a j = ap (λ (X : Cluster). (X.nodes j).out) a.0 ∙ out j
  out_ran C D (x ∷ xs) es out a j = out_ran (a.0).cluster D xs a.2 (out_does (a.1).questions C x a.0 out (a.1).is) a.4 j

  pub sends_all : (turns : List Turn) (D : Cluster) (es : List (Option Entry)) → Ran world ask (first_cluster world) turns D es → (j : ℕ) → (D.nodes j).out ≡ []
  sends_all turns D es a = out_ran (first_cluster world) D turns es (λ j. refl) a
