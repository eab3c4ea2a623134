-- what a turn makes of a locked node, and the letters that it sends
use Rattle.std.proofs.Common.{◌≡◌, ⊎_elim, ◌+◌, ◌<◌, ◌≤◌, ◌==◌, ℕ, zero, suc, Bool, true, false, cond, List, [], ◌∷◌, ◌++◌, length, map, refl, sym, ap, ◌∙◌, subst, arith, Option, eq-eqb}
use mathlib.Core.Option.{some, some-injective, some-ne-none}
use lib.ListN.{get_elem?}
use Rattle.std.proofs.lemmas.List.{map-append}
use Rattle.unix_calls.specs.declared.Entry.{Entry}
use Rattle.unix_calls.specs.declared.Turn.{Turn}
use Rattle.unix_calls.specs.declared.World.{World}
use Rattle.pasts.specs.Pasts.{steps_of, Knows}
use Rattle.past_lists.specs.Own.{added, own_list}
use Rattle.past_lists.proofs.Seen.{steps_added, snoc_cases}
use Rattle.past_lists.proofs.Own.{own_added}
use Rattle.node_state.specs.declared.State.{State}
use Rattle.node_state.specs.declared.Sent.{Sent}
use Rattle.node_state.specs.Wires.{sent_off}
use Rattle.node_core.specs.Advance.{Ask, Advanced}
use Rattle.cluster_state.specs.Cluster.{Cluster, Turned, sends_to, delivered, first_cluster}
use Rattle.cluster_state.specs.Possible.{node_of, Does, Ran}
use Rattle.turn_laws.proofs.Steps.{ran_join}
use Rattle.past_laws.specs.Laws.{spread}
use Rattle.locked_laws.specs.declared.PlacedTurn.{PlacedTurn}
use Rattle.locked_laws.specs.Locked.{step_of, IsNode, IsLetter, MayTurn}
use Rattle.locked_laws.proofs.Places.{Part, spread_old, spread_new}
use Rattle.locked_laws.proofs.Counting.{flies_by_number}

-- ---- what is sent stands on its wire
-- among the messages to the same node
sent_there : (out : List Sent) (j : ℕ) (m : Sent) → get_elem? out j ≡ some m → (p : ℕ) × (get_elem? (sends_to m.to out) p ≡ some m)
sent_there [] j m e = absurd (some-ne-none m (sym e))
sent_there (x ∷ xs) zero m e = (zero, ap (λ (b : Bool). get_elem? (cond b (x ∷ sends_to m.to xs) (sends_to m.to xs)) zero) (eq-eqb x.to m.to (ap (λ (y : Sent). y.to) (some-injective x m e))) ∙ e)
sent_there (x ∷ xs) (suc j) m e = go (x.to == m.to) (sent_there xs j m e)
  where
    go : (b : Bool) → (p : ℕ) × (get_elem? (sends_to m.to xs) p ≡ some m) → (p : ℕ) × (get_elem? (cond b (x ∷ sends_to m.to xs) (sends_to m.to xs)) p ≡ some m)
    go true r = (suc r.0, r.1)
    go false r = r

-- behind other messages
there_behind : (xs ys : List Sent) (p : ℕ) (m : Sent) → get_elem? ys p ≡ some m → (q : ℕ) × (get_elem? (xs ++ ys) q ≡ some m)
there_behind [] ys p m e = (p, e)
there_behind (x ∷ xs) ys p m e = let r = there_behind xs ys p m e in (suc r.0, r.1)

node_after : (C : Cluster) (k : ℕ) (s : State) → (delivered C k s).nodes k ≡ sent_off s
node_after C k s = ap (λ (b : Bool). cond b (sent_off s) (C.nodes k)) (eq-eqb k k refl)

wire_after : (C : Cluster) (k to : ℕ) (s : State) → (delivered C k s).wires k to ≡ C.wires k to ++ sends_to to s.out
wire_after C k to s = ap (λ (b : Bool). cond b (C.wires k to ++ sends_to to s.out) (C.wires k to)) (eq-eqb k k refl)

-- ---- a turn
module _ (world : World) (ask : Ask) where
  ran_length : (C D : Cluster) (turns : List Turn) (lines : List (Option Entry)) → Ran world ask C turns D lines → length lines ≡ length turns
  ran_length C D [] lines a = ap (λ (l : List (Option Entry)). length l) a.1
  ran_length C D (x ∷ turns) lines a = let r = ran_length (a.0).cluster D turns a.2 a.4 in let h = ap (λ (l : List (Option Entry)). length l) a.3 in omega arith

  -- the turn x makes the cluster r of what the node knows, and what the node sends goes out of the cluster C
  module _ (seen : Part) (k : ℕ) (s : State) (list : List PlacedTurn) (x : Turn) (a : Advanced) (r : Turned) (is : IsNode world ask seen k s list) (whose : node_of x ≡ k) (does : Does world ask is.cluster x r) (line : r.entry ≡ a.entry)
      (C : Cluster) (inside : k < world.nodes) (turned : r.cluster ≡ delivered C k a.state) where
    abbrev lines_after : List (Option Entry)
    lines_after = is.lines ++ r.entry ∷ []

    abbrev turn_at : ℕ → PlacedTurn
    turn_at place = record { place = place; turn = x; line = a.entry }

    ran_after : Ran world ask (first_cluster world) (steps_of seen ++ x ∷ []) r.cluster lines_after
    ran_after = ran_join world ask (first_cluster world) is.cluster r.cluster (steps_of seen) (x ∷ []) is.lines (r.entry ∷ []) is.ran (r, does, [], refl, (refl, refl))

    ran_added : (place : ℕ) → length seen ≤ place → Ran world ask (first_cluster world) (steps_of (added seen place x)) r.cluster lines_after
    ran_added place le = subst (λ (turns : List Turn). Ran world ask (first_cluster world) turns r.cluster lines_after) (sym (steps_added seen place x le)) ran_after

    letters : (place : ℕ) → length seen ≤ place → (j : ℕ) (m : Sent) → get_elem? a.state.out j ≡ some m → m.to < world.nodes → IsLetter world ask (added seen place x) k m.to m.number m
    letters place le j m e there =
        let p = sent_there a.state.out j m e in
        let q = there_behind (C.wires k m.to) (sends_to m.to a.state.out) p.0 m p.1 in
        let wire = ap (λ (D : Cluster). D.wires k m.to) turned ∙ wire_after C k m.to a.state in
        record {
          cluster = r.cluster;
          lines = lines_after;
          ran = ran_added place le;
          flies = flies_by_number world ask (steps_of (added seen place x)) r.cluster lines_after k m.to q.0 m (ran_added place le) inside there (ap (λ (w : List Sent). get_elem? w q.0) wire ∙ q.1);
        }

    own_after : (place : ℕ) → length seen ≤ place → map step_of (list ++ turn_at place ∷ []) ≡ own_list node_of k 0 (added seen place x)
    own_after place le =
        let z : place ≡ 0 + place = omega arith in
        map-append step_of list (turn_at place ∷ []) ∙ (ap (λ (l : List (ℕ × Turn)). l ++ (place, x) ∷ []) is.own
        ∙ (ap (λ (n : ℕ). own_list node_of k 0 seen ++ (n, x) ∷ []) z ∙ sym (own_added node_of k 0 place seen x le whose)))

    told_after : (place : ℕ) → length seen ≤ place → (i : ℕ) (t : PlacedTurn) → get_elem? (list ++ turn_at place ∷ []) i ≡ some t → Knows (spread (added seen place x) lines_after) t.place t.line
    told_after place le i t e =
        let len = ran_length (first_cluster world) is.cluster (steps_of seen) is.lines is.ran in
        ⊎_elim (λ old. spread_old seen is.lines place t.place x r.entry t.line le len (is.told i t old))
        (λ new. subst (λ (u : PlacedTurn). Knows (spread (added seen place x) lines_after) u.place u.line) new.1
        (subst (λ (l : Option Entry). Knows (spread (added seen place x) lines_after) place l) line (spread_new seen is.lines place x r.entry le len)))
        (snoc_cases list (turn_at place) t i e)

    -- so the turn is possible after what the node knows, and this is the node after it
    pub may_turn : MayTurn world ask seen k s list x a
    may_turn = record {
      lawful = record { cluster = r.cluster; entries = lines_after; ran = ran_after };
      after = λ place le. record {
        cluster = r.cluster;
        lines = lines_after;
        ran = ran_added place le;
        state = ap (λ (D : Cluster). D.nodes k) turned ∙ node_after C k a.state;
        own = own_after place le;
        told = told_after place le;
      };
      letters = letters;
    }
