-- what a pass has of each node when it has learned a note
use Rattle.std.proofs.Common.{◌≡◌, ℕ, List, [], ◌∷◌, Option, Some, None, refl, sym, subst}
use Rattle.atomic_table.specs.Table.{Me, Step}
use Rattle.atomic_table.specs.Seated.{TableId}
use Rattle.commit_log.specs.declared.word.Knower.{Knower}
use Rattle.pasts.specs.Pasts.{union}
use Rattle.past_lists.specs.Own.{own_list}
use Rattle.past_lists.specs.Beginnings.{IsLonger}
use Rattle.past_lists.proofs.Seen.{union_left}
use Rattle.past_lists.proofs.Joining.{joined_longer, own_stays}
use Rattle.commit_log.specs.Passes.{Known, MeetIn}
use Rattle.commit_log.specs.MethodWord.{knower, IsUnited}

module _ {S : Type 0} (node_of : S → ℕ) (lawful : List S → Type 0) where
  pub learned_longer : (log : List S) (p : Known S) (heard new : List (Option S)) → MeetIn node_of lawful log p heard → new ≡ union p.seen heard → (n : ℕ) → IsLonger (own_list node_of n 0 p.seen) (own_list node_of n 0 heard) (own_list node_of n 0 new)
  learned_longer log p heard new meet is n = subst (λ (u : List (Option S)). IsLonger (own_list node_of n 0 p.seen) (own_list node_of n 0 heard) (own_list node_of n 0 u)) (sym is) (joined_longer node_of n 0 log p.seen heard meet.pass.past.past meet.note.past)

  pub learned_own : (log : List S) (p : Known S) (heard new : List (Option S)) → MeetIn node_of lawful log p heard → new ≡ union p.seen heard → own_list node_of p.node 0 new ≡ own_list node_of p.node 0 p.seen
  learned_own log p heard new meet is = subst (λ (u : List (Option S)). own_list node_of p.node 0 u ≡ own_list node_of p.node 0 p.seen) (sym is) (own_stays node_of p.node log p.seen (union p.seen heard) meet.pass.whole meet.both.past (λ j x k. union_left p.seen heard j x k))

  -- what the step tells of a pass and a note that have become one
  pub met : (st : Step (Unit {0})) (me me' : Me (Unit {0}) (List (Knower S))) (table : TableId) (k found : ℕ) (p q : List (Option S)) → me ≡ (knower (Some k) p ∷ knower None q ∷ [], []) → IsUnited node_of lawful st me found me' → (log : List S) × MeetIn node_of lawful log (record { log = table; node = k; seen = p }) q
  met st me me' table k found p q is told =
      let T : IsUnited node_of lawful st (knower (Some k) p ∷ knower None q ∷ [], []) found me' = subst (λ (m : Me (Unit {0}) (List (Knower S))). IsUnited node_of lawful st m found me') is told in
      let t = T.1 in
      (t.0, record { legal = t.1; pass = record { past = t.2; whole = t.5 k refl }; note = t.3; both = t.4 })

  -- the same of what is seen of them
  pub met_as : (p : Known S) (q : List (Option S)) (pass : Known S) (heard : List (Option S)) → p ≡ pass → q ≡ heard → (log : List S) × MeetIn node_of lawful log p q → (log : List S) × MeetIn node_of lawful log pass heard
  met_as p q pass heard a b m = (m.0, subst (λ (v : Known S). MeetIn node_of lawful m.0 v heard) a (subst (λ (h : List (Option S)). MeetIn node_of lawful m.0 p h) b m.1))
