-- the lists of all nodes, put together by place
use Rattle.std.proofs.Common.{◌≡◌, ◌+◌, ◌<◌, ◌==◌, ℕ, zero, suc, Bool, true, false, List, [], ◌∷◌, length, map, refl, sym, ap, ◌∙◌, subst, arith, Option}
use mathlib.Core.Option.{some, some-injective, some-ne-none}
use lib.ListN.{get_elem?}
use Rattle.unix_calls.specs.declared.Entry.{Entry}
use Rattle.unix_calls.specs.declared.Turn.{Turn}
use Rattle.unix_calls.specs.declared.World.{World}
use Rattle.pasts.specs.Pasts.{Stands}
use Rattle.past_lists.specs.Own.{pick, own_of}
use Rattle.node_core.specs.Advance.{Ask}
use Rattle.cluster_state.specs.Cluster.{Cluster, first_cluster}
use Rattle.cluster_state.specs.Possible.{node_of, Ran}
use Rattle.locked_laws.specs.declared.PlacedTurn.{PlacedTurn}
use Rattle.locked_laws.specs.Locked.{step_of}
use Rattle.locked_laws.specs.Merged.{IsListed, AreMerged, MergedAreRight}
use Rattle.locked_laws.proofs.Locked.{node_ends}

-- two lists with the same at each place
same_list : {A : Type 0} (xs ys : List A) → length xs ≡ length ys → ((j : ℕ) → j < length ys → (x : A) × (get_elem? xs j ≡ some x) × (get_elem? ys j ≡ some x)) → xs ≡ ys
same_list [] [] e h = refl
same_list [] (y ∷ ys) e h = absurd (omega arith)
same_list (x ∷ xs) [] e h = absurd (omega arith)
same_list {A} (x ∷ xs) (y ∷ ys) e h =
    let a = h zero (omega arith) in
    let head : x ≡ y = some-injective x y (a.1 ∙ sym a.2) in
    ap (λ (z : A). z ∷ xs) head ∙ ap (λ (l : List A). y ∷ l) (same_list xs ys (omega arith) (λ j lt. h (suc j) (omega arith)))

step_at : (list : List PlacedTurn) (i : ℕ) (t : PlacedTurn) → get_elem? list i ≡ some t → get_elem? (map step_of list) i ≡ some (step_of t)
step_at [] i t e = absurd (some-ne-none t (sym e))
step_at (x ∷ list) zero t e = ap (λ (u : PlacedTurn). some (step_of u)) (some-injective x t e)
step_at (x ∷ list) (suc i) t e = step_at list i t e

-- what a node's list puts at a place stands there in the whole list
own_stands : (n i : ℕ) (log : List Turn) (q : ℕ) (e : ℕ × Turn) → get_elem? (own_of node_of n i log) q ≡ some e → (d : ℕ) × (e.0 ≡ i + d) × Stands log d e.1
own_stands n i [] q e is = absurd (some-ne-none e (sym is))
own_stands n i (y ∷ log) q e is = go (node_of y == n) q (λ r h. own_stands n (suc i) log r e h) is
  where
    next : ((d : ℕ) × (e.0 ≡ suc i + d) × Stands log d e.1) → (d : ℕ) × (e.0 ≡ i + d) × Stands (y ∷ log) d e.1
    next r = let h = r.1 in (suc r.0, omega arith, r.2)

    go : (b : Bool) (q : ℕ) → ((r : ℕ) → get_elem? (own_of node_of n (suc i) log) r ≡ some e → (d : ℕ) × (e.0 ≡ suc i + d) × Stands log d e.1) → get_elem? (pick b (i, y) (own_of node_of n (suc i) log)) q ≡ some e → (d : ℕ) × (e.0 ≡ i + d) × Stands (y ∷ log) d e.1
    go true zero rest is = let s : (i, y) ≡ e = some-injective (i, y) e is in (zero, (let h = ap (λ (p : ℕ × Turn). p.0) s in omega arith), ap (λ (p : ℕ × Turn). some p.1) s)
    go true (suc q) rest is = next (rest q is)
    go false q rest is = next (rest q is)

module _ (world : World) (ask : Ask) (log : List Turn) (C : Cluster) (lines : List (Option Entry)) (ran : Ran world ask (first_cluster world) log C lines) where
  pub listed_stands : (t : PlacedTurn) → IsListed world ask log t → Stands log t.place t.turn
  listed_stands t l =
      let ends = node_ends world ask log l.seen l.node l.state l.list C lines l.past l.all ran l.is in
      let own = own_stands l.node 0 log l.index (step_of t) (ap (λ (steps : List (ℕ × Turn)). get_elem? steps l.index) (sym ends.1) ∙ step_at l.list l.index t l.there) in
      let at : t.place ≡ own.0 = (let h = own.1 in omega arith) in
      subst (λ (j : ℕ). Stands log j t.turn) (sym at) own.2

  pub merged : (turns : List Turn) → AreMerged world ask log turns → turns ≡ log
  merged turns a = same_list turns log a.many (λ j lt. let e = a.each j lt in (e.0.turn, e.3, subst (λ (i : ℕ). Stands log i e.0.turn) e.2 (listed_stands e.0 e.1)))

pub merged_are_right : MergedAreRight
merged_are_right = λ world ask log turns C lines ran a. merged world ask log C lines ran turns a
