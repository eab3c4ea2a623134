-- the oldest message of a wire is taken
use Rattle.std.proofs.Common.{◌≡◌, ◌≢◌, ◌==◌, ◌&&◌, ◌<◌, ℕ, Bool, true, false, cond, nat_lt, List, [], ◌∷◌, length, refl, sym, ap, ◌∙◌, arith}
use Rattle.std.specs.Prelude.{slice_set, slice_index_or}
use borrow.Author.Tests.{eqb-true, eqb-false}
use Rattle.std.proofs.lemmas.Bool.{ltb-true, ltb-false}
use Rattle.std.proofs.lemmas.List.{get_or-set_other, get_or_past, length-set}
use Rattle.node_state.specs.declared.Sent.{Sent}
use Rattle.cluster_state.specs.Cluster.{Cluster, with_wire}
use Rattle.cluster_core.specs.MethodShows.{ShowsArrivals}

-- the message stood at the head of the wire, and the rest of the wire is what is left
pub record HeadTaken (nodes : ℕ) (C : Cluster) (k from : ℕ) (m : Sent) (old new : List (List Sent)) : Type 0 where
  pub rest : List Sent
  pub inside : from < nodes
  pub wire : C.wires from k ≡ m ∷ rest
  pub others : (i l : ℕ) → l ≢ k → (with_wire C from k rest).wires i l ≡ C.wires i l
  pub shows : ShowsArrivals nodes (with_wire C from k rest) k new

both_false : (a b : Bool) → b ≡ false → (a && b) ≡ false
both_false true b e = e
both_false false b e = refl

own_number : (k : ℕ) → (k == k) ≡ true
own_number k = go (k == k) refl
  where
    go : (b : Bool) → (k == k) ≡ b → b ≡ true
    go true e = refl
    go false e = absurd (eqb-false k k e refl)

pub head_taken : (nodes : ℕ) (C : Cluster) (k from : ℕ) (m : Sent) (old new : List (List Sent)) → ShowsArrivals nodes C k old →
    slice_index_or old from [] ≡ m ∷ slice_index_or new from [] → new ≡ slice_set old from (slice_index_or new from []) → HeadTaken nodes C k from m old new
head_taken nodes C k from m old new a head left = record {
  rest = rest;
  inside = inside;
  wire = sym (a.wire from inside) ∙ head;
  others = λ i l ne. ap (λ (b : Bool). cond b rest (C.wires i l)) (both_false (i == from) (l == k) (other l ne));
  shows = record {
    many = ap length left ∙ length-set old from rest ∙ a.many;
    wire = λ i less. wire_if i less (i == from) refl;
  };
}
  where
    rest : List Sent
    rest = slice_index_or new from []

    other : (l : ℕ) → l ≢ k → (l == k) ≡ false
    other l ne = go (l == k) refl
      where
        go : (b : Bool) → (l == k) ≡ b → b ≡ false
        go true e = absurd (ne (eqb-true l k e))
        go false e = refl

    inside : from < nodes
    inside = go (nat_lt from (length old)) refl
      where
        go : (b : Bool) → nat_lt from (length old) ≡ b → from < nodes
        go true e = let z = ltb-true from (length old) e in let y = a.many in omega (arith, z, y)
        go false e = let gone : [] ≡ m ∷ rest = sym (get_or_past old from [] (ltb-false from (length old) e)) ∙ head in cc

    wire_if : (i : ℕ) → i < nodes → (b : Bool) → (i == from) ≡ b → slice_index_or new i [] ≡ (with_wire C from k rest).wires i k
    wire_if i less true t =
        ap (λ (j : ℕ). slice_index_or new j []) (eqb-true i from t)
        ∙ sym (ap (λ (b : Bool). cond (b && (k == k)) rest (C.wires i k)) t ∙ ap (λ (b : Bool). cond b rest (C.wires i k)) (own_number k))
    wire_if i less false t =
        ap (λ (w : List (List Sent)). slice_index_or w i []) left
        ∙ get_or-set_other old from i rest [] (eqb-false i from t)
        ∙ a.wire i less
        ∙ sym (ap (λ (b : Bool). cond (b && (k == k)) rest (C.wires i k)) t)
