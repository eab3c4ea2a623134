-- which wires have a message
use Rattle.std.proofs.Common.{◌≡◌, ◌≢◌, false, ℕ, zero, suc, ◌<◌, ◌≤◌, List, [], ◌∷◌, length, replicate, drop, refl, sym, ap, ◌∙◌, arith, get_or, Option, None, Some}
use Rattle.std.specs.Option.{is_some}
use Rattle.std.proofs.Math.Seq.{drop-cons}
use Rattle.std.proofs.lemmas.List.{drop_all, get_or-replicate, length-replicate}
use Rattle.node_state.specs.declared.Sent.{Sent}
use Rattle.cluster_core.specs.MethodArrivals.{first_heard, AllSilent}

-- wires on which nothing was put
pub none_heard : (n : ℕ) → AllSilent (replicate n [])
none_heard n k d lt = let z = length-replicate {A = List Sent} n [] in get_or-replicate n k [] d (omega (arith, lt, z))

-- where no wire has a message none is found
pub silent_none : (n : ℕ) (wires : List (List Sent)) → AllSilent wires → first_heard n wires ≡ None
silent_none n [] a = refl
silent_none n ([] ∷ wires) a = silent_none (suc n) wires (λ k d lt. a (suc k) d (omega (arith, lt)))
silent_none n ((m ∷ ms) ∷ wires) a = let e : m ∷ ms ≡ [] = a 0 [] (omega arith) in cc

-- and where none is found no wire has one
pub none_silent : (n : ℕ) (wires : List (List Sent)) → first_heard n wires ≡ None → AllSilent wires
none_silent n [] e k d lt = absurd (omega (arith, lt))
none_silent n ([] ∷ wires) e zero d lt = refl
none_silent n ([] ∷ wires) e (suc k) d lt = none_silent (suc n) wires e k d (omega (arith, lt))
none_silent n ((m ∷ ms) ∷ wires) e k d lt = cc

-- a wire without a message is passed over
pub heard_later : (wires : List (List Sent)) (i : ℕ) (d : List Sent) → i < length wires → get_or wires i d ≡ [] → first_heard (suc i) (drop (suc i) wires) ≡ first_heard i (drop i wires)
heard_later wires i d lt e = sym (ap (first_heard i) (drop-cons wires i d lt ∙ ap (λ (w : List Sent). w ∷ drop (suc i) wires) e))

some_found : (n : ℕ) (w : List Sent) (wires : List (List Sent)) → w ≢ [] → first_heard n (w ∷ wires) ≡ Some n
some_found n [] wires ne = absurd (ne refl)
some_found n (m ∷ ms) wires ne = refl

-- one with a message is found
pub heard_here : (wires : List (List Sent)) (i : ℕ) (d : List Sent) → i < length wires → get_or wires i d ≢ [] → first_heard i (drop i wires) ≡ Some i
heard_here wires i d lt ne = ap (first_heard i) (drop-cons wires i d lt) ∙ some_found i (get_or wires i d) (drop (suc i) wires) ne

pub heard_end : (wires : List (List Sent)) (i : ℕ) → length wires ≤ i → first_heard i (drop i wires) ≡ None
heard_end wires i le = ap (first_heard i) (drop_all i wires le)

pub not_some : {X : Type 0} (o : Option X) → is_some o ≡ false → o ≡ None
not_some None e = refl
not_some (Some x) e = cc
