-- several signals, one after another
use Rattle.std.proofs.Common.{◌≡◌, ◌<◌, ◌+◌, ◌++◌, ℕ, List, [], ◌∷◌, length, get_or, take, refl, ap, ◌∙◌}
use Rattle.std.proofs.lemmas.List.{take_more}
use Rattle.unix_names.specs.declared.Signal.{Signal}
use Rattle.signal_state.specs.Signals.{Signals, IsKept}
use Rattle.signal_state.specs.Sig.{generated, generated_all}
use Rattle.signal_state.proofs.Kept.{kept-generated}

pub generated_all-append : (x : Signals) (ss ts : List Signal) → generated_all x (ss ++ ts) ≡ generated_all (generated_all x ss) ts
generated_all-append x [] ts = refl
generated_all-append x (s ∷ ss) ts = generated_all-append (generated x s) ss ts

-- one signal more
pub generated_all_more : (x : Signals) (ss : List Signal) (i : ℕ) (d : Signal) → i < length ss → generated_all x (take (i + 1) ss) ≡ generated (generated_all x (take i ss)) (get_or ss i d)
generated_all_more x ss i d h = ap (generated_all x) (take_more ss i d h) ∙ generated_all-append x (take i ss) (get_or ss i d ∷ [])

pub kept-generated_all : (x : Signals) (ss : List Signal) → IsKept x → IsKept (generated_all x ss)
kept-generated_all x [] k = k
kept-generated_all x (s ∷ ss) k = kept-generated_all (generated x s) ss (kept-generated x s k)

-- what a field that no signal changes stays
pub mask-generated_all : (x : Signals) (ss : List Signal) → (generated_all x ss).mask ≡ x.mask
unfolding generated
mask-generated_all x [] = refl
mask-generated_all x (s ∷ ss) = mask-generated_all (generated x s) ss

pub ignored-generated_all : (x : Signals) (ss : List Signal) → (generated_all x ss).ignored ≡ x.ignored
unfolding generated
ignored-generated_all x [] = refl
ignored-generated_all x (s ∷ ss) = ignored-generated_all (generated x s) ss

pub caught-generated_all : (x : Signals) (ss : List Signal) → (generated_all x ss).caught ≡ x.caught
unfolding generated
caught-generated_all x [] = refl
caught-generated_all x (s ∷ ss) = caught-generated_all (generated x s) ss

pub stopped-generated_all : (x : Signals) (ss : List Signal) → (generated_all x ss).stopped ≡ x.stopped
unfolding generated
stopped-generated_all x [] = refl
stopped-generated_all x (s ∷ ss) = stopped-generated_all (generated x s) ss
