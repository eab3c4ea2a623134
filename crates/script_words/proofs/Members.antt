-- a set is made of the signals that it has
use Rattle.std.proofs.Common.{◌≡◌, ◌==◌, ◌&&◌, ◌||◌, inl, inr, ℕ, Bool, true, false, List, [], ◌∷◌, refl, ap, ◌∙◌, arith}
use Rattle.std.specs.Prelude.{fold, filter}
use Rattle.std.proofs.lemmas.Bool.{cases_Bool, eqb-true}
use Rattle.std.proofs.lemmas.Bool.Decides.{nat_tests}
use Rattle.unix_names.specs.declared.Signal.{Signal}
use Rattle.unix_names.specs.declared.Signal.TheVariants.{Hup}
use Rattle.unix_names.specs.Signals.{number_of, all_signals}
use Rattle.unix_names.specs.Sets.{has, added, IsSignals}
use Rattle.unix_names.proofs.SignalLaws.{number_of-distinct}
use Rattle.unix_names.proofs.SetLaws.{has-added, has-none, IsSignals-none, IsSignals-added, same-signals}

-- whether a signal is among some
among : Signal → List Signal → Bool
among t [] = false
among t (s ∷ ss) = (number_of t == number_of s) || among t ss

or_assoc : (a b c : Bool) → ((a || b) || c) ≡ (a || (b || c))
or_assoc true b c = refl
or_assoc false b c = refl

has-all : (set : ℕ) (ss : List Signal) (t : Signal) → has (fold added set ss) t ≡ (has set t || among t ss)
unfolding among
has-all set [] t = elim (has set t) as (λ b. b ≡ (b || false)) [ true ↦ refl | false ↦ refl ]
has-all set (s ∷ ss) t = has-all (added set s) ss t ∙ ap (λ b. b || among t ss) (has-added set s t) ∙ or_assoc (has set t) (number_of t == number_of s) (among t ss)

among-kept : (p : Signal → Bool) (ss : List Signal) (t : Signal) → among t (filter p ss) ≡ (among t ss && p t)
unfolding among
among-kept p [] t = refl
among-kept p (s ∷ ss) t =
    let rest = among-kept p ss t in
    elim (cases_Bool (number_of t == number_of s)) [
      | inl holds ↦
          let same : t ≡ s = number_of-distinct t s (eqb-true (number_of t) (number_of s) holds) in
          let passes : p t ≡ p s = ap p same in
          elim (cases_Bool (p s)) [ inl w ↦ grind (arith, nat_tests) | inr w ↦ grind (arith, nat_tests) ]
      | inr other ↦ elim (cases_Bool (p s)) [ inl w ↦ grind (arith, nat_tests) | inr w ↦ grind (arith, nat_tests) ]
    ]

among-every : (t : Signal) → among t all_signals ≡ true
unfolding among
among-every Hup = refl
among-every _ = refl

signals-all : (set : ℕ) (ss : List Signal) → IsSignals set → IsSignals (fold added set ss)
unfolding added
signals-all set [] h = h
signals-all set (s ∷ ss) h = signals-all (added set s) ss (IsSignals-added set s h)

-- added one by one to the empty set they give it back
pub members-all : (set : ℕ) → IsSignals set → fold added 0 (filter (has set) all_signals) ≡ set
members-all set h =
    same-signals (fold added 0 (filter (has set) all_signals)) set (signals-all 0 (filter (has set) all_signals) IsSignals-none) h (λ t.
    has-all 0 (filter (has set) all_signals) t
    ∙ ap (λ b. b || among t (filter (has set) all_signals)) (has-none t)
    ∙ among-kept (has set) all_signals t
    ∙ ap (λ b. b && has set t) (among-every t))
