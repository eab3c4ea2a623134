-- numbers and words tell signals apart, and the first of those in order is the least
use Rattle.std.proofs.Common.{inl, inr, ◌≡◌, ◌≢◌, ◌↔◌, ◌==◌, ◌&&◌, ◌||◌, ◌≤◌, nat_le, ℕ, Bool, true, false, cond, List, [], ◌∷◌, Some, None, refl, sym, ◌∙◌, ap, arith}
use Rattle.std.specs.Prelude.{find, IsNone}
use Rattle.std.proofs.lemmas.Bool.{cases_eq}
use Rattle.std.proofs.lemmas.Bool.Decides.{nat_tests}
use Rattle.std.specs.Str.{bytes_eq}
use Rattle.std.specs.Cmp.Lexicographic.{same_text}
use Rattle.unix_names.specs.Signals.{number_of, word_of, all_signals, signal_of, signal_named}
use Rattle.unix_names.specs.declared.signals.Signal.{Signal}
use Rattle.unix_names.specs.declared.signals.Signal.TheVariants.{Hup}

-- what a search finds passes its test
pub find-passes : {X : Type 0} (p : X → Bool) (xs : List X) (x : X) → find p xs ≡ Some x → p x ≡ true
find-passes p [] x e = absurd (cc)
find-passes {X} p (y ∷ ys) x e =
    elim (p y) as (λ b. p y ≡ b → cond b (Some y) (find p ys) ≡ Some x → p x ≡ true) [
      | true ↦ λ w q. let same : y ≡ x = cc in rw same at w
      | false ↦ λ w q. find-passes p ys x q
    ] refl e

-- the signal of a signal's number is that signal
pub signal_of-number_of : (s : Signal) → signal_of (number_of s) ≡ Some s
unfolding signal_of
signal_of-number_of Hup = refl
signal_of-number_of _ = refl

-- a number's signal has that number
pub number_of-signal_of : (n : ℕ) (s : Signal) → signal_of n ≡ Some s → number_of s ≡ n
unfolding signal_of
number_of-signal_of n s e = let passes = find-passes (λ t. number_of t == n) all_signals s e in grind (arith, nat_tests)

-- no two signals have one number
pub number_of-distinct : (s t : Signal) → number_of s ≡ number_of t → s ≡ t
number_of-distinct s t e =
    let same : Some s ≡ Some t = sym (signal_of-number_of s) ∙ ap signal_of e ∙ signal_of-number_of t in
    cc

-- the signal of a number, told by the number
pub signal_of-is : (n : ℕ) (s : Signal) → (signal_of n ≡ Some s) ↔ (number_of s ≡ n)
signal_of-is n s = (number_of-signal_of n s, λ e. rw (← e) (signal_of-number_of s))

-- a number that no signal has
pub signal_of-none : (n : ℕ) → IsNone (signal_of n) ↔ ((s : Signal) → number_of s ≢ n)
signal_of-none n = (
  (λ none s e. let some = (signal_of-is n s).1 e in let other = rw some at none in absurd (cc)),
  (λ other. elim (signal_of n) as (λ o. signal_of n ≡ o → IsNone o) [
    | None ↦ λ w. refl
    | Some s ↦ λ w. absurd (other s (number_of-signal_of n s w))
  ] refl),
)

-- the signal of a signal's word is that signal
pub signal_named-word_of : (s : Signal) → signal_named (word_of s) ≡ Some s
unfolding signal_named
signal_named-word_of Hup = refl
signal_named-word_of _ = refl

-- a word's signal has that word
pub word_of-signal_named : (word : List ℕ) (s : Signal) → signal_named word ≡ Some s → word_of s ≡ word
unfolding signal_named
word_of-signal_named word s e = same_text (word_of s) word (sym (find-passes (λ t. bytes_eq (word_of t) word) all_signals s e))

-- the signal of a word, told by the word
pub signal_named-is : (word : List ℕ) (s : Signal) → (signal_named word ≡ Some s) ↔ (word_of s ≡ word)
signal_named-is word s = (word_of-signal_named word s, λ e. rw (← e) (signal_named-word_of s))

-- a word that no signal has
pub signal_named-none : (word : List ℕ) → IsNone (signal_named word) ↔ ((s : Signal) → word_of s ≢ word)
signal_named-none word = (
  (λ none s e. let some = (signal_named-is word s).1 e in let other = rw some at none in absurd (cc)),
  (λ other. elim (signal_named word) as (λ o. signal_named word ≡ o → IsNone o) [
    | None ↦ λ w. refl
    | Some s ↦ λ w. absurd (other s (word_of-signal_named word s w))
  ] refl),
)

-- no two signals have one word
pub word_of-distinct : (s t : Signal) → word_of s ≡ word_of t → s ≡ t
word_of-distinct s t e =
    let same : Some s ≡ Some t = sym (signal_named-word_of s) ∙ ap signal_named e ∙ signal_named-word_of t in
    cc

-- ---- the first of signals in order of number is the least
-- whether a number is at most that of each signal
at_most_all : ℕ → List Signal → Bool
at_most_all n [] = true
at_most_all n (s ∷ ss) = nat_le n (number_of s) && at_most_all n ss

-- whether the signals stand in order of number
pub rising : List Signal → Bool
rising [] = true
rising (s ∷ ss) = at_most_all (number_of s) ss && rising ss

-- whether a signal is listed
pub listed : Signal → List Signal → Bool
listed t [] = false
listed t (s ∷ ss) = (number_of s == number_of t) || listed t ss

at_most-listed : (n : ℕ) (ss : List Signal) (t : Signal) → at_most_all n ss ≡ true → listed t ss ≡ true → n ≤ number_of t
unfolding at_most_all listed
at_most-listed n [] t below in_list = absurd (cc)
at_most-listed n (s ∷ ss) t below in_list =
    let rest = at_most-listed n ss t in
    let first : n ≤ number_of s = grind (arith, nat_tests) in
    elim (cases_eq (number_of s) (number_of t)) [
      | inl e ↦ omega arith
      | inr ne ↦ rest (grind (arith, nat_tests)) (grind (arith, nat_tests))
    ]

-- the first signal whose number passes a test has no greater number than any listed one that passes
pub first-least : (q : ℕ → Bool) (ss : List Signal) → rising ss ≡ true → (s : Signal) → find (λ s. q (number_of s)) ss ≡ Some s
    → (t : Signal) → listed t ss ≡ true → q (number_of t) ≡ true → number_of s ≤ number_of t
unfolding rising listed
first-least q [] up s e t in_list passes = absurd (cc)
first-least q (x ∷ ss) up s e t in_list passes =
    let below : at_most_all (number_of x) ss ≡ true = grind (arith, nat_tests) in
    let rest : rising ss ≡ true = grind (arith, nat_tests) in
    elim (q (number_of x)) as (λ b. q (number_of x) ≡ b → cond b (Some x) (find (λ s. q (number_of s)) ss) ≡ Some s → number_of s ≤ number_of t) [
      | true ↦ λ w f.
          let same : x ≡ s = cc in
          elim (cases_eq (number_of x) (number_of t)) [
            | inl h ↦ rw (← same) (omega arith)
            | inr ne ↦ rw (← same) (at_most-listed (number_of x) ss t below (grind (arith, nat_tests)))
          ]
      | false ↦ λ w f.
          elim (cases_eq (number_of x) (number_of t)) [
            | inl h ↦ let other : q (number_of t) ≡ false = rw (← h) w in absurd (cc)
            | inr ne ↦ first-least q ss rest s f t (grind (arith, nat_tests)) passes
          ]
    ] refl e

-- where none is found, no listed one passes
pub none-passes : (q : ℕ → Bool) (ss : List Signal) → find (λ s. q (number_of s)) ss ≡ None → (t : Signal) → listed t ss ≡ true → q (number_of t) ≡ false
unfolding listed
none-passes q [] e t in_list = absurd (cc)
none-passes q (x ∷ ss) e t in_list =
    elim (q (number_of x)) as (λ b. q (number_of x) ≡ b → cond b (Some x) (find (λ s. q (number_of s)) ss) ≡ None → q (number_of t) ≡ false) [
      | true ↦ λ w f. absurd (cc)
      | false ↦ λ w f.
          elim (cases_eq (number_of x) (number_of t)) [
            | inl h ↦ rw (← h) w
            | inr ne ↦ none-passes q ss f t (grind (arith, nat_tests))
          ]
    ] refl e

pub all_rising : rising all_signals ≡ true
unfolding rising at_most_all
all_rising = refl

pub all_listed : (t : Signal) → listed t all_signals ≡ true
unfolding listed
all_listed Hup = refl
all_listed _ = refl
