use Rattle.std.proofs.Common.{sym, ◌∙◌, false, ◌⊎◌, inl, inr, ◌/◌, ◌≡◌, ◌≢◌, ◌==◌, ◌||◌, ◌&&◌, not, ℕ, ◌-◌, ◌*◌, ◌^◌, ◌%◌, ◌<◌, bit_and, bit_or, bit_xor, refl, arith, max, min, lit<}
use Rattle.std.proofs.lemmas.Bool.{cases_eq, eq-eqb, ne_eqb}
use Rattle.std.proofs.lemmas.Bool.Decides.{nat_tests}
use Rattle.std.specs.Int.{bit_at}
use Rattle.std.proofs.lemmas.Nat.Bits.{bit_at_or, bit_at_and, bit_at_xor, bit_at-lt, bit_at-zero, bit_at-pow_same, bit_at-pow_other, bit_at_not, same_from_bits, same_from_bits_below}
use Rattle.std.proofs.lemmas.Nat.{and_le_l}
use Rattle.std.specs.Int.{w32}
use Rattle.std.specs.Prelude.{Some, None, find}
use Rattle.unix_names.specs.Sets.{has, added, removed, minus, IsSignals, IsLeast}
use Rattle.unix_names.specs.Signals.{number_of, signal_of, all_signals}
use Rattle.unix_names.proofs.SignalLaws.{signal_of-number_of, number_of-signal_of, find-passes, first-least, none-passes, all_rising, all_listed}
use Rattle.unix_names.specs.declared.signals.Signal.{Signal}
use Rattle.unix_names.specs.declared.signals.Signal.TheVariants.{Hup}

pub number_small : (s : Signal) → number_of s < 24
number_small Hup = lit< tt
number_small _ = lit< tt

pub shl_number : (s : Signal) → 1 * 2 ^ number_of s % 4294967296 ≡ 2 ^ number_of s
shl_number Hup = refl
shl_number _ = refl

pub pow_small : (s : Signal) → 2 ^ number_of s < 16777216
pow_small Hup = lit< tt
pow_small _ = lit< tt

-- ---- what a changed set has
bit_one : (n k : ℕ) → (bit_at n k ≡ 0) ⊎ (bit_at n k ≡ 1)
bit_one n k = let h : n / 2 ^ k % 2 < 2 = omega arith in grind arith

bit_added : (n k j : ℕ) → (bit_at (bit_or n (2 ^ k)) j == 1) ≡ ((bit_at n j == 1) || (j == k))
bit_added n k j = rw (bit_at_or n (2 ^ k) j) (
    elim (cases_eq j k) as (λ _. (max (bit_at n j) (bit_at (2 ^ k) j) == 1) ≡ ((bit_at n j == 1) || (j == k))) [
      | inl e ↦ rw (e, bit_at-pow_same k) (elim (bit_one n k) [ inl z ↦ rw (z, eq-eqb k k refl) | inr o ↦ rw o ])
      | inr ne ↦ rw (bit_at-pow_other k j ne) (elim (bit_one n j) [ inl z ↦ rw (z, ne_eqb j k ne) | inr o ↦ rw o ])
    ])

pub has-added : (n : ℕ) (s t : Signal) → has (added n s) t ≡ (has n t || (number_of t == number_of s))
unfolding added
has-added n s t = bit_added n (number_of s) (number_of t)

bit_removed : (n k j : ℕ) → k < 24 → j < 24 → 2 ^ k < 4294967296 → (bit_at (bit_and n (4294967295 - 2 ^ k)) j == 1) ≡ ((bit_at n j == 1) && not (j == k))
bit_removed n k j hk hj small = rw (bit_at_and n (4294967295 - 2 ^ k) j, bit_at_not w32 (2 ^ k) j small (omega arith)) (
    elim (cases_eq j k) as (λ _. (min (bit_at n j) (1 - bit_at (2 ^ k) j) == 1) ≡ ((bit_at n j == 1) && not (j == k))) [
      | inl e ↦ rw (e, bit_at-pow_same k) (elim (bit_one n k) [ inl z ↦ rw z | inr o ↦ rw (o, eq-eqb k k refl) ])
      | inr ne ↦ rw (bit_at-pow_other k j ne) (elim (bit_one n j) [ inl z ↦ rw z | inr o ↦ rw (o, ne_eqb j k ne) ])
    ])

pub has-removed : (n : ℕ) (s t : Signal) → has (removed n s) t ≡ (has n t && not (number_of t == number_of s))
unfolding removed
has-removed n s t = let a : 2 ^ number_of s < 16777216 = pow_small s in bit_removed n (number_of s) (number_of t) (number_small s) (number_small t) (omega arith)

bit_minus : (n m j : ℕ) → (bit_at (bit_and n (bit_xor n m)) j == 1) ≡ ((bit_at n j == 1) && not (bit_at m j == 1))
bit_minus n m j = rw (bit_at_and n (bit_xor n m) j, bit_at_xor n m j) (
    elim (bit_one n j) [
      | inl z ↦ elim (bit_one m j) [ inl y ↦ rw (z, y) | inr p ↦ rw (z, p) ]
      | inr o ↦ elim (bit_one m j) [ inl z ↦ rw (o, z) | inr p ↦ rw (o, p) ]
    ])

pub has-minus : (n m : ℕ) (t : Signal) → has (minus n m) t ≡ (has n t && not (has m t))
unfolding minus
has-minus n m t = bit_minus n m (number_of t)

-- to keep the bits that the other has not is to keep those in which the two differ
pub and_not : (n m : ℕ) → n < 4294967296 → m < 4294967296 → bit_and n (4294967295 - m) ≡ bit_and n (bit_xor n m)
and_not n m hn hm =
    let left : bit_and n (4294967295 - m) < 4294967296 = omega (arith, and_le_l n (4294967295 - m)) in
    let right : bit_and n (bit_xor n m) < 4294967296 = omega (arith, and_le_l n (bit_xor n m)) in
    same_from_bits_below 32 (bit_and n (4294967295 - m)) (bit_and n (bit_xor n m)) left right (λ k below.
    rw (bit_at_and n (4294967295 - m) k, bit_at_and n (bit_xor n m) k, bit_at_xor n m k, bit_at_not w32 m k hm below) (
    elim (bit_one n k) [
      | inl z ↦ elim (bit_one m k) [ inl y ↦ rw (z, y) | inr p ↦ rw (z, p) ]
      | inr o ↦ elim (bit_one m k) [ inl z ↦ rw (o, z) | inr p ↦ rw (o, p) ]
    ]))

pub has-none : (t : Signal) → has 0 t ≡ false
has-none t = rw (bit_at-zero (number_of t)) refl

-- ---- what a changed set is made of
pub IsSignals-none : IsSignals 0
IsSignals-none k b = absurd (omega (arith, bit_at-zero k))

pub IsSignals-added : (n : ℕ) (s : Signal) → IsSignals n → IsSignals (bit_or n (2 ^ number_of s))
IsSignals-added n s signals k b =
    elim (cases_eq k (number_of s)) [
      | inl e ↦ rw (e, signal_of-number_of s) refl
      | inr ne ↦ signals k (omega (arith, bit_at_or n (2 ^ number_of s) k, bit_at-pow_other (number_of s) k ne))
    ]

pub IsSignals-and : (n m : ℕ) → IsSignals n → IsSignals (bit_and n m)
IsSignals-and n m signals k b = signals k (omega (arith, bit_at_and n m k, bit_at-lt n k))

-- ---- sets are equal where they have the same signals
no_bit : (n k : ℕ) → IsSignals n → signal_of k ≡ None → bit_at n k ≡ 0
no_bit n k signals none =
    elim (bit_one n k) [
      | inl z ↦ z
      | inr o ↦ let some = rw none at (signals k o) in absurd (cc)
    ]

same_bit : (a b : ℕ) → a < 2 → b < 2 → (a == 1) ≡ (b == 1) → a ≡ b
same_bit a b ha hb e = grind (arith, nat_tests)

pub same-signals : (n m : ℕ) → IsSignals n → IsSignals m → ((s : Signal) → has n s ≡ has m s) → n ≡ m
same-signals n m hn hm same = same_from_bits n m (λ k.
    elim (signal_of k) as (λ o. signal_of k ≡ o → bit_at n k ≡ bit_at m k) [
      | None ↦ λ w. omega (arith, no_bit n k hn w, no_bit m k hm w)
      | Some s ↦ λ w. same_bit (bit_at n k) (bit_at m k) (bit_at-lt n k) (bit_at-lt m k) (rw (← number_of-signal_of k s w) (same s))
    ] refl)

-- ---- the least signal of a set
pub found-least : (n : ℕ) (s : Signal) → find (has n) all_signals ≡ Some s → IsLeast n s
found-least n s e = record {
  member = find-passes (has n) all_signals s e;
  least = λ t in_set. first-least (λ k. bit_at n k == 1) all_signals all_rising s e t (all_listed t) in_set;
}

pub found-none : (n : ℕ) → IsSignals n → find (has n) all_signals ≡ None → n ≡ 0
found-none n signals e = same-signals n 0 signals IsSignals-none (λ s.
    none-passes (λ k. bit_at n k == 1) all_signals e s (all_listed s) ∙ sym (has-none s))

pub found-some : (n : ℕ) (s : Signal) → find (has n) all_signals ≡ Some s → n ≢ 0
found-some n s e empty =
    let passes = find-passes (has n) all_signals s e in
    let none = has-none s in
    let same : has n s ≡ has 0 s = rw empty refl in
    absurd (cc)

pub none-empty : (n : ℕ) → IsSignals n → ((s : Signal) → has n s ≡ false) → n ≡ 0
none-empty n signals none = same-signals n 0 signals IsSignals-none (λ s. none s ∙ sym (has-none s))
