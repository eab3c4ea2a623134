-- numbers in decimal digits
use Rattle.std.proofs.Common.{◌≡◌, ℕ, zero, suc, ◌+◌, ◌/◌, ◌%◌, ◌^◌, ◌<◌, ◌≤◌, ◌==◌, Bool, true, false, cond, List, [], ◌∷◌, length, refl, arith}
use Rattle.std.specs.Fmt.{decimal, digits, digits_onto, digit_glyph}
use Rattle.std.specs.List.{list_all}
use Rattle.std.specs.Str.Parse.{digits_value}
use Rattle.std.proofs.lemmas.Fmt.{decimal_is_IsNumeral, length-decimal-le}
use Rattle.std.proofs.lemmas.Bool.Decides.{nat_tests}
use Rattle.byte_ends.specs.Text.{IsNumber}
use Rattle.text_laws.specs.Plain.{is_visible, is_plain}

-- what is written of a number below 2^32 is a number
pub IsNumber-decimal : (n : ℕ) → n < 2 ^ 32 → IsNumber (decimal n)
IsNumber-decimal n h =
    let k = decimal_is_IsNumeral n (omega arith) in
    record {
      some = omega (arith, k.0.0);
      few = length-decimal-le 10 n (omega arith) (omega arith) (omega arith);
      digits = k.0.1;
      fits = omega (arith, k.1);
    }

-- and that number
pub digits_value-decimal : (n : ℕ) → n < 2 ^ 32 → digits_value 10 (decimal n) ≡ n
digits_value-decimal n h = (decimal_is_IsNumeral n (omega arith)).1

-- the last digit of a number
abbrev last_digit : ℕ → ℕ
last_digit n = digit_glyph false (n % 10)

-- a test that each digit passes
abbrev pub PassDigits : (ℕ → Bool) → Type 0
PassDigits test = (b : ℕ) → 48 ≤ b → b < 58 → test b ≡ true

last-passes : (test : ℕ → Bool) (n : ℕ) (acc : List ℕ) → PassDigits test → list_all test acc ≡ true → list_all test (last_digit n ∷ acc) ≡ true
last-passes test n acc digit h =
    let less : n % 10 < 10 = omega arith in
    let glyph : 48 + n % 10 ≡ last_digit n = grind (arith, nat_tests) in
    rw (digit (last_digit n) (omega arith) (omega arith)) h

-- some bytes, each of which passes
abbrev pub Passes : (ℕ → Bool) → List ℕ → Type 0
Passes test ds = (0 < length ds) × (list_all test ds ≡ true)

digits-pass : (test : ℕ → Bool) (k n : ℕ) (acc : List ℕ) → PassDigits test → Passes test acc → Passes test (digits_onto k 10 false n acc)
digits-pass test zero n acc digit h = h
digits-pass test (suc k) n acc digit h =
    let here : Passes test (last_digit n ∷ acc) = (omega arith, last-passes test n acc digit h.1) in
    elim (n / 10 == 0) as (λ b. Passes test (cond b (last_digit n ∷ acc) (digits_onto k 10 false (n / 10) (last_digit n ∷ acc)))) [
      | true ↦ here
      | false ↦ digits-pass test k (n / 10) (last_digit n ∷ acc) digit here
    ]

-- what each digit passes is passed by each byte of what is written of a number, whatever the number
pub decimal-passes : (test : ℕ → Bool) (n : ℕ) → PassDigits test → Passes test (decimal n)
unfolding digits
decimal-passes test n digit =
    let here : Passes test (last_digit n ∷ []) = (omega arith, last-passes test n [] digit refl) in
    elim (n / 10 == 0) as (λ b. Passes test (cond b (last_digit n ∷ []) (digits_onto 63 10 false (n / 10) (last_digit n ∷ [])))) [
      | true ↦ here
      | false ↦ digits-pass test 63 (n / 10) (last_digit n ∷ []) digit here
    ]

digit-visible : PassDigits is_visible
digit-visible b low high = grind (arith, nat_tests)

-- digits stand in a line as they are
pub plain-decimal : (n : ℕ) → is_plain (decimal n) ≡ true
plain-decimal n = let bytes = decimal-passes is_visible n digit-visible in grind (arith, nat_tests)
