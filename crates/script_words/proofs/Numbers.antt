use Rattle.std.proofs.Common.{◌≡◌, ℕ, ◌^◌, ◌<◌, ◌≤◌, ◌&&◌, leb, ltb, List, [], ◌∷◌, length, Option, Some, None, refl, arith, Decides, inl, inr}
use Rattle.std.specs.Option.{SomeIff, ok_or}
use Rattle.std.specs.List.{list_all}
use Rattle.std.specs.Char.{digit_value}
use Rattle.std.specs.Str.Parse.{AllDigits, digits_value}
use Rattle.std.proofs.lemmas.Bool.{cases_Bool}
use Rattle.std.proofs.lemmas.Bool.Decides.{Decides-and, Decides-ltb, nat_tests}
use Rattle.byte_ends.specs.Text.{IsNumber}
use Rattle.script_words.specs.declared.faults.Kind.TheVariants.{BadNumber}
use Rattle.script_words.specs.Words.{is_digit, is_number, number}

digit : (c : ℕ) → Decides (is_digit c) (digit_value c < 10)
digit c = (λ e. grind (arith, nat_tests), λ h. grind (arith, nat_tests))

all_digits : (w : List ℕ) → Decides (list_all is_digit w) (AllDigits 10 w)
all_digits [] = (λ _. tt, λ _. refl)
all_digits (c ∷ cs) = Decides-and (is_digit c) (list_all is_digit cs) (digit c) (all_digits cs)

few : (n : ℕ) → Decides (leb n 10) (n ≤ 10)
few n = (λ e. grind (arith, nat_tests), λ h. grind (arith, nat_tests))

pub is_number-decides : (w : List ℕ) → Decides (is_number w) (IsNumber w)
unfolding is_number
is_number-decides w =
    let parts = Decides-and (ltb 0 (length w) && leb (length w) 10 && list_all is_digit w) (ltb (digits_value 10 w) (2 ^ 32)) (Decides-and (ltb 0 (length w) && leb (length w) 10) (list_all is_digit w) (Decides-and (ltb 0 (length w)) (leb (length w) 10) (Decides-ltb 0 (length w)) (few (length w))) (all_digits w)) (Decides-ltb (digits_value 10 w) (2 ^ 32)) in (
      λ e. let p = parts.0 e in record { some = omega (arith, p.0.0.0); few = p.0.0.1; digits = p.0.1; fits = p.1 },
      λ n. parts.1 (((omega (arith, n.some), n.few), n.digits), n.fits),
    )

-- what reading a word as a number answers
pub number_read : (w : List ℕ) (r : Option ℕ) → 0 < length w → SomeIff r (IsNumber w) (digits_value 10 w) → ok_or r BadNumber ≡ number w
unfolding number
number_read w (Some n) some h = let yes = (is_number-decides w).1 h.0 in grind (arith, nat_tests)
number_read w None some h =
    elim (cases_Bool (is_number w)) [ inl holds ↦ absurd (h ((is_number-decides w).0 holds)) | inr fails ↦ grind (arith, nat_tests) ]
