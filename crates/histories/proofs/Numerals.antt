-- words that are written of numbers below 2^64
use Rattle.std.proofs.Common.{inl, inr, ◌≡◌, ℕ, zero, suc, ◌^◌, ◌<◌, ◌==◌, false, cond, List, [], ◌∷◌, length, drop, get_or, Option, Result, Ok, Err, refl, ap, sym, subst, ◌∙◌, arith}
use Rattle.std.specs.Prelude.{IfSome, IfNone, OkIff}
use Rattle.std.specs.Result.{result_ok}
use Rattle.std.specs.Fmt.{decimal}
use Rattle.std.specs.Str.{IsUtf8}
use Rattle.std.specs.Str.Parse.{AllDigits, IsNumeral, digits_value, without_leading_plus, ParsesUnsigned}
use Rattle.std.proofs.lemmas.Bool.{cases_Bool}
use Rattle.std.proofs.lemmas.Bool.Decides.{nat_tests}
use Rattle.std.proofs.lemmas.Fmt.{decimal_is_IsNumeral, decimal_digit, first_decimal, decimal-digits_value, decimal_injective, IsAscii-decimal}
use Rattle.std.proofs.lemmas.Str.{IsUtf8-from_ascii}
use Rattle.std.proofs.lemmas.Str.Parse.{numerals_by_value, tells_digits, digit_from_value}
use Rattle.histories.specs.MethodNumeral.{begins_otherwise}

-- a zero stands alone
abbrev pub IsAlone : List ℕ → Type 0
IsAlone ds = get_or ds 0 0 ≡ 48 → length ds ≡ 1

decimal_alone : (n : ℕ) → n < 2 ^ 64 → IsAlone (decimal n)
decimal_alone zero h e = ap length (decimal_digit 0 (omega arith))
decimal_alone (suc n) h e = let first = first_decimal (suc n) (omega arith) h in absurd (omega arith)

alone_begins : (ds : List ℕ) → AllDigits 10 ds → IsAlone ds → begins_otherwise ds ≡ false
alone_begins [] all alone = refl
alone_begins (c ∷ cs) all alone =
    let digit = digit_from_value c all.0 in
    elim (cases_Bool (c == 48)) [
      | inl zero_first ↦ let one = alone (grind (arith, nat_tests)) in grind (arith, nat_tests)
      | inr other ↦ grind (arith, nat_tests)
    ]

begins_alone : (ds : List ℕ) → begins_otherwise ds ≡ false → IsAlone ds
begins_alone [] h e = absurd (omega arith)
begins_alone (c ∷ cs) h e = grind (arith, nat_tests)

pub decimal_begins : (n : ℕ) → n < 2 ^ 64 → begins_otherwise (decimal n) ≡ false
decimal_begins n h = alone_begins (decimal n) ((decimal_is_IsNumeral n h).0.1) (decimal_alone n h)

no_plus : (ds : List ℕ) → begins_otherwise ds ≡ false → without_leading_plus ds ≡ ds
no_plus [] h = refl
no_plus (c ∷ cs) h = let other : (c == 43) ≡ false = grind (arith, nat_tests) in ap (λ b. drop (cond b 1 0) (c ∷ cs)) other

-- what is parsed is what was written
pub parsed_written : (ds : List ℕ) (n : ℕ) → begins_otherwise ds ≡ false → IsNumeral 10 (without_leading_plus ds) × (digits_value 10 (without_leading_plus ds) < 2 ^ 64) → n ≡ digits_value 10 (without_leading_plus ds) → ds ≡ decimal n
parsed_written ds n begins fits value =
    let same = no_plus ds begins in
    let P : List ℕ → Type 0 = λ xs. IsNumeral 10 xs × (digits_value 10 xs < 2 ^ 64) in
    let f = subst P same fits in
    sym (ap decimal (value ∙ ap (digits_value 10) same) ∙ decimal-digits_value (numerals_by_value (AllDigits 10) tells_digits) ds f.0.1 f.0.0 (begins_alone ds begins) f.1)

-- what was written is parsed
pub written_parsed : (ds : List ℕ) (n : ℕ) → n < 2 ^ 64 → ds ≡ decimal n → (IsNumeral 10 (without_leading_plus ds) × (digits_value 10 (without_leading_plus ds) < 2 ^ 64) → ⊥) → ⊥
written_parsed ds n h e none =
    let P : List ℕ → Type 0 = λ xs. IsNumeral 10 xs × (digits_value 10 xs < 2 ^ 64) in
    let k = decimal_is_IsNumeral n h in
    let fits : P (decimal n) = (k.0, omega (arith, k.1)) in
    let begins : begins_otherwise ds ≡ false = ap begins_otherwise e ∙ decimal_begins n h in
    none (subst P (sym e ∙ sym (no_plus ds begins)) fits)

pub written_utf8 : (ds : List ℕ) (n : ℕ) → n < 2 ^ 64 → ds ≡ decimal n → IsUtf8 ds
written_utf8 ds n h e = subst IsUtf8 (sym e) (IsUtf8-from_ascii (decimal n) (IsAscii-decimal n h))

-- what a parse answers, by its contract
pub parse_some : {E : Type 0} (ds text : List ℕ) (r : Result ℕ E) (o : Option ℕ) → text ≡ ds → begins_otherwise ds ≡ false → ParsesUnsigned 64 10 text r → o ≡ result_ok r → IfSome o (λ n. (ds ≡ decimal n) × (n < 2 ^ 64))
parse_some {E} ds text (Ok n) o e b h k =
    let g = subst (λ (xs : List ℕ). ParsesUnsigned {E = E} 64 10 xs (Ok n)) e h in
    subst (λ (p : Option ℕ). IfSome p (λ n. (ds ≡ decimal n) × (n < 2 ^ 64))) (sym k) (parsed_written ds n b g.0 g.1, subst (λ m. m < 2 ^ 64) (sym g.1) g.0.1)
parse_some ds text (Err x) o e b h k = subst (λ (p : Option ℕ). IfSome p (λ n. (ds ≡ decimal n) × (n < 2 ^ 64))) (sym k) tt

pub parse_none : {E : Type 0} (ds text : List ℕ) (r : Result ℕ E) (o : Option ℕ) → text ≡ ds → ParsesUnsigned 64 10 text r → o ≡ result_ok r → IfNone o ((n : ℕ) → n < 2 ^ 64 → ds ≡ decimal n → ⊥)
parse_none ds text (Ok n) o e h k = subst (λ (p : Option ℕ). IfNone p ((n : ℕ) → n < 2 ^ 64 → ds ≡ decimal n → ⊥)) (sym k) tt
parse_none {E} ds text (Err x) o e h k =
    let g = subst (λ (xs : List ℕ). ParsesUnsigned {E = E} 64 10 xs (Err x)) e h in
    subst (λ (p : Option ℕ). IfNone p ((n : ℕ) → n < 2 ^ 64 → ds ≡ decimal n → ⊥)) (sym k) (λ n small w. written_parsed ds n small w g)

-- a number above 32 bits is written of no smaller one
pub small_same : (ds : List ℕ) (m n : ℕ) → m < 2 ^ 64 → n < 2 ^ 32 → ds ≡ decimal m → ds ≡ decimal n → m ≡ n
small_same ds m n large small e f = decimal_injective m n large (omega arith) (sym e ∙ f)

pub small_some : {E : Type 0} (ds : List ℕ) (number : ℕ) (r : Result ℕ E) (o : Option ℕ) → ds ≡ decimal number → OkIff r (number < 2 ^ 32) number → o ≡ result_ok r → IfSome o (λ n. (ds ≡ decimal n) × (n < 2 ^ 32))
small_some ds number (Ok x) o e h k =
    subst (λ (p : Option ℕ). IfSome p (λ n. (ds ≡ decimal n) × (n < 2 ^ 32))) (sym k) (e ∙ ap decimal (sym h.1), subst (λ m. m < 2 ^ 32) (sym h.1) h.0)
small_some ds number (Err x) o e h k = subst (λ (p : Option ℕ). IfSome p (λ n. (ds ≡ decimal n) × (n < 2 ^ 32))) (sym k) tt

pub small_none : {E : Type 0} (ds : List ℕ) (number : ℕ) (r : Result ℕ E) (o : Option ℕ) → (ds ≡ decimal number) × (number < 2 ^ 64) → OkIff r (number < 2 ^ 32) number → o ≡ result_ok r
    → IfNone o ((n : ℕ) → n < 2 ^ 32 → ds ≡ decimal n → ⊥)
small_none ds number (Ok x) o e h k = subst (λ (p : Option ℕ). IfNone p ((n : ℕ) → n < 2 ^ 32 → ds ≡ decimal n → ⊥)) (sym k) tt
small_none ds number (Err x) o e h k =
    subst (λ (p : Option ℕ). IfNone p ((n : ℕ) → n < 2 ^ 32 → ds ≡ decimal n → ⊥)) (sym k)
    (λ n small f. h (subst (λ m. m < 2 ^ 32) (sym (small_same ds number n e.1 small e.0 f)) small))
