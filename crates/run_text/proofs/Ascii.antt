-- words of ASCII are a text
use Rattle.std.proofs.Common.{◌≡◌, ℕ, zero, suc, ◌<◌, ◌^◌, nat_lt, Bool, true, ◌&&◌, List, [], ◌∷◌, ◌++◌, refl, ap, ◌∙◌, arith}
use Rattle.std.proofs.lemmas.Bool.{and_parts}
use Rattle.std.specs.List.{list_all, flat_map}
use Rattle.std.specs.Fmt.{decimal}
use Rattle.std.specs.Str.{IsAscii, is_utf8}
use Rattle.std.specs.Str.Parse.{AllDigits}
use Rattle.std.proofs.lemmas.Str.{IsUtf8-from_ascii, is_utf8-from_IsUtf8}
use Rattle.std.proofs.lemmas.Str.Parse.{digit_from_value}
use Rattle.std.proofs.lemmas.Fmt.{decimal_is_IsNumeral}
use Rattle.std.proofs.lemmas.List.Concat.{flat_map-cons}
use Rattle.std.proofs.lemmas.List.Folds.{list_all-append}
use Rattle.std.proofs.lemmas.Bool.Decides.{nat_tests}

-- an ASCII byte
abbrev pub is_low : ℕ → Bool
is_low b = nat_lt b 128

low : (b : ℕ) → is_low b ≡ true → b < 128
low b h = grind (arith, nat_tests)

ascii-from_low : (bs : List ℕ) → list_all is_low bs ≡ true → IsAscii bs
ascii-from_low [] h i = omega arith
ascii-from_low (b ∷ bs) h zero = low b ((and_parts (is_low b) (list_all is_low bs) h).0)
ascii-from_low (b ∷ bs) h (suc i) = ascii-from_low bs ((and_parts (is_low b) (list_all is_low bs) h).1) i

pub utf8-from_low : (bs : List ℕ) → list_all is_low bs ≡ true → is_utf8 bs ≡ true
utf8-from_low bs h = is_utf8-from_IsUtf8 bs (IsUtf8-from_ascii bs (ascii-from_low bs h))

pub low-append : (xs ys : List ℕ) → list_all is_low xs ≡ true → list_all is_low ys ≡ true → list_all is_low (xs ++ ys) ≡ true
low-append xs ys hx hy = list_all-append is_low xs ys ∙ ap (λ t. t && list_all is_low ys) hx ∙ hy

pub low-spaced : (ws : List (List ℕ)) → list_all (list_all is_low) ws ≡ true → list_all is_low (flat_map (λ w. 32 ∷ w) ws) ≡ true
low-spaced [] h = refl
low-spaced (w ∷ ws) h =
    let parts = and_parts (list_all is_low w) (list_all (list_all is_low) ws) h in
    ap (list_all is_low) (flat_map-cons (λ (w : List ℕ). 32 ∷ w) w ws)
    ∙ low-append (32 ∷ w) (flat_map (λ w. 32 ∷ w) ws) parts.0 (low-spaced ws parts.1)

low-digits : (ds : List ℕ) → AllDigits 10 ds → list_all is_low ds ≡ true
low-digits [] h = refl
low-digits (c ∷ cs) h =
    let digit = digit_from_value c h.0 in
    let rest = low-digits cs h.1 in
    grind (arith, nat_tests)

pub low-decimal : (n : ℕ) → n < 2 ^ 64 → list_all is_low (decimal n) ≡ true
low-decimal n h = low-digits (decimal n) ((decimal_is_IsNumeral n h).0.1)
