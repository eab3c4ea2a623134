-- the names under which worlds are written
use Rattle.std.proofs.Common.{◌≡◌, ◌&&◌, ℕ, zero, suc, ◌+◌, ◌<◌, ◌≤◌, ◌^◌, true, false, List, [], ◌∷◌, length, refl, sym, ap, ◌∙◌, subst, arith, Some, All, ltb}
use Rattle.std.specs.Prelude.{codes, get_or, nat_le}
use Rattle.std.specs.List.{list_all}
use Rattle.std.specs.Fmt.{decimal}
use Rattle.std.specs.Str.Parse.{digits_value}
use Rattle.std.proofs.lemmas.Bool.{and_parts}
use Rattle.std.proofs.lemmas.Option.{slice_get-get_or}
use Rattle.std.proofs.lemmas.List.Elements.{All-from_recursion}
use Rattle.list_laws.proofs.Filters.{or_true}
use Rattle.text_laws.proofs.Numbers.{IsNumber-decimal, digits_value-decimal}
use Rattle.script_words.specs.Words.{Word, is_lower, is_digit, is_name_byte, is_number, reserved}
use Rattle.script_words.proofs.Numbers.{is_number-decides}
use Rattle.script_laws.specs.Grammar.{IsName, IsCalled, AreNames, IsFor}
use Rattle.script_words.specs.declared.limits.TheConstants.{LONGEST_NAME}

pub for_decimal : (n : ℕ) → n < 2 ^ 32 → IsFor (decimal n) n
for_decimal n lt = (IsNumber-decimal n lt, digits_value-decimal n lt)

pub all_digits : (n : ℕ) → n < 2 ^ 32 → list_all is_digit (decimal n) ≡ true
unfolding is_number
all_digits n lt =
    let e : is_number (decimal n) ≡ true = (is_number-decides (decimal n)).1 (IsNumber-decimal n lt) in
    let p = and_parts (ltb 0 (length (decimal n)) && nat_le (length (decimal n)) 10 && list_all is_digit (decimal n)) (ltb (digits_value 10 (decimal n)) (2 ^ 32)) e in
    (and_parts (ltb 0 (length (decimal n)) && nat_le (length (decimal n)) 10) (list_all is_digit (decimal n)) p.0).1

digits_name : (ds : Word) → list_all is_digit ds ≡ true → list_all is_name_byte ds ≡ true
digits_name [] e = refl
digits_name (d ∷ ds) e = let p = and_parts (is_digit d) (list_all is_digit ds) e in rw (p.0, or_true (is_lower d), digits_name ds p.1) refl

not_word : (c : ℕ) (ds : Word) (b : ℕ) (bs : Word) → list_all is_digit ds ≡ true → list_all is_digit bs ≡ false → c ∷ ds ≡ b ∷ bs → ⊥
not_word c ds b bs d n e = let same : ds ≡ bs = cc in let h : list_all is_digit bs ≡ true = subst (λ (x : Word). list_all is_digit x ≡ true) same d in cc

free : (c : ℕ) (ds : Word) → list_all is_digit ds ≡ true → All (λ r. c ∷ ds ≡ r → ⊥) reserved
free c ds d = All-from_recursion (λ r. c ∷ ds ≡ r → ⊥) reserved (
  not_word c ds 115 (codes "elf") d refl,
  (not_word c ds 109 (codes "aker") d refl, (not_word c ds 110 (codes "one") d refl, (not_word c ds 97 (codes "ny") d refl, (not_word c ds 97 (codes "t") d refl, (not_word c ds 101 (codes "nd") d refl, (not_word c ds 115 (codes "topped") d refl, (not_word c ds 99 (codes "ontinued") d refl, tt))))))),
)

-- a letter and a number are a name
pub letter_name : (c n : ℕ) → is_lower c ≡ true → n < 2 ^ 32 → IsName (c ∷ decimal n)
letter_name c n l lt = record {
  form = record {
    letter = c;
    others = decimal n;
    is = refl;
    lower = l;
    each = digits_name (decimal n) (all_digits n lt);
    free = free c (decimal n) (all_digits n lt);
  };
  few = short (IsNumber-decimal n lt).few;
}
  where
    short : length (decimal n) ≤ 10 → suc (length (decimal n)) ≤ LONGEST_NAME
    short le = omega arith

-- a letter and each number from one on
unfoldable pub names_from : ℕ → ℕ → ℕ → List Word
names_from c k zero = []
names_from c k (suc n) = (c ∷ decimal k) ∷ names_from c (suc k) n

pub names_long : (c k n : ℕ) → length (names_from c k n) ≡ n
unfolding names_from
names_long c k zero = refl
names_long c k (suc n) = ap (λ m. suc m) (names_long c (suc k) n)

pub name_at : (c k n j : ℕ) → j < n → IsCalled (names_from c k n) (c ∷ decimal (k + j)) j
unfolding names_from
name_at c k zero j lt = absurd (omega arith)
name_at c k (suc n) zero lt = let z : k ≡ k + 0 = omega arith in ap (λ (m : ℕ). Some (c ∷ decimal m)) z
name_at c k (suc n) (suc j) lt = let z : suc k + j ≡ k + suc j = omega arith in name_at c (suc k) n j (omega arith) ∙ ap (λ (m : ℕ). Some (c ∷ decimal m)) z

pub name_is : (c k n j : ℕ) (w : Word) → IsCalled (names_from c k n) w j → (w ≡ c ∷ decimal (k + j)) × (j < n)
unfolding names_from
name_is c k zero j w e = cc
name_is c k (suc n) zero w e = let z : k ≡ k + 0 = omega arith in let is : c ∷ decimal k ≡ w = cc in (sym is ∙ ap (λ (m : ℕ). c ∷ decimal m) z, omega arith)
name_is c k (suc n) (suc j) w e = let r = name_is c (suc k) n j w e in let z : suc k + j ≡ k + suc j = omega arith in (r.0 ∙ ap (λ (m : ℕ). c ∷ decimal m) z, omega (arith, r.1))

number_once : (c a b : ℕ) → a < 2 ^ 32 → b < 2 ^ 32 → c ∷ decimal a ≡ c ∷ decimal b → a ≡ b
number_once c a b la lb e = let same : decimal a ≡ decimal b = cc in sym (digits_value-decimal a la) ∙ ap (digits_value 10) same ∙ digits_value-decimal b lb

pub chosen : (c n : ℕ) → is_lower c ≡ true → n ≤ 2 ^ 32 → AreNames (names_from c 0 n)
chosen c n l few = (each, one)
  where
    each : All IsName (names_from c 0 n)
    each k d lt =
        let r = name_is c 0 n k (get_or (names_from c 0 n) k d) (slice_get-get_or (names_from c 0 n) k d lt) in
        subst IsName (sym r.0) (letter_name c (0 + k) l (omega (arith, r.1)))

    one : (word : Word) (a b : ℕ) → IsCalled (names_from c 0 n) word a → IsCalled (names_from c 0 n) word b → a ≡ b
    one word a b x y =
        let p = name_is c 0 n a word x in
        let q = name_is c 0 n b word y in
        let s : 0 + a ≡ 0 + b = number_once c (0 + a) (0 + b) (omega (arith, p.1)) (omega (arith, q.1)) (sym p.0 ∙ q.0) in
        omega (arith, s)
