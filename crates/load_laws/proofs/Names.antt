-- the names of a made file
use Rattle.std.proofs.Common.{◌≡◌, ◌⊎◌, inl, inr, ◌++◌, ℕ, ◌+◌, ◌<◌, ◌≤◌, ◌^◌, Bool, true, false, List, [], ◌∷◌, length, codes, refl, sym, ap, ◌∙◌, subst, arith, Some, slice_get, All, drop, slice_index, not, ◌==◌}
use Rattle.std.specs.List.{list_all}
use Rattle.std.specs.Fmt.{decimal}
use Rattle.std.specs.Str.Parse.{AllDigits}
use Rattle.std.proofs.lemmas.Bool.{and_parts, eqb-false}
use Rattle.std.proofs.lemmas.Bool.Decides.{nat_tests}
use Rattle.std.proofs.lemmas.Fmt.{decimal_injective, length-decimal-le}
use Rattle.std.proofs.lemmas.List.Elements.{All-nil, All-cons, All-append}
use Rattle.std.proofs.lemmas.Str.Parse.{digit_from_value}
use Rattle.script_words.specs.Words.{Word, is_name_byte, reserved}
use Rattle.script_laws.specs.Grammar.{IsName, IsCalled, AreNames}
use Rattle.load_maker.specs.Made.{worker_name, leader_name, child_name, start_name}
use Rattle.load_laws.specs.Worlds.{firsts}
use Rattle.load_laws.proofs.Lists.{length-firsts, All-firsts, get-either, firsts-get}
use Rattle.load_laws.proofs.Rows.{digits-decimal}

digits-names : (ds : List ℕ) → AllDigits 10 ds → list_all is_name_byte ds ≡ true
digits-names [] h = refl
digits-names (c ∷ cs) h =
    let digit = digit_from_value c h.0 in
    let rest = digits-names cs h.1 in
    grind (arith, nat_tests)

number-names : (n : ℕ) → n < 2 ^ 32 → list_all is_name_byte (decimal n) ≡ true
number-names n h = digits-names (decimal n) (digits-decimal n h)

number-short : (n : ℕ) → n < 2 ^ 32 → length (decimal n) ≤ 10
number-short n h = length-decimal-le 10 n (omega arith) (omega arith) (omega arith)

abbrev Differs : Word → Word → Type 0
Differs word r = word ≡ r → ⊥

-- two words whose first bytes differ
first-differs : (word r : Word) → (slice_index word 0 == slice_index r 0) ≡ false → Differs word r
first-differs word r n e = eqb-false (slice_index word 0) (slice_index r 0) n (ap (λ w. slice_index w 0) e)

not-true : (b : Bool) → not b ≡ true → b ≡ false
not-true true h = cc
not-true false h = refl

-- a word whose first byte is that of none of these
free : (word : Word) (rs : List Word) → list_all (λ r. not (slice_index word 0 == slice_index r 0)) rs ≡ true → All (Differs word) rs
free word [] h = All-nil (Differs word)
free word (r ∷ rs) h =
    let parts = and_parts (not (slice_index word 0 == slice_index r 0)) (list_all (λ r. not (slice_index word 0 == slice_index r 0)) rs) h in
    All-cons (Differs word) r rs (first-differs word r (not-true (slice_index word 0 == slice_index r 0) parts.0)) (free word rs parts.1)

-- behind its first byte a child's name has digits alone
not-continued : (n : ℕ) → n < 2 ^ 32 → child_name n ≡ codes "continued" → ⊥
not-continued n h e =
    let tail : decimal n ≡ codes "ontinued" = ap (drop 1) e in
    let digit = (subst (AllDigits 10) tail (digits-decimal n h)).0 in
    omega (arith, digit_from_value 111 digit)

pub worker-named : (n : ℕ) → n < 2 ^ 32 → IsName (worker_name n)
worker-named n h = record {
  form = record {
    letter = 119;
    others = decimal n;
    is = refl;
    lower = refl;
    each = number-names n h;
    free = free (worker_name n) reserved refl;
  };
  few = let short = number-short n h in omega arith;
}

pub leader-named : (n : ℕ) → n < 2 ^ 32 → IsName (leader_name n)
leader-named n h = record {
  form = record {
    letter = 108;
    others = codes "ead" ++ decimal n;
    is = refl;
    lower = refl;
    each = number-names n h;
    free = free (leader_name n) reserved refl;
  };
  few = let short = number-short n h in omega arith;
}

-- all reserved words but the last
abbrev most_reserved : List Word
most_reserved = codes "self" ∷ codes "maker" ∷ codes "none" ∷ codes "any" ∷ codes "at" ∷ codes "end" ∷ codes "stopped" ∷ []

pub child-named : (n : ℕ) → n < 2 ^ 32 → IsName (child_name n)
child-named n h = record {
  form = record {
    letter = 99;
    others = decimal n;
    is = refl;
    lower = refl;
    each = number-names n h;
    free = All-append (Differs (child_name n)) most_reserved (codes "continued" ∷ []) (free (child_name n) most_reserved refl)
        (All-cons (Differs (child_name n)) (codes "continued") [] (not-continued n h) (All-nil (Differs (child_name n))));
  };
  few = let short = number-short n h in omega arith;
}

pub start-named : (n : ℕ) → n < 2 ^ 32 → IsName (start_name n)
start-named n h = record {
  form = record {
    letter = 112;
    others = decimal n;
    is = refl;
    lower = refl;
    each = number-names n h;
    free = free (start_name n) reserved refl;
  };
  few = let short = number-short n h in omega arith;
}

-- ---- no name stands twice
abbrev AreApart : (ℕ → Word) → Type 0
AreApart f = (a b : ℕ) → a < 2 ^ 32 → b < 2 ^ 32 → f a ≡ f b → a ≡ b

numbers-apart : (a b : ℕ) → a < 2 ^ 32 → b < 2 ^ 32 → decimal a ≡ decimal b → a ≡ b
numbers-apart a b ha hb e = decimal_injective a b (omega arith) (omega arith) e

module _ (f g : ℕ → Word) (m n : ℕ) (few_first : m < 2 ^ 32) (few : n < 2 ^ 32)
    (first_named : (i : ℕ) → i < 2 ^ 32 → IsName (f i)) (named : (i : ℕ) → i < 2 ^ 32 → IsName (g i))
    (first_apart : AreApart f) (apart : AreApart g) (across : (a b : ℕ) → f a ≡ g b → ⊥) where
  abbrev Names : List Word
  Names = firsts f m ++ firsts g n

  -- a name is one of the first sort, or one of the second
  abbrev Stands : Word → ℕ → Type 0
  Stands word a = ((a < m) × (word ≡ f a)) ⊎ ((j : ℕ) × (a ≡ m + j) × (j < n) × (word ≡ g j))

  stands : (word : Word) (a : ℕ) → IsCalled Names word a → Stands word a
  stands word a e = go (get-either (firsts f m) (firsts g n) a word e)
    where
      go : (slice_get (firsts f m) a ≡ Some word) ⊎ ((j : ℕ) × (a ≡ length (firsts f m) + j) × (slice_get (firsts g n) j ≡ Some word)) → Stands word a
      go (inl h) = inl (firsts-get f m a word h)
      go (inr h) = let r = firsts-get g n h.0 word h.2 in inr (h.0, h.1 ∙ ap (λ l. l + h.0) (length-firsts f m), r.0, r.1)

  same : (word : Word) (a b : ℕ) → Stands word a → Stands word b → a ≡ b
  same word a b (inl x) (inl y) = let lx = x.0 in let ly = y.0 in first_apart a b (omega arith) (omega arith) (sym x.1 ∙ y.1)
  same word a b (inl x) (inr y) = absurd (across a y.0 (sym x.1 ∙ y.3))
  same word a b (inr x) (inl y) = absurd (across b x.0 (sym y.1 ∙ x.3))
  same word a b (inr x) (inr y) =
      let lx = x.2 in
      let ly = y.2 in
      let one : x.0 ≡ y.0 = apart x.0 y.0 (omega arith) (omega arith) (sym x.3 ∙ y.3) in
      x.1 ∙ ap (λ j. m + j) one ∙ sym y.1

  pub are_names : AreNames Names
  are_names = (
    All-append IsName (firsts f m) (firsts g n) (All-firsts IsName f m (λ i lt. first_named i (omega arith))) (All-firsts IsName g n (λ i lt. named i (omega arith))),
    λ word a b ca cb. same word a b (stands word a ca) (stands word b cb),
  )

pub script_names : (workers leaders : ℕ) → workers < 2 ^ 32 → leaders < 2 ^ 32 → AreNames (firsts worker_name workers ++ firsts leader_name leaders)
script_names workers leaders hw hl =
    are_names worker_name leader_name workers leaders hw hl worker-named leader-named
    (λ a b ha hb e. numbers-apart a b ha hb (ap (drop 1) e)) (λ a b ha hb e. numbers-apart a b ha hb (ap (drop 4) e)) (λ a b. first-differs (worker_name a) (leader_name b) refl)

pub variable_names : (children leaders : ℕ) → children < 2 ^ 32 → leaders < 2 ^ 32 → AreNames (firsts child_name children ++ firsts start_name leaders)
variable_names children leaders hc hl =
    are_names child_name start_name children leaders hc hl child-named start-named
    (λ a b ha hb e. numbers-apart a b ha hb (ap (drop 1) e)) (λ a b ha hb e. numbers-apart a b ha hb (ap (drop 1) e)) (λ a b. first-differs (child_name a) (start_name b) refl)
