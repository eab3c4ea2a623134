-- what is written of an entry seems to say it
use Rattle.std.proofs.Common.{inl, inr, ◌≡◌, ℕ, suc, ◌+◌, ◌^◌, ◌<◌, ◌≤◌, ℤ, pos, negsuc, neg_ℤ, Bool, true, false, cond, not, ◌==◌, List, [], ◌∷◌, length, drop, get_or, Bor, map, filter, fold, Option, Some, None, refl, ap, sym, ◌∙◌, arith, codes}
use Rattle.std.specs.Prelude.{IsNone, take_while, is_some, unwrap_or}
use Rattle.std.specs.Option.{SomeIff}
use Rattle.std.proofs.lemmas.List.{at_drop_more, at_drop_all}
use Rattle.std.specs.Fmt.{decimal, signed_decimal}
use Rattle.std.specs.Str.{bytes_eq}
use Rattle.std.specs.Str.Parse.{AllDigits, digits_value}
use Rattle.std.specs.Cmp.Lexicographic.{same_text}
use Rattle.std.proofs.lemmas.Bool.{cases_Bool, ne_eqb}
use Rattle.std.proofs.lemmas.Bool.Decides.{nat_tests}
use Rattle.std.proofs.lemmas.Int.{ints}
use Rattle.std.proofs.lemmas.Fmt.{decimal_is_IsNumeral}
use Rattle.std.proofs.lemmas.Str.Parse.{digit_from_value}
use Rattle.std.proofs.lemmas.List.Sums.{take_while-cons}
use borrow.Author.Tests.{eqb-true}
use Rattle.byte_ends.specs.Text.{IsNumber}
use Rattle.script_words.specs.Words.{Word, is_same, is_number}
use Rattle.script_words.proofs.Numbers.{is_number-decides}
use Rattle.text_laws.proofs.Numbers.{IsNumber-decimal, digits_value-decimal}
use Rattle.unix_names.specs.declared.Signal.{Signal}
use Rattle.unix_names.specs.declared.Signal.TheVariants.{Hup}
use Rattle.unix_names.specs.Signals.{word_of, signal_of, signal_named, all_signals}
use Rattle.unix_names.specs.Sets.{has, added, IsSignals}
use Rattle.unix_names.proofs.SignalLaws.{signal_named-word_of, signal_named-none, number_of-signal_of}
use Rattle.unix_calls.specs.Calls.{IsName}
use Rattle.script_words.proofs.Members.{members-all}
use Rattle.script_words.specs.Writing.{word_or_number, signal_word}
use Rattle.histories.specs.History.{set_words}
use Rattle.histories.specs.MethodLoose.{number_in, signed_in, number_or, signal_number_in, signal_in, with_named, set_in, words_before}

-- ---- numbers
pub number-decimal : (n : ℕ) → n < 2 ^ 32 → is_number (decimal n) ≡ true
number-decimal n h = (is_number-decides (decimal n)).1 (IsNumber-decimal n h)

pub number-read : (n : ℕ) → n < 2 ^ 32 → number_in (decimal n) ≡ n
unfolding number_in
number-read n h = ap (λ b. cond b (digits_value 10 (decimal n)) 0) (number-decimal n h) ∙ digits_value-decimal n h

-- a number is no other word
pub number-other : (word text : List ℕ) → is_number word ≡ true → is_number text ≡ false → is_same word text ≡ false
unfolding is_same
number-other word text holds other =
    elim (cases_Bool (bytes_eq word text)) [
      | inl same ↦ let e : word ≡ text = same_text word text (sym same) in let clash : true ≡ false = sym holds ∙ ap is_number e ∙ other in absurd (cc)
      | inr ne ↦ ne
    ]

digits-signed : (ds : List ℕ) → AllDigits 10 ds → 0 < length ds → signed_in ds ≡ pos (number_in ds)
unfolding signed_in
digits-signed [] all some = absurd (omega arith)
digits-signed (c ∷ cs) all some =
    let digit = digit_from_value c all.0 in
    ap (λ b. cond b (neg_ℤ (pos (number_in cs))) (pos (number_in (c ∷ cs)))) (ne_eqb c 45 (λ e. absurd (omega arith)))

pub small-pos : (n : ℕ) → IsName (pos n) → n < 2 ^ 32
small-pos n h = let b = h.1 in omega (arith, ints)

pub small-negsuc : (n : ℕ) → IsName (negsuc n) → suc n < 2 ^ 32
small-negsuc n h = let b = h.0 in omega (arith, ints)

pub signed-read : (z : ℤ) → IsName z → signed_in (signed_decimal z) ≡ z
unfolding signed_in
signed-read (pos n) h =
    let small = small-pos n h in
    let k = decimal_is_IsNumeral n (omega arith) in
    digits-signed (decimal n) k.0.1 k.0.0 ∙ ap pos (number-read n small)
signed-read (negsuc n) h = rw (number-read (suc n) (small-negsuc n h)) refl

-- ---- signals
pub word-not_number : (s : Signal) → is_number (word_of s) ≡ false
unfolding is_number
word-not_number Hup = refl
word-not_number _ = refl

none-is : {X : Type 0} (o : Option X) → IsNone o → o ≡ None
none-is None h = refl
none-is (Some x) h = absurd (cc)

number-unnamed : (n : ℕ) → n < 2 ^ 32 → signal_named (decimal n) ≡ None
number-unnamed n h = none-is (signal_named (decimal n)) ((signal_named-none (decimal n)).1 (λ s e.
    let clash : true ≡ false = sym (number-decimal n h) ∙ ap is_number (sym e) ∙ word-not_number s in absurd (cc)))

pub signal_number-read : (n : ℕ) → n < 2 ^ 32 → signal_number_in (signal_word n) ≡ n
unfolding signal_number_in
signal_number-read n h =
    elim (signal_of n) as (λ o. signal_of n ≡ o → number_or (signal_named (word_or_number n o)) (number_in (word_or_number n o)) ≡ n) [
      | None ↦ λ w. ap (λ o. number_or o (number_in (decimal n))) (number-unnamed n h) ∙ number-read n h
      | Some s ↦ λ w. ap (λ o. number_or o (number_in (word_of s))) (signal_named-word_of s) ∙ number_of-signal_of n s w
    ] refl

pub signal-read : (s : Signal) → signal_in (word_of s) ≡ s
unfolding signal_in
signal-read s = rw (signal_named-word_of s) refl

-- ---- sets
named-all : (set : ℕ) (ss : List Signal) → fold (λ set word. with_named set (signal_named word)) set (map word_of ss) ≡ fold added set ss
named-all set [] = refl
named-all set (s ∷ ss) =
    ap (λ o. fold (λ set word. with_named set (signal_named word)) (with_named set o) (map word_of ss)) (signal_named-word_of s) ∙ named-all (added set s) ss

dash-unnamed : set_in (codes "-" ∷ []) ≡ 0
unfolding set_in signal_named
dash-unnamed = refl

pub set-read : (set : ℕ) → IsSignals set → set_in (set_words set) ≡ set
unfolding set_in
set-read set h =
    elim (set == 0) as (λ b. (set == 0) ≡ b → fold (λ set word. with_named set (signal_named word)) 0 (cond b (codes "-" ∷ []) (map word_of (filter (has set) all_signals))) ≡ set) [
      | true ↦ λ w. dash-unnamed ∙ sym (eqb-true set 0 w)
      | false ↦ λ w. named-all 0 (filter (has set) all_signals) ∙ members-all set h
    ] refl

-- ---- what the readers of words answer
pub number-found : (w : Word) (r : Option ℕ) → SomeIff r (IsNumber w) (digits_value 10 w) → unwrap_or r 0 ≡ number_in w
unfolding number_in
number-found w (Some n) h = let holds = (is_number-decides w).1 h.0 in grind (arith, nat_tests)
number-found w None h =
    elim (cases_Bool (is_number w)) [ inl holds ↦ absurd (h ((is_number-decides w).0 holds)) | inr fails ↦ grind (arith, nat_tests) ]

pub number-told : (w : Word) (r : Option ℕ) → SomeIff r (IsNumber w) (digits_value 10 w) → is_some r ≡ is_number w
number-told w (Some n) h = sym ((is_number-decides w).1 h.0)
number-told w None h =
    elim (cases_Bool (is_number w)) [ inl holds ↦ absurd (h ((is_number-decides w).0 holds)) | inr fails ↦ sym fails ]

rest : ℕ → List (Bor (List ℕ)) → ℕ
rest set ws = fold (λ set word. with_named set (signal_named word)) set (map (λ w. w.now) ws)

pub goes_on : (ws : List (Bor (List ℕ))) (i set : ℕ) (d : Bor (List ℕ)) (all : ℕ) → i < length ws
    → fold (λ set word. with_named set (signal_named word)) set (map (λ w. w.now) (drop i ws)) ≡ all
    → fold (λ set word. with_named set (signal_named word)) (with_named set (signal_named (get_or ws i d).now)) (map (λ w. w.now) (drop (i + 1) ws)) ≡ all
unfolding rest
goes_on ws i set d all lt so_far = sym (at_drop_more (rest set) ws i d lt) ∙ so_far

pub ends : (ws : List (Bor (List ℕ))) (i set all : ℕ) → length ws ≤ i → fold (λ set word. with_named set (signal_named word)) set (map (λ w. w.now) (drop i ws)) ≡ all → set ≡ all
unfolding rest
ends ws i set all le so_far = sym (at_drop_all (rest set) ws i le) ∙ so_far

front-lengths : (test : Word → Bool) (ws : List (Bor Word)) → length (take_while (λ w. test w.now) ws) ≡ length (take_while test (map (λ w. w.now) ws))
front-lengths test [] = refl
front-lengths test (w ∷ ws) =
    let more = front-lengths test ws in
    let one : length (w ∷ take_while (λ w. test w.now) ws) ≡ length (w.now ∷ take_while test (map (λ w. w.now) ws)) = omega arith in
    ap length (take_while-cons (λ (w : Bor Word). test w.now) w ws)
    ∙ elim (test w.now) as (λ b. length (cond b (w ∷ take_while (λ w. test w.now) ws) []) ≡ length (cond b (w.now ∷ take_while test (map (λ w. w.now) ws)) [])) [ true ↦ one | false ↦ refl ]
    ∙ ap length (sym (take_while-cons test w.now (map (λ w. w.now) ws)))

pub before-told : (ws : List (Bor Word)) → length (take_while (λ w. not (is_same w.now (codes "="))) ws) ≡ words_before (map (λ w. w.now) ws)
unfolding words_before
before-told ws = front-lengths (λ w. not (is_same w (codes "="))) ws
