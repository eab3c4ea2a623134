-- words that name nothing: by the form of names, by their first letters, and by a minus with digits
use Rattle.std.proofs.Common.{◌≡◌, ◌==◌, ◌&&◌, inl, inr, ℕ, ◌≤◌, Bool, true, false, not, List, [], ◌∷◌, length, refl, sym, ap, subst, arith, Some, None}
use Rattle.std.specs.Prelude.{codes, nat_le, nat_lt}
use Rattle.std.specs.List.{list_any, list_all}
use Rattle.std.specs.Str.Parse.{digits_value}
use Rattle.std.proofs.lemmas.Bool.{and_parts, eqb-true, leb-true, lt-leb}
use Rattle.std.proofs.lemmas.List.Folds.{list_any_at, list_any_none}
use Rattle.byte_ends.specs.Text.{IsNumber}
use Rattle.unix_names.specs.declared.Signal.{Signal}
use Rattle.unix_names.specs.declared.Signal.TheVariants.{Hup}
use Rattle.unix_names.specs.Signals.{word_of, signal_named}
use Rattle.unix_names.proofs.SignalLaws.{signal_named-word_of}
use Rattle.script_words.specs.Words.{Word, Row, is_same, is_digit, is_lower, is_name_byte, has_name_form, reserved, is_reserved, begins_with_digit, is_minus_digits}
use Rattle.script_laws.specs.Grammar.{HasNameForm}
use Rattle.script_laws.proofs.Words.{words_same}
use Rattle.script_laws.proofs.Reading.{not_same, name_form, name_first, number_first}
use Rattle.fault_laws.specs.Slots.{NamesGroup, NamesProcess, NamesTarget, NamesSignal}

-- words that are told apart are not one
pub differ : (a b : Word) → is_same a b ≡ false → a ≡ b → ⊥
differ a b n e = let y : is_same a b ≡ true = words_same a b e in cc

-- a test that fails does not pass
pub not_both : (b : Bool) → b ≡ true → b ≡ false → ⊥
not_both b t f = cc

-- what is not so is false
no_true : (b : Bool) → not b ≡ true → b ≡ false
no_true true e = cc
no_true false e = refl

-- ---- the form of names
-- the reader's test is the form of names
pub form_known : (word : Word) → (has_name_form word && not (is_reserved word)) ≡ true → HasNameForm word
unfolding has_name_form is_reserved
form_known [] e = cc
form_known (b ∷ bs) e =
    let f = and_parts (has_name_form (b ∷ bs)) (not (is_reserved (b ∷ bs))) e in
    let l = and_parts (is_lower b) (list_all is_name_byte (b ∷ bs)) f.0 in
    let free : list_any (is_same (b ∷ bs)) reserved ≡ false = no_true (list_any (is_same (b ∷ bs)) reserved) f.1 in
    record {
      letter = b;
      others = bs;
      is = refl;
      lower = l.0;
      each = (and_parts (is_name_byte b) (list_all is_name_byte bs) l.1).1;
      free = λ k d lt s. not_both _ (list_any_at (is_same (b ∷ bs)) reserved k d lt (words_same (b ∷ bs) _ s)) free;
    }

pub form_passes : (word : Word) → HasNameForm word → (has_name_form word && not (is_reserved word)) ≡ true
unfolding is_reserved
form_passes word n = rw (name_form word n, list_any_none (is_same word) reserved (λ k d lt. not_same word _ (n.free k d lt))) refl

-- ---- first letters
-- a digit is no lower-case letter
digit_lower : (b : ℕ) → is_digit b ≡ true → is_lower b ≡ false
digit_lower b e = let p = and_parts (nat_le 48 b) (nat_le b 57) e in let m : b ≤ 57 = leb-true b 57 p.1 in rw (lt-leb 97 b (omega arith)) refl

-- a word has one first letter
pub one_first : (word : Word) (b c : ℕ) (bs cs : Word) → word ≡ b ∷ bs → word ≡ c ∷ cs → b ≡ c
one_first word b c bs cs e f = cc

not_lower : (word : Word) (b c : ℕ) (bs cs : Word) → word ≡ b ∷ bs → is_lower b ≡ false → word ≡ c ∷ cs → is_lower c ≡ true → ⊥
not_lower word b c bs cs h e w l = not_both (is_lower b) (subst (λ z. is_lower z ≡ true) (one_first word c b cs bs w h) l) e

-- the words for a group, and names, begin with lower-case letters
group_first : (rows : List Row) (word : Word) (b : ℕ) (bs : Word) → is_lower b ≡ false → word ≡ b ∷ bs → NamesGroup rows word → ⊥
group_first rows word b bs e h (inl w) = not_lower word b 110 bs (codes "one") h e w refl
group_first rows word b bs e h (inr (inl w)) = not_lower word b 115 bs (codes "elf") h e w refl
group_first rows word b bs e h (inr (inr (inl w))) = not_lower word b 109 bs (codes "aker") h e w refl
group_first rows word b bs e h (inr (inr (inr n))) = name_first word b bs n.0 e h

-- no process begins with a minus
pub process_first : (rows : List Row) (word bs : Word) → word ≡ 45 ∷ bs → NamesProcess rows word → ⊥
process_first rows word bs h (inl w) = let s : ◌≡◌ {A = ℕ} 45 48 = one_first word 45 48 bs [] h w in omega arith
process_first rows word bs h (inr (inl w)) = let s : ◌≡◌ {A = ℕ} 45 49 = one_first word 45 49 bs [] h w in omega arith
process_first rows word bs h (inr (inr g)) = group_first rows word 45 bs refl h g

-- digits name no group
digits_not : (rows : List Row) (name bs : Word) → name ≡ bs → nat_lt 0 (length bs) ≡ true → list_all is_digit bs ≡ true → NamesGroup rows name → ⊥
digits_not rows name [] h some e g = cc
digits_not rows name (d ∷ ds) h some e g = group_first rows name d ds (digit_lower d (and_parts (is_digit d) (list_all is_digit ds) e).0) h g

-- a word has one rest behind its first letter
pub rest_same : (a b : ℕ) (xs ys : Word) → a ∷ xs ≡ b ∷ ys → ys ≡ xs
rest_same a b xs ys e = cc

-- a minus and digits name nothing
pub minus_digits_not : (rows : List Row) (word : Word) → is_minus_digits word ≡ true → NamesTarget rows word → ⊥
unfolding is_minus_digits
minus_digits_not rows [] e t = cc
minus_digits_not rows (b ∷ bs) e t =
    let p = and_parts ((b == 45) && nat_lt 0 (length bs)) (list_all is_digit bs) e in
    let q = and_parts (b == 45) (nat_lt 0 (length bs)) p.0 in
    elim t [
      | inl process ↦ process_first rows (b ∷ bs) bs (ap (λ (c : ℕ). c ∷ bs) (eqb-true b 45 q.0)) process
      | inr group ↦ digits_not rows group.0 bs (rest_same b 45 bs group.0 group.1) q.1 p.1 group.2
    ]

-- ---- signals
-- a signal's word begins with no digit
signal_first : (s : Signal) → begins_with_digit (word_of s) ≡ false
unfolding begins_with_digit
signal_first Hup = refl
signal_first _ = refl

-- a word that begins with a digit is no signal's
pub digit_no_signal : (word : Word) → begins_with_digit word ≡ true → NamesSignal word → ⊥
digit_no_signal word e h = not_both (begins_with_digit (word_of h.0)) (subst (λ w. begins_with_digit w ≡ true) h.1 e) (signal_first h.0)

-- no signal has a word that none is named by
pub named_not : (word : Word) → signal_named word ≡ None → NamesSignal word → ⊥
named_not word e h = let y : signal_named word ≡ Some h.0 = subst (λ w. signal_named w ≡ Some h.0) (sym h.1) (signal_named-word_of h.0) in cc

-- a number begins with a digit
pub number_digit : (word : Word) → IsNumber word → begins_with_digit word ≡ true
number_digit word n = number_first word (digits_value 10 word) (n, refl)
