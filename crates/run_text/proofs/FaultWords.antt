-- the words of a line: they say a turn, or the first wrong one is told
use Rattle.std.proofs.Common.{◌≡◌, ◌⊎◌, inl, inr, ℕ, suc, ◌<◌, nat_lt, nat_le, true, false, not, ◌==◌, List, [], ◌∷◌, length, filter, refl, ap, sym, subst, ◌∙◌, arith, codes, Result, Ok, Err}
use Rattle.std.specs.Prelude.{if◌then◌else◌}
use Rattle.std.specs.List.{slice_split}
use Rattle.std.specs.Str.Parse.{digits_value}
use Rattle.std.proofs.lemmas.Bool.{cases_Bool}
use Rattle.std.proofs.lemmas.Bool.Decides.{nat_tests}
use Rattle.byte_ends.specs.Text.{IsNumber, is_blank, words}
use Rattle.unix_calls.specs.declared.Turn.{Turn}
use Rattle.unix_calls.specs.declared.Turn.TheVariants.{Go, Push, Take, Auto}
use Rattle.unix_calls.specs.Turns.{turns_in}
use Rattle.script_words.specs.declared.Kind.{Kind}
use Rattle.script_words.specs.declared.Kind.TheVariants.{UnknownWord, BadNumber, NoSuchNode}
use Rattle.script_words.specs.Words.{Word, Row, ◌>>=◌, is_same, word_at, is_number, number as number_of, node as node_of, ended, is_skipped}
use Rattle.script_words.proofs.Numbers.{is_number-decides}
use Rattle.std.proofs.lemmas.Slice.Eq.{bytes_eq-Decides}
use Rattle.run_text.specs.Schedule.{turn_of}
use Rattle.run_text.specs.Faults.{Place, node, number, Begins, Fits, Misfits, AreWrong, IsWrong, SaysTurn}

-- ---- words are never empty
abbrev pub AreSome : Row → Type 0
AreSome [] = Unit {0}
AreSome (w ∷ ws) = (0 < length w) × AreSome ws

not_empty : (n : ℕ) → (n == 0) ≡ false → 0 < n
not_empty n h = grind (arith, nat_tests)

some_kept : (parts : Row) → AreSome (filter (λ w. not (length w == 0)) parts)
some_kept [] = tt
some_kept (p ∷ ps) = elim (cases_Bool (length p == 0)) [
  | inl none ↦ rw none (some_kept ps)
  | inr some ↦ rw some (not_empty (length p) some, some_kept ps)
]

pub some_words : (line : List ℕ) → AreSome (words line)
some_words line = some_kept (slice_split is_blank line)

-- ---- a word at a place
value : ℕ → Place → Word → Result ℕ Kind
value nodes node w = node_of nodes w
value nodes number w = number_of w

number_told : (w : Word) → 0 < length w → ((number_of w ≡ Ok (digits_value 10 w)) × IsNumber w) ⊎ ((number_of w ≡ Err BadNumber) × ¬ IsNumber w)
unfolding number_of
number_told w some = elim (cases_Bool (is_number w)) [
  | inl h ↦ inl (grind (arith, nat_tests), (is_number-decides w).0 h)
  | inr f ↦ inr (grind (arith, nat_tests), λ n. let h = (is_number-decides w).1 n in absurd (cc))
]

PlaceTold : ℕ → Place → Word → Type 0
PlaceTold nodes place w = ((value nodes place w ≡ Ok (digits_value 10 w)) × Fits nodes place w) ⊎ ((kind : Kind) × (value nodes place w ≡ Err kind) × Misfits nodes place w kind)

node_told : (nodes : ℕ) (w : Word) → 0 < length w → ((node_of nodes w ≡ Ok (digits_value 10 w)) × Fits nodes node w) ⊎ ((kind : Kind) × (node_of nodes w ≡ Err kind) × Misfits nodes node w kind)
unfolding node_of
node_told nodes w some = elim (number_told w some) [
  | inl (e, n) ↦ rw e (elim (cases_Bool (nat_lt (digits_value 10 w) nodes)) [
    | inl less ↦ inl (ap (λ b. if◌then◌else◌ b (Ok (digits_value 10 w)) (Err NoSuchNode)) less, (n, grind (arith, nat_tests)))
    | inr more ↦ inr (NoSuchNode, ap (λ b. if◌then◌else◌ b (Ok (digits_value 10 w)) (Err NoSuchNode)) more, inr (refl, n, grind (arith, nat_tests)))
  ])
  | inr (e, n) ↦ rw e (inr (BadNumber, refl, inl (refl, n)))
]

place_told : (nodes : ℕ) (place : Place) (w : Word) → 0 < length w → PlaceTold nodes place w
unfolding PlaceTold value
place_told nodes node w some = node_told nodes w some
place_told nodes number w some = elim (number_told w some) [
  | inl (e, n) ↦ inl (e, n)
  | inr (e, n) ↦ inr (BadNumber, e, (refl, n))
]

value_none : (nodes : ℕ) (place : Place) → value nodes place [] ≡ Err UnknownWord
unfolding value node_of number_of
value_none nodes node = refl
value_none nodes number = refl

fits_not : (nodes : ℕ) (place : Place) (w : Word) (kind : Kind) → Fits nodes place w → Misfits nodes place w kind → ⊥
fits_not nodes node w kind f (inl m) = m.1 f.0
fits_not nodes node w kind f (inr m) = let less = f.1 in let more = m.2 in omega arith
fits_not nodes number w kind f m = m.1 f

misfits_same : (nodes : ℕ) (place : Place) (w : Word) (a b : Kind) → Misfits nodes place w a → Misfits nodes place w b → a ≡ b
misfits_same nodes node w a b (inl m) (inl n) = m.0 ∙ sym n.0
misfits_same nodes node w a b (inl m) (inr n) = absurd (m.1 n.1)
misfits_same nodes node w a b (inr m) (inl n) = absurd (n.1 m.1)
misfits_same nodes node w a b (inr m) (inr n) = m.0 ∙ sym n.0
misfits_same nodes number w a b m n = m.0 ∙ sym n.0

-- ---- the words behind the first
-- each word fits, none is missing and none is too many
abbrev pub AreRight : ℕ → List Place → Row → Type 0
AreRight nodes [] [] = Unit {0}
AreRight nodes [] (w ∷ ws) = ⊥
AreRight nodes (p ∷ form) [] = ⊥
AreRight nodes (p ∷ form) (w ∷ ws) = Fits nodes p w × AreRight nodes form ws

right_not : (nodes : ℕ) (form : List Place) (ws : Row) (kind : Kind) → AreRight nodes form ws → AreWrong nodes form ws kind → ⊥
right_not nodes [] [] kind r w = w
right_not nodes [] (x ∷ ws) kind r w = r
right_not nodes (p ∷ form) [] kind r w = r
right_not nodes (p ∷ form) (x ∷ ws) kind r (inl m) = fits_not nodes p x kind r.0 m
right_not nodes (p ∷ form) (x ∷ ws) kind r (inr w) = right_not nodes form ws kind r.1 w.1

wrong_same : (nodes : ℕ) (form : List Place) (ws : Row) (a b : Kind) → AreWrong nodes form ws a → AreWrong nodes form ws b → a ≡ b
wrong_same nodes [] [] a b v w = absurd v
wrong_same nodes [] (x ∷ ws) a b v w = v ∙ sym w
wrong_same nodes (p ∷ form) [] a b v w = v ∙ sym w
wrong_same nodes (p ∷ form) (x ∷ ws) a b (inl m) (inl n) = misfits_same nodes p x a b m n
wrong_same nodes (p ∷ form) (x ∷ ws) a b (inl m) (inr w) = absurd (fits_not nodes p x a w.0 m)
wrong_same nodes (p ∷ form) (x ∷ ws) a b (inr v) (inl n) = absurd (fits_not nodes p x b v.0 n)
wrong_same nodes (p ∷ form) (x ∷ ws) a b (inr v) (inr w) = wrong_same nodes form ws a b v.1 w.1

-- ---- first words
differ : (a b : Word) → is_same a b ≡ false → a ≡ b → ⊥
unfolding is_same
differ a b e h = let t = (bytes_eq-Decides a b).1 h in absurd (cc)

same : (a b : Word) → is_same a b ≡ true → a ≡ b
unfolding is_same
same a b e = (bytes_eq-Decides a b).0 e

-- the form of a line that begins so
form_of : Word → List Place
form_of w =
    if is_same w (codes "go") then node ∷ []
    else (if is_same w (codes "push") then node ∷ node ∷ []
    else (if is_same w (codes "take") then node ∷ node ∷ []
    else number ∷ []))

begins_form : (w : Word) (form : List Place) → Begins w form → form ≡ form_of w
unfolding form_of is_same
begins_form w form (inl (e, h)) = h ∙ sym (ap form_of e)
begins_form w form (inr (inl (e, h))) = h ∙ sym (ap form_of e)
begins_form w form (inr (inr (inl (e, h)))) = h ∙ sym (ap form_of e)
begins_form w form (inr (inr (inr (e, h)))) = h ∙ sym (ap form_of e)

begins_one : (w : Word) (f g : List Place) → Begins w f → Begins w g → f ≡ g
begins_one w f g a b = begins_form w f a ∙ sym (begins_form w g b)

-- ---- whole lines
pub is_wrong_same : (nodes : ℕ) (row : Row) (a b : Kind) → IsWrong nodes row a → IsWrong nodes row b → a ≡ b
is_wrong_same nodes [] a b v w = absurd v
is_wrong_same nodes (x ∷ ws) a b (s, v) (t, w) = go v w
  where
    go : (((form : List Place) → ¬ Begins x form) × (a ≡ UnknownWord)) ⊎ ((form : List Place) × Begins x form × AreWrong nodes form ws a)
        → (((form : List Place) → ¬ Begins x form) × (b ≡ UnknownWord)) ⊎ ((form : List Place) × Begins x form × AreWrong nodes form ws b) → a ≡ b
    go (inl m) (inl n) = m.1 ∙ sym n.1
    go (inl m) (inr n) = absurd (m.0 n.0 n.1)
    go (inr m) (inl n) = absurd (n.0 m.0 m.1)
    go (inr m) (inr n) = wrong_same nodes m.0 ws a b m.2 (subst (λ f. AreWrong nodes f ws b) (begins_one x n.0 m.0 n.1 m.1) n.2)

right_no_wrong : (nodes : ℕ) (w : Word) (ws : Row) (form : List Place) (kind : Kind) → Begins w form → AreRight nodes form ws → IsWrong nodes (w ∷ ws) kind → ⊥
right_no_wrong nodes w ws form kind b r (s, inl m) = m.0 form b
right_no_wrong nodes w ws form kind b r (s, inr m) = right_not nodes form ws kind r (subst (λ f. AreWrong nodes f ws kind) (begins_one w m.0 form m.1 b) m.2)

-- what is read of a line that says something: its turn, and no word of it is wrong; or what is wrong
abbrev pub Told : ℕ → Row → Result Turn Kind → Type 0
Told nodes row (Ok t) = SaysTurn row t × ((kind : Kind) → ¬ IsWrong nodes row kind)
Told nodes row (Err kind) = IsWrong nodes row kind

fit_number : (nodes : ℕ) (place : Place) (w : Word) → Fits nodes place w → IsNumber w
fit_number nodes node w f = f.0
fit_number nodes number w f = f

long_2 : (n : ℕ) → nat_le (suc (suc (suc n))) 2 ≡ false
long_2 n = grind (arith, nat_tests)

long_3 : (n : ℕ) → nat_le (suc (suc (suc (suc n)))) 3 ≡ false
long_3 n = grind (arith, nat_tests)

-- one word behind the first
abbrev OneTold : ℕ → Place → (ℕ → Turn) → Row → Result Turn Kind → Type 0
OneTold nodes place T ws (Ok t) = AreRight nodes (place ∷ []) ws × ((a : Word) × (ws ≡ a ∷ []) × (t ≡ T (digits_value 10 a)) × IsNumber a)
OneTold nodes place T ws (Err kind) = AreWrong nodes (place ∷ []) ws kind

one_read : (nodes : ℕ) (place : Place) (T : ℕ → Turn) (w : Word) (ws : Row) → AreSome ws → OneTold nodes place T ws (value nodes place (word_at (w ∷ ws) 1) >>= λ n. ended (w ∷ ws) 2 (T n))
unfolding word_at ended PlaceTold
one_read nodes place T w [] some = rw (value_none nodes place) refl
one_read nodes place T w (a ∷ []) some = elim (place_told nodes place a some.0) [
  | inl (e, f) ↦ rw e ((f, tt), (a, refl, refl, fit_number nodes place a f))
  | inr (k, e, m) ↦ rw e (inl m)
]
one_read nodes place T w (a ∷ b ∷ rest) some = elim (place_told nodes place a some.0) [
  | inl (e, f) ↦ rw (e, long_2 (length rest)) (inr (f, refl))
  | inr (k, e, m) ↦ rw e (inl m)
]

one_done : (nodes : ℕ) (place : Place) (T : ℕ → Turn) (w : Word) (ws : Row) → is_skipped (w ∷ ws) ≡ false → Begins w (place ∷ []) → ((a : Word) → IsNumber a → SaysTurn (w ∷ a ∷ []) (T (digits_value 10 a)))
    → (r : Result Turn Kind) → OneTold nodes place T ws r → Told nodes (w ∷ ws) r
one_done nodes place T w ws said b says (Ok t) o =
    let P : Turn → Type 0 = λ u. SaysTurn (w ∷ o.1.0 ∷ []) u in
    let Q : Row → Type 0 = λ vs. SaysTurn (w ∷ vs) t in
    (subst Q (sym o.1.1) (subst P (sym o.1.2) (says o.1.0 o.1.3)), λ kind. right_no_wrong nodes w ws (place ∷ []) kind b o.0)
one_done nodes place T w ws said b says (Err kind) o = (said, inr (place ∷ [], b, o))

-- two words behind the first
abbrev TwoTold : ℕ → (ℕ → ℕ → Turn) → Row → Result Turn Kind → Type 0
TwoTold nodes T ws (Ok t) = AreRight nodes (node ∷ node ∷ []) ws × ((a b : Word) × (ws ≡ a ∷ b ∷ []) × (t ≡ T (digits_value 10 a) (digits_value 10 b)) × IsNumber a × IsNumber b)
TwoTold nodes T ws (Err kind) = AreWrong nodes (node ∷ node ∷ []) ws kind

node_none : (nodes : ℕ) → node_of nodes [] ≡ Err UnknownWord
unfolding node_of number_of
node_none nodes = refl

two_read : (nodes : ℕ) (T : ℕ → ℕ → Turn) (w : Word) (ws : Row) → AreSome ws
    → TwoTold nodes T ws (node_of nodes (word_at (w ∷ ws) 1) >>= λ n. node_of nodes (word_at (w ∷ ws) 2) >>= λ k. ended (w ∷ ws) 3 (T n k))
unfolding word_at ended
two_read nodes T w [] some = rw (node_none nodes) refl
two_read nodes T w (a ∷ []) some = elim (node_told nodes a some.0) [
  | inl (e, f) ↦ rw (e, node_none nodes) (inr (f, refl))
  | inr (k, e, m) ↦ rw e (inl m)
]
two_read nodes T w (a ∷ b ∷ []) some = elim (node_told nodes a some.0) [
  | inl (e, f) ↦ elim (node_told nodes b some.1.0) [
    | inl (d, g) ↦ rw (e, d) ((f, (g, tt)), (a, b, refl, refl, f.0, g.0))
    | inr (k, d, m) ↦ rw (e, d) (inr (f, inl m))
  ]
  | inr (k, e, m) ↦ rw e (inl m)
]
two_read nodes T w (a ∷ b ∷ c ∷ rest) some = elim (node_told nodes a some.0) [
  | inl (e, f) ↦ elim (node_told nodes b some.1.0) [
    | inl (d, g) ↦ rw (e, d, long_3 (length rest)) (inr (f, inr (g, refl)))
    | inr (k, d, m) ↦ rw (e, d) (inr (f, inl m))
  ]
  | inr (k, e, m) ↦ rw e (inl m)
]

two_done : (nodes : ℕ) (T : ℕ → ℕ → Turn) (w : Word) (ws : Row) → is_skipped (w ∷ ws) ≡ false → Begins w (node ∷ node ∷ [])
    → ((a b : Word) → IsNumber a → IsNumber b → SaysTurn (w ∷ a ∷ b ∷ []) (T (digits_value 10 a) (digits_value 10 b)))
    → (r : Result Turn Kind) → TwoTold nodes T ws r → Told nodes (w ∷ ws) r
two_done nodes T w ws said b says (Ok t) o =
    let P : Turn → Type 0 = λ u. SaysTurn (w ∷ o.1.0 ∷ o.1.1 ∷ []) u in
    let Q : Row → Type 0 = λ vs. SaysTurn (w ∷ vs) t in
    (subst Q (sym o.1.2) (subst P (sym o.1.3) (says o.1.0 o.1.1 o.1.4 o.1.5)), λ kind. right_no_wrong nodes w ws (node ∷ node ∷ []) kind b o.0)
two_done nodes T w ws said b says (Err kind) o = (said, inr (node ∷ node ∷ [], b, o))

-- what is read of the words of a line
pub turn_told : (nodes : ℕ) (row : Row) → AreSome row → is_skipped row ≡ false → Told nodes row (turn_of nodes row)
unfolding turn_of word_at is_skipped value
turn_told nodes [] some said = absurd (cc)
turn_told nodes (w ∷ ws) some said = elim (cases_Bool (is_same w (codes "go"))) [
  | inl go ↦ rw go (let e = same w (codes "go") go in one_done nodes node (λ n. Go n) w ws said (inl (e, refl)) (λ a h. (e, (h, refl))) _ (node_read (λ n. Go n)))
  | inr no_go ↦ rw no_go (elim (cases_Bool (is_same w (codes "push"))) [
    | inl push ↦ rw push (let e = same w (codes "push") push in two_done nodes (λ n k. Push n k) w ws said (inr (inl (e, refl))) (λ a b h k. (e, (h, refl), (k, refl))) _ (two_read nodes (λ n k. Push n k) w ws some.1))
    | inr no_push ↦ rw no_push (elim (cases_Bool (is_same w (codes "take"))) [
      | inl take ↦ rw take (let e = same w (codes "take") take in two_done nodes (λ n m. Take n m) w ws said (inr (inr (inl (e, refl)))) (λ a b h k. (e, (h, refl), (k, refl))) _ (two_read nodes (λ n m. Take n m) w ws some.1))
      | inr no_take ↦ rw no_take (elim (cases_Bool (is_same w (codes "auto"))) [
        | inl auto ↦ rw auto (let e = same w (codes "auto") auto in one_done nodes number (λ k. Auto k) w ws said (inr (inr (inr (e, refl)))) (λ a h. (e, (h, refl))) _ (number_read (λ k. Auto k)))
        | inr no_auto ↦ rw no_auto (said, inl (none no_go no_push no_take no_auto, refl))
      ])
    ])
  ])
]
  where
    node_read : (T : ℕ → Turn) → OneTold nodes node T ws (node_of nodes (word_at (w ∷ ws) 1) >>= λ n. ended (w ∷ ws) 2 (T n))
    node_read T = one_read nodes node T w ws some.1

    number_read : (T : ℕ → Turn) → OneTold nodes number T ws (number_of (word_at (w ∷ ws) 1) >>= λ n. ended (w ∷ ws) 2 (T n))
    number_read T = one_read nodes number T w ws some.1

    none : is_same w (codes "go") ≡ false → is_same w (codes "push") ≡ false → is_same w (codes "take") ≡ false → is_same w (codes "auto") ≡ false → (form : List Place) → Begins w form → ⊥
    none g p t a form (inl (e, h)) = differ w (codes "go") g e
    none g p t a form (inr (inl (e, h))) = differ w (codes "push") p e
    none g p t a form (inr (inr (inl (e, h)))) = differ w (codes "take") t e
    none g p t a form (inr (inr (inr (e, h)))) = differ w (codes "auto") a e

-- ---- how many turns a line says
count_in : Row → ℕ
count_in row = if is_same (word_at row 0) (codes "auto") then digits_value 10 (word_at row 1) else 1

says_so : (row : Row) (t : Turn) → SaysTurn row t → turns_in t ≡ count_in row
unfolding count_in is_same word_at
says_so (w ∷ a ∷ []) (Go n) h = sym (ap (λ (x : Word). count_in (x ∷ a ∷ [])) h.0)
says_so (w ∷ a ∷ []) (Auto n) h = h.1.1 ∙ sym (ap (λ (x : Word). count_in (x ∷ a ∷ [])) h.0)
says_so (w ∷ a ∷ b ∷ []) (Push n k) h = sym (ap (λ (x : Word). count_in (x ∷ a ∷ b ∷ [])) h.0)
says_so (w ∷ a ∷ b ∷ []) (Take n k) h = sym (ap (λ (x : Word). count_in (x ∷ a ∷ b ∷ [])) h.0)
says_so row t h = absurd h

-- a line says one number of turns
pub says_count : (row : Row) (t u : Turn) → SaysTurn row t → SaysTurn row u → turns_in t ≡ turns_in u
says_count row t u h k = says_so row t h ∙ sym (says_so row u k)

-- a line that is skipped says no turn
pub skipped_unsaid : (row : Row) (t : Turn) → is_skipped row ≡ true → SaysTurn row t → ⊥
unfolding is_skipped
skipped_unsaid (w ∷ a ∷ []) (Go n) e h = let clash : true ≡ false = sym e ∙ ap (λ (x : Word). is_skipped (x ∷ a ∷ [])) h.0 in absurd (cc)
skipped_unsaid (w ∷ a ∷ []) (Auto n) e h = let clash : true ≡ false = sym e ∙ ap (λ (x : Word). is_skipped (x ∷ a ∷ [])) h.0 in absurd (cc)
skipped_unsaid (w ∷ a ∷ b ∷ []) (Push n k) e h = let clash : true ≡ false = sym e ∙ ap (λ (x : Word). is_skipped (x ∷ a ∷ b ∷ [])) h.0 in absurd (cc)
skipped_unsaid (w ∷ a ∷ b ∷ []) (Take n k) e h = let clash : true ≡ false = sym e ∙ ap (λ (x : Word). is_skipped (x ∷ a ∷ b ∷ [])) h.0 in absurd (cc)
skipped_unsaid row t e h = absurd h
