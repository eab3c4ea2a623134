-- rows that are written as lines are read back
use Rattle.std.proofs.Common.{◌≡◌, ◌++◌, ◌&&◌, ℕ, zero, suc, ◌<◌, ◌^◌, nat_le, Bool, true, false, cond, not, List, [], ◌∷◌, length, map, codes, refl, sym, ap, ◌∙◌, arith, append_assoc, Some, None, All, IsAscii}
use Rattle.std.specs.List.{list_all, flat_map}
use Rattle.std.specs.Fmt.{decimal}
use Rattle.std.specs.Str.{is_utf8}
use Rattle.std.specs.Str.Parse.{AllDigits}
use Rattle.std.proofs.lemmas.Bool.{and_parts, lt-ltb}
use Rattle.std.proofs.lemmas.Bool.Decides.{nat_tests}
use Rattle.std.proofs.lemmas.Fmt.{decimal_is_IsNumeral}
use Rattle.std.proofs.lemmas.List.Elements.{All-nil, All-cons}
use Rattle.std.proofs.lemmas.List.Sums.{take_while-cons}
use Rattle.std.proofs.lemmas.Str.{is_utf8-from_IsUtf8, IsUtf8-from_ascii, IsAscii-append}
use Rattle.std.proofs.lemmas.Str.Parse.{digit_from_value}
use Rattle.byte_ends.specs.Text.{words, lines}
use Rattle.text_laws.specs.Plain.{is_visible, is_plain, are_plain}
use Rattle.text_laws.proofs.Lines.{IsLine, lines-newline}
use Rattle.text_laws.proofs.Words.{words-spaced, line-spaced}
use Rattle.file_parts.specs.Parts.{stands_alone, is_only, before, behind, world_lines, schedule_lines, history_lines}
use Rattle.load_maker.specs.Made.{Row, rest_of, line_of}

-- ---- words
-- a byte that is seen, and stands for itself in every encoding
abbrev pub is_printed : ℕ → Bool
is_printed b = nat_le 33 b && nat_le b 126

-- a word of such bytes
abbrev pub is_fine : List ℕ → Bool
is_fine [] = false
is_fine (b ∷ bs) = is_printed b && list_all is_printed bs

abbrev pub is_fine_row : Row → Bool
is_fine_row [] = false
is_fine_row (w ∷ ws) = is_fine w && list_all is_fine ws

printed-digits : (ds : List ℕ) → AllDigits 10 ds → list_all is_printed ds ≡ true
printed-digits [] h = refl
printed-digits (c ∷ cs) h =
    let digit = digit_from_value c h.0 in
    let rest = printed-digits cs h.1 in
    grind (arith, nat_tests)

fine-digits : (ds : List ℕ) → 0 < length ds → AllDigits 10 ds → is_fine ds ≡ true
fine-digits [] some h = absurd (omega arith)
fine-digits (c ∷ cs) some h = printed-digits (c ∷ cs) h

pub digits-decimal : (n : ℕ) → n < 2 ^ 32 → AllDigits 10 (decimal n)
digits-decimal n h = (decimal_is_IsNumeral n (omega arith)).0.1

pub printed-decimal : (n : ℕ) → n < 2 ^ 32 → list_all is_printed (decimal n) ≡ true
printed-decimal n h = printed-digits (decimal n) (digits-decimal n h)

pub fine-decimal : (n : ℕ) → n < 2 ^ 32 → is_fine (decimal n) ≡ true
fine-decimal n h = let k = decimal_is_IsNumeral n (omega arith) in fine-digits (decimal n) k.0.0 k.0.1

printed-visible : (b : ℕ) → is_printed b ≡ true → (is_visible b ≡ true) × (b < 128)
printed-visible b h = (grind (arith, nat_tests), grind (arith, nat_tests))

all-visible : (bs : List ℕ) → list_all is_printed bs ≡ true → list_all is_visible bs ≡ true
all-visible [] h = refl
all-visible (b ∷ bs) h =
    let parts = and_parts (is_printed b) (list_all is_printed bs) h in
    ap (λ t. t && list_all is_visible bs) ((printed-visible b parts.0).0) ∙ all-visible bs parts.1

fine-plain : (word : List ℕ) → is_fine word ≡ true → is_plain word ≡ true
fine-plain [] h = cc
fine-plain (b ∷ bs) h = ap (λ t. t && list_all is_visible (b ∷ bs)) (lt-ltb 0 (length (b ∷ bs)) (omega arith)) ∙ all-visible (b ∷ bs) h

fine-plains : (ws : Row) → list_all is_fine ws ≡ true → are_plain ws ≡ true
fine-plains [] h = refl
fine-plains (w ∷ ws) h =
    let parts = and_parts (is_fine w) (list_all is_fine ws) h in
    ap (λ t. t && are_plain ws) (fine-plain w parts.0) ∙ fine-plains ws parts.1

ascii-nil : IsAscii []
ascii-nil i = omega arith

ascii-cons : (b : ℕ) (bs : List ℕ) → b < 128 → IsAscii bs → IsAscii (b ∷ bs)
ascii-cons b bs low rest zero = low
ascii-cons b bs low rest (suc i) = rest i

printed-ascii : (bs : List ℕ) → list_all is_printed bs ≡ true → IsAscii bs
printed-ascii [] h = ascii-nil
printed-ascii (b ∷ bs) h =
    let parts = and_parts (is_printed b) (list_all is_printed bs) h in
    ascii-cons b bs ((printed-visible b parts.0).1) (printed-ascii bs parts.1)

fine-ascii : (word : List ℕ) → is_fine word ≡ true → IsAscii word
fine-ascii [] h = cc
fine-ascii (b ∷ bs) h = printed-ascii (b ∷ bs) h

-- ---- rows
-- a row as a line without its newline
abbrev pub written : Row → List ℕ
written [] = []
written (w ∷ ws) = w ++ flat_map (λ w. 32 ∷ w) ws

rest_is : (ws : Row) → rest_of ws ≡ flat_map (λ w. 32 ∷ w) ws ++ 10 ∷ []
rest_is [] = refl
rest_is (w ∷ ws) = ap (λ (t : List ℕ). 32 ∷ w ++ t) (rest_is ws) ∙ sym (append_assoc (32 ∷ w) (flat_map (λ w. 32 ∷ w) ws) (10 ∷ []))

line_is : (row : Row) → line_of row ≡ written row ++ 10 ∷ []
line_is [] = refl
line_is (w ∷ ws) = ap (λ (t : List ℕ). w ++ t) (rest_is ws) ∙ sym (append_assoc w (flat_map (λ w. 32 ∷ w) ws) (10 ∷ []))

-- a row of such words that divides no file
pub record IsGood (row : Row) : Type 0 where
  pub fine : is_fine_row row ≡ true
  pub schedule : stands_alone (codes "schedule") row ≡ false
  pub history : stands_alone (codes "history") row ≡ false

row-words : (row : Row) → is_fine_row row ≡ true → words (written row) ≡ row
row-words [] h = cc
row-words (w ∷ ws) h =
    let parts = and_parts (is_fine w) (list_all is_fine ws) h in
    words-spaced w ws (fine-plain w parts.0) (fine-plains ws parts.1)

row-line : (row : Row) → is_fine_row row ≡ true → IsLine (written row)
row-line [] h = cc
row-line (w ∷ ws) h =
    let parts = and_parts (is_fine w) (list_all is_fine ws) h in
    line-spaced w ws (fine-plain w parts.0) (fine-plains ws parts.1)

spaced-ascii : (ws : Row) → list_all is_fine ws ≡ true → IsAscii (flat_map (λ w. 32 ∷ w) ws)
spaced-ascii [] h = ascii-nil
spaced-ascii (w ∷ ws) h =
    let parts = and_parts (is_fine w) (list_all is_fine ws) h in
    IsAscii-append (32 ∷ w) (flat_map (λ w. 32 ∷ w) ws) (ascii-cons 32 w (omega arith) (fine-ascii w parts.0)) (spaced-ascii ws parts.1)

row-utf8 : (row : Row) → is_fine_row row ≡ true → is_utf8 (written row) ≡ true
row-utf8 [] h = cc
row-utf8 (w ∷ ws) h =
    let parts = and_parts (is_fine w) (list_all is_fine ws) h in
    is_utf8-from_IsUtf8 (written (w ∷ ws)) (IsUtf8-from_ascii (written (w ∷ ws)) (IsAscii-append w (flat_map (λ w. 32 ∷ w) ws) (fine-ascii w parts.0) (spaced-ascii ws parts.1)))

-- ---- texts
abbrev pub AreGood : List Row → Type 0
AreGood [] = Unit {0}
AreGood (row ∷ rows) = IsGood row × AreGood rows

pub good-append : (rows more : List Row) → AreGood rows → AreGood more → AreGood (rows ++ more)
good-append [] more a b = b
good-append (row ∷ rows) more a b = (a.0, good-append rows more a.1 b)

-- the lines of a text are the rows that were written
pub text-lines : (rows : List Row) → AreGood rows → lines (flat_map line_of rows) ≡ map written rows
text-lines [] good = refl
text-lines (row ∷ rows) good =
    let first = good.0 in
    let line = row-line row first.fine in
    let rest : List ℕ = flat_map line_of rows in
    ap (λ (t : List ℕ). lines (t ++ rest)) (line_is row)
    ∙ ap lines (append_assoc (written row) (10 ∷ []) rest)
    ∙ lines-newline (written row) rest line.one
    ∙ ap (λ (l : List ℕ). l ∷ lines rest) line.kept
    ∙ ap (λ (ls : List (List ℕ)). written row ∷ ls) (text-lines rows good.1)

pub text-rows : (rows : List Row) → AreGood rows → map words (map written rows) ≡ rows
text-rows [] good = refl
text-rows (row ∷ rows) good =
    let first = good.0 in
    ap (λ (r : Row). r ∷ map words (map written rows)) (row-words row first.fine) ∙ ap (λ (rs : List Row). row ∷ rs) (text-rows rows good.1)

pub text-utf8 : (rows : List Row) → AreGood rows → All (λ line. is_utf8 line ≡ true) (map written rows)
text-utf8 [] good = All-nil (λ line. is_utf8 line ≡ true)
text-utf8 (row ∷ rows) good =
    let first = good.0 in
    All-cons (λ line. is_utf8 line ≡ true) (written row) (map written rows) (row-utf8 row first.fine) (text-utf8 rows good.1)

-- ---- parts
-- a word that stands alone in no row
abbrev pub StandsNowhere : List ℕ → List Row → Type 0
StandsNowhere word [] = Unit {0}
StandsNowhere word (row ∷ rows) = (is_only word (written row) ≡ false) × StandsNowhere word rows

whole_before : (word : List ℕ) (rows : List Row) → StandsNowhere word rows → before (is_only word) (map written rows) ≡ map written rows
whole_before word [] h = refl
whole_before word (row ∷ rows) h =
    take_while-cons (λ l. not (is_only word l)) (written row) (map written rows)
    ∙ ap (λ t. cond (not t) (written row ∷ before (is_only word) (map written rows)) []) h.0
    ∙ ap (λ (ls : List (List ℕ)). written row ∷ ls) (whole_before word rows h.1)

none_behind : (word : List ℕ) (rows : List Row) → StandsNowhere word rows → behind (is_only word) (map written rows) ≡ None
none_behind word [] h = refl
none_behind word (row ∷ rows) h = ap (λ t. cond t (Some (map written rows)) (behind (is_only word) (map written rows))) h.0 ∙ none_behind word rows h.1

nowhere : (word : List ℕ) → ((row : Row) → IsGood row → stands_alone word row ≡ false) → (rows : List Row) → AreGood rows → StandsNowhere word rows
nowhere word alone [] good = tt
nowhere word alone (row ∷ rows) good =
    let first = good.0 in
    (ap (stands_alone word) (row-words row first.fine) ∙ alone row first, nowhere word alone rows good.1)

pub one_part : (rows : List Row) → AreGood rows → (world_lines (map written rows) ≡ map written rows) × (schedule_lines (map written rows) ≡ None) × (history_lines (map written rows) ≡ None)
one_part rows good =
    let schedule = nowhere (codes "schedule") (λ r g. g.schedule) rows good in
    let history = nowhere (codes "history") (λ r g. g.history) rows good in
    let front = whole_before (codes "history") rows history in (
      ap (before (is_only (codes "schedule"))) front ∙ whole_before (codes "schedule") rows schedule,
      ap (behind (is_only (codes "schedule"))) front ∙ none_behind (codes "schedule") rows schedule,
      none_behind (codes "history") rows history,
    )
