-- the words of a written world stand in its lines as they are
use Rattle.std.proofs.Common.{◌≡◌, ◌&&◌, ◌++◌, ℕ, ◌<◌, ◌≤◌, ◌^◌, Bool, true, false, List, [], ◌∷◌, length, refl, sym, ap, ◌∙◌, arith, All}
use Rattle.std.specs.Prelude.{map, nat_le, nat_lt}
use Rattle.std.specs.List.{list_all, flat_map}
use Rattle.std.specs.Str.{IsAscii, is_utf8}
use Rattle.std.specs.Fmt.{decimal}
use Rattle.std.proofs.lemmas.Bool.{and_parts, leb-true, le-leb, lt-ltb, ltb-true}
use Rattle.std.proofs.lemmas.List.Elements.{All-nil, All-cons}
use Rattle.std.proofs.lemmas.List.{append-nil}
use Rattle.std.proofs.lemmas.Str.{IsUtf8-from_ascii, is_utf8-from_IsUtf8, IsAscii-append}
use Rattle.std.proofs.lemmas.Str.Ascii.{IsAscii-nil, IsAscii-cons}
use Rattle.byte_ends.specs.Text.{lines, words}
use Rattle.text_laws.specs.Plain.{is_visible, is_plain, are_plain}
use Rattle.text_laws.proofs.Words.{words-spaced, line-spaced}
use Rattle.text_laws.proofs.Lines.{IsLine, AreLines, lines-written}
use Rattle.text_laws.proofs.Numbers.{IsNumber-decimal}
use Rattle.script_words.specs.Words.{Word, Row, is_digit}
use Rattle.script_words.specs.Writing.{spaced}
use Rattle.script_writer.specs.Written.{spelled, line_text}
use Rattle.script_laws.proofs.Chosen.{all_digits}

abbrev pub is_fine : ℕ → Bool
is_fine b = nat_le 33 b && nat_lt b 128

-- a word that is not empty, of visible bytes of ASCII
abbrev pub is_solid : Word → Bool
is_solid [] = false
is_solid (b ∷ bs) = list_all is_fine (b ∷ bs)

-- a row that is not empty, of such words
abbrev pub is_solid_row : Row → Bool
is_solid_row [] = false
is_solid_row (w ∷ ws) = list_all is_solid (w ∷ ws)

-- ---- what such words are
pub solid_fine : (w : Word) → is_solid w ≡ true → list_all is_fine w ≡ true
solid_fine [] e = refl
solid_fine (b ∷ bs) e = e

fine_visible : (w : Word) → list_all is_fine w ≡ true → list_all is_visible w ≡ true
fine_visible [] e = refl
fine_visible (b ∷ bs) e =
    let p = and_parts (is_fine b) (list_all is_fine bs) e in
    let q = and_parts (nat_le 33 b) (nat_lt b 128) p.0 in
    rw (q.0, fine_visible bs p.1) refl

solid_plain : (w : Word) → is_solid w ≡ true → is_plain w ≡ true
solid_plain [] e = cc
solid_plain (b ∷ bs) e = let lt : nat_lt 0 (length (b ∷ bs)) ≡ true = lt-ltb 0 (length (b ∷ bs)) (omega arith) in rw (lt, fine_visible (b ∷ bs) e) refl

rows_plain : (ws : Row) → list_all is_solid ws ≡ true → are_plain ws ≡ true
rows_plain [] e = refl
rows_plain (w ∷ ws) e = let p = and_parts (is_solid w) (list_all is_solid ws) e in rw (solid_plain w p.0, rows_plain ws p.1) refl

fine_ascii : (w : Word) → list_all is_fine w ≡ true → IsAscii w
fine_ascii [] e = IsAscii-nil
fine_ascii (b ∷ bs) e =
    let p = and_parts (is_fine b) (list_all is_fine bs) e in
    let q = and_parts (nat_le 33 b) (nat_lt b 128) p.0 in
    IsAscii-cons b bs (ltb-true b 128 q.1) (fine_ascii bs p.1)

spaced_ascii : (ws : Row) → list_all is_solid ws ≡ true → IsAscii (spaced ws)
spaced_ascii [] e = IsAscii-nil
spaced_ascii (w ∷ ws) e =
    let p = and_parts (is_solid w) (list_all is_solid ws) e in
    IsAscii-append (32 ∷ w) (spaced ws) (IsAscii-cons 32 w (omega arith) (fine_ascii w (solid_fine w p.0))) (spaced_ascii ws p.1)

-- ---- the lines of such rows
abbrev pub AreSolid : List Row → Type 0
AreSolid [] = Unit {0}
AreSolid (r ∷ rs) = (is_solid_row r ≡ true) × AreSolid rs

pub solid-append : (a b : List Row) → AreSolid a → AreSolid b → AreSolid (a ++ b)
solid-append [] b x y = y
solid-append (r ∷ a) b x y = (x.0, solid-append a b x.1 y)

row_line : (r : Row) → is_solid_row r ≡ true → IsLine (spelled r)
row_line [] e = cc
row_line (w ∷ ws) e = let p = and_parts (is_solid w) (list_all is_solid ws) e in line-spaced w ws (solid_plain w p.0) (rows_plain ws p.1)

row_words : (r : Row) → is_solid_row r ≡ true → words (spelled r) ≡ r
row_words [] e = cc
row_words (w ∷ ws) e = let p = and_parts (is_solid w) (list_all is_solid ws) e in words-spaced w ws (solid_plain w p.0) (rows_plain ws p.1)

row_text : (r : Row) → is_solid_row r ≡ true → is_utf8 (spelled r) ≡ true
row_text [] e = cc
row_text (w ∷ ws) e =
    let p = and_parts (is_solid w) (list_all is_solid ws) e in
    is_utf8-from_IsUtf8 (spelled (w ∷ ws)) (IsUtf8-from_ascii (spelled (w ∷ ws)) (IsAscii-append w (spaced ws) (fine_ascii w (solid_fine w p.0)) (spaced_ascii ws p.1)))

rows_lines : (rs : List Row) → AreSolid rs → AreLines spelled rs
rows_lines [] s = tt
rows_lines (r ∷ rs) s = (row_line r s.0, rows_lines rs s.1)

pub rows_words : (rs : List Row) → AreSolid rs → map words (map spelled rs) ≡ rs
rows_words [] s = refl
rows_words (r ∷ rs) s = rw (row_words r s.0, rows_words rs s.1) refl

pub rows_texts : (rs : List Row) → AreSolid rs → All (λ line. is_utf8 line ≡ true) (map spelled rs)
rows_texts [] s = All-nil (λ line. is_utf8 line ≡ true)
rows_texts (r ∷ rs) s = All-cons (λ line. is_utf8 line ≡ true) (spelled r) (map spelled rs) (row_text r s.0) (rows_texts rs s.1)

pub text_lines : (rs : List Row) → AreSolid rs → lines (flat_map line_text rs) ≡ map spelled rs
text_lines rs s = ap lines (sym (append-nil (flat_map line_text rs))) ∙ lines-written spelled rs [] (rows_lines rs s) ∙ append-nil (map spelled rs)

-- ---- words that are written
fine_digits : (ds : Word) → list_all is_digit ds ≡ true → list_all is_fine ds ≡ true
fine_digits [] e = refl
fine_digits (d ∷ ds) e =
    let p = and_parts (is_digit d) (list_all is_digit ds) e in
    let q = and_parts (nat_le 48 d) (nat_le d 57) p.0 in
    let low : 48 ≤ d = leb-true 48 d q.0 in
    let high : d ≤ 57 = leb-true d 57 q.1 in
    rw (le-leb 33 d (omega arith), lt-ltb d 128 (omega arith), fine_digits ds p.1) refl

pub decimal_fine : (n : ℕ) → n < 2 ^ 32 → list_all is_fine (decimal n) ≡ true
decimal_fine n lt = fine_digits (decimal n) (all_digits n lt)

solid_of : (w : Word) → 1 ≤ length w → list_all is_fine w ≡ true → is_solid w ≡ true
solid_of [] le e = absurd (omega arith)
solid_of (b ∷ bs) le e = e

pub decimal_solid : (n : ℕ) → n < 2 ^ 32 → is_solid (decimal n) ≡ true
decimal_solid n lt = solid_of (decimal n) (IsNumber-decimal n lt).some (decimal_fine n lt)
