-- reading the lines of a text one after another, up to the first that passes a test
use Rattle.std.proofs.Common.{◌⊎◌, ◌≡◌, ℕ, ◌+◌, ◌-◌, ◌<◌, ◌≤◌, Bool, true, false, cond, not, ◌==◌, ◌&&◌, List, [], ◌∷◌, ◌++◌, length, take, drop, get_or, Option, Some, None, subst, refl, ap, sym, ◌∙◌, arith, append_assoc, append-nil, length-append, take-append-drop, inl, inr}
use Rattle.std.specs.Prelude.{slice_range}
use Rattle.std.specs.List.{list_all, position_or_len, before_first}
use Rattle.std.specs.Str.{bytes_eq}
use borrow.Author.Tests.{eqb-true}
use Rattle.std.proofs.lemmas.Bool.{ne_eqb}
use Rattle.std.proofs.lemmas.List.Sums.{take_while-cons, fails_before_first, passes_at_first}
use Rattle.std.proofs.lemmas.List.{drop-drop, drop-take, drop_all, take_all, take_more}
use Rattle.std.proofs.lemmas.Grind.{common_steps}
use Rattle.byte_ends.specs.Text.{is_newline, lines, line_length, strip_return}
use Rattle.byte_ends.proofs.Lines.{take-two, line_length-found}
use Rattle.text_laws.proofs.Lines.{IsOneLine, lines-newline}
use Rattle.file_parts.specs.declared.parts.Span.{Span}
use Rattle.byte_ends.specs.Text.{words}
use Rattle.text_laws.proofs.Lengths.{not_first}
use Rattle.file_parts.specs.Parts.{Lines, IsPartOf, before, behind, stands_alone, is_only}

-- a text ends a line where the lines of what stands behind it come after its own
abbrev pub EndsLine : List ℕ → Type 0
EndsLine a = (b : List ℕ) → lines (a ++ b) ≡ lines a ++ lines b

-- the first line with its newline, and what stands behind it
first-ends : (d b : List ℕ) → position_or_len is_newline d < length d
    → lines (take (line_length d) d ++ b) ≡ strip_return (before_first is_newline d) ∷ lines b
first-ends d b h =
    let at = position_or_len is_newline d in
    let front : IsOneLine (take at d) = λ k e m. let k' = fails_before_first is_newline d k e (grind (arith, common_steps)) in grind (arith, common_steps) in
    let byte : get_or d at 0 ≡ 10 = eqb-true (get_or d at 0) 10 (passes_at_first is_newline d 0 h) in
    let cut : take (line_length d) d ≡ take at d ++ 10 ∷ [] =
    ap (λ n. take n d) (line_length-found d h) ∙ take_more d at 0 h ∙ ap (λ c. take at d ++ c ∷ []) byte in
    ap (λ (e : List ℕ). lines (e ++ b)) cut ∙ ap lines (append_assoc (take at d) (10 ∷ []) b) ∙ lines-newline (take at d) b front

-- some bytes and a number of lines of a text have been read, and no line passed
pub record Reached (text : List ℕ) (at count : ℕ) (test : List ℕ → Bool) : Type 0 where
  pub within : at ≤ length text
  pub few : count ≤ at
  pub ends : at < length text → EndsLine (take at text)
  pub whole : lines (take at text) ++ lines (drop at text) ≡ lines text
  pub counted : count ≡ length (lines (take at text))
  pub kept : before test (lines text) ≡ lines (take at text) ++ before test (lines (drop at text))
  pub gone : behind test (lines text) ≡ behind test (lines (drop at text))

pub reached-first : (text : List ℕ) (test : List ℕ → Bool) → Reached text 0 0 test
reached-first text test = record { within = omega arith; few = omega arith; ends = λ _ b. refl; whole = refl; counted = refl; kept = refl; gone = refl }

before-no : (test : List ℕ → Bool) (l : List ℕ) (ls : Lines) → test l ≡ false → before test (l ∷ ls) ≡ l ∷ before test ls
before-no test l ls h = take_while-cons (λ k. not (test k)) l ls ∙ ap (λ b. cond (not b) (l ∷ before test ls) []) h

behind-no : (test : List ℕ → Bool) (l : List ℕ) (ls : Lines) → test l ≡ false → behind test (l ∷ ls) ≡ behind test ls
behind-no test l ls h = ap (λ b. cond b (Some ls) (behind test ls)) h

before-yes : (test : List ℕ → Bool) (l : List ℕ) (ls : Lines) → test l ≡ true → before test (l ∷ ls) ≡ []
before-yes test l ls h = take_while-cons (λ k. not (test k)) l ls ∙ ap (λ b. cond (not b) (l ∷ before test ls) []) h

behind-yes : (test : List ℕ → Bool) (l : List ℕ) (ls : Lines) → test l ≡ true → behind test (l ∷ ls) ≡ Some ls
behind-yes test l ls h = ap (λ b. cond b (Some ls) (behind test ls)) h

is_last : (a b : ℕ) → a ≤ b → (a < b) ⊎ (a ≡ b)
is_last a b h = grind arith

module _ (text : List ℕ) (at count : ℕ) (test : List ℕ → Bool) (r : Reached text at count test)
    (line : List ℕ) (next : ℕ) (first : lines (drop at text) ≡ line ∷ lines (drop next text)) (past : at < next) (most : next ≤ length text)
    (length_is : next ≡ at + line_length (drop at text)) where
  size : length (drop at text) ≡ length text - at
  size = grind (arith, common_steps)

  two : take at text ++ take (line_length (drop at text)) (drop at text) ≡ take next text
  two = take-two at (line_length (drop at text)) text ∙ ap (λ n. take n text) (sym length_is)

  newline : next < length text → position_or_len is_newline (drop at text) < length (drop at text)
  newline h = omega (arith, size)

  -- what stands behind the line stands behind its end
  after : next < length text → (b : List ℕ) → lines (take next text ++ b) ≡ lines (take at text) ++ line ∷ lines b
  after h b =
      let d = drop at text in
      let n = line_length d in
      let whole : take n d ++ drop next text ≡ d =
      ap (λ (e : List ℕ). take n d ++ e) (ap (λ k. drop k text) length_is ∙ sym (drop-drop n at text)) ∙ take-append-drop n d in
      let own = first-ends d (drop next text) (newline h) in
      let same : strip_return (before_first is_newline d) ∷ lines (drop next text) ≡ line ∷ lines (drop next text) =
      sym own ∙ ap lines whole ∙ first in
      let heads : strip_return (before_first is_newline d) ≡ line = cc in
      ap (λ (e : List ℕ). lines (e ++ b)) (sym two)
      ∙ ap lines (append_assoc (take at text) (take n d) b)
      ∙ r.ends (omega arith) (take n d ++ b)
      ∙ ap (λ (e : Lines). lines (take at text) ++ e) (first-ends d b (newline h))
      ∙ ap (λ (e : List ℕ). lines (take at text) ++ e ∷ lines b) heads

  -- the lines so far and this one
  snoc : lines (take next text) ≡ lines (take at text) ++ line ∷ []
  snoc = elim (is_last next (length text) most) [
    | inl h ↦ ap lines (sym (append-nil (take next text))) ∙ after h []
    | inr h ↦
        let all : take next text ≡ text = take_all next text (omega arith) in
        let none : drop next text ≡ [] = drop_all next text (omega arith) in
        ap lines all ∙ sym r.whole ∙ ap (λ (ls : Lines). lines (take at text) ++ ls) (first ∙ ap (λ (e : List ℕ). line ∷ lines e) none)
  ]

  pub reached-next : test line ≡ false → Reached text next (count + 1) test
  reached-next h =
      let grown : length (lines (take next text)) ≡ length (lines (take at text)) + 1 = ap length snoc ∙ length-append (lines (take at text)) (line ∷ []) in
      record {
        within = most;
        few = omega (arith, r.few);
        ends = λ less b. after less b ∙ sym (append_assoc (lines (take at text)) (line ∷ []) (lines b)) ∙ ap (λ (ls : Lines). ls ++ lines b) (sym snoc);
        whole = ap (λ (ls : Lines). ls ++ lines (drop next text)) snoc ∙ append_assoc (lines (take at text)) (line ∷ []) (lines (drop next text))
            ∙ ap (λ (ls : Lines). lines (take at text) ++ ls) (sym first) ∙ r.whole;
        counted = omega (arith, grown, r.counted);
        kept = r.kept ∙ ap (λ (ls : Lines). lines (take at text) ++ ls) (ap (before test) first ∙ before-no test line (lines (drop next text)) h)
            ∙ sym (append_assoc (lines (take at text)) (line ∷ []) (before test (lines (drop next text))))
            ∙ ap (λ (ls : Lines). ls ++ before test (lines (drop next text))) (sym snoc);
        gone = r.gone ∙ ap (behind test) first ∙ behind-no test line (lines (drop next text)) h;
      }

  pub reached-before : test line ≡ true → before test (lines text) ≡ lines (take at text)
  reached-before h = r.kept ∙ ap (λ (ls : Lines). lines (take at text) ++ ls) (ap (before test) first ∙ before-yes test line (lines (drop next text)) h) ∙ append-nil (lines (take at text))

  pub reached-behind : test line ≡ true → behind test (lines text) ≡ Some (lines (drop next text))
  reached-behind h = r.gone ∙ ap (behind test) first ∙ behind-yes test line (lines (drop next text)) h

pub reached-end : (text : List ℕ) (at count : ℕ) (test : List ℕ → Bool) → Reached text at count test → at ≡ length text
    → (before test (lines text) ≡ lines text) × (behind test (lines text) ≡ None)
reached-end text at count test r h =
    let none : drop at text ≡ [] = drop_all at text (omega arith) in
    let rest : lines (drop at text) ≡ [] = ap lines none in (
      r.kept ∙ ap (λ (ls : Lines). lines (take at text) ++ ls) (ap (before test) rest ∙ sym rest) ∙ r.whole,
      r.gone ∙ ap (behind test) rest,
    )

-- a word stands alone where it is the only one and each is it
pub alone : (word : List ℕ) (ws : Lines) → ((length ws == 1) && list_all (λ w. bytes_eq w word) ws) ≡ stands_alone word ws
alone word [] = refl
alone word (w ∷ []) = elim (bytes_eq w word) as (λ b. (b && true) ≡ b) [ true ↦ refl | false ↦ refl ]
alone word (v ∷ w ∷ ws) = ap (λ b. b && list_all (λ w. bytes_eq w word) (v ∷ w ∷ ws)) (ne_eqb (length (v ∷ w ∷ ws)) 1 (λ e. absurd (omega arith)))

take-shorter : (k r : ℕ) (xs : List ℕ) → take k (take (k + r) xs) ≡ take k xs
take-shorter k r xs = grind (arith, common_steps)

same-slice : (bytes : List ℕ) (i k r : ℕ) → take k (drop i (take (i + (k + r)) bytes)) ≡ take k (drop i bytes)
same-slice bytes i k r = ap (take k) (drop-take i (k + r) bytes) ∙ take-shorter k r (drop i bytes)

same-range : (bytes : List ℕ) (n i j : ℕ) → i ≤ j → j ≤ n → slice_range (take n bytes) i j ≡ slice_range bytes i j
same-range bytes n i j g h =
    let e : i + ((j - i) + (n - j)) ≡ n = omega arith in
    ap (λ m. take (j - i) (drop i (take m bytes))) (sym e) ∙ same-slice bytes i (j - i) (n - j)

-- what a part of the front of a text is, it is of the text
within-front : (bytes : List ℕ) (n : ℕ) (ls : Option Lines) (number : ℕ) (span : Option Span) → n ≤ length bytes
    → IsPartOf (take n bytes) ls number span → IsPartOf bytes ls number span
within-front bytes n None number None h p = tt
within-front bytes n None number (Some s) h p = p
within-front bytes n (Some ls) number None h p = p
within-front bytes n (Some ls) number (Some s) h p =
    let few : s.to ≤ n = let w = p.within in grind (arith, common_steps) in
    let same : slice_range (take n bytes) s.from s.to ≡ slice_range bytes s.from s.to = same-range bytes n s.from s.to p.order few in
    record { order = p.order; within = omega arith; spelled = ap lines (sym same) ∙ p.spelled; first = p.first }

-- a part of the front, by the lines of the front
pub part-of : (bytes text : List ℕ) (n : ℕ) (all : Lines) (test : List ℕ → Bool) (span : Option Span) → text ≡ take n bytes → n ≤ length bytes → lines (take n bytes) ≡ all
    → IsPartOf text (behind test (lines text)) (2 + length (before test (lines text))) span → IsPartOf bytes (behind test all) (2 + length (before test all)) span
part-of bytes text n all test span e h f p =
    let P : Lines → Type 0 = λ ls. IsPartOf bytes (behind test ls) (2 + length (before test ls)) span in
    let Q : List ℕ → Type 0 = λ t. IsPartOf t (behind test (lines t)) (2 + length (before test (lines t))) span in
    subst P f (within-front bytes n (behind test (lines (take n bytes))) (2 + length (before test (lines (take n bytes)))) span h (subst Q e p))

-- a word does not stand alone on a shorter line
pub short_is_not : (word line : List ℕ) → length line < length word → is_only word line ≡ false
short_is_not word line less = go (words line) refl
  where
    go : (ws : List (List ℕ)) → words line ≡ ws → stands_alone word ws ≡ false
    go [] e = refl
    go (first ∷ []) e = not_first line word first [] e less
    go (first ∷ next ∷ rest) e = refl
