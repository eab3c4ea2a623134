-- reading a history line by line
use Rattle.std.proofs.Common.{inl, inr, ◌≡◌, ℕ, ◌+◌, ◌<◌, Bool, true, false, List, [], ◌∷◌, ◌++◌, length, take, refl, ap, sym, subst, ◌∙◌, arith, append_assoc, append-nil, length-append, add-one}
use Rattle.std.specs.Prelude.{IsTrue, MatchBool}
use Rattle.std.proofs.lemmas.Bool.{cases_Bool}
use Rattle.std.proofs.Math.Seq.{take-append_seam, take-append-add}
use Rattle.file_parts.specs.Parts.{Lines}
use Rattle.histories.specs.Reading.{Meanings, is_nothing, is_last, is_schedule, Ends, OnLine, IsHistoryOf, IsFirstBadOf, IsEndBad}

pub yes : (b : Bool) (P Q : Type 0) → b ≡ true → P → MatchBool b P Q
yes true P Q e p = p
yes false P Q e p = absurd (cc)

pub no : (b : Bool) (P Q : Type 0) → b ≡ false → Q → MatchBool b P Q
no true P Q e q = absurd (cc)
no false P Q e q = q

pub from_yes : (b : Bool) (P Q : Type 0) → b ≡ true → MatchBool b P Q → P
from_yes true P Q e h = h
from_yes false P Q e h = absurd (cc)

pub from_no : (b : Bool) (P Q : Type 0) → b ≡ false → MatchBool b P Q → Q
from_no true P Q e h = absurd (cc)
from_no false P Q e h = h

module _ {X : Type 0} (M : Meanings X) where
  -- lines before the last one that say nothing or mean these values
  abbrev pub Front : Lines → List X → Type 0
  Front [] es = es ≡ []
  Front (l ∷ ls) es = MatchBool (is_nothing l) (Front ls es) ((is_schedule l ≡ false) × (is_last l ≡ false) × OnLine M l (Front ls) es)

  on_line : (l : List ℕ) (R S : List X → Type 0) (es : List X) → ((xs : List X) → R xs → S xs) → OnLine M l R es → OnLine M l S es
  on_line l R S [] step h = h
  on_line l R S (e ∷ es) step h = (h.0, step es h.1)

  on_line_more : (l : List ℕ) (R S : List X → Type 0) (es more : List X) → ((xs : List X) → R xs → S (xs ++ more)) → OnLine M l R es → OnLine M l S (es ++ more)
  on_line_more l R S [] more step h = absurd h
  on_line_more l R S (e ∷ es) more step h = (h.0, step es h.1)

  on_line_both : (l : List ℕ) (R S : List X → Type 0) (G : Type 0) (es all : List X) → ((xs ys : List X) → R xs → S ys → G) → OnLine M l R es → OnLine M l S all → G
  on_line_both l R S G [] all step h k = absurd h
  on_line_both l R S G (e ∷ es) [] step h k = absurd k
  on_line_both l R S G (e ∷ es) (a ∷ all) step h k = step es all h.1 k.1

  front-nothing : (f : Lines) (es : List X) (l : List ℕ) → Front f es → is_nothing l ≡ true → Front (f ++ l ∷ []) es
  front-nothing [] es l h t = yes (is_nothing l) (es ≡ []) ((is_schedule l ≡ false) × (is_last l ≡ false) × OnLine M l (Front []) es) t h
  front-nothing (k ∷ f) es l h t =
      let P : Type 0 = Front f es in
      let Q : Type 0 = (is_schedule k ≡ false) × (is_last k ≡ false) × OnLine M k (Front f) es in
      let P' : Type 0 = Front (f ++ l ∷ []) es in
      let Q' : Type 0 = (is_schedule k ≡ false) × (is_last k ≡ false) × OnLine M k (Front (f ++ l ∷ [])) es in
      elim (cases_Bool (is_nothing k)) [
        | inl n ↦ yes (is_nothing k) P' Q' n (front-nothing f es l (from_yes (is_nothing k) P Q n h) t)
        | inr n ↦ let p = from_no (is_nothing k) P Q n h in
            no (is_nothing k) P' Q' n (p.0, p.1, on_line k (Front f) (Front (f ++ l ∷ [])) es (λ xs r. front-nothing f xs l r t) p.2)
      ]

  front-entry : (f : Lines) (es : List X) (l : List ℕ) (e : X) → Front f es → is_nothing l ≡ false → is_schedule l ≡ false → is_last l ≡ false → M l e → Front (f ++ l ∷ []) (es ++ e ∷ [])
  front-entry [] [] l e h t s q m = no (is_nothing l) (e ∷ [] ≡ []) ((is_schedule l ≡ false) × (is_last l ≡ false) × OnLine M l (Front []) (e ∷ [])) t (s, q, (m, refl))
  front-entry [] (x ∷ es) l e h t s q m = absurd (cc)
  front-entry (k ∷ f) es l e h t s q m =
      let P : Type 0 = Front f es in
      let Q : Type 0 = (is_schedule k ≡ false) × (is_last k ≡ false) × OnLine M k (Front f) es in
      let P' : Type 0 = Front (f ++ l ∷ []) (es ++ e ∷ []) in
      let Q' : Type 0 = (is_schedule k ≡ false) × (is_last k ≡ false) × OnLine M k (Front (f ++ l ∷ [])) (es ++ e ∷ []) in
      elim (cases_Bool (is_nothing k)) [
        | inl n ↦ yes (is_nothing k) P' Q' n (front-entry f es l e (from_yes (is_nothing k) P Q n h) t s q m)
        | inr n ↦ let p = from_no (is_nothing k) P Q n h in
            no (is_nothing k) P' Q' n (p.0, p.1, on_line_more k (Front f) (Front (f ++ l ∷ [])) es (e ∷ []) (λ xs r. front-entry f xs l e r t s q m) p.2)
      ]

  front-history : (f : Lines) (es : List X) (rest : Lines) (more : List X) → Front f es → IsHistoryOf M rest more → IsHistoryOf M (f ++ rest) (es ++ more)
  front-history [] [] rest more h k = k
  front-history [] (x ∷ es) rest more h k = absurd (cc)
  front-history (l ∷ f) es rest more h k =
      let P : Type 0 = Front f es in
      let Q : Type 0 = (is_schedule l ≡ false) × (is_last l ≡ false) × OnLine M l (Front f) es in
      let all : List X = es ++ more in
      let A : Type 0 = IsHistoryOf M (f ++ rest) all in
      let D : Type 0 = OnLine M l (IsHistoryOf M (f ++ rest)) all in
      let C : Type 0 = MatchBool (is_last l) ((all ≡ []) × Ends (f ++ rest)) D in
      let B : Type 0 = MatchBool (is_schedule l) (all ≡ []) C in
      elim (cases_Bool (is_nothing l)) [
        | inl n ↦ yes (is_nothing l) A B n (front-history f es rest more (from_yes (is_nothing l) P Q n h) k)
        | inr n ↦ let p = from_no (is_nothing l) P Q n h in
            no (is_nothing l) A B n (no (is_schedule l) (all ≡ []) C p.0 (no (is_last l) ((all ≡ []) × Ends (f ++ rest)) D p.1
            (on_line_more l (Front f) (IsHistoryOf M (f ++ rest)) es more (λ xs r. front-history f xs rest more r k) p.2)))
      ]

  -- lines are a history of some values
  pub record SomeHistory (ls : Lines) : Type 0 where
    pub entries : List X
    pub history : IsHistoryOf M ls entries

  front-only : (f : Lines) (es : List X) (rest : Lines) (all : List X) → Front f es → IsHistoryOf M (f ++ rest) all → SomeHistory rest
  front-only [] es rest all h k = record { entries = all; history = k }
  front-only (l ∷ f) es rest all h k =
      let P : Type 0 = Front f es in
      let Q : Type 0 = (is_schedule l ≡ false) × (is_last l ≡ false) × OnLine M l (Front f) es in
      let A : Type 0 = IsHistoryOf M (f ++ rest) all in
      let D : Type 0 = OnLine M l (IsHistoryOf M (f ++ rest)) all in
      let C : Type 0 = MatchBool (is_last l) ((all ≡ []) × Ends (f ++ rest)) D in
      let B : Type 0 = MatchBool (is_schedule l) (all ≡ []) C in
      elim (cases_Bool (is_nothing l)) [
        | inl n ↦ front-only f es rest all (from_yes (is_nothing l) P Q n h) (from_yes (is_nothing l) A B n k)
        | inr n ↦ let p = from_no (is_nothing l) P Q n h in
            let d = from_no (is_last l) ((all ≡ []) × Ends (f ++ rest)) D p.1 (from_no (is_schedule l) (all ≡ []) C p.0 (from_no (is_nothing l) A B n k)) in
            on_line_both l (Front f) (IsHistoryOf M (f ++ rest)) (SomeHistory rest) es all (λ xs ys r s. front-only f xs rest ys r s) p.2 d
      ]

  pub schedule-history : (l : List ℕ) (next : Lines) → is_nothing l ≡ false → is_schedule l ≡ true → IsHistoryOf M (l ∷ next) []
  schedule-history l next t s =
      let N : List X → Type 0 = λ xs. xs ≡ [] in
      let D : Type 0 = OnLine M l (IsHistoryOf M next) [] in
      let C : Type 0 = MatchBool (is_last l) (N [] × Ends next) D in
      no (is_nothing l) (IsHistoryOf M next []) (MatchBool (is_schedule l) (N []) C) t (yes (is_schedule l) (N []) C s refl)

  pub last-history : (l : List ℕ) (next : Lines) → is_nothing l ≡ false → is_schedule l ≡ false → is_last l ≡ true → Ends next → IsHistoryOf M (l ∷ next) []
  last-history l next t s q h =
      let N : List X → Type 0 = λ xs. xs ≡ [] in
      let D : Type 0 = OnLine M l (IsHistoryOf M next) [] in
      let C : Type 0 = MatchBool (is_last l) (N [] × Ends next) D in
      no (is_nothing l) (IsHistoryOf M next []) (MatchBool (is_schedule l) (N []) C) t (no (is_schedule l) (N []) C s (yes (is_last l) (N [] × Ends next) D q (refl, h)))

  -- a history that begins with the last line ends well
  pub last-ends : (l : List ℕ) (next : Lines) (xs : List X) → is_nothing l ≡ false → is_schedule l ≡ false → is_last l ≡ true → IsHistoryOf M (l ∷ next) xs → Ends next
  last-ends l next xs t s q h =
      let D : Type 0 = OnLine M l (IsHistoryOf M next) xs in
      let C : Type 0 = MatchBool (is_last l) ((xs ≡ []) × Ends next) D in
      (from_yes (is_last l) ((xs ≡ []) × Ends next) D q (from_no (is_schedule l) (xs ≡ []) C s (from_no (is_nothing l) (IsHistoryOf M next xs) (MatchBool (is_schedule l) (xs ≡ []) C) t h))).1

  -- a line that means nothing is no line of a history
  pub line-wrong : (l : List ℕ) (next : Lines) (xs : List X) → is_nothing l ≡ false → is_schedule l ≡ false → is_last l ≡ false → ((e : X) → M l e → ⊥)
      → IsHistoryOf M (l ∷ next) xs → ⊥
  line-wrong l next xs t s q other h =
      let D : Type 0 = OnLine M l (IsHistoryOf M next) xs in
      let C : Type 0 = MatchBool (is_last l) ((xs ≡ []) × Ends next) D in
      let d = from_no (is_last l) ((xs ≡ []) × Ends next) D q (from_no (is_schedule l) (xs ≡ []) C s (from_no (is_nothing l) (IsHistoryOf M next xs) (MatchBool (is_schedule l) (xs ≡ []) C) t h)) in
      meant xs d where
        meant : (ys : List X) → OnLine M l (IsHistoryOf M next) ys → ⊥
        meant [] k = k
        meant (y ∷ ys) k = other y k.0

  one-more : (l : List ℕ) (next : Lines) (n : ℕ) → take (n + 1) (l ∷ next) ≡ l ∷ take n next
  one-more l next n = rw add-one refl

  -- how far a history has been read: what stands before is its front, with these values
  pub record Reached (ls rest : Lines) (number line : ℕ) (es : List X) : Type 0 where
    pub front : Lines
    pub whole : ls ≡ front ++ rest
    pub count : line ≡ number + length front
    pub read : Front front es

  pub reached-first : (ls : Lines) (number : ℕ) → Reached ls ls number number []
  reached-first ls number = record { front = []; whole = refl; count = omega arith; read = refl }

  module _ (ls rest : Lines) (number line : ℕ) (es : List X) (r : Reached ls rest number line es) where
    pub reached-end : rest ≡ [] → IsHistoryOf M ls es
    reached-end none =
        let P : Lines → Type 0 = λ ks. IsHistoryOf M ks es in
        let Q : List X → Type 0 = λ xs. IsHistoryOf M (r.front ++ []) xs in
        subst P (sym (r.whole ∙ ap (λ (ks : Lines). r.front ++ ks) none)) (subst Q (append-nil es) (front-history r.front es [] [] r.read refl))

    module _ (l : List ℕ) (next : Lines) (first : rest ≡ l ∷ next) where
      split : ls ≡ r.front ++ l ∷ next
      split = r.whole ∙ ap (λ (ks : Lines). r.front ++ ks) first

      apart : ls ≡ (r.front ++ l ∷ []) ++ next
      apart = split ∙ sym (append_assoc r.front (l ∷ []) next)

      counted : line + 1 ≡ number + length (r.front ++ l ∷ [])
      counted = omega (arith, r.count, length-append r.front (l ∷ []))

      pub reached-nothing : is_nothing l ≡ true → Reached ls next number (line + 1) es
      reached-nothing t = record { front = r.front ++ l ∷ []; whole = apart; count = counted; read = front-nothing r.front es l r.read t }

      pub reached-entry : (e : X) → is_nothing l ≡ false → is_schedule l ≡ false → is_last l ≡ false → M l e → Reached ls next number (line + 1) (es ++ e ∷ [])
      reached-entry e t s q m = record { front = r.front ++ l ∷ []; whole = apart; count = counted; read = front-entry r.front es l e r.read t s q m }

      ended : IsHistoryOf M (l ∷ next) [] → IsHistoryOf M ls es
      ended h =
          let P : Lines → Type 0 = λ ks. IsHistoryOf M ks es in
          let Q : List X → Type 0 = λ xs. IsHistoryOf M (r.front ++ l ∷ next) xs in
          subst P (sym split) (subst Q (append-nil es) (front-history r.front es (l ∷ next) [] r.read h))

      pub reached-schedule : is_nothing l ≡ false → is_schedule l ≡ true → IsHistoryOf M ls es
      reached-schedule t s = ended (schedule-history l next t s)

      pub reached-last : is_nothing l ≡ false → is_schedule l ≡ false → is_last l ≡ true → Ends next → IsHistoryOf M ls es
      reached-last t s q h = ended (last-history l next t s q h)

      -- so many lines, and one more
      fine : take (length r.front) ls ≡ r.front
      fine = ap (take (length r.front)) split ∙ take-append_seam r.front (l ∷ next)

      less : length r.front < length ls
      less = omega (arith, ap length split, length-append r.front (l ∷ next))

      -- what stands behind the front, up to some place
      upto : (n : ℕ) → take (length r.front + n) ls ≡ r.front ++ take n (l ∷ next)
      upto n = ap (take (length r.front + n)) split ∙ take-append-add r.front (l ∷ next) n

      good : (ks : Lines) → IsHistoryOf M ks [] → IsHistoryOf M (r.front ++ ks) es
      good ks h = let Q : List X → Type 0 = λ xs. IsHistoryOf M (r.front ++ ks) xs in subst Q (append-nil es) (front-history r.front es ks [] r.read h)

      pub reached-bad : is_nothing l ≡ false → is_schedule l ≡ false → is_last l ≡ false → ((e : X) → M l e → ⊥) → IsFirstBadOf M ls number line
      reached-bad t s q other =
          let G : Lines → Type 0 = λ ks. IsHistoryOf M ks es in
          record {
            before = length r.front;
            place = r.count;
            within = less;
            good = (es, subst G (sym (fine ∙ sym (append-nil r.front))) (good [] refl));
            wrong = λ xs h.
                let W : Lines → Type 0 = λ ks. IsHistoryOf M ks xs in
                let b = front-only r.front es (l ∷ []) xs r.read (subst W (upto 1) h) in
                line-wrong l [] b.entries t s q other b.history;
          }

      -- a line behind the last one that may not stand there
      pub reached-bad_end : (bad : ℕ) → is_nothing l ≡ false → is_schedule l ≡ false → is_last l ≡ true → IsEndBad next (line + 1) bad → IsFirstBadOf M ls number bad
      reached-bad_end bad t s q h =
          let G : Lines → Type 0 = λ ks. IsHistoryOf M ks es in
          record {
            before = length r.front + (h.before + 1);
            place = omega (arith, h.place, r.count);
            within = omega (arith, h.within, ap length split, length-append r.front (l ∷ next));
            good = (es, subst G (sym (upto (h.before + 1) ∙ ap (λ (ks : Lines). r.front ++ ks) (one-more l next h.before))) (good (l ∷ take h.before next) (last-history l (take h.before next) t s q h.good)));
            wrong = λ xs k.
                let W : Lines → Type 0 = λ ks. IsHistoryOf M ks xs in
                let more : take (length r.front + (h.before + 1) + 1) ls ≡ r.front ++ l ∷ take (h.before + 1) next =
                ap (λ n. take n ls) (omega arith) ∙ upto (h.before + 1 + 1) ∙ ap (λ (ks : Lines). r.front ++ ks) (one-more l next (h.before + 1)) in
                let b = front-only r.front es (l ∷ take (h.before + 1) next) xs r.read (subst W more k) in
                h.wrong (last-ends l (take (h.before + 1) next) b.entries t s q b.history);
          }

-- ---- behind the last line
-- lines that say nothing
abbrev pub Blank : Lines → Type 0
Blank [] = Unit {0}
Blank (l ∷ ls) = (is_nothing l ≡ true) × Blank ls

-- how far the lines behind the last one have been read: they say nothing
pub record Quiet (ls rest : Lines) (number line : ℕ) : Type 0 where
  pub front : Lines
  pub whole : ls ≡ front ++ rest
  pub count : line ≡ number + length front
  pub blank : Blank front

pub quiet-first : (ls : Lines) (number : ℕ) → Quiet ls ls number number
quiet-first ls number = record { front = []; whole = refl; count = omega arith; blank = tt }

blank-more : (f : Lines) (l : List ℕ) → Blank f → is_nothing l ≡ true → Blank (f ++ l ∷ [])
blank-more [] l h t = (t, tt)
blank-more (k ∷ f) l h t = (h.0, blank-more f l h.1 t)

blank-ends : (f ls : Lines) → Blank f → Ends ls → Ends (f ++ ls)
blank-ends [] ls h e = e
blank-ends (k ∷ f) ls h e = yes (is_nothing k) (Ends (f ++ ls)) (IsTrue (is_schedule k)) h.0 (blank-ends f ls h.1 e)

ends-blank : (f ls : Lines) → Blank f → Ends (f ++ ls) → Ends ls
ends-blank [] ls h e = e
ends-blank (k ∷ f) ls h e = ends-blank f ls h.1 (from_yes (is_nothing k) (Ends (f ++ ls)) (IsTrue (is_schedule k)) h.0 e)

module _ (ls rest : Lines) (number line : ℕ) (r : Quiet ls rest number line) where
  pub quiet-end : rest ≡ [] → Ends ls
  quiet-end none = subst Ends (sym (r.whole ∙ ap (λ (ks : Lines). r.front ++ ks) none)) (blank-ends r.front [] r.blank tt)

  module _ (l : List ℕ) (next : Lines) (first : rest ≡ l ∷ next) where
    cut : ls ≡ r.front ++ l ∷ next
    cut = r.whole ∙ ap (λ (ks : Lines). r.front ++ ks) first

    pub quiet-nothing : is_nothing l ≡ true → Quiet ls next number (line + 1)
    quiet-nothing t = record {
      front = r.front ++ l ∷ [];
      whole = cut ∙ sym (append_assoc r.front (l ∷ []) next);
      count = omega (arith, r.count, length-append r.front (l ∷ []));
      blank = blank-more r.front l r.blank t;
    }

    pub quiet-schedule : is_nothing l ≡ false → is_schedule l ≡ true → Ends ls
    quiet-schedule t s = subst Ends (sym cut) (blank-ends r.front (l ∷ next) r.blank (no (is_nothing l) (Ends next) (IsTrue (is_schedule l)) t s))

    pub quiet-bad : is_nothing l ≡ false → is_schedule l ≡ false → IsEndBad ls number line
    quiet-bad t s =
        record {
          before = length r.front;
          place = r.count;
          within = omega (arith, ap length cut, length-append r.front (l ∷ next));
          good = subst Ends (sym (ap (take (length r.front)) cut ∙ take-append_seam r.front (l ∷ next) ∙ sym (append-nil r.front))) (blank-ends r.front [] r.blank tt);
          wrong = λ h.
              let one = ends-blank r.front (l ∷ []) r.blank (subst Ends (ap (take (length r.front + 1)) cut ∙ take-append-add r.front (l ∷ next) 1) h) in
              let told : is_schedule l ≡ true = from_no (is_nothing l) (Ends []) (IsTrue (is_schedule l)) t one in
              let clash : true ≡ false = sym told ∙ s in
              absurd (cc);
        }
