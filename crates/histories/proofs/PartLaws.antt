-- a history part is a history of one list of values, or has one first bad line, where a line means one value at most and can be asked whether it means one
use Rattle.std.proofs.Common.{inl, inr, ◌≡◌, ◌⊎◌, ℕ, zero, suc, ◌+◌, ◌<◌, true, false, List, [], ◌∷◌, length, take, refl, sym, subst, ◌∙◌, arith, add-one}
use Rattle.std.specs.Prelude.{IsTrue, MatchBool}
use Rattle.std.proofs.lemmas.Bool.{cases_Bool, cases_lt}
use Rattle.std.proofs.lemmas.List.{take-take}
use Rattle.file_parts.specs.Parts.{Lines}
use Rattle.histories.specs.Reading.{Meanings, is_nothing, is_last, is_schedule, Ends, OnLine, IsHistoryOf, IsFirstBadOf}
use Rattle.histories.specs.Laws.{MeansOrFails}
use Rattle.histories.proofs.HistoryLaws.{yes, no, from_yes, from_no, SomeHistory, schedule-history, last-history, last-ends, line-wrong}

module _ {X : Type 0} (M : Meanings X) (unique : (l : List ℕ) (d e : X) → M l d → M l e → d ≡ e) (means : (l : List ℕ) → ((x : X) × M l x) ⊎ ((x : X) → M l x → ⊥)) where
  -- ---- a history by its first line
  module _ (l : List ℕ) (ls : Lines) (es : List X) where
    skip : is_nothing l ≡ true → IsHistoryOf M ls es → IsHistoryOf M (l ∷ ls) es
    skip t h =
        let D : Type 0 = OnLine M l (IsHistoryOf M ls) es in
        let C : Type 0 = MatchBool (is_last l) ((es ≡ []) × Ends ls) D in
        yes (is_nothing l) (IsHistoryOf M ls es) (MatchBool (is_schedule l) (es ≡ []) C) t h

    skipped : is_nothing l ≡ true → IsHistoryOf M (l ∷ ls) es → IsHistoryOf M ls es
    skipped t h =
        let D : Type 0 = OnLine M l (IsHistoryOf M ls) es in
        let C : Type 0 = MatchBool (is_last l) ((es ≡ []) × Ends ls) D in
        from_yes (is_nothing l) (IsHistoryOf M ls es) (MatchBool (is_schedule l) (es ≡ []) C) t h

    module _ (t : is_nothing l ≡ false) where
      cut : is_schedule l ≡ true → IsHistoryOf M (l ∷ ls) es → es ≡ []
      cut s h =
          let D : Type 0 = OnLine M l (IsHistoryOf M ls) es in
          let C : Type 0 = MatchBool (is_last l) ((es ≡ []) × Ends ls) D in
          from_yes (is_schedule l) (es ≡ []) C s (from_no (is_nothing l) (IsHistoryOf M ls es) (MatchBool (is_schedule l) (es ≡ []) C) t h)

      module _ (s : is_schedule l ≡ false) where
        closed : is_last l ≡ true → IsHistoryOf M (l ∷ ls) es → es ≡ []
        closed q h =
            let D : Type 0 = OnLine M l (IsHistoryOf M ls) es in
            let C : Type 0 = MatchBool (is_last l) ((es ≡ []) × Ends ls) D in
            (from_yes (is_last l) ((es ≡ []) × Ends ls) D q (from_no (is_schedule l) (es ≡ []) C s (from_no (is_nothing l) (IsHistoryOf M ls es) (MatchBool (is_schedule l) (es ≡ []) C) t h))).0

        put : is_last l ≡ false → OnLine M l (IsHistoryOf M ls) es → IsHistoryOf M (l ∷ ls) es
        put q h =
            let D : Type 0 = OnLine M l (IsHistoryOf M ls) es in
            let C : Type 0 = MatchBool (is_last l) ((es ≡ []) × Ends ls) D in
            no (is_nothing l) (IsHistoryOf M ls es) (MatchBool (is_schedule l) (es ≡ []) C) t (no (is_schedule l) (es ≡ []) C s (no (is_last l) ((es ≡ []) × Ends ls) D q h))

        taken : is_last l ≡ false → IsHistoryOf M (l ∷ ls) es → OnLine M l (IsHistoryOf M ls) es
        taken q h =
            let D : Type 0 = OnLine M l (IsHistoryOf M ls) es in
            let C : Type 0 = MatchBool (is_last l) ((es ≡ []) × Ends ls) D in
            from_no (is_last l) ((es ≡ []) × Ends ls) D q (from_no (is_schedule l) (es ≡ []) C s (from_no (is_nothing l) (IsHistoryOf M ls es) (MatchBool (is_schedule l) (es ≡ []) C) t h))

  -- ---- one list of values
  one-entry : (l : List ℕ) (R : List X → Type 0) (d e : List X) → ((xs ys : List X) → R xs → R ys → xs ≡ ys) → OnLine M l R d → OnLine M l R e → d ≡ e
  one-entry l R [] e step h k = absurd h
  one-entry l R (x ∷ d) [] step h k = absurd k
  one-entry l R (x ∷ d) (y ∷ e) step h k =
      let first : x ≡ y = unique l x y h.0 k.0 in
      let rest : d ≡ e = step d e h.1 k.1 in
      cc

  one-list : (ls : Lines) (d e : List X) → IsHistoryOf M ls d → IsHistoryOf M ls e → d ≡ e
  one-list [] d e h k = h ∙ sym k
  one-list (l ∷ ls) d e h k =
      elim (cases_Bool (is_nothing l)) [
        | inl t ↦ one-list ls d e (skipped l ls d t h) (skipped l ls e t k)
        | inr t ↦ elim (cases_Bool (is_schedule l)) [
          | inl s ↦ cut l ls d t s h ∙ sym (cut l ls e t s k)
          | inr s ↦ elim (cases_Bool (is_last l)) [
            | inl q ↦ closed l ls d t s q h ∙ sym (closed l ls e t s q k)
            | inr q ↦ one-entry l (IsHistoryOf M ls) d e (λ xs ys h k. one-list ls xs ys h k) (taken l ls d t s q h) (taken l ls e t s q k)
          ]
        ]
      ]

  -- ---- the lines up to a place
  ends-upto : (n : ℕ) (ls : Lines) → Ends ls → Ends (take n ls)
  ends-upto zero ls h = tt
  ends-upto (suc n) [] h = tt
  ends-upto (suc n) (l ∷ ls) h =
      let S : Type 0 = IsTrue (is_schedule l) in
      elim (cases_Bool (is_nothing l)) [
        | inl t ↦ yes (is_nothing l) (Ends (take n ls)) S t (ends-upto n ls (from_yes (is_nothing l) (Ends ls) S t h))
        | inr t ↦ no (is_nothing l) (Ends (take n ls)) S t (from_no (is_nothing l) (Ends ls) S t h)
      ]

  upto-entry : (n : ℕ) (l : List ℕ) (ls : Lines) (es : List X) → ((xs : List X) → IsHistoryOf M ls xs → SomeHistory M (take n ls))
      → is_nothing l ≡ false → is_schedule l ≡ false → is_last l ≡ false → OnLine M l (IsHistoryOf M ls) es → SomeHistory M (l ∷ take n ls)
  upto-entry n l ls [] step t s q h = absurd h
  upto-entry n l ls (e ∷ es) step t s q h =
      let r = step es h.1 in
      record { entries = e ∷ r.entries; history = put l (take n ls) (e ∷ r.entries) t s q (h.0, r.history) }

  -- the first lines of a history are one
  upto : (n : ℕ) (ls : Lines) (es : List X) → IsHistoryOf M ls es → SomeHistory M (take n ls)
  upto zero ls es h = record { entries = []; history = refl }
  upto (suc n) [] es h = record { entries = []; history = refl }
  upto (suc n) (l ∷ ls) es h =
      elim (cases_Bool (is_nothing l)) [
        | inl t ↦ let r = upto n ls es (skipped l ls es t h) in
            record { entries = r.entries; history = skip l (take n ls) r.entries t r.history }
        | inr t ↦ elim (cases_Bool (is_schedule l)) [
          | inl s ↦ record { entries = []; history = schedule-history M l (take n ls) t s }
          | inr s ↦ elim (cases_Bool (is_last l)) [
            | inl q ↦ record { entries = []; history = last-history M l (take n ls) t s q (ends-upto n ls (last-ends M l ls es t s q h)) }
            | inr q ↦ upto-entry n l ls es (λ xs h. upto n ls xs h) t s q (taken l ls es t s q h)
          ]
        ]
      ]

  -- ---- the first bad line
  -- so many lines are a history, and one more are none
  record StopsAt (ls : Lines) (n : ℕ) : Type 0 where
    within : n < length ls
    good : SomeHistory M (take n ls)
    wrong : SomeHistory M (take (suc n) ls) → ⊥

  bad-line : (ls : Lines) (number n : ℕ) → StopsAt ls n → IsFirstBadOf M ls number (number + n)
  bad-line ls number n b = record {
    before = n;
    place = refl;
    within = b.within;
    good = (b.good.entries, b.good.history);
    wrong = λ es h.
        let P : ℕ → Type 0 = λ k. IsHistoryOf M (take k ls) es in
        b.wrong (record { entries = es; history = subst P (add-one n) h });
  }

  stops : (ls : Lines) (number bad : ℕ) (b : IsFirstBadOf M ls number bad) → StopsAt ls b.before
  stops ls number bad b = record {
    within = b.within;
    good = record { entries = b.good.0; history = b.good.1 };
    wrong = λ h.
        let P : ℕ → Type 0 = λ k. IsHistoryOf M (take k ls) h.entries in
        b.wrong h.entries (subst P (sym (add-one b.before)) h.history);
  }

  -- a history stops nowhere
  goes-on : (ls : Lines) (n : ℕ) → SomeHistory M ls → StopsAt ls n → ⊥
  goes-on ls n h b = b.wrong (upto (suc n) ls h.entries h.history)

  no-later : (ls : Lines) (m n : ℕ) → m < n → StopsAt ls m → StopsAt ls n → ⊥
  no-later ls m n less a b =
      let P : Lines → Type 0 = λ ks. SomeHistory M ks in
      a.wrong (subst P (take-take (suc m) n ls (omega arith)) (upto (suc m) (take n ls) b.good.entries b.good.history))

  one-place : (ls : Lines) (m n : ℕ) → StopsAt ls m → StopsAt ls n → m ≡ n
  one-place ls m n a b =
      elim (cases_lt m n) [
        | inl less ↦ absurd (no-later ls m n less a b)
        | inr rest ↦ elim (cases_lt n m) [
          | inl less ↦ absurd (no-later ls n m less b a)
          | inr back ↦ omega arith
        ]
      ]

  one-bad : (ls : Lines) (number bad other : ℕ) → IsFirstBadOf M ls number bad → IsFirstBadOf M ls number other → other ≡ bad
  one-bad ls number bad other a b =
      let e = one-place ls b.before a.before (stops ls number other b) (stops ls number bad a) in
      omega (arith, e, a.place, b.place)

  -- ---- one of both
  -- behind the last line so many lines may stand, and one more may not
  record ClosesAt (ls : Lines) (n : ℕ) : Type 0 where
    within : n < length ls
    good : Ends (take n ls)
    wrong : Ends (take (suc n) ls) → ⊥

  ends-known : (ls : Lines) → Ends ls ⊎ ((n : ℕ) × ClosesAt ls n)
  ends-known [] = inl tt
  ends-known (l ∷ ls) =
      let S : Type 0 = IsTrue (is_schedule l) in
      elim (cases_Bool (is_nothing l)) [
        | inl t ↦ elim (ends-known ls) [
          | inl h ↦ inl (yes (is_nothing l) (Ends ls) S t h)
          | inr b ↦ inr (
            suc b.0,
            record {
              within = omega (arith, b.1.within);
              good = yes (is_nothing l) (Ends (take b.0 ls)) S t b.1.good;
              wrong = λ h. b.1.wrong (from_yes (is_nothing l) (Ends (take (suc b.0) ls)) S t h);
            },
          )
        ]
        | inr t ↦ elim (cases_Bool (is_schedule l)) [
          | inl s ↦ inl (no (is_nothing l) (Ends ls) S t s)
          | inr s ↦ inr (
            zero,
            record {
              within = omega arith;
              good = tt;
              wrong = λ h. let told : is_schedule l ≡ true = from_no (is_nothing l) (Ends []) S t h in let clash : true ≡ false = sym told ∙ s in absurd (cc);
            },
          )
        ]
      ]

  -- what stands behind the line of an entry
  behind-entry : (l : List ℕ) (ls : Lines) (es : List X) → OnLine M l (IsHistoryOf M ls) es → SomeHistory M ls
  behind-entry l ls [] h = absurd h
  behind-entry l ls (e ∷ es) h = record { entries = es; history = h.1 }

  -- a history, or a place where lines stop being one
  abbrev Known : Lines → Type 0
  Known ls = SomeHistory M ls ⊎ ((n : ℕ) × StopsAt ls n)

  known-skip : (l : List ℕ) (ls : Lines) → is_nothing l ≡ true → Known ls → Known (l ∷ ls)
  known-skip l ls t (inl h) = inl (record { entries = h.entries; history = skip l ls h.entries t h.history })
  known-skip l ls t (inr b) = inr (
    suc b.0,
    record {
      within = omega (arith, b.1.within);
      good = record { entries = b.1.good.entries; history = skip l (take b.0 ls) b.1.good.entries t b.1.good.history };
      wrong = λ h. b.1.wrong (record { entries = h.entries; history = skipped l (take (suc b.0) ls) h.entries t h.history });
    },
  )

  module _ (l : List ℕ) (ls : Lines) (t : is_nothing l ≡ false) (s : is_schedule l ≡ false) where
    known-last : is_last l ≡ true → Ends ls ⊎ ((n : ℕ) × ClosesAt ls n) → Known (l ∷ ls)
    known-last q (inl h) = inl (record { entries = []; history = last-history M l ls t s q h })
    known-last q (inr b) = inr (
      suc b.0,
      record {
        within = omega (arith, b.1.within);
        good = record { entries = []; history = last-history M l (take b.0 ls) t s q b.1.good };
        wrong = λ h. b.1.wrong (last-ends M l (take (suc b.0) ls) h.entries t s q h.history);
      },
    )

    module _ (q : is_last l ≡ false) where
      known-none : ((e : X) → M l e → ⊥) → Known (l ∷ ls)
      known-none other = inr (
        zero,
        record {
          within = omega arith;
          good = record { entries = []; history = refl };
          wrong = λ h. line-wrong M l [] h.entries t s q other h.history;
        },
      )

      known-entry : (e : X) → M l e → Known ls → Known (l ∷ ls)
      known-entry e m (inl h) = inl (record { entries = e ∷ h.entries; history = put l ls (e ∷ h.entries) t s q (m, h.history) })
      known-entry e m (inr b) = inr (
        suc b.0,
        record {
          within = omega (arith, b.1.within);
          good = record { entries = e ∷ b.1.good.entries; history = put l (take b.0 ls) (e ∷ b.1.good.entries) t s q (m, b.1.good.history) };
          wrong = λ h. b.1.wrong (behind-entry l (take (suc b.0) ls) h.entries (taken l (take (suc b.0) ls) h.entries t s q h.history));
        },
      )

  known : (ls : Lines) → Known ls
  known [] = inl (record { entries = []; history = refl })
  known (l ∷ ls) =
      elim (cases_Bool (is_nothing l)) [
        | inl t ↦ known-skip l ls t (known ls)
        | inr t ↦ elim (cases_Bool (is_schedule l)) [
          | inl s ↦ inl (record { entries = []; history = schedule-history M l ls t s })
          | inr s ↦ elim (cases_Bool (is_last l)) [
            | inl q ↦ known-last l ls t s q (ends-known ls)
            | inr q ↦ elim (means l) [
              | inl m ↦ known-entry l ls t s q m.0 m.1 (known ls)
              | inr other ↦ known-none l ls t s q other
            ]
          ]
        ]
      ]

  -- a history part is a history of one list of values, or has one first bad line, and never both
  pub means-or-fails : MeansOrFails M
  means-or-fails ls number =
      elim (known ls) [
        | inl h ↦ inl (
          h.entries,
          record { history = h.history; one = λ other k. one-list ls other h.entries k h.history },
          λ bad b. goes-on ls b.before h (stops ls number bad b),
        )
        | inr b ↦ let first = bad-line ls number b.0 b.1 in inr (
          number + b.0,
          record { first = first; one = λ other c. one-bad ls number (number + b.0) other first c },
          λ es h. goes-on ls b.0 (record { entries = es; history = h }) b.1,
        )
      ]
