-- a line means one stamped entry at most, and it can be told whether it means one
use Rattle.std.proofs.Common.{inl, inr, ◌≡◌, ◌⊎◌, ℕ, ◌^◌, ◌<◌, ◌≤◌, [], ◌∷◌, ap, sym, subst, ◌∙◌, arith}
use Rattle.std.specs.Fmt.{decimal}
use Rattle.std.specs.Str.{bytes_eq}
use Rattle.std.specs.Str.Parse.{digits_value}
use Rattle.std.proofs.lemmas.Bool.{cases_Bool, cases_lt}
use Rattle.std.proofs.lemmas.Fmt.{decimal_is_IsNumeral, decimal_injective}
use Rattle.std.proofs.lemmas.Slice.Eq.{bytes_eq-Decides}
use Rattle.script_words.specs.Words.{Word, Row}
use Rattle.histories.specs.declared.stamped.Stamped.{Stamped}
use Rattle.histories.specs.Reading.{AreWords, SpellsEntry}
use Rattle.histories.specs.Stamped.{SpellsStamped}
use Rattle.histories.proofs.Meanings.{spelling-unique, entry-known}
use Rattle.histories.proofs.Stamps.{rest_words}

pub stamped-unique : (row : Row) (s t : Stamped) → SpellsStamped row s → SpellsStamped row t → s ≡ t
stamped-unique row s t a b =
    let both : decimal s.place ∷ decimal s.uid ∷ a.rest ≡ decimal t.place ∷ decimal t.uid ∷ b.rest = sym a.spelled ∙ b.spelled in
    let one : decimal s.place ≡ decimal t.place = cc in
    let two : decimal s.uid ≡ decimal t.uid = cc in
    let rest : b.rest ≡ a.rest = cc in
    let place : s.place ≡ t.place = decimal_injective s.place t.place a.place b.place one in
    let small = a.user in
    let small' = b.user in
    let uid : s.uid ≡ t.uid = decimal_injective s.uid t.uid (omega arith) (omega arith) two in
    let entry : s.entry ≡ t.entry = spelling-unique a.rest s.entry t.entry a.entry (subst (λ (r : Row). SpellsEntry r t.entry) rest b.entry) in
    let S : Stamped = record { place = s.place; uid = s.uid; entry = s.entry } in
    let T : Stamped = record { place = t.place; uid = t.uid; entry = t.entry } in
    let is : S ≡ T = cc in
    is

-- whether a word is written of a number below a limit
numeral-known : (w : Word) (limit : ℕ) → limit ≤ 2 ^ 64 → ((n : ℕ) × (w ≡ decimal n) × (n < limit)) ⊎ ((n : ℕ) → n < limit → w ≡ decimal n → ⊥)
numeral-known w limit most =
    let v = digits_value 10 w in
    let same : (n : ℕ) → n < limit → w ≡ decimal n → v ≡ n = λ n less e. ap (digits_value 10) e ∙ (decimal_is_IsNumeral n (omega arith)).1 in
    let d = bytes_eq-Decides w (decimal v) in
    elim (cases_lt v limit) [
      | inr more ↦ inr (λ n less e. let is = same n less e in omega (arith, is))
      | inl less ↦ elim (cases_Bool (bytes_eq w (decimal v))) [
        | inl yes' ↦ inl (v, d.0 yes', less)
        | inr other ↦ inr (λ n small e. let t = d.1 (e ∙ ap decimal (sym (same n small e))) in absurd (cc))
      ]
    ]

pub stamped-known : (row : Row) → AreWords row → ((s : Stamped) × SpellsStamped row s) ⊎ ((s : Stamped) → SpellsStamped row s → ⊥)
stamped-known [] are = inr (λ s m. let e = m.spelled in absurd (cc))
stamped-known (a ∷ []) are = inr (λ s m. let e = m.spelled in absurd (cc))
stamped-known (a ∷ b ∷ rest) are =
    elim (numeral-known a (2 ^ 64) (omega arith)) [
      | inr none ↦ inr (λ s m. let e = m.spelled in let first : a ≡ decimal s.place = cc in none s.place m.place first)
      | inl (place, pe, pl) ↦ elim (numeral-known b (2 ^ 32) (omega arith)) [
        | inr none ↦ inr (λ s m. let e = m.spelled in let second : b ≡ decimal s.uid = cc in none s.uid m.user second)
        | inl (uid, ue, ul) ↦ elim (entry-known rest (rest_words a b rest are)) [
          | inl (entry, m) ↦ inl (
            record { place = place; uid = uid; entry = entry },
            record { rest = rest; spelled = ap (λ (w : Word). w ∷ b ∷ rest) pe ∙ ap (λ (w : Word). decimal place ∷ w ∷ rest) ue; place = pl; user = ul; entry = m },
          )
          | inr none ↦ inr (λ s m. let e = m.spelled in let same : m.rest ≡ rest = cc in none s.entry (subst (λ (r : Row). SpellsEntry r s.entry) same m.entry))
        ]
      ]
    ]
