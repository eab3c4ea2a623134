-- What a text has behind one more piece.
use Rattle.std.proofs.Common.{◌≡◌, ◌<◌, ◌+◌, ◌++◌, ℕ, List, [], ◌∷◌, length, take, get_or, Result, Ok, Err, OnOk, ◌∙◌, sym, ap, append_assoc}
use Rattle.std.specs.List.{flat_map}
use Rattle.std.proofs.lemmas.List.{take_more, append-nil}
use Rattle.std.proofs.lemmas.List.Concat.{flat_map-cons, flat_map-append}
use Rattle.process_table.specs.declared.Row.{Row}

-- two pieces, one after the other
pub appended : {X E : Type 0} (r : Result X E) (s s' s'' one two : List ℕ) → s' ≡ s ++ one → OnOk r (s'' ≡ s' ++ two) → OnOk r (s'' ≡ s ++ (one ++ two))
appended (Ok x) s s' s'' one two e e' = e' ∙ (ap (λ (t : List ℕ). t ++ two) e ∙ append_assoc s one two)
appended (Err x) s s' s'' one two e e' = e'

flat_map-one : (f : Row → List ℕ) (row : Row) → flat_map f (row ∷ []) ≡ f row
flat_map-one f row = flat_map-cons f row [] ∙ append-nil (f row)

-- one more row
pub row_more : (f : Row → List ℕ) (rows : List Row) (i : ℕ) (row : Row) (s s' : List ℕ) → i < length rows → row ≡ get_or rows i row
    → s ≡ flat_map f (take i rows) → s' ≡ s ++ f row → s' ≡ flat_map f (take (i + 1) rows)
row_more f rows i row s s' within is e e' =
    let longer : take (i + 1) rows ≡ take i rows ++ row ∷ [] = take_more rows i row within ∙ ap (λ (x : Row). take i rows ++ x ∷ []) (sym is) in
    e' ∙ (ap (λ (t : List ℕ). t ++ f row) e
    ∙ sym (ap (flat_map f) longer ∙ (flat_map-append f (take i rows) (row ∷ []) ∙ ap (λ (t : List ℕ). flat_map f (take i rows) ++ t) (flat_map-one f row))))
