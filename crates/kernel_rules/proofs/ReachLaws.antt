-- signals that reach one row after the other
use Rattle.std.proofs.Common.{◌≡◌, ◌∙◌, ◌+◌, ◌++◌, ◌<◌, ℕ, zero, suc, true, false, List, [], ◌∷◌, length, take, drop, get_or, set, Some, refl, sym, ap, arith}
use Rattle.std.specs.Prelude.{map}
use Rattle.std.proofs.lemmas.List.{length-set}
use Rattle.std.proofs.lemmas.List.Edits.{map_over_more}
use Rattle.process_table.specs.declared.Row.{Row}

one_default : (rows : List Row) (i : ℕ) (c d : Row) → i < length rows → get_or rows i c ≡ get_or rows i d
one_default [] i c d within = absurd (omega arith)
one_default (r ∷ rows) zero c d within = refl
one_default (r ∷ rows) (suc i) c d within = one_default rows i c d (omega arith)

-- the next row is changed too
pub over_more : (f : Row → Row) (rows now new : List Row) (i : ℕ) → i < length rows → length now ≡ length rows → now ≡ map f (take i rows) ++ drop i rows → ((d : Row) → new ≡ set now i (f (get_or now i d))) → new ≡ map f (take (i + 1) rows) ++ drop (i + 1) rows
over_more f [] now new i within same so is = absurd (omega arith)
over_more f (r ∷ rows) now new i within same so is =
    is r ∙ map_over_more f (r ∷ rows) now i (get_or now i r) within so (one_default now i r (get_or now i r) (omega arith))

-- and there are as many rows as before
pub length_more : (f : Row → Row) (rows now new : List Row) (i : ℕ) → i < length rows → length now ≡ length rows → ((d : Row) → new ≡ set now i (f (get_or now i d))) → length new ≡ length rows
length_more f [] now new i within same is = absurd (omega arith)
length_more f (r ∷ rows) now new i within same is = ap length (is r) ∙ length-set now i (f (get_or now i r)) ∙ same
