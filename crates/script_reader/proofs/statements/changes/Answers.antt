use Rattle.std.proofs.Common.{◌≡◌, ℕ, ◌<◌, List, [], ◌∷◌, length, map, false, refl, sym, arith, Bor, Ok}
use Rattle.script_words.specs.Table.{changes_in}
use Rattle.script_reader.specs.Statements.{changes}
use Rattle.script_reader.proofs.statements.changes.Goals as goal

-- a line of fewer than three words asks for no changes
short : (ws : List (Bor (List ℕ))) → length ws < 2 → changes (map (λ w. w.now) ws) ≡ Ok (false, false)
unfolding changes changes_in
short [] lt = refl
short (first ∷ []) lt = refl
short (first ∷ second ∷ more) lt = absurd (omega arith)

pub returns-in_default : goal.returns-in_default
returns-in_default c = sym (short c.args.words.now c.in_default.len_below)
