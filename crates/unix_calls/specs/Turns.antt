-- For how many turns a schedule stands.
use Rattle.std.specs.Prelude.{ℕ, ◌+◌, List, [], ◌∷◌}
use Rattle.unix_calls.specs.declared.turns.Turn.{Turn}
use Rattle.unix_calls.specs.declared.turns.Turn.TheVariants.{Go, Push, Take, Auto}

-- for how many turns a turn of a schedule stands
abbrev pub turns_in : Turn → ℕ
turns_in (Go n) = 1
turns_in (Push n k) = 1
turns_in (Take n m) = 1
turns_in (Auto k) = k

-- for how many turns some turns stand
abbrev pub turns_total : List Turn → ℕ
turns_total [] = 0
turns_total (t ∷ ts) = turns_in t + turns_total ts
