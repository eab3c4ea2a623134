-- Method of the reader of numerals, and no part of what a line means: which words are told apart before they are parsed.
use Rattle.std.specs.Prelude.{ℕ, ◌==◌, Bool, false, ◌&&◌, ◌||◌, nat_lt, List, [], ◌∷◌, length}

-- a plus first, or a zero and more
abbrev pub begins_otherwise : List ℕ → Bool
begins_otherwise [] = false
begins_otherwise (c ∷ cs) = (c == 43) || ((c == 48) && nat_lt 0 (length cs))
