-- words that stand in a line as they are
use Rattle.std.specs.Prelude.{ℕ, Bool, ◌&&◌, nat_lt, nat_le, List, length}
use Rattle.std.specs.List.{list_all}

-- no blank, no control character
abbrev pub is_visible : ℕ → Bool
is_visible b = nat_le 33 b

-- a word that is not empty, of visible bytes
abbrev pub is_plain : List ℕ → Bool
is_plain word = nat_lt 0 (length word) && list_all is_visible word

-- such words, one and all
abbrev pub are_plain : List (List ℕ) → Bool
are_plain words = list_all is_plain words
