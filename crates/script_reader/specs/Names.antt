-- names of a file with their numbers
use Rattle.std.specs.Prelude.{ℕ, if◌then◌else◌, List, [], ◌∷◌, ◌++◌, Option, is_some}
use Rattle.std.specs.Map.{lookup}
use Rattle.script_words.specs.Words.{Word, is_same}

-- words with their numbers, in the order of the file
abbrev pub Table : Type 0
Table = List (Word × ℕ)

-- the first number of a word
abbrev pub number_in : Table → Word → Option ℕ
number_in table word = lookup (is_same word) table

-- a table where a word has a number too, unless it had one
abbrev pub noted : Table → Word → ℕ → Table
noted table word number = if is_some (number_in table word) then table else table ++ (word, number) ∷ []
