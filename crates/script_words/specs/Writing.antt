-- Words as they are written of numbers and sets of signals.
use Rattle.std.specs.Prelude.{ℕ, Option, None, Some, List, ◌∷◌, map, filter}
use Rattle.std.specs.List.{flat_map}
use Rattle.std.specs.Fmt.{decimal}
use Rattle.unix_names.specs.declared.Signal.{Signal}
use Rattle.unix_names.specs.Signals.{word_of, signal_of, all_signals}
use Rattle.unix_names.specs.Sets.{has}
use Rattle.script_words.specs.Words.{Word, Row}

-- each word behind a space
abbrev pub spaced : Row → List ℕ
spaced row = flat_map (λ word. 32 ∷ word) row

-- a signal's word, or the number where it is no signal's
abbrev pub word_or_number : ℕ → Option Signal → Word
word_or_number n None = decimal n
word_or_number n (Some s) = word_of s

-- a number at the place of a signal
abbrev pub signal_word : ℕ → Word
signal_word n = word_or_number n (signal_of n)

-- the words of a set's signals, by number
abbrev pub member_words : ℕ → Row
member_words set = map word_of (filter (has set) all_signals)
