-- words of a file, and what a word says by itself
use Rattle.std.specs.Prelude.{ℕ, ◌^◌, ◌==◌, Bool, true, false, ◌&&◌, ◌||◌, not, nat_lt, nat_le, if◌then◌else◌, List, [], ◌∷◌, length, codes, Option, Some, None, Result, Ok, Err}
use Rattle.std.specs.List.{list_any, list_all, slice_index_or}
use Rattle.std.specs.Str.{bytes_eq}
use Rattle.std.specs.Str.Parse.{digits_value}
use Rattle.unix_names.specs.declared.signals.Signal.{Signal}
use Rattle.unix_names.specs.Signals.{number_of, signal_of, signal_named}
use Rattle.script_words.specs.declared.faults.Kind.{Kind}
use Rattle.script_words.specs.declared.faults.Kind.TheVariants.{UnknownWord, BadNumber, NoSuchNode, LongName}
use Rattle.script_words.specs.declared.limits.TheConstants.{LONGEST_NAME}

abbrev pub Word : Type 0
Word = List ℕ

-- the words of a line
abbrev pub Row : Type 0
Row = List Word

-- what comes next reads what came before, where that has no fault
infixl 10 ◌>>=◌
abbrev pub ◌>>=◌ : {A B : Type 0} → Result A Kind → (A → Result B Kind) → Result B Kind
(Ok x) >>= f = f x
(Err e) >>= f = Err e

-- what is found, or a fault
abbrev pub found : {A : Type 0} → Option A → Kind → Result A Kind
found (Some x) kind = Ok x
found None kind = Err kind

-- whether two words are one
unfoldable pub is_same : Word → Word → Bool
is_same a b = bytes_eq a b

-- the word at a place of a line, empty where there is none
unfoldable pub word_at : Row → ℕ → Word
word_at row at = slice_index_or row at []

abbrev pub is_digit : ℕ → Bool
is_digit b = nat_le 48 b && nat_le b 57

abbrev pub is_lower : ℕ → Bool
is_lower b = nat_le 97 b && nat_le b 122

abbrev pub is_name_byte : ℕ → Bool
is_name_byte b = is_lower b || is_digit b

-- a lower-case letter, and then lower-case letters and digits
unfoldable pub has_name_form : Word → Bool
has_name_form [] = false
has_name_form (b ∷ bs) = is_lower b && list_all is_name_byte (b ∷ bs)

-- the words that are no names
abbrev pub reserved : List Word
reserved = codes "self" ∷ codes "maker" ∷ codes "none" ∷ codes "any" ∷ codes "at" ∷ codes "end" ∷ codes "stopped" ∷ codes "continued" ∷ []

unfoldable pub is_reserved : Word → Bool
is_reserved word = list_any (is_same word) reserved

-- a word at the place of a name
unfoldable pub name : Word → Result (Unit {0}) Kind
name word =
    if has_name_form word && not (is_reserved word)
    then (if nat_le (length word) LONGEST_NAME then Ok tt else Err LongName)
    else Err UnknownWord

-- 1 to 10 decimal digits that spell a number below 2^32
unfoldable pub is_number : Word → Bool
is_number word = nat_lt 0 (length word) && nat_le (length word) 10 && list_all is_digit word && nat_lt (digits_value 10 word) (2 ^ 32)

-- a word at the place of a number
unfoldable pub number : Word → Result ℕ Kind
number word = if length word == 0 then Err UnknownWord else (if is_number word then Ok (digits_value 10 word) else Err BadNumber)

unfoldable pub begins_with_digit : Word → Bool
begins_with_digit [] = false
begins_with_digit (b ∷ bs) = is_digit b

-- a word at the place of a signal that may be any number
unfoldable pub signal_number : Word → Result ℕ Kind
signal_number word = if begins_with_digit word then number word else (found (signal_named word) UnknownWord >>= λ s. Ok (number_of s))

-- a word at the place of a signal that must be one
unfoldable pub signal : Word → Result Signal Kind
signal word = if begins_with_digit word then (number word >>= λ n. found (signal_of n) BadNumber) else found (signal_named word) UnknownWord

-- a minus, and then one or more digits
unfoldable pub is_minus_digits : Word → Bool
is_minus_digits [] = false
is_minus_digits (b ∷ bs) = (b == 45) && nat_lt 0 (length bs) && list_all is_digit bs

-- a word at the place of a node of the cluster
unfoldable pub node : ℕ → Word → Result ℕ Kind
node nodes word = number word >>= λ n. (if nat_lt n nodes then Ok n else Err NoSuchNode)

-- a value, where the line has no more words than these
unfoldable pub ended : {A : Type 0} → Row → ℕ → A → Result A Kind
ended row count value = if nat_le (length row) count then Ok value else Err UnknownWord

abbrev pub begins_with_hash : Word → Bool
begins_with_hash [] = false
begins_with_hash (b ∷ bs) = b == 35

-- a line without words, or one whose first word begins with `#`, says nothing
unfoldable pub is_skipped : Row → Bool
is_skipped [] = true
is_skipped (word ∷ words) = begins_with_hash word
