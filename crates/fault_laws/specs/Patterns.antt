-- The forms of lines: which words stand behind the first one, and the first word of a line that is wrong.
use Rattle.std.specs.Prelude.{◌≡◌, ◌≢◌, ◌⊎◌, Bool, true, false, if◌then◌else◌, List, [], ◌∷◌, ◌++◌, codes, All}
use Rattle.script_words.specs.declared.Kind.{Kind}
use Rattle.script_words.specs.declared.Kind.TheVariants.{NoClusterLine, UnknownWord}
use Rattle.script_words.specs.Words.{Word, Row, is_skipped}
use Rattle.script_words.specs.declared.table.Verb.{Verb}
use Rattle.script_words.specs.declared.table.Verb.TheVariants as verb
use Rattle.script_words.specs.Table.{verb_word}
use Rattle.fault_laws.specs.Context.{is_begun, is_open}
use Rattle.fault_laws.specs.Slots.{Slot, total, number, node, new_script, any_script, earlier_script, variable, new_start, earlier_start, process, target, wanted, selector, signal_number, signal, action, Fits, Misfits}

-- What stands on a line from some word on.
pub data Pattern : Type 0 where
  -- no word more
  ends : Pattern
  -- a word at a place, and the rest
  needs : Slot → Pattern → Pattern
  -- the given word and what stands behind it, or else the other
  may : Word → Pattern → Pattern → Pattern
  -- any number of words, each at such a place
  each : Slot → Pattern

-- ---- the forms
-- where it is wanted, the start that is joined
abbrev pub joining : Pattern
joining = may (codes "with") (needs earlier_start ends) ends

abbrev pub start_form : Pattern
start_form = needs node (needs any_script (needs new_start (may (codes "uid") (needs number joining) joining)))

abbrev pub wait_form : Pattern
wait_form = needs selector (may (codes "stopped") (may (codes "continued") ends ends) (may (codes "continued") ends ends))

-- what stands behind a statement's word
abbrev pub form_of : Verb → Pattern
form_of verb.Getpid = ends
form_of verb.Getppid = ends
form_of verb.Getpgid = needs process ends
form_of verb.Getsid = needs process ends
form_of verb.Fork = needs variable (needs earlier_script (may (codes "at") (needs node ends) ends))
form_of verb.Exec = needs earlier_script ends
form_of verb.Exit = needs number ends
form_of verb.Wait = wait_form
form_of verb.Poll = wait_form
form_of verb.Kill = needs target (needs signal_number ends)
form_of verb.Setpgid = needs process (needs wanted ends)
form_of verb.Setsid = ends
form_of verb.Action = needs signal_number (needs action ends)
form_of verb.Mask = each signal
form_of verb.Pending = ends
form_of verb.Migrate = needs node ends

-- a line may begin so behind these lines, and goes on by this form
abbrev pub Begins : List Row → Word → Pattern → Type 0
Begins before word form =
    ((is_begun before ≡ false) × (word ≡ codes "cluster") × (form ≡ needs total ends))
    ⊎ ((is_begun before ≡ true) × (is_open before ≡ false) × (word ≡ codes "script") × (form ≡ needs new_script ends))
    ⊎ ((is_begun before ≡ true) × (is_open before ≡ true) × (word ≡ codes "end") × (form ≡ ends))
    ⊎ ((is_begun before ≡ true) × (is_open before ≡ false) × (word ≡ codes "start") × (form ≡ start_form))
    ⊎ ((v : Verb) × (is_begun before ≡ true) × (is_open before ≡ true) × (word ≡ verb_word v) × (form ≡ form_of v))

-- ---- right and wrong words
-- the words are as the form has them
abbrev pub AreRight : List Row → List Row → Pattern → Row → Type 0
AreRight rows before ends words = words ≡ []
AreRight rows before (needs slot form) [] = ⊥
AreRight rows before (needs slot form) (word ∷ words) = Fits rows before slot word × AreRight rows before form words
AreRight rows before (may given then' else') [] = AreRight rows before else' []
AreRight rows before (may given then' else') (word ∷ words) = ((word ≡ given) × AreRight rows before then' words) ⊎ ((word ≢ given) × AreRight rows before else' (word ∷ words))
AreRight rows before (each slot) words = All (Fits rows before slot) words

-- the first word that is not as the form has it, or is missing, and why
abbrev pub AreWrong : List Row → List Row → Pattern → Row → Kind → Type 0
AreWrong rows before ends [] kind = ⊥
AreWrong rows before ends (word ∷ words) kind = kind ≡ UnknownWord
AreWrong rows before (needs slot form) [] kind = kind ≡ UnknownWord
AreWrong rows before (needs slot form) (word ∷ words) kind = Misfits rows before slot word kind ⊎ (Fits rows before slot word × AreWrong rows before form words kind)
AreWrong rows before (may given then' else') [] kind = AreWrong rows before else' [] kind
AreWrong rows before (may given then' else') (word ∷ words) kind =
    ((word ≡ given) × AreWrong rows before then' words kind) ⊎ ((word ≢ given) × AreWrong rows before else' (word ∷ words) kind)
AreWrong rows before (each slot) words kind =
    (right later : Row) × (word : Word) × (words ≡ right ++ word ∷ later) × All (Fits rows before slot) right × Misfits rows before slot word kind

-- the kind of a first word that may not begin a line
abbrev pub first_kind : Bool → Kind
first_kind begun = if begun then UnknownWord else NoClusterLine

-- the first wrong word of a line, and why: no line may begin so, or a word behind the first is wrong
abbrev pub IsWrong : List Row → List Row → Row → Kind → Type 0
IsWrong rows before [] kind = ⊥
IsWrong rows before (word ∷ words) kind =
    (is_skipped (word ∷ words) ≡ false) × (
    (((form : Pattern) → ¬ Begins before word form) × (kind ≡ first_kind (is_begun before)))
    ⊎ ((form : Pattern) × Begins before word form × AreWrong rows before form words kind))
