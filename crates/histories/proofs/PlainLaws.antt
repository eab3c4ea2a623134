-- what is written of an entry stands in its line as it is, and no word of a call or an event is an equals sign
use Rattle.std.proofs.Common.{◌≡◌, ℕ, ℤ, pos, negsuc, suc, ◌==◌, ◌&&◌, not, Bool, true, false, cond, List, [], ◌∷◌, ◌++◌, map, filter, None, Some, refl, codes, arith}
use Rattle.std.proofs.lemmas.Bool.{and_parts}
use Rattle.std.specs.List.{list_all}
use Rattle.std.specs.Fmt.{decimal, signed_decimal}
use Rattle.std.proofs.lemmas.Bool.Decides.{nat_tests}
use Rattle.unix_names.specs.declared.Signal.{Signal}
use Rattle.unix_names.specs.declared.Signal.TheVariants.{Hup}
use Rattle.unix_names.specs.declared.Act.{Act}
use Rattle.unix_names.specs.declared.Act.TheVariants as acts
use Rattle.unix_names.specs.declared.Errno.{Errno}
use Rattle.unix_names.specs.declared.Errno.TheVariants.{EPERM}
use Rattle.unix_names.specs.declared.WaitStatus.{WaitStatus}
use Rattle.unix_names.specs.declared.WaitStatus.TheVariants as status
use Rattle.unix_names.specs.Signals.{word_of, signal_of, all_signals}
use Rattle.unix_names.specs.Sets.{has}
use Rattle.unix_calls.specs.declared.Call.{Call}
use Rattle.unix_calls.specs.declared.Call.TheVariants as calls
use Rattle.unix_calls.specs.declared.Reply.{Reply}
use Rattle.unix_calls.specs.declared.Reply.TheVariants as replies
use Rattle.unix_calls.specs.declared.Event.{Event}
use Rattle.unix_calls.specs.declared.Event.TheVariants as events
use Rattle.unix_calls.specs.declared.Entry.{Entry}
use Rattle.unix_calls.specs.declared.Entry.TheVariants.{Called, Happened}
use Rattle.script_words.specs.Words.{Word, is_same}
use Rattle.script_words.specs.Table.{errno_word, act_word, change_words}
use Rattle.script_words.specs.Writing.{word_or_number, signal_word}
use Rattle.text_laws.specs.Plain.{is_plain, are_plain}
use Rattle.text_laws.proofs.Numbers.{PassDigits, decimal-passes, plain-decimal}
use Rattle.text_laws.proofs.Words.{plain-append}
use Rattle.histories.specs.History.{set_words, call_words, status_words, reply_words, event_words}
use Rattle.histories.specs.Reading.{entry_words}

-- no equals sign
abbrev pub is_inner : Word → Bool
is_inner word = not (is_same word (codes "="))

-- a word that may stand on either side of an equals sign
abbrev is_side : Word → Bool
is_side word = is_plain word && is_inner word

-- what is so of each such word
sides : (ws : List Word) → list_all is_side ws ≡ true → (are_plain ws ≡ true) × (list_all is_inner ws ≡ true)
sides [] h = (refl, refl)
sides (w ∷ ws) h =
    let parts = and_parts (is_side w) (list_all is_side ws) h in
    let word = and_parts (is_plain w) (is_inner w) parts.0 in
    let rest = sides ws parts.1 in
    (rw word.0 rest.0, rw word.1 rest.1)

-- ---- the words of calls, replies and events
digit-inner : PassDigits (λ b. not (b == 61))
digit-inner b low high = grind (arith, nat_tests)

bytes-inner : (ds : Word) → list_all (λ b. not (b == 61)) ds ≡ true → is_inner ds ≡ true
unfolding is_same
bytes-inner [] h = refl
bytes-inner (d ∷ ds) h = grind (arith, nat_tests)

side-number : (n : ℕ) → is_side (decimal n) ≡ true
side-number n = rw (plain-decimal n) (bytes-inner (decimal n) (decimal-passes (λ b. not (b == 61)) n digit-inner).1)

side-word : (s : Signal) → is_side (word_of s) ≡ true
unfolding is_same
side-word Hup = refl
side-word _ = refl

minus-plain : (ds : Word) → is_plain ds ≡ true → is_plain (45 ∷ ds) ≡ true
minus-plain ds h = grind (arith, nat_tests)

side-signed : (z : ℤ) → is_side (signed_decimal z) ≡ true
unfolding is_same
side-signed (pos n) = side-number n
side-signed (negsuc n) = rw (minus-plain (decimal (suc n)) (plain-decimal (suc n))) refl

side-signal : (n : ℕ) → is_side (signal_word n) ≡ true
side-signal n = elim (signal_of n) as (λ o. is_side (word_or_number n o) ≡ true) [ None ↦ side-number n | Some s ↦ side-word s ]

side-words : (ss : List Signal) → list_all is_side (map word_of ss) ≡ true
side-words [] = refl
side-words (s ∷ ss) = rw (side-word s) (side-words ss)

side-dash : list_all is_side (codes "-" ∷ []) ≡ true
unfolding is_same
side-dash = refl

side-set : (set : ℕ) → list_all is_side (set_words set) ≡ true
side-set set = elim (set == 0) as (λ b. list_all is_side (cond b (codes "-" ∷ []) (map word_of (filter (has set) all_signals))) ≡ true) [
  | true ↦ side-dash
  | false ↦ side-words (filter (has set) all_signals)
]

side-changes : (a b : Bool) → list_all is_side (change_words a b) ≡ true
unfolding is_same
side-changes false false = refl
side-changes true false = refl
side-changes false true = refl
side-changes true true = refl

side-act : (a : Act) → list_all is_side (act_word a ∷ []) ≡ true
unfolding is_same
side-act acts.Default = refl
side-act _ = refl

side-call : (c : Call) → list_all is_side (call_words c) ≡ true
unfolding is_same
side-call (calls.Getpgid t) = rw (side-number t) refl
side-call (calls.Getsid t) = rw (side-number t) refl
side-call (calls.Exit n) = rw (side-number n) refl
side-call (calls.Waitpid sel a b) = rw (side-signed sel) (side-changes a b)
side-call (calls.Kill target sig) = rw (side-signed target, side-signal sig) refl
side-call (calls.Setpgid pid pgid) = rw (side-number pid, side-signed pgid) refl
side-call (calls.Action sig a) = rw (side-signal sig) (side-act a)
side-call (calls.Mask set) = side-set set
side-call _ = refl

side-status : (s : WaitStatus) → list_all is_side (status_words s) ≡ true
unfolding is_same
side-status (status.Exited n) = rw (side-number n) refl
side-status (status.Killed s) = rw (side-word s) refl
side-status (status.Stopped s) = rw (side-word s) refl
side-status status.Continued = refl

side-event : (e : Event) → list_all is_side (event_words e) ≡ true
unfolding is_same
side-event (events.Caught s) = rw (side-word s) refl
side-event (events.Discarded s) = rw (side-word s) refl
side-event (events.StoppedBy s) = rw (side-word s) refl
side-event (events.EndedBy s) = rw (side-word s) refl
side-event events.Continued = refl
side-event events.Moved = refl

plain-errno : (e : Errno) → are_plain (errno_word e ∷ []) ≡ true
plain-errno EPERM = refl
plain-errno _ = refl

plain-reply : (r : Reply) → are_plain (reply_words r) ≡ true
plain-reply (replies.Number n) = rw (plain-decimal n) refl
plain-reply (replies.Set set) = (sides (set_words set) (side-set set)).0
plain-reply (replies.Child pid s) = rw (plain-decimal pid.0) (sides (status_words s) (side-status s)).0
plain-reply (replies.Refused e) = plain-errno e
plain-reply _ = refl

-- ---- what holds of them
pub inner-call : (c : Call) → list_all is_inner (call_words c) ≡ true
inner-call c = (sides (call_words c) (side-call c)).1

pub inner-event : (e : Event) → list_all is_inner (event_words e) ≡ true
inner-event e = (sides (event_words e) (side-event e)).1

-- what stands behind the process of an entry is plain
pub plain-called : (c : Call) (r : Reply) → are_plain (call_words c ++ reply_words r) ≡ true
plain-called c r = plain-append (call_words c) (reply_words r) (sides (call_words c) (side-call c)).0 (plain-reply r)

pub plain-event : (e : Event) → are_plain (event_words e) ≡ true
plain-event e = (sides (event_words e) (side-event e)).0

-- what is written of an entry is plain
pub plain-entry : (e : Entry) → are_plain (entry_words e) ≡ true
plain-entry (Called caller c r) = rw (plain-decimal caller.0) (plain-called c r)
plain-entry (Happened pid e) = rw (plain-decimal pid.0) (plain-event e)
