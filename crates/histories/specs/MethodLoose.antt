-- Method of the reader of lines, and no part of what a line means: what the words of a line seem to say, read without care. What is written of it then decides whether they say it.
use Rattle.std.specs.Prelude.{ℕ, ◌%◌, nat_lt, ℤ, pos, neg_ℤ, Bool, false, not, ◌==◌, if◌then◌else◌, [], ◌∷◌, length, take, drop, codes, fold, take_while, Option, Some, None, unwrap_or}
use Rattle.std.specs.Str.Parse.{digits_value}
use Rattle.unix_names.specs.declared.Signal.{Signal}
use Rattle.unix_names.specs.declared.Signal.TheVariants.{Hup}
use Rattle.unix_names.specs.declared.Act.TheVariants.{Default}
use Rattle.unix_names.specs.declared.Errno.{Errno}
use Rattle.unix_names.specs.declared.WaitStatus.{WaitStatus}
use Rattle.unix_names.specs.declared.WaitStatus.TheVariants as status
use Rattle.unix_names.specs.Signals.{number_of, signal_named}
use Rattle.unix_names.specs.Sets.{added}
use Rattle.unix_calls.specs.declared.Call.{Call}
use Rattle.unix_calls.specs.declared.Call.TheVariants as calls
use Rattle.unix_calls.specs.declared.Reply.{Reply}
use Rattle.unix_calls.specs.declared.Reply.TheVariants as replies
use Rattle.unix_calls.specs.declared.Event.{Event}
use Rattle.unix_calls.specs.declared.Event.TheVariants as events
use Rattle.unix_calls.specs.declared.Entry.{Entry}
use Rattle.unix_calls.specs.declared.Entry.TheVariants.{Called, Happened}
use Rattle.script_words.specs.declared.Verb.{Verb}
use Rattle.script_words.specs.declared.Verb.TheVariants as verb
use Rattle.script_words.specs.Words.{Word, Row, is_same, word_at, is_number}
use Rattle.script_words.specs.Table.{verb_named, act_named, errno_named, changes_in}

-- a number, or 0
unfoldable pub number_in : Word → ℕ
number_in word = if is_number word then digits_value 10 word else 0

-- a number that may have a minus
unfoldable pub signed_in : Word → ℤ
signed_in [] = pos 0
signed_in (b ∷ bs) = if b == 45 then neg_ℤ (pos (number_in bs)) else pos (number_in (b ∷ bs))

abbrev pub number_or : Option Signal → ℕ → ℕ
number_or (Some s) n = number_of s
number_or None n = n

-- a signal's number by its word, or a number
unfoldable pub signal_number_in : Word → ℕ
signal_number_in word = number_or (signal_named word) (number_in word)

-- a signal by its word
unfoldable pub signal_in : Word → Signal
signal_in word = unwrap_or (signal_named word) Hup

abbrev pub with_named : ℕ → Option Signal → ℕ
with_named set (Some s) = added set s
with_named set None = set

-- the signals that are named
unfoldable pub set_in : Row → ℕ
set_in row = fold (λ set word. with_named set (signal_named word)) 0 row

-- what waitpid tells, from the second word of a reply on
unfoldable pub status_in : Row → WaitStatus
status_in row =
    if is_same (word_at row 2) (codes "exited") then status.Exited (number_in (word_at row 3) % 256)
    else (if is_same (word_at row 2) (codes "killed") then status.Killed (signal_in (word_at row 3))
    else (if is_same (word_at row 2) (codes "stopped") then status.Stopped (signal_in (word_at row 3))
    else status.Continued))

abbrev pub refused_or : Option Errno → Reply → Reply
refused_or (Some e) reply = replies.Refused e
refused_or None reply = reply

-- a reply of a word or a set
unfoldable pub worded_reply_in : Row → Reply
worded_reply_in row =
    if is_same (word_at row 1) (codes "ok") then replies.Fine
    else (if is_same (word_at row 1) (codes "again") then replies.Again
    else refused_or (errno_named (word_at row 1)) (replies.Set (set_in (drop 1 row))))

-- a reply, with its equals sign; none where there are no words
unfoldable pub reply_in : Row → Reply
reply_in row =
    if length row == 0 then replies.NoReply
    else (if is_number (word_at row 1)
    then (if nat_lt 2 (length row) then replies.Child (record { 0 = number_in (word_at row 1) }) (status_in row) else replies.Number (number_in (word_at row 1)))
    else worded_reply_in row)

-- a wait, and which changes of a child it asks for beside an end
abbrev pub waits : ℤ → Option (Bool × Bool) → Call
waits sel (Some asked) = calls.Waitpid sel asked.0 asked.1
waits sel None = calls.Waitpid sel false false

unfoldable pub wait_in : Row → Call
wait_in row = waits (signed_in (word_at row 1)) (changes_in (drop 1 (drop 1 row)))

-- the call of a verb, with its further words; none of a verb of files alone
unfoldable pub call_of : Verb → Row → Option Call
call_of verb.Getpid row = Some calls.Getpid
call_of verb.Getppid row = Some calls.Getppid
call_of verb.Getpgid row = Some (calls.Getpgid (number_in (word_at row 1)))
call_of verb.Getsid row = Some (calls.Getsid (number_in (word_at row 1)))
call_of verb.Fork row = Some calls.Fork
call_of verb.Exec row = Some calls.Exec
call_of verb.Exit row = Some (calls.Exit (number_in (word_at row 1)))
call_of verb.Wait row = None
call_of verb.Poll row = None
call_of verb.Kill row = Some (calls.Kill (signed_in (word_at row 1)) (signal_number_in (word_at row 2)))
call_of verb.Setpgid row = Some (calls.Setpgid (number_in (word_at row 1)) (signed_in (word_at row 2)))
call_of verb.Setsid row = Some calls.Setsid
call_of verb.Action row = Some (calls.Action (signal_number_in (word_at row 1)) (unwrap_or (act_named (word_at row 2)) Default))
call_of verb.Mask row = Some (calls.Mask (set_in (drop 1 row)))
call_of verb.Pending row = Some calls.Pending
call_of verb.Migrate row = Some calls.Migrate

abbrev pub call_named : Option Verb → Row → Option Call
call_named (Some v) row = call_of v row
call_named None row = None

-- the call that words seem to say, if they begin with a call's word
unfoldable pub call_in : Row → Option Call
call_in row = if is_same (word_at row 0) (codes "waitpid") then Some (wait_in row) else call_named (verb_named (word_at row 0)) row

-- how many words stand before the equals sign
unfoldable pub words_before : Row → ℕ
words_before row = length (take_while (λ word. not (is_same word (codes "="))) row)

-- what happened, by its word
unfoldable pub event_in : Row → Event
event_in row =
    if is_same (word_at row 0) (codes "caught") then events.Caught (signal_in (word_at row 1))
    else (if is_same (word_at row 0) (codes "discarded") then events.Discarded (signal_in (word_at row 1))
    else (if is_same (word_at row 0) (codes "stopped") then events.StoppedBy (signal_in (word_at row 1))
    else (if is_same (word_at row 0) (codes "ended") then events.EndedBy (signal_in (word_at row 1))
    else (if is_same (word_at row 0) (codes "continued") then events.Continued
    else events.Moved))))

-- an entry by the words behind its process: a call where they begin with one
abbrev pub said : Option Call → ℕ → Row → Entry
said (Some call) pid row = Called (record { 0 = pid }) call (reply_in (drop (words_before row) row))
said None pid row = Happened (record { 0 = pid }) (event_in row)

-- an entry by its words
unfoldable pub entry_in : Row → Entry
entry_in row = said (call_in (take (words_before (drop 1 row)) (drop 1 row))) (number_in (word_at row 0)) (drop 1 row)
