-- The text of a history: a line for each entry, whose words stand one space apart.
use Rattle.std.specs.Prelude.{ℕ, ◌==◌, Bool, if◌then◌else◌, List, [], ◌∷◌, ◌++◌, codes}
use Rattle.std.specs.List.{flat_map}
use Rattle.std.specs.Fmt.{decimal, signed_decimal}
use Rattle.unix_names.specs.Signals.{word_of}
use Rattle.unix_names.specs.declared.WaitStatus.{WaitStatus}
use Rattle.unix_names.specs.declared.WaitStatus.TheVariants as statuses
use Rattle.unix_calls.specs.declared.Call.{Call}
use Rattle.unix_calls.specs.declared.Call.TheVariants as calls
use Rattle.unix_calls.specs.declared.Reply.{Reply}
use Rattle.unix_calls.specs.declared.Reply.TheVariants as replies
use Rattle.unix_calls.specs.declared.Event.{Event}
use Rattle.unix_calls.specs.declared.Event.TheVariants as events
use Rattle.unix_calls.specs.declared.Entry.{Entry}
use Rattle.unix_calls.specs.declared.Entry.TheVariants.{Called, Happened}
use Rattle.script_words.specs.declared.Verb.TheVariants as verb
use Rattle.script_words.specs.Words.{Word, Row}
use Rattle.script_words.specs.Table.{verb_word, act_word, errno_word, change_words}
use Rattle.script_words.specs.Writing.{spaced, signal_word, member_words}

-- a set: the words of its signals by number, or a dash
abbrev pub set_words : ℕ → Row
set_words set = if set == 0 then codes "-" ∷ [] else member_words set

-- the word of a call: that of its statement, but for `waitpid`
abbrev pub call_word : Call → Word
call_word calls.Getpid = verb_word verb.Getpid
call_word calls.Getppid = verb_word verb.Getppid
call_word (calls.Getpgid t) = verb_word verb.Getpgid
call_word (calls.Getsid t) = verb_word verb.Getsid
call_word calls.Fork = verb_word verb.Fork
call_word calls.Exec = verb_word verb.Exec
call_word (calls.Exit n) = verb_word verb.Exit
call_word (calls.Waitpid sel stopped continued) = codes "waitpid"
call_word (calls.Kill target sig) = verb_word verb.Kill
call_word (calls.Setpgid pid pgid) = verb_word verb.Setpgid
call_word calls.Setsid = verb_word verb.Setsid
call_word (calls.Action sig a) = verb_word verb.Action
call_word (calls.Mask set) = verb_word verb.Mask
call_word calls.Pending = verb_word verb.Pending
call_word calls.Migrate = verb_word verb.Migrate

-- what stands behind the word of a call
abbrev pub argument_words : Call → Row
argument_words (calls.Getpgid t) = decimal t ∷ []
argument_words (calls.Getsid t) = decimal t ∷ []
argument_words (calls.Exit n) = decimal n ∷ []
argument_words (calls.Waitpid sel stopped continued) = signed_decimal sel ∷ change_words stopped continued
argument_words (calls.Kill target sig) = signed_decimal target ∷ signal_word sig ∷ []
argument_words (calls.Setpgid pid pgid) = decimal pid ∷ signed_decimal pgid ∷ []
argument_words (calls.Action sig a) = signal_word sig ∷ act_word a ∷ []
argument_words (calls.Mask set) = set_words set
argument_words _ = []

abbrev pub call_words : Call → Row
call_words call = call_word call ∷ argument_words call

abbrev pub status_words : WaitStatus → Row
status_words (statuses.Exited n) = codes "exited" ∷ decimal n ∷ []
status_words (statuses.Killed s) = codes "killed" ∷ word_of s ∷ []
status_words (statuses.Stopped s) = codes "stopped" ∷ word_of s ∷ []
status_words statuses.Continued = codes "continued" ∷ []

-- what stands behind a call; nothing behind an exit, which has no reply
abbrev pub reply_words : Reply → Row
reply_words replies.Fine = codes "=" ∷ codes "ok" ∷ []
reply_words (replies.Number n) = codes "=" ∷ decimal n ∷ []
reply_words (replies.Set set) = codes "=" ∷ set_words set
reply_words (replies.Child pid s) = codes "=" ∷ decimal pid.0 ∷ status_words s
reply_words replies.Again = codes "=" ∷ codes "again" ∷ []
reply_words (replies.Refused e) = codes "=" ∷ errno_word e ∷ []
reply_words replies.NoReply = []

abbrev pub event_words : Event → Row
event_words (events.Caught s) = codes "caught" ∷ word_of s ∷ []
event_words (events.Discarded s) = codes "discarded" ∷ word_of s ∷ []
event_words (events.StoppedBy s) = codes "stopped" ∷ word_of s ∷ []
event_words (events.EndedBy s) = codes "ended" ∷ word_of s ∷ []
event_words events.Continued = codes "continued" ∷ []
event_words events.Moved = codes "moved" ∷ []

-- the line of an entry: the process, and what it did or what happened to it
abbrev pub line_of : Entry → List ℕ
line_of (Called caller call reply) = decimal caller.0 ++ spaced (call_words call ++ reply_words reply) ++ 10 ∷ []
line_of (Happened pid event) = decimal pid.0 ++ spaced (event_words event) ++ 10 ∷ []

-- the last line: whether nothing was left to do
abbrev pub last_line : Bool → List ℕ
last_line is_quiet = (if is_quiet then codes "quiet" else codes "open") ++ 10 ∷ []

-- the text of a history
abbrev pub text : List Entry → Bool → List ℕ
text entries is_quiet = flat_map line_of entries ++ last_line is_quiet
