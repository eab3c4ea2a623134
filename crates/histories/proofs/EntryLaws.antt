-- what is written of an entry seems to say it
use Rattle.std.proofs.Common.{◌≡◌, ℕ, ◌^◌, ◌%◌, ◌<◌, nat_lt, ℤ, Bool, true, false, cond, ◌==◌, List, [], ◌∷◌, ◌++◌, length, take, drop, map, filter, Some, None, refl, ap, sym, ◌∙◌, arith, append-nil, codes}
use Rattle.std.specs.Prelude.{take_while}
use Rattle.std.specs.List.{list_all}
use Rattle.std.specs.Fmt.{decimal, signed_decimal}
use Rattle.std.proofs.lemmas.Bool.{and_parts, ne_eqb}
use Rattle.std.proofs.lemmas.List.Sums.{take_while-cons}
use Rattle.std.proofs.Math.Seq.{take-append_seam, take-length}
use Rattle.script_words.specs.Words.{Word, Row, is_same, word_at, is_number}
use Rattle.unix_names.specs.declared.Signal.{Signal}
use Rattle.unix_names.specs.declared.Signal.TheVariants.{Hup, Int, Quit, Abrt, Kill, Usr1, Usr2, Pipe, Alrm, Term, Chld, Cont, Stop, Tstp, Ttin, Ttou, Urg}
use Rattle.unix_names.specs.declared.Errno.{Errno}
use Rattle.unix_names.specs.declared.Errno.TheVariants.{EPERM, ESRCH, EACCES, EINVAL, ECHILD, EAGAIN}
use Rattle.unix_names.specs.declared.WaitStatus.{WaitStatus}
use Rattle.unix_names.specs.declared.WaitStatus.TheVariants as status
use Rattle.unix_names.specs.Signals.{word_of, all_signals}
use Rattle.unix_names.specs.Sets.{has}
use Rattle.unix_calls.specs.Calls.{HasNames, EntryHasNames}
use Rattle.unix_calls.specs.declared.Call.{Call}
use Rattle.unix_calls.specs.declared.Call.TheVariants as calls
use Rattle.unix_calls.specs.declared.Reply.{Reply}
use Rattle.unix_calls.specs.declared.Reply.TheVariants as replies
use Rattle.unix_calls.specs.declared.Event.{Event}
use Rattle.unix_calls.specs.declared.Event.TheVariants as events
use Rattle.unix_calls.specs.declared.Entry.{Entry}
use Rattle.unix_calls.specs.declared.Entry.TheVariants.{Called, Happened}
use Rattle.script_words.specs.Table.{errno_named, errno_word, change_words, changes_in, verb_named}
use Rattle.script_words.proofs.Spelled.{act_named-act_word}
use Rattle.histories.specs.History.{set_words, call_words, status_words, reply_words, event_words}
use Rattle.histories.specs.MethodLoose.{number_in, signed_in, set_in, status_in, worded_reply_in, reply_in, wait_in, call_of, call_in, words_before, event_in, said, entry_in}
use Rattle.histories.specs.Reading.{entry_words, CallFits, StatusFits, ReplyFits, Fits}
use Rattle.std.proofs.Math.Seq.{drop-append_seam}
use Rattle.histories.proofs.PlainLaws.{is_inner, inner-call, inner-event}
use Rattle.histories.proofs.LooseLaws.{number-decimal, number-read, signed-read, signal_number-read, signal-read, set-read, word-not_number}

-- ---- the words of a call, up to the equals sign
front-kept : (xs ys : List Word) → list_all is_inner xs ≡ true → take_while is_inner (xs ++ ys) ≡ xs ++ take_while is_inner ys
front-kept [] ys h = refl
front-kept (x ∷ xs) ys h =
    let parts = and_parts (is_inner x) (list_all is_inner xs) h in
    take_while-cons is_inner x (xs ++ ys) ∙ ap (λ b. cond b (x ∷ take_while is_inner (xs ++ ys)) []) parts.0
    ∙ ap (λ (ws : List Word). x ∷ ws) (front-kept xs ys parts.1)

equals-outer : (ws : List Word) → take_while is_inner (codes "=" ∷ ws) ≡ []
unfolding is_same
equals-outer ws = take_while-cons is_inner (codes "=") ws

reply-front : (r : Reply) → take_while is_inner (reply_words r) ≡ []
reply-front replies.Fine = equals-outer (codes "ok" ∷ [])
reply-front (replies.Number n) = equals-outer (decimal n ∷ [])
reply-front (replies.Set set) = equals-outer (set_words set)
reply-front (replies.Child pid s) = equals-outer (decimal pid.0 ∷ status_words s)
reply-front replies.Again = equals-outer (codes "again" ∷ [])
reply-front (replies.Refused e) = equals-outer (errno_word e ∷ [])
reply-front replies.NoReply = refl

-- the equals sign stands behind the call
call-front : (c : Call) (r : Reply) → words_before (call_words c ++ reply_words r) ≡ length (call_words c)
unfolding words_before
call-front c r = ap length (front-kept (call_words c) (reply_words r) (inner-call c) ∙ ap (λ (ws : List Word). call_words c ++ ws) (reply-front r) ∙ append-nil (call_words c))

-- words without an equals sign are all before it
all-front : (ws : List Word) → list_all is_inner ws ≡ true → take (words_before ws) ws ≡ ws
unfolding words_before
all-front ws h =
    let kept : take_while is_inner ws ≡ ws = ap (take_while is_inner) (sym (append-nil ws)) ∙ front-kept ws [] h ∙ append-nil ws in
    ap (λ (vs : List Word). take (length vs) ws) kept ∙ take-length ws

-- ---- calls
wait-said : (z : ℤ) (a b : Bool) → signed_in (signed_decimal z) ≡ z → call_in (codes "waitpid" ∷ signed_decimal z ∷ change_words a b) ≡ Some (calls.Waitpid z a b)
unfolding call_in wait_in changes_in is_same word_at
wait-said z false false e = ap (λ (y : ℤ). Some (calls.Waitpid y false false)) e
wait-said z true false e = ap (λ (y : ℤ). Some (calls.Waitpid y true false)) e
wait-said z false true e = ap (λ (y : ℤ). Some (calls.Waitpid y false true)) e
wait-said z true true e = ap (λ (y : ℤ). Some (calls.Waitpid y true true)) e

call-said : (c : Call) → CallFits c → HasNames c → call_in (call_words c) ≡ Some c
unfolding call_in call_of verb_named is_same word_at
call-said calls.Getpid fit names = refl
call-said calls.Getppid fit names = refl
call-said (calls.Getpgid t) fit names = ap (λ n. Some (calls.Getpgid n)) (number-read t fit)
call-said (calls.Getsid t) fit names = ap (λ n. Some (calls.Getsid n)) (number-read t fit)
call-said calls.Fork fit names = refl
call-said calls.Exec fit names = refl
call-said (calls.Exit n) fit names = ap (λ n. Some (calls.Exit n)) (number-read n fit)
call-said (calls.Waitpid sel a b) fit names = wait-said sel a b (signed-read sel names)
call-said (calls.Kill target sig) fit names = rw (signed-read target names, signal_number-read sig fit) refl
call-said (calls.Setpgid pid pgid) fit names = rw (number-read pid fit, signed-read pgid names) refl
call-said calls.Setsid fit names = refl
call-said (calls.Action sig a) fit names = rw (signal_number-read sig fit, act_named-act_word a) refl
call-said (calls.Mask set) fit names = ap (λ n. Some (calls.Mask n)) (set-read set fit)
call-said calls.Pending fit names = refl
call-said calls.Migrate fit names = refl

-- ---- replies
status-read : (p : Word) (s : WaitStatus) → StatusFits s → status_in (codes "=" ∷ p ∷ status_words s) ≡ s
unfolding status_in is_same word_at
status-read p (status.Exited n) fit = ap (λ m. status.Exited (m % 256)) (number-read n (omega arith)) ∙ ap (λ m. status.Exited m) (omega arith)
status-read p (status.Killed s) fit = ap (λ (t : Signal). status.Killed t) (signal-read s)
status-read p (status.Stopped s) fit = ap (λ (t : Signal). status.Stopped t) (signal-read s)
status-read p status.Continued fit = refl

errno-read : (e : Errno) → reply_in (codes "=" ∷ errno_word e ∷ []) ≡ replies.Refused e
unfolding reply_in worded_reply_in errno_named is_same word_at is_number
errno-read EPERM = refl
errno-read ESRCH = refl
errno-read EACCES = refl
errno-read EINVAL = refl
errno-read ECHILD = refl
errno-read EAGAIN = refl

fine-read : reply_in (codes "=" ∷ codes "ok" ∷ []) ≡ replies.Fine
unfolding reply_in worded_reply_in is_same word_at is_number
fine-read = refl

again-read : reply_in (codes "=" ∷ codes "again" ∷ []) ≡ replies.Again
unfolding reply_in worded_reply_in is_same word_at is_number
again-read = refl

some-row : (w : Word) (ws : List Word) → reply_in (w ∷ ws) ≡ cond (is_number (word_at (w ∷ ws) 1))
    (cond (nat_lt 2 (length (w ∷ ws))) (replies.Child (record { 0 = number_in (word_at (w ∷ ws) 1) }) (status_in (w ∷ ws))) (replies.Number (number_in (word_at (w ∷ ws) 1))))
    (worded_reply_in (w ∷ ws))
unfolding reply_in
some-row w ws = ap (λ b. cond b replies.NoReply (cond (is_number (word_at (w ∷ ws) 1))
    (cond (nat_lt 2 (length (w ∷ ws))) (replies.Child (record { 0 = number_in (word_at (w ∷ ws) 1) }) (status_in (w ∷ ws))) (replies.Number (number_in (word_at (w ∷ ws) 1))))
    (worded_reply_in (w ∷ ws)))) (ne_eqb (length (w ∷ ws)) 0 (λ e. absurd (omega arith)))

second-word : (w v : Word) (ws : List Word) → word_at (w ∷ v ∷ ws) 1 ≡ v
unfolding word_at
second-word w v ws = refl

-- a reply that begins with a number
number-row : (n : ℕ) (ws : List Word) → n < 2 ^ 32 → reply_in (codes "=" ∷ decimal n ∷ ws)
    ≡ cond (nat_lt 2 (length (codes "=" ∷ decimal n ∷ ws))) (replies.Child (record { 0 = n }) (status_in (codes "=" ∷ decimal n ∷ ws))) (replies.Number n)
number-row n ws h =
    let row : Row = codes "=" ∷ decimal n ∷ ws in
    some-row (codes "=") (decimal n ∷ ws)
    ∙ ap (λ v. cond (is_number v) (cond (nat_lt 2 (length row)) (replies.Child (record { 0 = number_in v }) (status_in row)) (replies.Number (number_in v))) (worded_reply_in row)) (second-word (codes "=") (decimal n) ws)
    ∙ ap (λ b. cond b (cond (nat_lt 2 (length row)) (replies.Child (record { 0 = number_in (decimal n) }) (status_in row)) (replies.Number (number_in (decimal n)))) (worded_reply_in row)) (number-decimal n h)
    ∙ ap (λ m. cond (nat_lt 2 (length row)) (replies.Child (record { 0 = m }) (status_in row)) (replies.Number m)) (number-read n h)

number-reply : (n : ℕ) → n < 2 ^ 32 → reply_in (codes "=" ∷ decimal n ∷ []) ≡ replies.Number n
number-reply n h = number-row n [] h

long-status : (p : Word) (s : WaitStatus) → nat_lt 2 (length (codes "=" ∷ p ∷ status_words s)) ≡ true
long-status p (status.Exited n) = refl
long-status p (status.Killed s) = refl
long-status p (status.Stopped s) = refl
long-status p status.Continued = refl

child-reply : (n : ℕ) (s : WaitStatus) → n < 2 ^ 32 → StatusFits s → reply_in (codes "=" ∷ decimal n ∷ status_words s) ≡ replies.Child (record { 0 = n }) s
child-reply n s h fit =
    let row : Row = codes "=" ∷ decimal n ∷ status_words s in
    number-row n (status_words s) h
    ∙ ap (λ b. cond b (replies.Child (record { 0 = n }) (status_in row)) (replies.Number n)) (long-status (decimal n) s)
    ∙ ap (λ (t : WaitStatus). replies.Child (record { 0 = n }) t) (status-read (decimal n) s fit)

-- a set is no number and no other word of a reply
set-worded : (s : Signal) (ws : List Word) → worded_reply_in (codes "=" ∷ word_of s ∷ ws) ≡ replies.Set (set_in (word_of s ∷ ws))
unfolding worded_reply_in errno_named is_same word_at
set-worded Hup ws = refl
set-worded Int ws = refl
set-worded Quit ws = refl
set-worded Abrt ws = refl
set-worded Kill ws = refl
set-worded Usr1 ws = refl
set-worded Usr2 ws = refl
set-worded Pipe ws = refl
set-worded Alrm ws = refl
set-worded Term ws = refl
set-worded Chld ws = refl
set-worded Cont ws = refl
set-worded Stop ws = refl
set-worded Tstp ws = refl
set-worded Ttin ws = refl
set-worded Ttou ws = refl
set-worded Urg ws = refl

set-first : (s : Signal) (ws : List Word) → reply_in (codes "=" ∷ word_of s ∷ ws) ≡ replies.Set (set_in (word_of s ∷ ws))
set-first s ws =
    let row : Row = codes "=" ∷ word_of s ∷ ws in
    some-row (codes "=") (word_of s ∷ ws)
    ∙ ap (λ v. cond (is_number v) (cond (nat_lt 2 (length row)) (replies.Child (record { 0 = number_in v }) (status_in row)) (replies.Number (number_in v))) (worded_reply_in row)) (second-word (codes "=") (word_of s) ws)
    ∙ ap (λ b. cond b (cond (nat_lt 2 (length row)) (replies.Child (record { 0 = number_in (word_of s) }) (status_in row)) (replies.Number (number_in (word_of s)))) (worded_reply_in row)) (word-not_number s)
    ∙ set-worded s ws

dash-first : reply_in (codes "=" ∷ codes "-" ∷ []) ≡ replies.Set (set_in (codes "-" ∷ []))
unfolding reply_in worded_reply_in errno_named is_same word_at is_number
dash-first = refl

none-first : reply_in (codes "=" ∷ []) ≡ replies.Set (set_in [])
unfolding reply_in worded_reply_in errno_named is_same word_at is_number
none-first = refl

words-first : (ss : List Signal) → reply_in (codes "=" ∷ map word_of ss) ≡ replies.Set (set_in (map word_of ss))
words-first [] = none-first
words-first (s ∷ ss) = set-first s (map word_of ss)

set-words-first : (set : ℕ) → reply_in (codes "=" ∷ set_words set) ≡ replies.Set (set_in (set_words set))
set-words-first set = elim (set == 0) as (λ b. let ws : List Word = cond b (codes "-" ∷ []) (map word_of (filter (has set) all_signals)) in reply_in (codes "=" ∷ ws) ≡ replies.Set (set_in ws)) [
  | true ↦ dash-first
  | false ↦ words-first (filter (has set) all_signals)
]

no-reply : reply_in [] ≡ replies.NoReply
unfolding reply_in
no-reply = refl

reply-read : (r : Reply) → ReplyFits r → reply_in (reply_words r) ≡ r
reply-read replies.Fine fit = fine-read
reply-read (replies.Number n) fit = number-reply n fit
reply-read (replies.Set set) fit = set-words-first set ∙ ap (λ n. replies.Set n) (set-read set fit)
reply-read (replies.Child pid s) fit = child-reply pid.0 s fit.0 fit.1
reply-read replies.Again fit = again-read
reply-read (replies.Refused e) fit = errno-read e
reply-read replies.NoReply fit = no-reply

-- ---- events
event-read : (e : Event) → event_in (event_words e) ≡ e
unfolding event_in is_same word_at
event-read (events.Caught s) = ap (λ (t : Signal). events.Caught t) (signal-read s)
event-read (events.Discarded s) = ap (λ (t : Signal). events.Discarded t) (signal-read s)
event-read (events.StoppedBy s) = ap (λ (t : Signal). events.StoppedBy t) (signal-read s)
event-read (events.EndedBy s) = ap (λ (t : Signal). events.EndedBy t) (signal-read s)
event-read events.Continued = refl
event-read events.Moved = refl

event-unsaid : (e : Event) → call_in (event_words e) ≡ None
unfolding call_in verb_named is_same word_at
event-unsaid (events.Caught s) = refl
event-unsaid (events.Discarded s) = refl
event-unsaid (events.StoppedBy s) = refl
event-unsaid (events.EndedBy s) = refl
event-unsaid events.Continued = refl
event-unsaid events.Moved = refl

first-word : (p : Word) (ws : List Word) → word_at (p ∷ ws) 0 ≡ p
unfolding word_at
first-word p ws = refl

-- an entry is said by what is written of it
pub entry-read : (e : Entry) → Fits e → EntryHasNames e → entry_in (entry_words e) ≡ e
unfolding entry_in
entry-read (Called caller c r) fit names =
    let rest : List Word = call_words c ++ reply_words r in
    let front : words_before rest ≡ length (call_words c) = call-front c r in
    let pid : ℕ = number_in (word_at (decimal caller.0 ∷ rest) 0) in
    ap (λ n. said (call_in (take n rest)) pid rest) front
    ∙ ap (λ (ws : List Word). said (call_in ws) pid rest) (take-append_seam (call_words c) (reply_words r))
    ∙ ap (λ o. said o pid rest) (call-said c fit.1 names)
    ∙ ap (λ w. said (Some c) (number_in w) rest) (first-word (decimal caller.0) rest)
    ∙ ap (λ n. said (Some c) n rest) (number-read caller.0 fit.0)
    ∙ ap (λ n. Called caller c (reply_in (drop n rest))) front
    ∙ ap (λ (ws : List Word). Called caller c (reply_in ws)) (drop-append_seam (call_words c) (reply_words r))
    ∙ ap (λ (s : Reply). Called caller c s) (reply-read r fit.2)
entry-read (Happened pid e) fit names =
    let ws : List Word = event_words e in
    ap (λ (vs : List Word). said (call_in vs) (number_in (word_at (decimal pid.0 ∷ ws) 0)) ws) (all-front ws (inner-event e))
    ∙ ap (λ o. said o (number_in (word_at (decimal pid.0 ∷ ws) 0)) ws) (event-unsaid e)
    ∙ ap (λ w. said None (number_in w) ws) (first-word (decimal pid.0) ws)
    ∙ ap (λ n. said None n ws) (number-read pid.0 fit)
    ∙ ap (λ (d : Event). Happened pid d) (event-read e)
