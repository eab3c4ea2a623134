-- the numbers that words seem to say fit their types
use Rattle.std.proofs.Common.{inl, inr, ℕ, zero, suc, neg_ℤ, lit<, ◌^◌, ◌%◌, ◌<◌, nat_lt, pos, true, false, cond, ◌==◌, List, [], ◌∷◌, length, take, drop, fold, Option, Some, None, arith, codes}
use Rattle.std.proofs.lemmas.Bool.{cases_Bool}
use Rattle.script_words.specs.Words.{Word, Row, is_same, word_at, is_number}
use Rattle.script_words.proofs.Numbers.{is_number-decides}
use Rattle.unix_names.specs.declared.WaitStatus.TheVariants as status
use Rattle.unix_names.specs.Signals.{signal_named}
use Rattle.unix_names.specs.Sets.{added, IsSignals}
use Rattle.unix_names.proofs.SetLaws.{IsSignals-none, IsSignals-added}
use Rattle.unix_calls.specs.Calls.{IsName, HasNames, EntryHasNames}
use Rattle.unix_calls.specs.declared.Call.{Call}
use Rattle.unix_calls.specs.declared.Reply.{Reply}
use Rattle.unix_calls.specs.declared.Reply.TheVariants as replies
use Rattle.script_words.specs.declared.Verb.{Verb}
use Rattle.script_words.specs.declared.Verb.TheVariants as verb
use Rattle.script_words.specs.Table.{errno_named, changes_in, verb_named}
use Rattle.histories.specs.MethodLoose.{number_in, signed_in, number_or, signal_number_in, signal_in, with_named, set_in, status_in, refused_or, worded_reply_in, reply_in, waits, wait_in, call_of, call_named, call_in, words_before, said, entry_in}
use Rattle.histories.specs.Reading.{CallFits, StatusFits, ReplyFits, Fits}
use Rattle.std.proofs.lemmas.Int.{ints}
use Rattle.unix_names.proofs.SetLaws.{number_small}

number-small : (w : Word) → number_in w < 2 ^ 32
unfolding number_in
number-small w =
    elim (cases_Bool (is_number w)) [
      | inl holds ↦ let fits = ((is_number-decides w).0 holds).fits in rw holds fits
      | inr fails ↦ rw fails (lit< tt)
    ]

name-pos : (n : ℕ) → n < 2 ^ 32 → IsName (pos n)
name-pos n h = (omega (arith, ints), omega (arith, ints))

name-neg : (n : ℕ) → n < 2 ^ 32 → IsName (neg_ℤ (pos n))
name-neg zero h = name-pos 0 h
name-neg (suc n) h = (omega (arith, ints), omega (arith, ints))

signed-name : (w : Word) → IsName (signed_in w)
unfolding signed_in
signed-name [] = name-pos 0 (lit< tt)
signed-name (b ∷ bs) = elim (b == 45) as (λ t. IsName (cond t (neg_ℤ (pos (number_in bs))) (pos (number_in (b ∷ bs))))) [
  | true ↦ name-neg (number_in bs) (number-small bs)
  | false ↦ name-pos (number_in (b ∷ bs)) (number-small (b ∷ bs))
]

signal_number-small : (w : Word) → signal_number_in w < 2 ^ 32
unfolding signal_number_in
signal_number-small w = elim (signal_named w) as (λ o. number_or o (number_in w) < 2 ^ 32) [
  | None ↦ number-small w
  | Some s ↦ let small = number_small s in omega arith
]

signals-named : (set : ℕ) (ws : List Word) → IsSignals set → IsSignals (fold (λ set word. with_named set (signal_named word)) set ws)
unfolding added
signals-named set [] h = h
signals-named set (w ∷ ws) h = signals-named (with_named set (signal_named w)) ws (elim (signal_named w) as (λ o. IsSignals (with_named set o)) [ None ↦ h | Some s ↦ IsSignals-added set s h ])

set-signals : (ws : List Word) → IsSignals (set_in ws)
unfolding set_in
set-signals ws = signals-named 0 ws IsSignals-none

-- a call, if there is one, fits
abbrev CallsFit : Option Call → Type 0
CallsFit None = Unit {0}
CallsFit (Some c) = CallFits c × HasNames c

verb-fits : (v : Verb) (row : Row) → CallsFit (call_of v row)
unfolding call_of
verb-fits verb.Getpid row = (tt, tt)
verb-fits verb.Getppid row = (tt, tt)
verb-fits verb.Getpgid row = (number-small (word_at row 1), tt)
verb-fits verb.Getsid row = (number-small (word_at row 1), tt)
verb-fits verb.Fork row = (tt, tt)
verb-fits verb.Exec row = (tt, tt)
verb-fits verb.Exit row = (number-small (word_at row 1), tt)
verb-fits verb.Wait row = tt
verb-fits verb.Poll row = tt
verb-fits verb.Kill row = (signal_number-small (word_at row 2), signed-name (word_at row 1))
verb-fits verb.Setpgid row = (number-small (word_at row 1), signed-name (word_at row 2))
verb-fits verb.Setsid row = (tt, tt)
verb-fits verb.Action row = (signal_number-small (word_at row 1), tt)
verb-fits verb.Mask row = (set-signals (drop 1 row), tt)
verb-fits verb.Pending row = (tt, tt)
verb-fits verb.Migrate row = (tt, tt)

wait-fits : (row : Row) → CallFits (wait_in row) × HasNames (wait_in row)
unfolding wait_in
wait-fits row = elim (changes_in (drop 1 (drop 1 row))) as (λ o. CallFits (waits (signed_in (word_at row 1)) o) × HasNames (waits (signed_in (word_at row 1)) o)) [
  | None ↦ (tt, signed-name (word_at row 1))
  | Some asked ↦ (tt, signed-name (word_at row 1))
]

call-fits : (row : Row) → CallsFit (call_in row)
unfolding call_in
call-fits row = elim (is_same (word_at row 0) (codes "waitpid")) as (λ b. CallsFit (cond b (Some (wait_in row)) (call_named (verb_named (word_at row 0)) row))) [
  | true ↦ wait-fits row
  | false ↦ elim (verb_named (word_at row 0)) as (λ o. CallsFit (call_named o row)) [ None ↦ tt | Some v ↦ verb-fits v row ]
]

status-fits : (row : Row) → StatusFits (status_in row)
unfolding status_in
status-fits row =
    elim (is_same (word_at row 2) (codes "exited")) as (λ a. StatusFits (cond a (status.Exited (number_in (word_at row 3) % 256)) (cond (is_same (word_at row 2) (codes "killed")) (status.Killed (signal_in (word_at row 3))) (cond (is_same (word_at row 2) (codes "stopped")) (status.Stopped (signal_in (word_at row 3))) status.Continued)))) [
      | true ↦ omega arith
      | false ↦ elim (is_same (word_at row 2) (codes "killed")) as (λ a. StatusFits (cond a (status.Killed (signal_in (word_at row 3))) (cond (is_same (word_at row 2) (codes "stopped")) (status.Stopped (signal_in (word_at row 3))) status.Continued))) [
        | true ↦ tt
        | false ↦ elim (is_same (word_at row 2) (codes "stopped")) as (λ a. StatusFits (cond a (status.Stopped (signal_in (word_at row 3))) status.Continued)) [ true ↦ tt | false ↦ tt ]
      ]
    ]

worded-fits : (row : Row) → ReplyFits (worded_reply_in row)
unfolding worded_reply_in
worded-fits row =
    elim (is_same (word_at row 1) (codes "ok")) as (λ a. ReplyFits (cond a replies.Fine (cond (is_same (word_at row 1) (codes "again")) replies.Again (refused_or (errno_named (word_at row 1)) (replies.Set (set_in (drop 1 row))))))) [
      | true ↦ tt
      | false ↦ elim (is_same (word_at row 1) (codes "again")) as (λ a. ReplyFits (cond a replies.Again (refused_or (errno_named (word_at row 1)) (replies.Set (set_in (drop 1 row)))))) [
        | true ↦ tt
        | false ↦ elim (errno_named (word_at row 1)) as (λ o. ReplyFits (refused_or o (replies.Set (set_in (drop 1 row))))) [ None ↦ set-signals (drop 1 row) | Some e ↦ tt ]
      ]
    ]

reply-fits : (row : Row) → ReplyFits (reply_in row)
unfolding reply_in
reply-fits row =
    let child : Reply = replies.Child (record { 0 = number_in (word_at row 1) }) (status_in row) in
    let number : Reply = replies.Number (number_in (word_at row 1)) in
    elim (length row == 0) as (λ a. ReplyFits (cond a replies.NoReply (cond (is_number (word_at row 1)) (cond (nat_lt 2 (length row)) child number) (worded_reply_in row)))) [
      | true ↦ tt
      | false ↦ elim (is_number (word_at row 1)) as (λ a. ReplyFits (cond a (cond (nat_lt 2 (length row)) child number) (worded_reply_in row))) [
        | true ↦ elim (nat_lt 2 (length row)) as (λ a. ReplyFits (cond a child number)) [ true ↦ (number-small (word_at row 1), status-fits row) | false ↦ number-small (word_at row 1) ]
        | false ↦ worded-fits row
      ]
    ]

-- what words seem to say fits
pub entry-fits : (row : Row) → Fits (entry_in row) × EntryHasNames (entry_in row)
unfolding entry_in
entry-fits row =
    let n = number_in (word_at row 0) in
    let rest : Row = drop 1 row in
    elim (call_in (take (words_before rest) rest)) as (λ o. CallsFit o → Fits (said o n rest) × EntryHasNames (said o n rest)) [
      | None ↦ λ _. (number-small (word_at row 0), tt)
      | Some c ↦ λ fit. ((number-small (word_at row 0), fit.0, reply-fits (drop (words_before rest) rest)), fit.1)
    ] (call-fits (take (words_before rest) rest))
