-- streams under the changes of a group's record, and folds in two parts
use Rattle.std.proofs.Common.{◌≡◌, ◌≢◌, ◌≤◌, ◌+◌, ◌-◌, nat_le, min, ℕ, Bool, true, false, cond, List, [], ◌∷◌, ◌++◌, length, drop, refl, sym, ap, ◌∙◌, arith, append_assoc, length-append}
use Rattle.std.specs.Prelude.{map, filter, count_by}
use Rattle.std.proofs.Math.Seq.{drop-append-add, drop-length}
use Rattle.std.proofs.lemmas.Bool.Decides.{nat_tests}
use Rattle.std.proofs.lemmas.List.{drop-append-le}
use Rattle.std.proofs.lemmas.List.Sums.{length-filter}
use Rattle.list_laws.proofs.Filters.{length-map}
use Rattle.unix_names.specs.declared.Pid.{Pid}
use Rattle.unix_names.specs.declared.Signal.{Signal}
use Rattle.signal_state.specs.Signals.{Signals}
use Rattle.signal_state.specs.Sig.{generated_all}
use Rattle.signal_state.proofs.Folds.{generated_all-append}
use Rattle.vproc_record.specs.declared.Vproc.{Vproc}
use Rattle.group_record.specs.declared.LogEntry.{LogEntry}
use Rattle.group_record.specs.declared.Group.{Group}
use Rattle.group_record.specs.Log.{concerns, log_part}
use Rattle.group_record.proofs.LogLaws.{log_part-trimmed, log_part-joined_other, log_part-left_other, log_part-appended}
use Rattle.sig_stream.specs.Streams.{signals_for, stream, tail}
use Rattle.sig_stream.specs.Laws.{TrimmingKeeps, AppendingGrows, AppendingGrowsTails, JoiningKeeps, LeavingKeeps}

pub trimming_keeps : TrimmingKeeps
trimming_keeps v g has = ap (λ l. v.backlog ++ l) (log_part-trimmed g v.pid v.uid has)

pub appending_grows : AppendingGrows
appending_grows v g e small = ap (λ l. v.backlog ++ l) (log_part-appended g v.pid v.uid e small) ∙ sym (append_assoc v.backlog (log_part v.pid v.uid g) _)

pub appending_grows_tails : AppendingGrowsTails
appending_grows_tails v g e taken small within = ap (drop taken) (appending_grows v g e small) ∙ drop-append-le taken (stream v g) _ within

pub joining_keeps : JoiningKeeps
joining_keeps v g p uid ne = ap (λ l. v.backlog ++ l) (log_part-joined_other g p v.pid uid v.uid ne)

pub leaving_keeps : LeavingKeeps
leaving_keeps v g p ne = ap (λ l. v.backlog ++ l) (log_part-left_other g p v.pid v.uid ne)

-- what is left after n of two lists, of which k are in the first
drop_parts : {X : Type 0} (n k : ℕ) (first second : List X) → k ≡ min n (length first) → (b : Bool) → nat_le n (length first) ≡ b → drop n (first ++ second) ≡ drop k first ++ drop (n - k) second
drop_parts n k first second e true t =
    let within : n ≤ length first = grind (arith, nat_tests) in
    let all : n ≡ k = omega arith in
    let rest : 0 ≡ n - k = omega arith in
    drop-append-le n first second within ∙ ap (λ i. drop i first ++ second) all ∙ ap (λ i. drop k first ++ drop i second) rest
drop_parts n k first second e false t =
    let past : length first ≤ n = grind (arith, nat_tests) in
    let all : length first ≡ k = omega arith in
    let sum : n ≡ length first + (n - k) = omega arith in
    ap (λ i. drop i (first ++ second)) sum ∙ drop-append-add first second (n - k) ∙ ap (λ l. l ++ drop (n - k) second) (sym (drop-length first)) ∙ ap (λ i. drop i first ++ drop (n - k) second) all

-- the tail of a stream is generated in two parts
pub tail_in_parts : (sig : Signals) (taken k : ℕ) (first second : List Signal) → k ≡ min taken (length first) →
    generated_all (generated_all sig (drop k first)) (drop (taken - k) second) ≡ generated_all sig (drop taken (first ++ second))
tail_in_parts sig taken k first second e =
    sym (generated_all-append sig (drop k first) (drop (taken - k) second))
    ∙ ap (generated_all sig) (sym (drop_parts taken k first second e (nat_le taken (length first)) refl))

-- how long a stream is
pub length-signals_for : (p : Pid) (uid : ℕ) (entries : List LogEntry) → length (signals_for p uid entries) ≡ count_by (concerns p uid) entries
length-signals_for p uid entries = length-map (λ e. e.signal) (filter (concerns p uid) entries) ∙ length-filter (concerns p uid) entries
