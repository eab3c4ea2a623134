-- each question that fits is answered as the law has it
use Rattle.std.proofs.Common.{◌≡◌, ◌&&◌, ℕ, Bool, true, false, List, refl, sym, ap, ◌∙◌, subst, Option, None, Some}
use Rattle.std.specs.Prelude.{find, if◌then◌else◌}
use Rattle.std.specs.Option.{option_map}
use Rattle.list_laws.proofs.Filters.{some_same}
use Rattle.unix_names.specs.declared.Pid.{Pid}
use Rattle.unix_names.specs.declared.NodeId.{NodeId}
use Rattle.unix_names.specs.declared.Signal.{Signal}
use Rattle.unix_names.specs.declared.Signal.TheVariants as signal
use Rattle.unix_names.specs.Sets.{has}
use Rattle.unix_names.specs.Signals.{all_signals}
use Rattle.unix_calls.specs.declared.Call.{Call}
use Rattle.unix_calls.specs.declared.Call.TheVariants as calls
use Rattle.unix_calls.specs.declared.Event.{Event}
use Rattle.unix_calls.specs.declared.Event.TheVariants as events
use Rattle.unix_calls.specs.declared.Job.{Job}
use Rattle.unix_calls.specs.declared.Job.TheVariants.{Ask, Look, Push}
use Rattle.signal_state.specs.Signals.{Signals}
use Rattle.signal_state.specs.Sig.{deliverable}
use Rattle.signal_state.specs.declared.Own.{Own}
use Rattle.vproc_record.specs.declared.Vproc.{Vproc}
use Rattle.group_record.specs.declared.Group.{Group}
use Rattle.record_bag.specs.declared.bag.Bag.{Bag}
use Rattle.record_bag.specs.declared.vector.Site.{Site}
use Rattle.record_bag.specs.Bags.{present}
use Rattle.record_bag.specs.Decisions.{Answered}
use Rattle.process_table.specs.declared.Row.{Row}
use Rattle.process_table.specs.Rows.{is_stopped}
use Rattle.kernel_rules.specs.Events.{is_stop_signal}
use Rattle.kernel_choice.specs.Choice.{first_event}
use Rattle.kernel_choice.proofs.EventLaws.{none_where_clear}
use Rattle.decide_law.specs.Agrees.{vproc_at, group_at}
use Rattle.decide_law.specs.Law.{Asks, Based}
use Rattle.decide_law.specs.Vector.{IsAnswer}
use Rattle.decide_law.specs.Effects.{folded, on_group, on_vproc, on_base}
use Rattle.decide_law.specs.Told.{has_default, is_passed_over, event_by, event_told}
use Rattle.decide_law.specs.Footprints.{coming, event_footprint}
use Rattle.decide_law.specs.Answer.{NothingComes}
use Rattle.decide_law.specs.Parts.{CallEffect, answer_by, IsCallAnswered}
use Rattle.decide_law.proofs.Answers.{on_base_right, right_answers}
use Rattle.decide_law.proofs.LookStep.{look_law}
use Rattle.decide_law.proofs.ToldFootprints.{known, end_told}
use Rattle.ops_signal.proofs.Steps.{signal_calls_answered}
use Rattle.ops_groups.proofs.Steps.{groups_calls_answered}
use Rattle.ops_exit_wait.proofs.Steps.{exit_wait_calls_answered}
use Rattle.ops_fork.specs.Fork.{fork_answer}
use Rattle.ops_fork.proofs.Whole.{fork_answered}
use Rattle.migrate_core.specs.Moves.{migrate_answer, push_answer}
use Rattle.migrate_core.proofs.Whole.{moves_answered}
use Rattle.ops_ending.specs.Laws.{killed_answer}
use Rattle.ops_ending.proofs.Killed.{killed_is_right}
use Rattle.ops_deliver.specs.Events.{event_answer}
use Rattle.decide_law.proofs.ComingFirst.{coming_first}
use Rattle.ops_deliver.proofs.Steps.{events_answered}
use Rattle.ops_vector.specs.Answer.{call_effect, call_answer, job_answer, event_effect, first_answer, held_answer}
use Rattle.ops_vector.specs.Law.{QuestionsAnswered}

-- ---- both records are held
-- the answer is then the one on them
base_held : (answer : Vproc → Group → Answered) (p : Pid) (bag : Bag) (v : Vproc) (g : Group) → vproc_at bag p ≡ Some (Some v) → group_at bag v.group ≡ Some (Some g) → on_base answer p bag ≡ answer v g
base_held answer p bag v g ev eg = ap (λ o. on_vproc answer p bag (present o)) ev ∙ ap (λ o. on_group answer bag v (present o)) eg

-- nothing comes, where no signal can be taken by these records
clear_held : (p : Pid) (own : Own) (bag : Bag) (v : Vproc) (g : Group) → vproc_at bag p ≡ Some (Some v) → group_at bag v.group ≡ Some (Some g) → deliverable (folded own v g).sig ≡ 0 → NothingComes p own bag
clear_held p own bag v g ev eg clear u h eu eh =
    let same : v ≡ u = some_same _ _ (some_same _ _ (sym ev ∙ eu)) in
    let alike : g ≡ h = some_same _ _ (some_same _ _ (sym eg ∙ ap (λ (x : Vproc). group_at bag x.group) same ∙ eh)) in
    ap (λ (x : Vproc). deliverable (folded own x h).sig) (sym same) ∙ ap (λ (y : Group). deliverable (folded own v y).sig) (sym alike) ∙ clear

-- ---- no event is told that a push is
moved_by : (s : Signal) (caught passed stops : Bool) → (if caught then events.Caught s else (if passed then events.Discarded s else (if stops then events.StoppedBy s else events.EndedBy s))) ≡ events.Moved → ⊥
moved_by s true passed stops e = cc
moved_by s false true stops e = cc
moved_by s false false true e = cc
moved_by s false false false e = cc

moved_told : (orphaned killed due : Bool) (x : Signals) (o : Option Signal) → (if killed then Some (events.EndedBy signal.Kill) else (if due then Some events.Continued else option_map (event_by orphaned x) o)) ≡ Some events.Moved → ⊥
moved_told orphaned true due x o e = cc
moved_told orphaned false true x o e = cc
moved_told orphaned false false x None e = cc
moved_told orphaned false false x (Some s) e = moved_by s (has x.caught s) (has_default x s && is_passed_over orphaned s) (has_default x s && is_stop_signal s) (some_same _ _ e)

pub no_move : (orphaned : Bool) (x : Signals) → event_told orphaned x ≡ Some events.Moved → ⊥
no_move orphaned x e = moved_told orphaned (has (deliverable x) signal.Kill) x.due x (find (λ s. has (deliverable x) s) all_signals) e

-- ---- on the records of the process and of its group
module _ (nodes : ℕ) (rows : List Row) (p : Pid) (own : Own) (bag : Bag) (site : Site) (v : Vproc) (g : Group) (ev : vproc_at bag p ≡ Some (Some v)) (eg : group_at bag v.group ≡ Some (Some g)) where
  abbrev IsAnswered : Job → Answered → Type 0
  IsAnswered job x = IsAnswer nodes rows p job site bag x.bag x.outcome

  -- an answer on the base is the one on both records
  on_both : (job : Job) (answer : Vproc → Group → Answered) → IsAnswered job (on_base answer p bag) → IsAnswered job (answer v g)
  on_both job answer right = subst (IsAnswered job) (base_held answer p bag v g ev eg) right

  -- a call of a part
  part : (call : Call) (at : Option NodeId) (effect : CallEffect) → IsCallAnswered call effect → Asks nodes rows p (Ask call at) own bag site → NothingComes p own bag → IsAnswered (Ask call at) (answer_by call effect own bag p v g)
  part call at effect lawful a clear = on_both (Ask call at) (answer_by call effect own bag p) (lawful p at own bag site nodes rows a clear)

  call_right : (call : Call) (at : Option NodeId) → Asks nodes rows p (Ask call at) own bag site → NothingComes p own bag → IsAnswered (Ask call at) (call_answer call at own bag site p v g)
  call_right calls.Getpid at a clear = part calls.Getpid at (call_effect calls.Getpid) (groups_calls_answered calls.Getpid tt) a clear
  call_right calls.Getppid at a clear = part calls.Getppid at (call_effect calls.Getppid) (groups_calls_answered calls.Getppid tt) a clear
  call_right (calls.Getpgid t) at a clear = part (calls.Getpgid t) at (call_effect (calls.Getpgid t)) (groups_calls_answered (calls.Getpgid t) tt) a clear
  call_right (calls.Getsid t) at a clear = part (calls.Getsid t) at (call_effect (calls.Getsid t)) (groups_calls_answered (calls.Getsid t) tt) a clear
  call_right calls.Fork at a clear = on_both (Ask calls.Fork at) (fork_answer at site own bag p) (fork_answered p at own bag site nodes rows a clear)
  call_right calls.Exec at a clear = part calls.Exec at (call_effect calls.Exec) (exit_wait_calls_answered calls.Exec tt) a clear
  call_right (calls.Exit n) at a clear = part (calls.Exit n) at (call_effect (calls.Exit n)) (exit_wait_calls_answered (calls.Exit n) tt) a clear
  call_right (calls.Waitpid sel stopped continued) at a clear = part (calls.Waitpid sel stopped continued) at (call_effect (calls.Waitpid sel stopped continued)) (exit_wait_calls_answered (calls.Waitpid sel stopped continued) tt) a clear
  call_right (calls.Kill target s) at a clear = part (calls.Kill target s) at (call_effect (calls.Kill target s)) (signal_calls_answered (calls.Kill target s) tt) a clear
  call_right (calls.Setpgid t q) at a clear = part (calls.Setpgid t q) at (call_effect (calls.Setpgid t q)) (groups_calls_answered (calls.Setpgid t q) tt) a clear
  call_right calls.Setsid at a clear = part calls.Setsid at (call_effect calls.Setsid) (groups_calls_answered calls.Setsid tt) a clear
  call_right (calls.Action s act) at a clear = part (calls.Action s act) at (call_effect (calls.Action s act)) (signal_calls_answered (calls.Action s act) tt) a clear
  call_right (calls.Mask set) at a clear = part (calls.Mask set) at (call_effect (calls.Mask set)) (signal_calls_answered (calls.Mask set) tt) a clear
  call_right calls.Pending at a clear = part calls.Pending at (call_effect calls.Pending) (signal_calls_answered calls.Pending tt) a clear
  call_right calls.Migrate at a clear = on_both (Ask calls.Migrate at) (migrate_answer at site own bag p) (moves_answered.migrate p at own bag site nodes rows a clear)

  -- a process that looks is stopped
  is_looking : (a : Asks nodes rows p Look own bag site) → is_stopped a.row.life ≡ true
  is_looking a = go (is_stopped a.row.life) refl
    where
      go : (b : Bool) → is_stopped a.row.life ≡ b → b ≡ true
      go true e = refl
      go false e = absurd (a.calls e refl)

  job_right : (job : Job) → (a : Asks nodes rows p job own bag site) → Based rows p own bag a.row v g → first_event rows a.row ≡ None → NothingComes p own bag → IsAnswered job (job_answer job own bag site p v g)
  job_right (Ask call at) a b none clear = call_right call at a clear
  job_right Look a b none clear = look_law rows p site own bag a.row v g b (is_looking a) none
  job_right (Push node) a b none clear = on_both (Push node) (push_answer node site own bag p) (moves_answered.push p node own bag site nodes rows a clear)

  event_right : (event : Event) (job : Job) → (a : Asks nodes rows p job own bag site) → Based rows p own bag a.row v g → coming own v g ≡ Some event → IsAnswered job (event_answer event (event_effect event) own bag p v g)
  event_right (events.Caught s) job a b e = events_answered (events.Caught s) tt nodes rows p job own bag site a v g ev eg e
  event_right (events.Discarded s) job a b e = events_answered (events.Discarded s) tt nodes rows p job own bag site a v g ev eg e
  event_right (events.StoppedBy s) job a b e = events_answered (events.StoppedBy s) tt nodes rows p job own bag site a v g ev eg e
  event_right (events.EndedBy s) job a b e =
      right_answers nodes rows p job own site bag (killed_answer s own bag p v g).bag (event_footprint bag v (events.EndedBy s)) (killed_answer s own bag p v g).outcome a
      (end_told rows p job bag a.agrees v (known rows p job bag a.agrees p v ev))
      (killed_is_right rows p job site own bag a.row v g s b e)
  event_right events.Continued job a b e = events_answered events.Continued tt nodes rows p job own bag site a v g ev eg e
  event_right events.Moved job a b e = absurd (no_move _ (folded own v g).sig e)

  -- an event that comes first, or else the job
  first_right : (o : Option Event) (job : Job) → (a : Asks nodes rows p job own bag site) → Based rows p own bag a.row v g → coming own v g ≡ o → IsAnswered job (first_answer o job own bag site p v g)
  first_right (Some event) job a b e = event_right event job a b e
  first_right None job a b e =
      let none : first_event rows a.row ≡ None = sym (coming_first rows p own bag a.row v g b) ∙ e in
      let quiet = (none_where_clear rows a.row a.pending).0 none in
      job_right job a b none (clear_held p own bag v g ev eg (ap deliverable (sym b.own_is.sig) ∙ quiet.0))

pub questions_answered : QuestionsAnswered
questions_answered nodes rows p job own bag site a =
    on_base_right nodes rows p job own bag site a (held_answer job own bag site p)
    (λ v g b. first_right nodes rows p own bag site v g b.vproc b.group (coming own v g) job a b refl)
