-- what the code of the vector hands on to each part, and what of the parts' answers makes the whole
use Rattle.std.proofs.Common.{◌≡◌, ◌≤◌, ◌<◌, ◌^◌, ℕ, suc, Bool, true, false, cond, ℤ, pos, negsuc, le→leb, List, [], ◌∷◌, length, refl, sym, ap, ◌∙◌, arith, inr, Option, None, Some, Result, Ok, Err, IfOk}
use Rattle.std.specs.Prelude.{filter}
use Rattle.list_laws.proofs.Filters.{some_same}
use Rattle.unix_names.specs.declared.Pid.{Pid}
use Rattle.unix_names.specs.declared.NodeId.{NodeId}
use Rattle.unix_names.specs.declared.Signal.{Signal}
use Rattle.unix_calls.specs.declared.Call.{Call}
use Rattle.unix_calls.specs.declared.Call.TheVariants as calls
use Rattle.unix_calls.specs.declared.Event.{Event}
use Rattle.unix_calls.specs.declared.Event.TheVariants as events
use Rattle.unix_calls.specs.declared.Job.{Job}
use Rattle.unix_calls.specs.declared.Job.TheVariants.{Ask}
use Rattle.unix_calls.specs.Calls.{IsName, HasNames}
use Rattle.signal_state.specs.Signals.{Signals}
use Rattle.signal_state.specs.declared.Own.{Own}
use Rattle.vproc_record.specs.declared.Vproc.{Vproc}
use Rattle.group_record.specs.declared.Group.{Group}
use Rattle.group_record.specs.Members.{has_member}
use Rattle.sig_stream.specs.Streams.{stream}
use Rattle.record_bag.specs.declared.bag.Bag.{Bag}
use Rattle.record_bag.specs.declared.vector.Site.{Site}
use Rattle.record_bag.specs.declared.vector.Outcome.{Outcome}
use Rattle.record_bag.specs.declared.vector.Outcome.TheVariants.{Need}
use Rattle.record_bag.specs.Bags.{present, vproc_in, group_in}
use Rattle.record_bag.specs.Decisions.{Answered, answered}
use Rattle.process_table.specs.declared.Row.{Row}
use Rattle.process_table.specs.Orphans.{is_orphaned}
use Rattle.kernel_choice.specs.Choice.{first_event_of}
use Rattle.decide_law.specs.Agrees.{vproc_at, group_at}
use Rattle.decide_law.specs.Base.{HasBase, base_name, base_outcome, folded_on, folded_by, folded_in}
use Rattle.decide_law.specs.Effects.{folded, on_group, on_vproc, on_base}
use Rattle.decide_law.specs.Footprints as footprint
use Rattle.decide_law.specs.Footprints.{coming}
use Rattle.decide_law.specs.Law.{Based}
use Rattle.decide_law.specs.Needs.{IsNamed}
use Rattle.decide_law.specs.Parts.{decide_by}
use Rattle.decide_law.specs.Vector.{Fits, IsFitting}
use Rattle.decide_law.proofs.Answers.{based}
use Rattle.decide_law.proofs.CallNames.{has_names}
use Rattle.decide_law.proofs.ComingFirst.{coming_first}
use Rattle.decide_law.proofs.FirstEvent.{orphaned_told}
use Rattle.decide_law.proofs.Fitting.{fits_base}
use Rattle.decide_law.proofs.RoundParts.{base_answer}
use Rattle.decide_law.proofs.Shell.{own_record, group_is}
use Rattle.ops_groups.specs.Decide as groups
use Rattle.ops_signal.specs.Decide as signals
use Rattle.ops_exit_wait.specs.Decide as exit_wait
use Rattle.ops_fork.specs.Fork.{decide_fork}
use Rattle.ops_fork.proofs.ForkCode.{fresh_no_member}
use Rattle.migrate_core.specs.Moves.{decide_migrate}
use Rattle.ops_deliver.specs.Decide as deliver
use Rattle.ops_deliver.specs.Decide.{IsDelivered}
use Rattle.ops_deliver.specs.Events.{event_answer}
use Rattle.ops_vector.specs.Answer.{call_answer, job_answer, event_effect, first_answer, held_answer, unix_answer}
use Rattle.ops_vector.proofs.Whole.{no_move}

-- ---- results
pub whole : {E : Type 0} (r : Result Outcome E) (left : Bag) (x y : Answered) → x ≡ y → IfOk r (λ outcome. answered outcome left ≡ x) → IfOk r (λ outcome. answered outcome left ≡ y)
whole (Ok o) left x y e h = h ∙ e
whole (Err n) left x y e h = tt

-- ---- the parts of the calls
module _ (at : Option NodeId) (own : Own) (bag : Bag) (site : Site) (p : Pid) where
  pub groups_part : (call : Call) → groups.IsGroupsCall call → decide_by call (groups.effect_of call) p own bag ≡ on_base (call_answer call at own bag site p) p bag
  groups_part calls.Getpid h = refl
  groups_part calls.Getppid h = refl
  groups_part (calls.Getpgid t) h = refl
  groups_part (calls.Getsid t) h = refl
  groups_part (calls.Setpgid t q) h = refl
  groups_part calls.Setsid h = refl
  groups_part _ h = absurd h

  pub signals_part : (call : Call) → signals.IsSignalCall call → decide_by call (signals.effect_of call) p own bag ≡ on_base (call_answer call at own bag site p) p bag
  signals_part (calls.Kill target s) h = refl
  signals_part (calls.Action s act) h = refl
  signals_part (calls.Mask set) h = refl
  signals_part calls.Pending h = refl
  signals_part _ h = absurd h

  pub exit_wait_part : (call : Call) → exit_wait.IsExitWaitCall call → decide_by call (exit_wait.effect_of call) p own bag ≡ on_base (call_answer call at own bag site p) p bag
  exit_wait_part calls.Exec h = refl
  exit_wait_part (calls.Exit n) h = refl
  exit_wait_part (calls.Waitpid sel stopped continued) h = refl
  exit_wait_part _ h = absurd h

-- ---- the numbers of a call
pub put_names : (p : Pid) (call : Call) (at : Option NodeId) (own : Own) (bag : Bag) (site : Site) → Fits p (Ask call at) own bag site → HasNames call
put_names p call at own bag site put = has_names put.rows p call at put.asks.numbers

pub put_fitting : (p : Pid) (job : Job) (own : Own) (bag : Bag) (site : Site) → Fits p job own bag site → IsFitting p own bag
put_fitting p job own bag site put = record { job = job; site = site; fits = put }

-- the fresh pid is no member of a group that is held
pub put_fresh : (p : Pid) (job : Job) (own : Own) (bag : Bag) (site : Site) → Fits p job own bag site → (id : Pid) (g : Group) → group_at bag id ≡ Some (Some g) → has_member g.members site.fresh ≡ false
put_fresh p job own bag site put id g at = fresh_no_member p job own bag site id g put at

-- a fork, and a migration
pub fork_part : (at : Option NodeId) (own : Own) (bag : Bag) (site : Site) (p : Pid) (call : Call) → call ≡ calls.Fork → decide_fork at site p own bag ≡ on_base (call_answer call at own bag site p) p bag
fork_part at own bag site p call e = ap (λ (c : Call). on_base (call_answer c at own bag site p) p bag) (sym e)

pub migrate_part : (at : Option NodeId) (own : Own) (bag : Bag) (site : Site) (p : Pid) (call : Call) → call ≡ calls.Migrate → decide_migrate at site p own bag ≡ on_base (call_answer call at own bag site p) p bag
migrate_part at own bag site p call e = ap (λ (c : Call). on_base (call_answer c at own bag site p) p bag) (sym e)

-- ---- the base
pub held_at : {T : Type 0} (o : Option (Option T)) (x : T) → present o ≡ Some x → o ≡ Some (Some x)
held_at None x e = cc
held_at (Some None) x e = cc
held_at (Some (Some y)) x e = ap Some e

-- a stream is not shorter than what was taken of it
pub taken_within : (p : Pid) (job : Job) (own : Own) (bag : Bag) (site : Site) → Fits p job own bag site → (v : Vproc) (g : Group) → vproc_in bag p ≡ Some v → group_in bag v.group ≡ Some g → own.taken ≤ length (stream v g)
taken_within p job own bag site f v g ev eg = (f.asks.own_is v g (held_at (vproc_at bag p) v ev) (held_at (group_at bag v.group) g eg)).taken

-- where both records are held, what a decision starts from
pub base_there : (p : Pid) (job : Job) (own : Own) (bag : Bag) (site : Site) → Fits p job own bag site → (x : Own) → folded_in own p bag ≡ Some x → HasBase own p bag
base_there p job own bag site f x e = by_vproc (vproc_in bag p) refl e
  where
    by_group : (v : Vproc) → vproc_in bag p ≡ Some v → (h : Option Group) → group_in bag v.group ≡ h → folded_on own v h ≡ Some x → HasBase own p bag
    by_group v ev None eg is = cc
    by_group v ev (Some g) eg is = fits_base p job own bag site f v g (held_at (vproc_at bag p) v ev) (held_at (group_at bag v.group) g eg)

    by_vproc : (h : Option Vproc) → vproc_in bag p ≡ h → folded_by own bag h ≡ Some x → HasBase own p bag
    by_vproc None ev is = cc
    by_vproc (Some v) ev is = by_group v ev (group_in bag v.group) refl is

-- what it carries then
pub base_folded : (p : Pid) (own : Own) (bag : Bag) (v : Vproc) (g : Group) (x : Own) → vproc_at bag p ≡ Some (Some v) → group_at bag v.group ≡ Some (Some g) → folded_in own p bag ≡ Some x → x ≡ folded own v g
base_folded p own bag v g x ev eg is = some_same _ _ (sym is ∙ ap (λ (o : Option (Option Vproc)). folded_by own bag (present o)) ev ∙ ap (λ (o : Option (Option Group)). folded_on own v (present o)) eg)

-- where one of them lacks, it is asked for
pub base_lacks : (answer : Vproc → Group → Answered) (p : Pid) (own : Own) (bag : Bag) → folded_in own p bag ≡ None → answered (base_outcome p bag) bag ≡ on_base answer p bag
base_lacks answer p own bag e = by_vproc (vproc_in bag p) refl e
  where
    by_group : (v : Vproc) → vproc_in bag p ≡ Some v → (h : Option Group) → group_in bag v.group ≡ h → folded_on own v h ≡ None → answered (base_outcome p bag) bag ≡ on_base answer p bag
    by_group v ev None eg is = ap (λ (o : Option Vproc). answered (Need (base_name p o ∷ [])) bag) ev ∙ sym (ap (λ (o : Option Vproc). on_vproc answer p bag o) ev ∙ ap (λ (o : Option Group). on_group answer bag v o) eg)
    by_group v ev (Some g) eg is = cc

    by_vproc : (h : Option Vproc) → vproc_in bag p ≡ h → folded_by own bag h ≡ None → answered (base_outcome p bag) bag ≡ on_base answer p bag
    by_vproc None ev is = ap (λ (o : Option Vproc). answered (Need (base_name p o ∷ [])) bag) ev ∙ sym (ap (λ (o : Option Vproc). on_vproc answer p bag o) ev)
    by_vproc (Some v) ev is = by_group v ev (group_in bag v.group) refl is

-- ---- the event that comes first
pub told_coming : (p : Pid) (own : Own) (bag : Bag) → IsFitting p own bag → (v : Vproc) (g : Group) → vproc_at bag p ≡ Some (Some v) → group_at bag v.group ≡ Some (Some g) → first_event_of (folded own v g).sig (footprint.is_orphaned g) ≡ coming own v g
told_coming p own bag fit v g ev eg =
    let f = fit.fits in
    let b : Based f.rows p own bag f.asks.row v g = based f.nodes f.rows p fit.job own bag fit.site f.asks v g ev eg in
    let orphaned : footprint.is_orphaned g ≡ is_orphaned f.rows f.asks.row.group = orphaned_told f.rows v.group g (group_is f.rows bag v.group g b.agrees b.group) ∙ ap (is_orphaned f.rows) (own_record f.rows p bag f.asks.row v b.agrees b.row b.vproc).group in
    ap (λ (o : Bool). first_event_of (folded own v g).sig o) orphaned
    ∙ ap (λ (x : Signals). first_event_of x (is_orphaned f.rows f.asks.row.group)) (sym b.own_is.sig)
    ∙ sym (coming_first f.rows p own bag f.asks.row v g b)

-- a push is none
pub never_moved : (own : Own) (v : Vproc) (g : Group) → coming own v g ≡ Some events.Moved → ⊥
never_moved own v g e = no_move (footprint.is_orphaned g) (folded own v g).sig e

-- an event that neither ends the process nor moves it is delivered
pub is_delivered : (event : Event) → ((s : Signal) → event ≡ events.EndedBy s → ⊥) → (event ≡ events.Moved → ⊥) → IsDelivered event
is_delivered (events.Caught s) n m = tt
is_delivered (events.Discarded s) n m = tt
is_delivered (events.StoppedBy s) n m = tt
is_delivered (events.EndedBy s) n m = absurd (n s refl)
is_delivered events.Continued n m = tt
is_delivered events.Moved n m = absurd (m refl)

pub delivered_effect : (event : Event) → IsDelivered event → deliver.effect_of event ≡ event_effect event
delivered_effect (events.Caught s) d = refl
delivered_effect (events.Discarded s) d = refl
delivered_effect (events.StoppedBy s) d = refl
delivered_effect (events.EndedBy s) d = absurd d
delivered_effect events.Continued d = refl
delivered_effect events.Moved d = absurd d

-- ---- the count of stopped members
filter_short : {X : Type 0} (t : X → Bool) (xs : List X) → length (filter t xs) ≤ length xs
filter_short t [] = omega arith
filter_short t (x ∷ xs) = go (t x) (filter_short t xs)
  where
    go : (b : Bool) → length (filter t xs) ≤ length xs → length (cond b (x ∷ filter t xs) (filter t xs)) ≤ length (x ∷ xs)
    go true h = omega arith
    go false h = omega arith

pub few_stopped : (p : Pid) (own : Own) (bag : Bag) → IsFitting p own bag → (id : Pid) (g : Group) → group_at bag id ≡ Some (Some g) → g.stopped < 1000000
few_stopped p own bag fit id g at =
    let f = fit.fits in
    below g.stopped (length (filter _ f.rows)) (length f.rows) (group_is f.rows bag id g f.asks.agrees at).stopped (filter_short _ f.rows) f.asks.few
  where
    below : (n k m : ℕ) → n ≡ k → k ≤ m → m < 1000000 → n < 1000000
    below n k m e h i = omega arith

-- ---- the whole
pub event_whole : (p : Pid) (job : Job) (own : Own) (bag : Bag) (site : Site) (event : Event) (b : HasBase own p bag) → coming own b.vproc b.group ≡ Some event → event_answer event (event_effect event) own bag p b.vproc b.group ≡ unix_answer p job own bag site
event_whole p job own bag site event b e = sym (base_answer (held_answer job own bag site p) p bag b.vproc b.group b.vproc_is b.group_is ∙ ap (λ (o : Option Event). first_answer o job own bag site p b.vproc b.group) e)

pub job_whole : (p : Pid) (job : Job) (own : Own) (bag : Bag) (site : Site) (b : HasBase own p bag) → coming own b.vproc b.group ≡ None → on_base (job_answer job own bag site p) p bag ≡ unix_answer p job own bag site
job_whole p job own bag site b e =
    base_answer (job_answer job own bag site p) p bag b.vproc b.group b.vproc_is b.group_is
    ∙ sym (base_answer (held_answer job own bag site p) p bag b.vproc b.group b.vproc_is b.group_is ∙ ap (λ (o : Option Event). first_answer o job own bag site p b.vproc b.group) e)
