-- the small calls are steps of the one kernel
use Rattle.std.proofs.Common.{◌≡◌, ◌==◌, ℕ, Bool, true, false, nat_lt, List, [], ◌∷◌, refl, sym, ap, arith, Option, None, Some, if◌then◌else◌}
use Rattle.std.proofs.lemmas.Bool.{eqb-true, eqb-false, ltb-false}
use Rattle.std.specs.Prelude.{is_some, is_none as is_none_of}
use Rattle.unix_names.specs.declared.Pid.{Pid}
use Rattle.unix_names.specs.declared.NodeId.{NodeId}
use Rattle.unix_names.specs.declared.Name.TheVariants.{V}
use Rattle.unix_names.specs.declared.Errno.TheVariants.{EPERM, ESRCH}
use Rattle.unix_calls.specs.declared.Call.{Call}
use Rattle.unix_calls.specs.declared.Call.TheVariants.{Fork, Getpid, Getppid, Getpgid, Getsid}
use Rattle.unix_calls.specs.declared.Reply.{Reply}
use Rattle.unix_calls.specs.declared.Reply.TheVariants.{Number, Refused}
use Rattle.unix_calls.specs.declared.Entry.TheVariants.{Called}
use Rattle.unix_calls.specs.declared.Job.TheVariants.{Ask}
use Rattle.signal_state.specs.Signals.{Signals}
use Rattle.signal_state.specs.Sig.{deliverable}
use Rattle.vproc_record.specs.declared.Vproc.{Vproc}
use Rattle.group_record.specs.declared.Group.{Group}
use Rattle.record_bag.specs.declared.bag.Bag.{Bag}
use Rattle.record_bag.specs.declared.vector.Site.{Site}
use Rattle.record_bag.specs.Bags.{vproc_in}
use Rattle.process_table.specs.declared.Row.{Row}
use Rattle.process_table.specs.Rows.{pid, row_of, is_stopped}
use Rattle.kernel_model.specs.Step.{after, after_at, sent, sent_at}
use Rattle.kernel_choice.specs.Choice.{reply_of}
use Rattle.kernel_choice.specs.Choice as choice
use Rattle.decide_law.specs.Agrees.{vproc_at, IsRecordOf, VprocAgrees, Agrees}
use Rattle.decide_law.specs.Law.{Settled, next, IsNoBirth, IsStep}
use Rattle.decide_law.specs.Places.{is_placed, is_placed_call, place_after}
use Rattle.decide_law.specs.Nudges.{call_nudges, nudges_of}
use Rattle.decide_law.specs.Effects.{replied, decided_by, written}
use Rattle.decide_law.specs.Footprints.{look_footprint}
use Rattle.decide_law.specs.Parts.{EachHeld, IsCallStep}
use Rattle.decide_law.proofs.Records.{row_pid}
use Rattle.decide_law.proofs.Counts.{told_held}
use Rattle.decide_law.proofs.ReplyStep.{chosen_legal, reply_step}
use Rattle.decide_law.proofs.Shell.{own_record}
use Rattle.ops_groups.specs.declared.lookups.Column.{Column}
use Rattle.ops_groups.specs.declared.lookups.Column.TheVariants as columns
use Rattle.ops_groups.specs.Lookups.{column_of, column_call, column_reply, look_reply, look_effect}

-- what a look-up replies is what the one kernel replies, where the record tells what the row does
look_is : (column : Column) (answer : Option Row → Reply) (rows : List Row) (bag : Bag) (v : Vproc) (r : Row) (t : ℕ) → ((u : Vproc) (x : Row) → IsRecordOf rows u x → Number (column_of column u).0 ≡ answer (Some x)) → Agrees bag rows → IsRecordOf rows v r → EachHeld bag (look_footprint t) →
    look_reply column bag v t ≡ choice.refused_or (if t == 1 then Some EPERM else (if is_none_of (if t == 0 then Some r else row_of rows (pid t)) then Some ESRCH else None)) (answer (if t == 0 then Some r else row_of rows (pid t)))
look_is column answer rows bag v r t same a of held = go (t == 0) (t == 1) refl refl
  where
    told : (h : Option Vproc) (o : Option Row) → VprocAgrees rows h o → column_reply column h ≡ choice.refused_or (if is_none_of o then Some ESRCH else None) (answer o)
    told None None a = refl
    told None (Some x) a = absurd a
    told (Some u) None a = absurd a
    told (Some u) (Some x) a = same u x a

    there : (t == 0) ≡ false → (t == 1) ≡ false → is_some (vproc_at bag (pid t)) ≡ true
    there z o = first (nat_lt 1 t) refl held
      where
        first : (b : Bool) → nat_lt 1 t ≡ b → EachHeld bag (if b then V (pid t) ∷ [] else []) → is_some (vproc_at bag (pid t)) ≡ true
        first true e h = h.0
        first false e h = let le = ltb-false _ _ e in let nz = eqb-false _ _ z in let no_one = eqb-false _ _ o in absurd (omega arith)

    go : (x y : Bool) → (t == 0) ≡ x → (t == 1) ≡ y → (if x then Number (column_of column v).0 else (if y then Refused EPERM else column_reply column (vproc_in bag (pid t)))) ≡
        choice.refused_or (if y then Some EPERM else (if is_none_of (if x then Some r else row_of rows (pid t)) then Some ESRCH else None)) (answer (if x then Some r else row_of rows (pid t)))
    go true true ex ey = let z = eqb-true _ _ ex in let o = eqb-true _ _ ey in absurd (omega arith)
    go true false ex ey = same v r of
    go false true ex ey = refl
    go false false ex ey = told (vproc_in bag (pid t)) (row_of rows (pid t)) (told_held rows bag (pid t) a.vprocs (there ex ey))

-- a call that only tells something
tell_step : (rows : List Row) (p : Pid) (site : Site) (at : Option NodeId) (sig : Signals) (bag : Bag) (r : Row) (v : Vproc) (g : Group) (call : Call) (reply : Reply) → Settled rows p sig bag r v g → is_stopped r.life ≡ false → deliverable sig ≡ 0 →
    (call ≡ Fork → false ≡ true) → reply ≡ reply_of rows r call 0 → after rows (Called p call reply) ≡ rows → ((c : Row) → sent rows (Called p call reply) c ≡ []) → ((was here : NodeId) → place_after (Some (Called p call reply)) was here ≡ was) → is_placed (Some (Called p call reply)) ≡ false →
    ((before left : Bag) → nudges_of rows rows p before left (Some (Called p call reply)) ≡ []) → IsNoBirth (Some (Called p call reply)) →
    IsStep rows (next rows (Some (Called p call reply))) p (Ask call at) site bag (decided_by (replied p call reply sig)) (written (replied p call reply sig) bag)
tell_step rows p site at sig bag r v g call reply a alive clear no_fork is table sends place unplaced nobody born =
    reply_step rows p site at sig bag r v g call reply a alive record { legal = chosen_legal rows p sig bag r v g call reply a alive clear no_fork is; table = table; sends = λ q c here living. sends c; place = place; unplaced = unplaced; nobody = nobody; born = born }

pub getpid_is_step : IsCallStep Getpid (λ bag sig p v. replied p Getpid (Number p.0) sig)
getpid_is_step rows p site at sig bag r v g a alive clear held =
    tell_step rows p site at sig bag r v g Getpid (Number p.0) a alive clear (λ f. cc) (ap (λ (q : Pid). Number q.0) (sym (row_pid rows p r a.row)))
    (ap (λ o. after_at rows o (Called p Getpid (Number p.0))) a.row) (λ c. ap (λ o. sent_at rows o (Called p Getpid (Number p.0)) c) a.row) (λ was here. refl) refl (λ before left. refl) tt

pub getppid_is_step : IsCallStep Getppid (λ bag sig p v. replied p Getppid (Number v.parent.0) sig)
getppid_is_step rows p site at sig bag r v g a alive clear held =
    tell_step rows p site at sig bag r v g Getppid (Number v.parent.0) a alive clear (λ f. cc) (ap (λ (q : Pid). Number q.0) (own_record rows p bag r v a.agrees a.row a.vproc).parent)
    (ap (λ o. after_at rows o (Called p Getppid (Number v.parent.0))) a.row) (λ c. ap (λ o. sent_at rows o (Called p Getppid (Number v.parent.0)) c) a.row) (λ was here. refl) refl (λ before left. refl) tt

look_unplaced : (column : Column) (t : ℕ) (reply : Reply) → is_placed_call reply (column_call column t) ≡ false
look_unplaced columns.Group t (Number n) = refl
look_unplaced columns.Group t _ = refl
look_unplaced columns.Session t (Number n) = refl
look_unplaced columns.Session t _ = refl

look_nobody : (column : Column) (rows : List Row) (p : Pid) (before left : Bag) (t : ℕ) (reply : Reply) → call_nudges rows rows p before left reply (column_call column t) ≡ []
look_nobody columns.Group rows p before left t (Number n) = refl
look_nobody columns.Group rows p before left t _ = refl
look_nobody columns.Session rows p before left t (Number n) = refl
look_nobody columns.Session rows p before left t _ = refl

pub getpgid_is_step : (t : ℕ) → IsCallStep (Getpgid t) (look_effect columns.Group t)
getpgid_is_step t rows p site at sig bag r v g a alive clear held =
    let reply = look_reply columns.Group bag v t in
    tell_step rows p site at sig bag r v g (Getpgid t) reply a alive clear (λ f. cc) (look_is columns.Group choice.group_reply rows bag v r t (λ u x of. ap (λ (q : Pid). Number q.0) of.group) a.agrees (own_record rows p bag r v a.agrees a.row a.vproc) held)
    (ap (λ o. after_at rows o (Called p (Getpgid t) reply)) a.row) (λ c. ap (λ o. sent_at rows o (Called p (Getpgid t) reply) c) a.row) (λ was here. refl) (look_unplaced columns.Group t reply) (λ before left. look_nobody columns.Group rows p before left t reply) tt

pub getsid_is_step : (t : ℕ) → IsCallStep (Getsid t) (look_effect columns.Session t)
getsid_is_step t rows p site at sig bag r v g a alive clear held =
    let reply = look_reply columns.Session bag v t in
    tell_step rows p site at sig bag r v g (Getsid t) reply a alive clear (λ f. cc) (look_is columns.Session choice.session_reply rows bag v r t (λ u x of. ap (λ (q : Pid). Number q.0) of.session) a.agrees (own_record rows p bag r v a.agrees a.row a.vproc) held)
    (ap (λ o. after_at rows o (Called p (Getsid t) reply)) a.row) (λ c. ap (λ o. sent_at rows o (Called p (Getsid t) reply) c) a.row) (λ was here. refl) (look_unplaced columns.Session t reply) (λ before left. look_nobody columns.Session rows p before left t reply) tt
