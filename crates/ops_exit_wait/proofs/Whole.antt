-- the whole law of waitpid
use Rattle.std.proofs.Common.{◌≡◌, ◌≢◌, ◌==◌, ◌&&◌, ℤ, Bool, true, false, cond, not, List, [], ◌∷◌, refl, sym, ap, ◌∙◌, subst, Option, None, Some}
use Rattle.std.specs.Prelude.{is_some, map, find, if◌then◌else◌}
use Rattle.std.specs.List.{list_any}
use Rattle.std.proofs.lemmas.Bool.{eqb-true, ne_eqb, eq-eqb}
use Rattle.list_laws.proofs.Filters.{some_same, map-id, filter-all}
use Rattle.list_laws.proofs.Elements.{map-same, filter-same}
use Rattle.list_laws.proofs.Finding.{distinct-filter}
use Rattle.unix_names.specs.declared.Pid.{Pid}
use Rattle.unix_names.specs.declared.NodeId.{NodeId}
use Rattle.unix_names.specs.declared.Name.{Name}
use Rattle.unix_names.specs.declared.Name.TheVariants.{G}
use Rattle.unix_names.specs.declared.WaitStatus.{WaitStatus}
use Rattle.unix_names.specs.declared.Errno.TheVariants.{ECHILD}
use Rattle.unix_names.specs.States.{is_living}
use Rattle.unix_calls.specs.declared.Call.TheVariants.{Waitpid}
use Rattle.unix_calls.specs.declared.Reply.{Reply}
use Rattle.unix_calls.specs.declared.Reply.TheVariants.{Child, Again, Refused}
use Rattle.unix_calls.specs.declared.Entry.TheVariants.{Called}
use Rattle.unix_calls.specs.declared.Job.TheVariants.{Ask}
use Rattle.unix_calls.specs.declared.Phase.TheVariants as phase
use Rattle.unix_calls.specs.Calls.{selector_of}
use Rattle.signal_state.specs.Signals.{Signals}
use Rattle.signal_state.specs.Sig.{deliverable}
use Rattle.vproc_record.specs.declared.Vproc.{Vproc}
use Rattle.group_record.specs.declared.Group.{Group}
use Rattle.record_bag.specs.declared.bag.Bag.{Bag}
use Rattle.record_bag.specs.declared.vector.Site.{Site}
use Rattle.process_table.specs.declared.Row.{Row}
use Rattle.process_table.specs.Rows.{row_of, is_pid, is_parent, is_stopped, is_ended_at}
use Rattle.kernel_rules.specs.Wait.{report_of, is_ready_match, is_match}
use Rattle.kernel_model.specs.declared.Verdict.TheVariants.{Legal}
use Rattle.kernel_model.specs.Sound.{IsSound}
use Rattle.kernel_model.specs.Step.{verdict, after, after_at, sent, sent_at}
use Rattle.process_table.specs.Changes.{reported_at}
use Rattle.kernel_choice.specs.Choice.{reply_of, refused_or, child_reply, report_reply}
use Rattle.decide_law.specs.Agrees.{vproc_at, IsRecordOf}
use Rattle.std.specs.Option.{option_map}
use Rattle.list_laws.specs.Keyed.{option_filter}
use Rattle.decide_law.specs.Wakes.{report_in, WakesOthers}
use Rattle.decide_law.specs.Law.{Settled, next, IsStep}
use Rattle.decide_law.specs.Effects.{Effect, replied, decided_by, written}
use Rattle.decide_law.specs.Places.{is_placed}
use Rattle.decide_law.specs.Nudges.{nudges_of}
use Rattle.decide_law.specs.Parts.{EachHeld, IsCallStep}
use Rattle.decide_law.proofs.ReplyStep.{chosen_legal, reply_step}
use Rattle.decide_law.specs.Told.{is_ready, first_child}
use Rattle.decide_law.specs.Footprints.{selected_footprint, wait_footprint, is_none, ended_group_shown}
use Rattle.decide_law.proofs.Records.{row_own, number, distinct, pid_same, row_pid}
use Rattle.decide_law.proofs.Held.{lacks_none, held_first, held_later}
use Rattle.decide_law.proofs.Plain.{KeepsPlace, row_map, children_map}
use Rattle.decide_law.proofs.PlainStep.{stays_put, plain_step}
use Rattle.decide_law.proofs.Shell.{own_record}
use Rattle.ops_exit_wait.specs.Waitpid.{has_match, reported, tell, take, report, report_first, wait_effect}
use Rattle.ops_exit_wait.proofs.Taken.{gone, stays_there}
use Rattle.ops_exit_wait.proofs.Take.{take_law}
use Rattle.ops_exit_wait.proofs.Replies.{match_is, none_ready, some_ready, FirstReady, report_same}

-- ---- replies
legal_reply : (rows : List Row) (p : Pid) (sig : Signals) (bag : Bag) (r : Row) (v : Vproc) (g : Group) (sel : ℤ) (stopped continued : Bool) (reply : Reply) → Settled rows p sig bag r v g → is_stopped r.life ≡ false → deliverable sig ≡ 0 →
    reply_of rows r (Waitpid sel stopped continued) 0 ≡ reply → verdict rows (Called p (Waitpid sel stopped continued) reply) ≡ Legal
legal_reply rows p sig bag r v g sel stopped continued reply a alive clear e = chosen_legal rows p sig bag r v g (Waitpid sel stopped continued) reply a alive clear (λ f. cc) (sym e)

-- where a child is named, the reply is that of the first that is ready
reply_matched : (rows : List Row) (r : Row) (sel : ℤ) (stopped continued : Bool) (o : Option Row) → list_any (is_match r (selector_of sel)) rows ≡ true → find (is_ready_match r (selector_of sel) stopped continued) rows ≡ o →
    reply_of rows r (Waitpid sel stopped continued) 0 ≡ child_reply stopped continued o
reply_matched rows r sel stopped continued o m e =
    ap (λ (b : Bool). refused_or (if b then None else Some ECHILD) (child_reply stopped continued (find (is_ready_match r (selector_of sel) stopped continued) rows))) m ∙ ap (child_reply stopped continued) e

reply_refused : (rows : List Row) (r : Row) (sel : ℤ) (stopped continued : Bool) → list_any (is_match r (selector_of sel)) rows ≡ false → reply_of rows r (Waitpid sel stopped continued) 0 ≡ Refused ECHILD
reply_refused rows r sel stopped continued m = ap (λ (b : Bool). refused_or (if b then None else Some ECHILD) (child_reply stopped continued (find (is_ready_match r (selector_of sel) stopped continued) rows))) m

nothing_sent : (rows : List Row) (p : Pid) (r : Row) (sel : ℤ) (stopped continued : Bool) (reply : Reply) (c : Row) → row_of rows p ≡ Some r → sent rows (Called p (Waitpid sel stopped continued) reply) c ≡ []
nothing_sent rows p r sel stopped continued reply c e = ap (λ o. sent_at rows o (Called p (Waitpid sel stopped continued) reply) c) e

-- ---- the table
at_child : (rows : List Row) (x y : Row) → row_of rows x.pid ≡ Some x → row_of rows y.pid ≡ Some y → is_pid x.pid y ≡ true → y ≡ x
at_child rows x y here at_y e = some_same y x (sym at_y ∙ ap (row_of rows) (pid_same y.pid x.pid (eqb-true _ _ e)) ∙ here)

table_told : (rows : List Row) (p : Pid) (r x : Row) (sel : ℤ) (stopped continued : Bool) (w : WaitStatus) → IsSound rows → row_of rows p ≡ Some r → row_of rows x.pid ≡ Some x → is_living x.life ≡ true →
    after rows (Called p (Waitpid sel stopped continued) (Child x.pid w)) ≡ map (reported_at x.pid) rows
table_told rows p r x sel stopped continued w k caller here alive =
    ap (λ o. after_at rows o (Called p (Waitpid sel stopped continued) (Child x.pid w))) caller
    ∙ ap (map (reported_at x.pid)) (filter-same number (λ c. not (is_ended_at x.pid c)) (λ c. true) rows (distinct rows k.distinct) (λ y at_y. pick y at_y (is_pid x.pid y) refl) ∙ filter-all rows)
  where
    pick : (y : Row) → row_of rows y.pid ≡ Some y → (b : Bool) → is_pid x.pid y ≡ b → not (b && not (is_living y.life)) ≡ true
    pick y at_y true e = ap (λ (b : Bool). not (not b)) (ap (λ (z : Row). is_living z.life) (at_child rows x y here at_y e) ∙ alive)
    pick y at_y false e = refl

table_taken : (rows : List Row) (p : Pid) (r x : Row) (sel : ℤ) (stopped continued : Bool) (w : WaitStatus) → IsSound rows → row_of rows p ≡ Some r → row_of rows x.pid ≡ Some x → is_living x.life ≡ false →
    after rows (Called p (Waitpid sel stopped continued) (Child x.pid w)) ≡ gone x.pid rows
table_taken rows p r x sel stopped continued w k caller here ended =
    ap (λ o. after_at rows o (Called p (Waitpid sel stopped continued) (Child x.pid w))) caller
    ∙ ap (map (reported_at x.pid)) (filter-same number (λ c. not (is_ended_at x.pid c)) (λ c. not (is_pid x.pid c)) rows (distinct rows k.distinct) (λ y at_y. pick y at_y (is_pid x.pid y) refl))
    ∙ map-same number (reported_at x.pid) (λ y. y) (gone x.pid rows) (distinct-filter number (λ c. not (is_pid x.pid c)) rows (distinct rows k.distinct)) (λ y at_y. other y at_y)
    ∙ map-id (gone x.pid rows)
  where
    pick : (y : Row) → row_of rows y.pid ≡ Some y → (b : Bool) → is_pid x.pid y ≡ b → not (b && not (is_living y.life)) ≡ not b
    pick y at_y true e = ap (λ (b : Bool). not (not b)) (ap (λ (z : Row). is_living z.life) (at_child rows x y here at_y e) ∙ ended)
    pick y at_y false e = refl

    other : (y : Row) → row_of (gone x.pid rows) y.pid ≡ Some y → reported_at x.pid y ≡ y
    other y at_y = ap (λ (b : Bool). record y { change = cond b None y.change }) (ne_eqb _ _ (stays_there rows x.pid y.pid y k at_y).0)

-- ---- steps
abbrev StepBy : List Row → Pid → Option NodeId → Site → ℤ → Bool → Bool → Bag → Effect → Type 0
StepBy rows p at site sel stopped continued bag x = IsStep rows (next rows x.entry) p (Ask (Waitpid sel stopped continued) at) site bag (decided_by x) (written x bag)

quiet_reply : (rows : List Row) (p : Pid) (site : Site) (at : Option NodeId) (sig : Signals) (bag : Bag) (r : Row) (v : Vproc) (g : Group) (sel : ℤ) (stopped continued : Bool) (reply : Reply) → Settled rows p sig bag r v g → is_stopped r.life ≡ false →
    verdict rows (Called p (Waitpid sel stopped continued) reply) ≡ Legal → after rows (Called p (Waitpid sel stopped continued) reply) ≡ rows → is_placed (Some (Called p (Waitpid sel stopped continued) reply)) ≡ false →
    ((before left : Bag) → nudges_of rows rows p before left (Some (Called p (Waitpid sel stopped continued) reply)) ≡ []) → StepBy rows p at site sel stopped continued bag (replied p (Waitpid sel stopped continued) reply sig)
quiet_reply rows p site at sig bag r v g sel stopped continued reply a alive legal table unplaced nobody =
    reply_step rows p site at sig bag r v g (Waitpid sel stopped continued) reply a alive record { legal = legal; table = table; sends = λ m c here living. nothing_sent rows p r sel stopped continued reply c a.row; place = λ was here. refl; unplaced = unplaced; nobody = nobody; born = tt }

record_told : (rows : List Row) (t q : Pid) (y : Vproc) (x : Row) → row_of rows q ≡ Some x → IsRecordOf rows y x → (b : Bool) → (q.0 == t.0) ≡ b → IsRecordOf (map (reported_at t) rows) (cond b (reported y) y) (reported_at t x)
record_told rows t q y x here of b e = go b (ap (λ (i : Pid). i.0 == t.0) (row_pid rows q x here) ∙ e)
  where
    go : (b : Bool) → (x.pid.0 == t.0) ≡ b → IsRecordOf (map (reported_at t) rows) (cond b (reported y) y) (reported_at t x)
    go true s = record {
      pid = of.pid;
      parent = of.parent;
      group = of.group;
      session = of.session;
      uid = of.uid;
      life = of.life;
      change = ap (λ (c : Bool). cond c None x.change) (sym s);
      execed = of.execed;
      ignchld = of.ignchld;
      children = of.children ∙ sym (children_map rows (reported_at t) x.pid reporting);
    }
      where
        reporting : KeepsPlace (reported_at t)
        reporting = record { pid = λ x. refl; parent = λ x. refl; group = λ x. refl; session = λ x. refl; uid = λ x. refl; life = λ x. refl }
    go false s = record {
      pid = of.pid;
      parent = of.parent;
      group = of.group;
      session = of.session;
      uid = of.uid;
      life = of.life;
      change = of.change ∙ ap (λ (c : Bool). cond c None x.change) (sym s);
      execed = of.execed;
      ignchld = of.ignchld;
      children = of.children ∙ sym (children_map rows (reported_at t) x.pid reporting);
    }
      where
        reporting : KeepsPlace (reported_at t)
        reporting = record { pid = λ x. refl; parent = λ x. refl; group = λ x. refl; session = λ x. refl; uid = λ x. refl; life = λ x. refl }

-- another process sees nothing of the child
tell_wakes : (rows : List Row) (p c : Pid) (x : Row) → row_of rows c ≡ Some x → x.parent ≡ p → WakesOthers rows (map (reported_at c) rows) p []
tell_wakes rows p c x here up = λ m r r' ne at_m at_m' living none. (
  ap (λ (y : Row). y.group) (some_same _ _ (sym at_m' ∙ row_map rows (reported_at c) m reporting ∙ ap (option_map (reported_at c)) at_m)),
  λ q. ap (λ (o : Option Row). option_map report_in (option_filter (is_parent m) o)) (row_map rows (reported_at c) q reporting) ∙ go m ne q (row_of rows q) refl,
)
  where
    reporting : KeepsPlace (reported_at c)
    reporting = record { pid = λ x. refl; parent = λ x. refl; group = λ x. refl; session = λ x. refl; uid = λ x. refl; life = λ x. refl }

    go : (m : Pid) → m.0 ≢ p.0 → (q : Pid) (o : Option Row) → row_of rows q ≡ o → option_map report_in (option_filter (is_parent m) (option_map (reported_at c) o)) ≡ option_map report_in (option_filter (is_parent m) o)
    go m ne q None e = refl
    go m ne q (Some y) e = pick (is_pid c y) refl
      where
        pick : (b : Bool) → is_pid c y ≡ b → option_map report_in (option_filter (is_parent m) (Some (reported_at c y))) ≡ option_map report_in (option_filter (is_parent m) (Some y))
        pick true s =
            let same : y ≡ x = some_same y x (sym (row_own rows q y e) ∙ ap (row_of rows) (pid_same y.pid c (eqb-true _ _ s)) ∙ here) in
            let far : is_parent m y ≡ false = ne_eqb _ _ (λ h. ne (sym h ∙ ap (λ (z : Row). z.parent.0) same ∙ ap (λ (i : Pid). i.0) up)) in
            ap (λ (b : Bool). option_map report_in (cond b (Some (reported_at c y)) None)) far ∙ sym (ap (λ (b : Bool). option_map report_in (cond b (Some y) None)) far)
        pick false s = ap (λ (b : Bool). option_map report_in (option_filter (is_parent m) (Some (record y { change = cond b None y.change })))) s

tell_step : (rows : List Row) (p : Pid) (site : Site) (at : Option NodeId) (sig : Signals) (bag : Bag) (r : Row) (v : Vproc) (g : Group) (sel : ℤ) (stopped continued : Bool) (u : Vproc) (w : WaitStatus) → Settled rows p sig bag r v g → is_stopped r.life ≡ false →
    is_some (vproc_at bag u.pid) ≡ true → WakesOthers rows (map (reported_at u.pid) rows) p [] → verdict rows (Called p (Waitpid sel stopped continued) (Child u.pid w)) ≡ Legal → after rows (Called p (Waitpid sel stopped continued) (Child u.pid w)) ≡ map (reported_at u.pid) rows →
    StepBy rows p at site sel stopped continued bag (tell sig p (Waitpid sel stopped continued) u w)
tell_step rows p site at sig bag r v g sel stopped continued u w a alive held wakes legal table =
    subst (λ (now : List Row). IsStep rows now p (Ask (Waitpid sel stopped continued) at) site bag (decided_by (tell sig p (Waitpid sel stopped continued) u w)) (written (tell sig p (Waitpid sel stopped continued) u w) bag)) (sym table)
    (plain_step rows p (Ask (Waitpid sel stopped continued) at) site sig bag r v g (reported_at u.pid) u.pid reported (Some (Called p (Waitpid sel stopped continued) (Child u.pid w))) sig phase.Ready a record {
      legal = (legal, refl);
      asked = refl;
      table = table;
      sends = λ c. nothing_sent rows p r sel stopped continued (Child u.pid w) c a.row;
      place = λ y. stays_put (p.0 == u.pid.0) (reported y) y refl;
      arrives = λ placed y ey. let h : true ≡ false = sym placed in cc;
      nobody = λ before left. refl;
      born = tt;
      stops = (λ e. cc, λ e. cc);
      stays = λ e. cc;
      awake = λ e. cc;
      rests = λ e. absurd (cc e);
      keeps = record { pid = λ x. refl; parent = λ x. refl; group = λ x. refl; session = λ x. refl; uid = λ x. refl; life = λ x. refl };
      own_record = λ q y x e here of. record_told rows u.pid q y x here of true (eq-eqb _ _ e);
      other_record = λ q y x e here of. record_told rows u.pid q y x here of false (ne_eqb _ _ e);
      held = held;
      group = λ y. refl;
      stream = λ y h. refl;
      backlog = λ y. refl;
      loc = λ y ne. refl;
      sig_is = a.sig_is;
      wakes = wakes;
    })

-- ---- which
report_step : (rows : List Row) (p : Pid) (site : Site) (at : Option NodeId) (sig : Signals) (bag : Bag) (r : Row) (v : Vproc) (g : Group) (sel : ℤ) (stopped continued : Bool) (u : Vproc) (x : Row) (w : WaitStatus) → Settled rows p sig bag r v g → is_stopped r.life ≡ false →
    row_of rows x.pid ≡ Some x → IsRecordOf rows u x → vproc_at bag x.pid ≡ Some (Some u) → x.parent.0 ≡ r.pid.0 → EachHeld bag (ended_group_shown (Some u)) →
    verdict rows (Called p (Waitpid sel stopped continued) (Child u.pid w)) ≡ Legal → (b : Bool) → is_living u.life ≡ b →
    StepBy rows p at site sel stopped continued bag (if b then tell sig p (Waitpid sel stopped continued) u w else take sig p (Waitpid sel stopped continued) u w)
report_step rows p site at sig bag r v g sel stopped continued u x w a alive here is held up group legal true e =
    tell_step rows p site at sig bag r v g sel stopped continued u w a alive (ap (λ (q : Pid). is_some (vproc_at bag q)) is.pid ∙ ap is_some held) (tell_wakes rows p u.pid x (ap (row_of rows) is.pid ∙ here) (pid_same x.parent r.pid up ∙ row_pid rows p r a.row)) legal
    (ap (λ (q : Pid). after rows (Called p (Waitpid sel stopped continued) (Child q w))) is.pid ∙ table_told rows p r x sel stopped continued w a.sound a.row here (ap is_living (sym is.life) ∙ e) ∙ ap (λ (q : Pid). map (reported_at q) rows) (sym is.pid))
report_step rows p site at sig bag r v g sel stopped continued u x w a alive here is held up group legal false e =
    let table : after rows (Called p (Waitpid sel stopped continued) (Child u.pid w)) ≡ gone u.pid rows =
    ap (λ (q : Pid). after rows (Called p (Waitpid sel stopped continued) (Child q w))) is.pid ∙ table_taken rows p r x sel stopped continued w a.sound a.row here (ap is_living (sym is.life) ∙ e) ∙ ap (λ (q : Pid). gone q rows) (sym is.pid) in
    subst (λ (now : List Row). IsStep rows now p (Ask (Waitpid sel stopped continued) at) site bag (decided_by (take sig p (Waitpid sel stopped continued) u w)) (written (take sig p (Waitpid sel stopped continued) u w) bag)) (sym table)
    (take_law rows p site at sig bag r v g sel stopped continued u x w a record {
      row = ap (row_of rows) is.pid ∙ here;
      ended = ap is_living (sym is.life) ∙ e;
      parent = pid_same x.parent r.pid up ∙ row_pid rows p r a.row;
      held = ap (vproc_at bag) is.pid ∙ held;
      group = (shown (is_living u.life) e group).0;
    } alive legal table)
  where
    shown : (b : Bool) → b ≡ false → EachHeld bag (if b then [] else G u.group ∷ []) → EachHeld bag (G u.group ∷ [])
    shown true s h = cc
    shown false s h = h

reported_step : (rows : List Row) (p : Pid) (site : Site) (at : Option NodeId) (sig : Signals) (bag : Bag) (r : Row) (v : Vproc) (g : Group) (sel : ℤ) (stopped continued : Bool) (u : Vproc) (x : Row) → Settled rows p sig bag r v g → is_stopped r.life ≡ false →
    row_of rows x.pid ≡ Some x → IsRecordOf rows u x → vproc_at bag x.pid ≡ Some (Some u) → x.parent.0 ≡ r.pid.0 → EachHeld bag (ended_group_shown (Some u)) →
    ((w : WaitStatus) → report_of x.life x.change stopped continued ≡ Some w → verdict rows (Called p (Waitpid sel stopped continued) (Child x.pid w)) ≡ Legal) →
    (o : Option WaitStatus) → report_of x.life x.change stopped continued ≡ o → is_some o ≡ true → StepBy rows p at site sel stopped continued bag (report sig p (Waitpid sel stopped continued) u o)
reported_step rows p site at sig bag r v g sel stopped continued u x a alive here is held up group legal None e s = cc
reported_step rows p site at sig bag r v g sel stopped continued u x a alive here is held up group legal (Some w) e s =
    report_step rows p site at sig bag r v g sel stopped continued u x w a alive here is held up group (ap (λ (q : Pid). verdict rows (Called p (Waitpid sel stopped continued) (Child q w))) is.pid ∙ legal w e) (is_living u.life) refl

-- nobody is named
refused_step : (rows : List Row) (p : Pid) (site : Site) (at : Option NodeId) (sig : Signals) (bag : Bag) (r : Row) (v : Vproc) (g : Group) (sel : ℤ) (stopped continued : Bool) → Settled rows p sig bag r v g → is_stopped r.life ≡ false → deliverable sig ≡ 0 →
    list_any (is_match r (selector_of sel)) rows ≡ false → StepBy rows p at site sel stopped continued bag (replied p (Waitpid sel stopped continued) (Refused ECHILD) sig)
refused_step rows p site at sig bag r v g sel stopped continued a alive clear m =
    quiet_reply rows p site at sig bag r v g sel stopped continued (Refused ECHILD) a alive (legal_reply rows p sig bag r v g sel stopped continued (Refused ECHILD) a alive clear (reply_refused rows r sel stopped continued m))
    (ap (λ o. after_at rows o (Called p (Waitpid sel stopped continued) (Refused ECHILD))) a.row) refl (λ before left. refl)

-- nobody is ready
again_step : (rows : List Row) (p : Pid) (site : Site) (at : Option NodeId) (sig : Signals) (bag : Bag) (r : Row) (v : Vproc) (g : Group) (sel : ℤ) (stopped continued : Bool) → Settled rows p sig bag r v g → is_stopped r.life ≡ false → deliverable sig ≡ 0 →
    list_any (is_match r (selector_of sel)) rows ≡ true → find (is_ready_match r (selector_of sel) stopped continued) rows ≡ None →
    StepBy rows p at site sel stopped continued bag (replied p (Waitpid sel stopped continued) Again sig)
again_step rows p site at sig bag r v g sel stopped continued a alive clear m e =
    quiet_reply rows p site at sig bag r v g sel stopped continued Again a alive (legal_reply rows p sig bag r v g sel stopped continued Again a alive clear (reply_matched rows r sel stopped continued None m e))
    (ap (λ o. after_at rows o (Called p (Waitpid sel stopped continued) Again)) a.row) refl (λ before left. refl)

-- a child is ready
ready_step : (rows : List Row) (p : Pid) (site : Site) (at : Option NodeId) (sig : Signals) (bag : Bag) (r : Row) (v : Vproc) (g : Group) (sel : ℤ) (stopped continued : Bool) (x : Row) → Settled rows p sig bag r v g → is_stopped r.life ≡ false → deliverable sig ≡ 0 →
    list_any (is_match r (selector_of sel)) rows ≡ true → find (is_ready_match r (selector_of sel) stopped continued) rows ≡ Some x → (f : FirstReady rows bag v r (selector_of sel) stopped continued x) → EachHeld bag (ended_group_shown (Some f.child)) →
    StepBy rows p at site sel stopped continued bag (report sig p (Waitpid sel stopped continued) f.child (report_of x.life x.change stopped continued))
ready_step rows p site at sig bag r v g sel stopped continued x a alive clear m e f group =
    reported_step rows p site at sig bag r v g sel stopped continued f.child x a alive f.row f.is f.held f.parent group
    (λ w s. legal_reply rows p sig bag r v g sel stopped continued (Child x.pid w) a alive clear (reply_matched rows r sel stopped continued (Some x) m e ∙ reports w s))
    (report_of x.life x.change stopped continued) refl f.ready
  where
    reports : (w : WaitStatus) → report_of x.life x.change stopped continued ≡ Some w → child_reply stopped continued (Some x) ≡ Child x.pid w
    reports w s = ap (report_reply x.pid) s

-- what is held
selected_held : (bag : Bag) (v : Vproc) (sel : ℤ) (stopped continued : Bool) → EachHeld bag (wait_footprint bag v (selector_of sel) stopped continued) → EachHeld bag (selected_footprint v (selector_of sel))
selected_held bag v sel stopped continued held = held_first bag (selected_footprint v (selector_of sel)) _ held

ended_held : (bag : Bag) (v : Vproc) (sel : ℤ) (stopped continued : Bool) → EachHeld bag (wait_footprint bag v (selector_of sel) stopped continued) → EachHeld bag (ended_group_shown (first_child bag v (is_ready v (selector_of sel) stopped continued)))
ended_held bag v sel stopped continued held =
    subst (λ (l : List Name). EachHeld bag (if is_none l then ended_group_shown (first_child bag v (is_ready v (selector_of sel) stopped continued)) else [])) (lacks_none bag (selected_footprint v (selector_of sel)) (selected_held bag v sel stopped continued held))
    (held_later bag (selected_footprint v (selector_of sel)) _ held)

matched_step : (rows : List Row) (p : Pid) (site : Site) (at : Option NodeId) (sig : Signals) (bag : Bag) (r : Row) (v : Vproc) (g : Group) (sel : ℤ) (stopped continued : Bool) → Settled rows p sig bag r v g → is_stopped r.life ≡ false → deliverable sig ≡ 0 →
    EachHeld bag (wait_footprint bag v (selector_of sel) stopped continued) → list_any (is_match r (selector_of sel)) rows ≡ true → (o : Option Row) → find (is_ready_match r (selector_of sel) stopped continued) rows ≡ o →
    StepBy rows p at site sel stopped continued bag (report_first sig p (Waitpid sel stopped continued) stopped continued (first_child bag v (is_ready v (selector_of sel) stopped continued)))
matched_step rows p site at sig bag r v g sel stopped continued a alive clear held m None e =
    subst (λ (o : Option Vproc). StepBy rows p at site sel stopped continued bag (report_first sig p (Waitpid sel stopped continued) stopped continued o))
    (sym (none_ready rows bag v r (selector_of sel) stopped continued a.sound a.agrees (own_record rows p bag r v a.agrees a.row a.vproc) (selected_held bag v sel stopped continued held) e))
    (again_step rows p site at sig bag r v g sel stopped continued a alive clear m e)
matched_step rows p site at sig bag r v g sel stopped continued a alive clear held m (Some x) e =
    let f = some_ready rows bag v r (selector_of sel) stopped continued x a.sound a.agrees (own_record rows p bag r v a.agrees a.row a.vproc) (selected_held bag v sel stopped continued held) e in
    subst (λ (o : Option Vproc). StepBy rows p at site sel stopped continued bag (report_first sig p (Waitpid sel stopped continued) stopped continued o)) (sym f.first)
    (subst (λ (o : Option WaitStatus). StepBy rows p at site sel stopped continued bag (report sig p (Waitpid sel stopped continued) f.child o)) (sym (report_same rows f.child x stopped continued f.is))
    (ready_step rows p site at sig bag r v g sel stopped continued x a alive clear m e f (subst (λ (o : Option Vproc). EachHeld bag (ended_group_shown o)) f.first (ended_held bag v sel stopped continued held))))

wait_step : (rows : List Row) (p : Pid) (site : Site) (at : Option NodeId) (sig : Signals) (bag : Bag) (r : Row) (v : Vproc) (g : Group) (sel : ℤ) (stopped continued : Bool) → Settled rows p sig bag r v g → is_stopped r.life ≡ false → deliverable sig ≡ 0 →
    EachHeld bag (wait_footprint bag v (selector_of sel) stopped continued) → (b : Bool) → has_match bag v sel ≡ b →
    StepBy rows p at site sel stopped continued bag (if not b then replied p (Waitpid sel stopped continued) (Refused ECHILD) sig
    else report_first sig p (Waitpid sel stopped continued) stopped continued (first_child bag v (is_ready v (selector_of sel) stopped continued)))
wait_step rows p site at sig bag r v g sel stopped continued a alive clear held true e =
    matched_step rows p site at sig bag r v g sel stopped continued a alive clear held
    (sym (match_is rows bag v r sel a.sound a.agrees (own_record rows p bag r v a.agrees a.row a.vproc) (selected_held bag v sel stopped continued held)) ∙ e) (find (is_ready_match r (selector_of sel) stopped continued) rows) refl
wait_step rows p site at sig bag r v g sel stopped continued a alive clear held false e =
    refused_step rows p site at sig bag r v g sel stopped continued a alive clear
    (sym (match_is rows bag v r sel a.sound a.agrees (own_record rows p bag r v a.agrees a.row a.vproc) (selected_held bag v sel stopped continued held)) ∙ e)

-- waitpid is a step of the one kernel
pub wait_is_step : (sel : ℤ) (stopped continued : Bool) → IsCallStep (Waitpid sel stopped continued) (λ bag sig p v. wait_effect bag sig p v sel stopped continued)
wait_is_step sel stopped continued rows p site at sig bag r v g a alive clear held = wait_step rows p site at sig bag r v g sel stopped continued a alive clear held (has_match bag v sel) refl
