-- setpgid is a step of the one kernel
use Rattle.std.proofs.Common.{◌++◌, ◌≡◌, ◌==◌, ◌&&◌, ◌||◌, ℕ, ℤ, pos, negsuc, Bool, true, false, cond, not, List, [], ◌∷◌, refl, sym, ap, ◌∙◌, subst, Option, None, Some, ◌⊎◌, inl, inr}
use Rattle.std.specs.Option.{option_map}
use Rattle.std.specs.Prelude.{is_some, map, if◌then◌else◌}
use Rattle.std.proofs.lemmas.Bool.{eqb-true, eqb-false}
use Rattle.list_laws.proofs.Filters.{some_same, map-id}
use Rattle.list_laws.proofs.Elements.{map-same}
use Rattle.unix_names.specs.declared.Pid.{Pid}
use Rattle.unix_names.specs.declared.NodeId.{NodeId}
use Rattle.unix_names.specs.declared.Name.TheVariants.{V, G}
use Rattle.unix_names.specs.declared.Errno.{Errno}
use Rattle.unix_names.specs.declared.Errno.TheVariants.{EPERM, ESRCH}
use Rattle.unix_names.specs.States.{is_living}
use Rattle.unix_calls.specs.declared.Call.TheVariants.{Setpgid}
use Rattle.unix_calls.specs.declared.Reply.{Reply}
use Rattle.unix_calls.specs.declared.Reply.TheVariants.{Fine, Refused}
use Rattle.unix_calls.specs.declared.Entry.TheVariants.{Called}
use Rattle.unix_calls.specs.declared.Job.TheVariants.{Ask}
use Rattle.signal_state.specs.Signals.{Signals}
use Rattle.signal_state.specs.Sig.{deliverable}
use Rattle.vproc_record.specs.declared.Vproc.{Vproc}
use Rattle.group_record.specs.declared.Group.{Group}
use Rattle.record_bag.specs.declared.bag.Bag.{Bag}
use Rattle.record_bag.specs.declared.vector.Site.{Site}
use Rattle.record_bag.specs.Bags.{present, group_in}
use Rattle.process_table.specs.declared.Row.{Row}
use Rattle.process_table.specs.Rows.{row_of, is_pid, is_parent, is_same, in_session, is_stopped, is_living_child, is_session_leader, AreDistinct, pid}
use Rattle.kernel_rules.specs.Calls.{allows}
use Rattle.kernel_rules.specs.Setpgid as kernel
use Rattle.kernel_model.specs.declared.Verdict.TheVariants.{Legal}
use Rattle.kernel_model.specs.Step.{verdict, after, after_at, sent, sent_at}
use Rattle.kernel_rules.specs.Setpgid.{after_setpgid}
use Rattle.process_table.specs.Changes.{regrouped_at}
use Rattle.kernel_choice.specs.Choice.{refused_or}
use Rattle.kernel_choice.proofs.ReplyLaws.{chosen_allowed}
use Rattle.decide_law.specs.Agrees.{vproc_at, group_at, IsRecordOf, VprocAgrees, Agrees}
use Rattle.decide_law.specs.Law.{Settled, next, IsStep, IsNoBirth}
use Rattle.decide_law.specs.Effects.{Effect, decided_by, written, replied, unless_refused}
use Rattle.decide_law.specs.Told.{target_pid, wanted_group, target_in, has_child, is_session_group, early_refusal}
use Rattle.decide_law.specs.Footprints.{setpgid_footprint, regroup_footprint, move_footprint, move_footprint_of, with_living_group, living_group_shown, living_children_footprint, parent_name}
use Rattle.decide_law.proofs.Records.{number, distinct, pid_same, row_pid, row_own}
use Rattle.decide_law.proofs.Counts.{no_system}
use Rattle.decide_law.proofs.Held.{held_first, held_later, held_flat}
use Rattle.decide_law.specs.Parts.{EachHeld, IsCallStep}
use Rattle.decide_law.proofs.Quiet.{legal_call}
use Rattle.decide_law.proofs.Shell.{own_record}
use Rattle.decide_law.proofs.Told.{child_listed, has_row, group_of_row}
use Rattle.ops_groups.specs.Setpgid.{setpgid_entry, group_refusal, first_of, refusal_by, setpgid_refusal, within_session, move_from, move_of, moved_by, setpgid_effect}
use Rattle.ops_groups.specs.Move.{moved_at, move}
use Rattle.ops_groups.specs.MoveLaw.{Moves}
use Rattle.ops_groups.proofs.Moved.{row_later, still, taken_to}
use Rattle.ops_groups.proofs.Move.{move_law}
use Rattle.ops_groups.proofs.Refusals.{Names, named, early_is, early_by, refusal_is, target_same, wanted_same}
use Rattle.decide_law.proofs.ReplyStep.{reply_step, able}
use Rattle.decide_law.specs.Nudges.{named_by, moved_nudges, but_system, nudges_of}
use Rattle.decide_law.specs.Places.{is_placed}
use Rattle.list_laws.proofs.Finding.{found, same_number}

-- ---- replies
-- the reply that the refusals leave is allowed
allowed : (rows : List Row) (r : Row) (t : ℕ) (q : ℤ) (o : Option Errno) → kernel.setpgid_refusal rows r t q ≡ o → AreDistinct rows → allows rows r (Setpgid t q) (refused_or o Fine) ≡ true
allowed rows r t q o e d = ap (λ (x : Option Errno). allows rows r (Setpgid t q) (refused_or x Fine)) (sym e) ∙ chosen_allowed rows r (Setpgid t q) 0 d (λ h. cc)

nothing_sent : (rows : List Row) (p : Pid) (r : Row) (t : ℕ) (q : ℤ) (reply : Reply) (c : Row) → row_of rows p ≡ Some r → sent rows (Called p (Setpgid t q) reply) c ≡ []
nothing_sent rows p r t q reply c e = ap (λ o. sent_at rows o (Called p (Setpgid t q) reply) c) e

abbrev StepBy : List Row → Pid → Option NodeId → Site → ℕ → ℤ → Bag → Effect → Type 0
StepBy rows p at site t q bag x = IsStep rows (next rows x.entry) p (Ask (Setpgid t q) at) site bag (decided_by x) (written x bag)

-- a reply that leaves the table
quiet_reply : (rows : List Row) (p : Pid) (site : Site) (at : Option NodeId) (sig : Signals) (bag : Bag) (r : Row) (v : Vproc) (g : Group) (t : ℕ) (q : ℤ) (reply : Reply) → Settled rows p sig bag r v g → is_stopped r.life ≡ false →
    verdict rows (Called p (Setpgid t q) reply) ≡ Legal → after rows (Called p (Setpgid t q) reply) ≡ rows → is_placed (Some (Called p (Setpgid t q) reply)) ≡ false → ((before left : Bag) → nudges_of rows rows p before left (Some (Called p (Setpgid t q) reply)) ≡ []) →
    IsNoBirth (Some (Called p (Setpgid t q) reply)) → StepBy rows p at site t q bag (replied p (Setpgid t q) reply sig)
quiet_reply rows p site at sig bag r v g t q reply a alive legal table unplaced nobody born =
    reply_step rows p site at sig bag r v g (Setpgid t q) reply a alive record { legal = legal; table = table; sends = λ m c here living. nothing_sent rows p r t q reply c a.row; place = λ was here. refl; unplaced = unplaced; nobody = nobody; born = born }

-- who stays in its group is not nudged
nobody_moved : (p : Pid) (o : Option Row) → moved_nudges p o o ≡ []
nobody_moved p None = refl
nobody_moved p (Some c) = ap (λ (b : Bool). cond b [] (but_system p c.pid ++ but_system p c.parent)) (same_number c.group.0)

refused_table : (rows : List Row) (r : Row) (t : ℕ) (q : ℤ) (e : Errno) → after_setpgid rows r t q (Refused e) ≡ rows
refused_table rows r t (pos n) e = refl
refused_table rows r t (negsuc n) e = refl

-- ---- what no refusal tells
passed : (own ex l s : Bool) → early_by own ex l s ≡ None → (own ≡ true) × (s ≡ true)
passed false ex l s e = cc
passed true true l s e = cc
passed true false true s e = cc
passed true false false false e = cc
passed true false false true e = (refl, refl)

both_none : (o later : Option Errno) → first_of o later ≡ None → (o ≡ None) × (later ≡ None)
both_none None later e = (refl, e)
both_none (Some x) later e = cc

either : (a b : Bool) → (if not a && not b then Some EPERM else None) ≡ None → (a ≡ true) ⊎ (b ≡ true)
either true b e = inl refl
either false true e = inr refl
either false false e = cc

-- ---- a move
-- where a living process is held with its group, the group of its row is held
pub living_group : (rows : List Row) (bag : Bag) (q : Pid) (d : Row) → Agrees bag rows → row_of rows q ≡ Some d → is_living d.life ≡ true → EachHeld bag (with_living_group bag q) → is_some (group_at bag d.group) ≡ true
living_group rows bag q d a here living held = go (vproc_at bag q) refl held.0 held.1
  where
    go : (o : Option (Option Vproc)) → vproc_at bag q ≡ o → is_some o ≡ true → EachHeld bag (living_group_shown (present o)) → is_some (group_at bag d.group) ≡ true
    go None e h k = cc
    go (Some None) e h k = absurd (subst (VprocAgrees rows None) here (a.vprocs q None e))
    go (Some (Some y)) e h k =
        let is : IsRecordOf rows y d = own_record rows q bag d y a here e in
        let shown = subst (λ (b : Bool). EachHeld bag (cond b (G y.group ∷ []) [])) (ap is_living is.life ∙ living) k in
        subst (λ (i : Pid). is_some (group_at bag i) ≡ true) is.group shown.0

-- what a move asks, from what is held and no refusal
moves : (rows : List Row) (p : Pid) (sig : Signals) (bag : Bag) (r : Row) (v : Vproc) (g : Group) (t new : Pid) (u : Vproc) (c : Row) (old : Group) → Settled rows p sig bag r v g → Names rows bag p v r t u c → EachHeld bag (move_footprint bag v u new) →
    early_refusal v (Some u) ≡ None → group_refusal bag v t new ≡ None → group_at bag c.group ≡ Some (Some old) → (u.group.0 == new.0) ≡ false → Moves rows bag u c old (within_session u new)
moves rows p sig bag r v g t new u c old a n held early rest old_at differs = record {
  row = subst (λ (x : Pid). row_of rows x ≡ Some c) (sym n.is.pid) (row_own rows t c n.row);
  living = alive (is_pid r.pid c) refl facts.0;
  held = ap (vproc_at bag) at_t ∙ n.held;
  old_held = ap (group_at bag) n.is.group ∙ old_at;
  new_held = held.1.0;
  differs = eqb-false _ _ differs;
  session = λ h e. meets h e (either (is_same new t) (is_session_group v (group_in bag new)) rest);
  parent = up n.kin (is_same u.pid v.pid) refl (held_first bag (cond (is_same u.pid v.pid) (parent_name u) []) (living_children_footprint bag u) held.1.1);
  children = λ q d here e. (child q d here e).0;
  child_groups = λ q d here e living. living_group rows bag q d a.agrees here living (child q d here e);
}
  where
    of : IsRecordOf rows v r
    of = own_record rows p bag r v a.agrees a.row a.vproc

    child : (q : Pid) (d : Row) → row_of rows q ≡ Some d → d.parent.0 ≡ u.pid.0 → EachHeld bag (with_living_group bag q)
    child q d here e = held_flat bag (with_living_group bag) u.children q (held_later bag (cond (is_same u.pid v.pid) (parent_name u) []) (living_children_footprint bag u) held.1.1) (child_listed rows u c q d n.is here (e ∙ ap (λ (x : Pid). x.0) n.is.pid))

    at_p : v.pid ≡ p
    at_p = of.pid ∙ row_pid rows p r a.row

    at_t : u.pid ≡ t
    at_t = n.is.pid ∙ row_pid rows t c n.row

    facts : (kernel.is_own r c ≡ true) × (in_session r.session c ≡ true)
    facts = passed (kernel.is_own r c) (kernel.is_execed_child r c) (is_session_leader c) (in_session r.session c) (sym (early_is rows v u r c of n.is) ∙ early)

    alive : (b : Bool) → is_pid r.pid c ≡ b → (b || is_living_child r.pid c) ≡ true → is_living c.life ≡ true
    alive true e h =
        let same : c ≡ r = some_same c r (sym (row_own rows t c n.row) ∙ ap (row_of rows) (pid_same c.pid r.pid (eqb-true _ _ e)) ∙ row_own rows p r a.row) in
        ap (λ (x : Row). is_living x.life) same ∙ a.living
    alive false e h = right (is_parent r.pid c) (is_living c.life) h
      where
        right : (x y : Bool) → (x && y) ≡ true → y ≡ true
        right true y e = e
        right false y e = cc

    meets : (h : Group) → group_at bag new ≡ Some (Some h) → (is_same new t ≡ true) ⊎ (is_session_group v (group_in bag new) ≡ true) → h.session ≡ u.session
    meets h e (inl one) =
        let m = has_row rows new h (a.agrees.groups new (Some h) e) in
        let led : m.1.group.0 ≡ c.pid.0 = eqb-true _ _ m.3 ∙ eqb-true _ _ one ∙ ap (λ (x : Pid). x.0) (sym (row_pid rows t c n.row)) in
        sym ((a.agrees.groups new (Some h) e).1.session m.0 m.1 m.2 m.3) ∙ (a.sound.each t c n.row).led_session m.0 m.1 m.2 led ∙ sym n.is.session
    meets h e (inr ours) =
        let there : is_same h.session v.session ≡ true = ap (λ (o : Option (Option Group)). is_session_group v (present o)) (sym e) ∙ ours in
        pid_same h.session v.session (eqb-true _ _ there) ∙ of.session ∙ sym (pid_same c.session r.session (eqb-true _ _ facts.1)) ∙ sym n.is.session

    up : (t ≡ p) ⊎ (c.parent ≡ p) → (b : Bool) → is_same u.pid v.pid ≡ b → EachHeld bag (cond b (parent_name u) []) → (row_of rows c.parent ≡ None) ⊎ (is_some (vproc_at bag c.parent) ≡ true)
    up (inr child) b e h = inr (ap (λ (x : Pid). is_some (vproc_at bag x)) child ∙ ap is_some a.vproc)
    up (inl one) false e h = absurd (eqb-false _ _ e (ap (λ (x : Pid). x.0) (at_t ∙ one ∙ sym at_p)))
    up (inl one) true e h = pick (u.parent.0 == 1) refl h
      where
        pick : (x : Bool) → (u.parent.0 == 1) ≡ x → EachHeld bag (cond x [] (V u.parent ∷ [])) → (row_of rows c.parent ≡ None) ⊎ (is_some (vproc_at bag c.parent) ≡ true)
        pick true s k = inl (no_system rows c.parent a.sound (ap (λ (x : Pid). x.0) (sym n.is.parent) ∙ eqb-true _ _ s))
        pick false s k = inr (subst (λ (x : Pid). is_some (vproc_at bag x) ≡ true) n.is.parent k.0)

-- the session stays
moved_rows : (rows : List Row) (u : Vproc) (c : Row) (new : Pid) → AreDistinct rows → row_of rows u.pid ≡ Some c → u.session ≡ c.session → map (regrouped_at u.pid new) rows ≡ map (moved_at u.pid (within_session u new)) rows
moved_rows rows u c new d here e = map-same number (regrouped_at u.pid new) (moved_at u.pid (within_session u new)) rows (distinct rows d) (λ x at_x. pick x at_x (x.pid.0 == u.pid.0) refl)
  where
    pick : (x : Row) → row_of rows x.pid ≡ Some x → (b : Bool) → (x.pid.0 == u.pid.0) ≡ b → record x { group = cond b new x.group } ≡ record x { group = cond b new x.group; session = cond b u.session x.session }
    pick x at_x true s =
        let same : x ≡ c = some_same x c (sym at_x ∙ ap (row_of rows) (pid_same x.pid u.pid (eqb-true _ _ s)) ∙ here) in
        ap (λ (z : Pid). record x { group = new; session = z }) (ap (λ (y : Row). y.session) same ∙ sym e)
    pick x at_x false s = refl

-- a change to the same group changes nothing
unmoved : (rows : List Row) (u : Vproc) (c : Row) (new : Pid) → AreDistinct rows → row_of rows u.pid ≡ Some c → c.group ≡ new → u.session ≡ c.session → map (moved_at u.pid (within_session u new)) rows ≡ rows
unmoved rows u c new d here e es = map-same number (moved_at u.pid (within_session u new)) (λ x. x) rows (distinct rows d) (λ x at_x. pick x at_x (x.pid.0 == u.pid.0) refl) ∙ map-id rows
  where
    pick : (x : Row) → row_of rows x.pid ≡ Some x → (b : Bool) → (x.pid.0 == u.pid.0) ≡ b → moved_at u.pid (within_session u new) x ≡ x
    pick x at_x true s =
        let n : x.pid.0 ≡ u.pid.0 = eqb-true _ _ s in
        let same : x ≡ c = some_same x c (sym at_x ∙ ap (row_of rows) (pid_same x.pid u.pid n) ∙ here) in
        taken_to u.pid (within_session u new) x n ∙ ap (λ (z : Pid). record x { group = z; session = u.session }) (sym (ap (λ (y : Row). y.group) same ∙ e)) ∙ ap (λ (z : Pid). record x { session = z }) (es ∙ sym (ap (λ (y : Row). y.session) same))
    pick x at_x false s = still u.pid (within_session u new) x (eqb-false _ _ s)

-- the one that moves and its parent are nudged
nudges_are : (rows : List Row) (p : Pid) (t : ℕ) (u : Vproc) (c : Row) (new : Pid) → IsRecordOf rows u c → row_of rows u.pid ≡ Some c → (u.group.0 == new.0) ≡ false → named_by p t ≡ u.pid →
    but_system p u.pid ++ but_system p u.parent ≡ moved_nudges p (row_of rows (named_by p t)) (row_of (map (moved_at u.pid (within_session u new)) rows) (named_by p t))
nudges_are rows p t u c new of here differs named =
    let now : row_of (map (moved_at u.pid (within_session u new)) rows) u.pid ≡ Some (record c { group = new; session = u.session }) =
    row_later rows u.pid (within_session u new) u.pid ∙ ap (option_map (moved_at u.pid (within_session u new))) here ∙ ap Some (taken_to u.pid (within_session u new) c (found number u.pid.0 rows c here)) in
    ap (λ (i : Pid). but_system p i ++ but_system p u.parent) of.pid ∙ ap (λ (i : Pid). but_system p c.pid ++ but_system p i) of.parent
    ∙ sym (ap (λ (i : Pid). moved_nudges p (row_of rows i) (row_of (map (moved_at u.pid (within_session u new)) rows) i)) named
    ∙ ap (λ (o : Option Row). moved_nudges p o (row_of (map (moved_at u.pid (within_session u new)) rows) u.pid)) here ∙ ap (moved_nudges p (Some c)) now
    ∙ ap (λ (b : Bool). cond b [] (but_system p c.pid ++ but_system p c.parent)) (ap (λ (i : Pid). i.0 == new.0) (sym of.group) ∙ differs))

-- ---- the decision
group_present : (bag : Bag) (id : Pid) (g : Group) → group_at bag id ≡ Some (Some g) → group_in bag id ≡ Some g
group_present bag id g e = ap present e

parts_none : (bag : Bag) (v : Vproc) (t new : Pid) → refusal_by bag v t new ≡ None → (early_refusal v (target_in bag v t) ≡ None) × (group_refusal bag v t new ≡ None)
parts_none bag v t new e = both_none (early_refusal v (target_in bag v t)) (group_refusal bag v t new) e

legal_fine : (rows : List Row) (p : Pid) (sig : Signals) (bag : Bag) (r : Row) (v : Vproc) (g : Group) (t n : ℕ) → Settled rows p sig bag r v g → is_stopped r.life ≡ false → deliverable sig ≡ 0 →
    EachHeld bag (setpgid_footprint bag v t (pos n)) → setpgid_refusal bag v t (pos n) ≡ None → verdict rows (setpgid_entry p t (pos n)) ≡ Legal
legal_fine rows p sig bag r v g t n a alive clear held none =
    legal_call rows p r (Setpgid t (pos n)) Fine a.row a.living (able rows p sig bag r v g a alive clear) (allowed rows r t (pos n) None (sym (refusal_is rows p sig bag r v g t (pos n) a held) ∙ none) a.sound.distinct)

table_moved : (rows : List Row) (p : Pid) (r : Row) (v : Vproc) (t n : ℕ) (q : Pid) → row_of rows p ≡ Some r → v.pid ≡ r.pid → q ≡ target_pid v t → after rows (setpgid_entry p t (pos n)) ≡ map (regrouped_at q (wanted_group v t n)) rows
table_moved rows p r v t n q here same e =
    ap (λ o. after_at rows o (setpgid_entry p t (pos n))) here
    ∙ ap (λ (x : Pid). map (regrouped_at x (kernel.wanted_group r t n)) rows) (sym (target_same v r t same) ∙ sym e)
    ∙ ap (λ (x : Pid). map (regrouped_at q x) rows) (sym (wanted_same v r t n same))

-- what the move needs is held
rest_held : (bag : Bag) (v u : Vproc) (t new : Pid) → target_in bag v t ≡ Some u → early_refusal v (target_in bag v t) ≡ None → EachHeld bag (regroup_footprint bag v t new) → EachHeld bag (move_footprint bag v u new)
rest_held bag v u t new e none held =
    subst (λ (o : Option Vproc). EachHeld bag (move_footprint_of bag v o new)) e
    (subst (λ (o : Option Errno). EachHeld bag (cond (is_some o) [] (move_footprint_of bag v (target_in bag v t) new))) none
    (held_later bag (cond (is_same t v.pid || has_child v t) (V t ∷ []) []) _ held))

-- a target that is named and not refused
moved_to : (rows : List Row) (p : Pid) (site : Site) (at : Option NodeId) (sig : Signals) (bag : Bag) (r : Row) (v : Vproc) (g : Group) (t : ℕ) (q : ℤ) (target new : Pid) (u : Vproc) (c : Row) (old : Group) →
    Settled rows p sig bag r v g → is_stopped r.life ≡ false → Names rows bag p v r target u c → EachHeld bag (move_footprint bag v u new) → early_refusal v (Some u) ≡ None → group_refusal bag v target new ≡ None → group_at bag c.group ≡ Some (Some old) → named_by p t ≡ target →
    verdict rows (setpgid_entry p t q) ≡ Legal → after rows (setpgid_entry p t q) ≡ map (moved_at u.pid (within_session u new)) rows → (b : Bool) → is_same u.group new ≡ b →
    StepBy rows p at site t q bag (if b then replied p (Setpgid t q) Fine sig else move (setpgid_entry p t q) bag sig p u old (within_session u new))
moved_to rows p site at sig bag r v g t q target new u c old a alive m held early rest e is_named legal table true s =
    quiet_reply rows p site at sig bag r v g t q Fine a alive legal
    (table ∙ unmoved rows u c new a.sound.distinct (subst (λ (x : Pid). row_of rows x ≡ Some c) (sym m.is.pid) (row_own rows target c m.row)) (sym m.is.group ∙ pid_same u.group new (eqb-true _ _ s)) m.is.session)
    refl (λ before left. nobody_moved p (row_of rows (named_by p t))) tt
moved_to rows p site at sig bag r v g t q target new u c old a alive m held early rest e is_named legal table false s =
    subst (λ (now : List Row). IsStep rows now p (Ask (Setpgid t q) at) site bag (decided_by (move (setpgid_entry p t q) bag sig p u old (within_session u new))) (written (move (setpgid_entry p t q) bag sig p u old (within_session u new)) bag)) (sym table)
    (move_law rows p site at sig bag r v g (Setpgid t q) Fine u c old (within_session u new) a (moves rows p sig bag r v g target new u c old a m held early rest e s) alive record {
      legal = legal;
      table = table;
      sends = λ d. nothing_sent rows p r t q Fine d a.row;
      nudges = λ before left. nudges_are rows p t u c new m.is (subst (λ (x : Pid). row_of rows x ≡ Some c) (sym m.is.pid) (row_own rows target c m.row)) s (is_named ∙ sym (m.is.pid ∙ row_pid rows target c m.row));
      place = λ was here. refl;
      unplaced = refl;
      born = tt;
    })

found_step : (rows : List Row) (p : Pid) (site : Site) (at : Option NodeId) (sig : Signals) (bag : Bag) (r : Row) (v : Vproc) (g : Group) (t : ℕ) (q : ℤ) (target new : Pid) (u : Vproc) (c : Row) →
    Settled rows p sig bag r v g → is_stopped r.life ≡ false → Names rows bag p v r target u c → EachHeld bag (move_footprint bag v u new) → early_refusal v (target_in bag v target) ≡ None → group_refusal bag v target new ≡ None → named_by p t ≡ target →
    verdict rows (setpgid_entry p t q) ≡ Legal → after rows (setpgid_entry p t q) ≡ map (moved_at u.pid (within_session u new)) rows → StepBy rows p at site t q bag (move_of bag sig p t q new (target_in bag v target))
found_step rows p site at sig bag r v g t q target new u c a alive m held early rest is_named legal table =
    let old = group_of_row rows bag target c a.agrees m.row (subst (λ (x : Pid). is_some (group_at bag x) ≡ true) m.is.group held.0) in
    subst (λ (o : Option Vproc). StepBy rows p at site t q bag (move_of bag sig p t q new o)) (sym m.target)
    (subst (λ (o : Option Group). StepBy rows p at site t q bag (move_from bag sig p t q u new o)) (sym (ap (group_in bag) m.is.group ∙ group_present bag c.group old.0 old.1))
    (moved_to rows p site at sig bag r v g t q target new u c old.0 a alive m held (ap (early_refusal v) (sym m.target) ∙ early) rest old.1 is_named legal table (is_same u.group new) refl))

named_case : (rows : List Row) (p : Pid) (site : Site) (at : Option NodeId) (sig : Signals) (bag : Bag) (r : Row) (v : Vproc) (g : Group) (t n : ℕ) → Settled rows p sig bag r v g → is_stopped r.life ≡ false → deliverable sig ≡ 0 →
    EachHeld bag (setpgid_footprint bag v t (pos n)) → setpgid_refusal bag v t (pos n) ≡ None → (u : Vproc) (c : Row) → Names rows bag p v r (target_pid v t) u c →
    StepBy rows p at site t (pos n) bag (move_of bag sig p t (pos n) (wanted_group v t n) (target_in bag v (target_pid v t)))
named_case rows p site at sig bag r v g t n a alive clear held none u c m =
    let parts = parts_none bag v (target_pid v t) (wanted_group v t n) none in
    let of : IsRecordOf rows v r = own_record rows p bag r v a.agrees a.row a.vproc in
    found_step rows p site at sig bag r v g t (pos n) (target_pid v t) (wanted_group v t n) u c a alive m (rest_held bag v u (target_pid v t) (wanted_group v t n) m.target parts.0 held) parts.0 parts.1 (ap (λ (i : Pid). cond (t == 0) i (pid t)) (sym (of.pid ∙ row_pid rows p r a.row)))
    (legal_fine rows p sig bag r v g t n a alive clear held none)
    (table_moved rows p r v t n u.pid a.row (own_record rows p bag r v a.agrees a.row a.vproc).pid (m.is.pid ∙ row_pid rows (target_pid v t) c m.row)
    ∙ moved_rows rows u c (wanted_group v t n) a.sound.distinct (subst (λ (x : Pid). row_of rows x ≡ Some c) (sym m.is.pid) (row_own rows (target_pid v t) c m.row)) m.is.session)

stranger_refused : (bag : Bag) (v : Vproc) (t n : ℕ) → setpgid_refusal bag v t (pos n) ≡ None → target_in bag v (target_pid v t) ≡ None → ⊥
stranger_refused bag v t n none away = let no : Some ESRCH ≡ None = ap (early_refusal v) (sym away) ∙ (parts_none bag v (target_pid v t) (wanted_group v t n) none).0 in cc

named_or : {Z : Type 0} (rows : List Row) (bag : Bag) (p : Pid) (v : Vproc) (r : Row) (q : Pid) → ((u : Vproc) (c : Row) → Names rows bag p v r q u c → Z) → (target_in bag v q ≡ None → ⊥) →
    ((u : Vproc) × (c : Row) × Names rows bag p v r q u c) ⊎ ((target_in bag v q ≡ None) × (is_same q v.pid ≡ false) × (has_child v q ≡ false)) → Z
named_or rows bag p v r q f away (inl x) = f x.0 x.1 x.2
named_or rows bag p v r q f away (inr x) = absurd (away x.0)

-- where nothing refuses
moved_step : (rows : List Row) (p : Pid) (site : Site) (at : Option NodeId) (sig : Signals) (bag : Bag) (r : Row) (v : Vproc) (g : Group) (t n : ℕ) → Settled rows p sig bag r v g → is_stopped r.life ≡ false → deliverable sig ≡ 0 →
    EachHeld bag (setpgid_footprint bag v t (pos n)) → setpgid_refusal bag v t (pos n) ≡ None →
    StepBy rows p at site t (pos n) bag (move_of bag sig p t (pos n) (wanted_group v t n) (target_in bag v (target_pid v t)))
moved_step rows p site at sig bag r v g t n a alive clear held none =
    named_or rows bag p v r (target_pid v t) (λ u c m. named_case rows p site at sig bag r v g t n a alive clear held none u c m) (stranger_refused bag v t n none)
    (named rows p sig bag r v g (target_pid v t) (wanted_group v t n) a held)

refused_step : (rows : List Row) (p : Pid) (site : Site) (at : Option NodeId) (sig : Signals) (bag : Bag) (r : Row) (v : Vproc) (g : Group) (t : ℕ) (q : ℤ) (e : Errno) → Settled rows p sig bag r v g → is_stopped r.life ≡ false → deliverable sig ≡ 0 →
    EachHeld bag (setpgid_footprint bag v t q) → setpgid_refusal bag v t q ≡ Some e → StepBy rows p at site t q bag (replied p (Setpgid t q) (Refused e) sig)
refused_step rows p site at sig bag r v g t q e a alive clear held s =
    quiet_reply rows p site at sig bag r v g t q (Refused e) a alive
    (legal_call rows p r (Setpgid t q) (Refused e) a.row a.living (able rows p sig bag r v g a alive clear) (allowed rows r t q (Some e) (sym (refusal_is rows p sig bag r v g t q a held) ∙ s) a.sound.distinct))
    (ap (λ o. after_at rows o (Called p (Setpgid t q) (Refused e))) a.row ∙ refused_table rows r t q e) refl (λ before left. refl) tt

setpgid_step : (rows : List Row) (p : Pid) (site : Site) (at : Option NodeId) (sig : Signals) (bag : Bag) (r : Row) (v : Vproc) (g : Group) (t : ℕ) (q : ℤ) → Settled rows p sig bag r v g → is_stopped r.life ≡ false → deliverable sig ≡ 0 →
    EachHeld bag (setpgid_footprint bag v t q) → (o : Option Errno) → setpgid_refusal bag v t q ≡ o → StepBy rows p at site t q bag (unless_refused o p (Setpgid t q) sig (moved_by bag sig p v t q))
setpgid_step rows p site at sig bag r v g t q a alive clear held (Some e) s = refused_step rows p site at sig bag r v g t q e a alive clear held s
setpgid_step rows p site at sig bag r v g t (negsuc n) a alive clear held None s = cc
setpgid_step rows p site at sig bag r v g t (pos n) a alive clear held None s = moved_step rows p site at sig bag r v g t n a alive clear held s

-- setpgid is a step of the one kernel
pub setpgid_is_step : (t : ℕ) (q : ℤ) → IsCallStep (Setpgid t q) (λ bag sig p v. setpgid_effect bag sig p v t q)
setpgid_is_step t q rows p site at sig bag r v g a alive clear held = setpgid_step rows p site at sig bag r v g t q a alive clear held (setpgid_refusal bag v t q) refl
