-- a waitpid, as the code makes it, is the whole decision
use Rattle.std.proofs.Common.{◌≡◌, ◌==◌, ◌≤◌, ◌++◌, ℤ, Bool, true, false, cond, not, List, [], ◌∷◌, length, refl, sym, ap, ◌∙◌, subst, Option, None, Some, IsSome, All, if◌then◌else◌}
use Rattle.std.specs.Prelude.{find, is_some}
use Rattle.std.specs.Option.{option_map}
use Rattle.std.specs.List.{list_any}
use Rattle.std.proofs.lemmas.List.Elements.{All-filter}
use Rattle.list_laws.proofs.Filters.{some_same}
use Rattle.unix_names.specs.declared.Pid.{Pid}
use Rattle.unix_names.specs.declared.Name.{Name}
use Rattle.unix_names.specs.declared.Name.TheVariants.{G}
use Rattle.unix_names.specs.declared.WaitStatus.{WaitStatus}
use Rattle.unix_names.specs.States.{is_living}
use Rattle.unix_calls.specs.declared.Call.{Call}
use Rattle.unix_calls.specs.declared.Call.TheVariants.{Waitpid}
use Rattle.unix_calls.specs.declared.Entry.TheVariants.{Called}
use Rattle.unix_calls.specs.declared.Phase.TheVariants as phase
use Rattle.unix_calls.specs.declared.Selector.{Selector}
use Rattle.unix_calls.specs.Calls.{selector_of}
use Rattle.signal_state.specs.Signals.{Signals}
use Rattle.signal_state.specs.declared.Own.{Own}
use Rattle.vproc_record.specs.declared.Vproc.{Vproc}
use Rattle.group_record.specs.declared.Member.{Member}
use Rattle.group_record.specs.declared.Group.{Group}
use Rattle.group_record.specs.Groups.{left}
use Rattle.record_bag.specs.declared.bag.Bag.{Bag}
use Rattle.record_bag.specs.declared.vector.Outcome.{Outcome}
use Rattle.record_bag.specs.declared.vector.Outcome.TheVariants as outcome
use Rattle.record_bag.specs.Bags.{present, vproc_in}
use Rattle.record_bag.specs.Decisions.{answered}
use Rattle.process_table.specs.declared.Row.{Row}
use Rattle.process_table.specs.Rows.{row_of}
use Rattle.kernel_rules.specs.Wait.{report_of}
use Rattle.decide_law.proofs.Records.{row_pid}
use Rattle.decide_law.specs.Agrees.{vproc_at, group_at, VprocAgrees, Agrees}
use Rattle.decide_law.specs.Base.{HasBase}
use Rattle.decide_law.specs.Counts.{passes}
use Rattle.decide_law.specs.Told.{selects, is_ready, record_in, first_child}
use Rattle.unix_names.specs.declared.Errno.TheVariants.{ECHILD}
use Rattle.unix_calls.specs.declared.Reply.TheVariants.{Refused}
use Rattle.decide_law.specs.Effects.{replied, changed, folded, emptied, settled_in, trimmed_in, done_by, unless_empty_by}
use Rattle.decide_law.specs.Footprints.{lacking, is_none, selected_footprint, ended_group_shown, wait_footprint}
use Rattle.decide_law.specs.MethodNeeds.{wanted}
use Rattle.decide_law.specs.Parts.{EachHeld, decide_by}
use Rattle.decide_law.proofs.Changes.{group_changed}
use Rattle.decide_law.proofs.Held.{none_lacks, lacks_none, held_first, held_later}
use Rattle.decide_law.proofs.NeedParts.{wanted_none, call_held}
use Rattle.decide_law.proofs.Gathered.{wanted_more}
use Rattle.decide_law.proofs.PutBack.{base_emptied}
use Rattle.decide_law.proofs.RoundParts.{parts_whole}
use Rattle.decide_law.proofs.SettledFootprints.{lacking_same, wait_footprint_same}
use Rattle.decide_law.proofs.Shell.{settled_agree}
use Rattle.decide_law.specs.Vector.{IsFitting}
use Rattle.ops_exit_wait.specs.declared.findings.Found.{Found}
use Rattle.ops_exit_wait.specs.declared.findings.Found.TheVariants.{NoChild, Nothing, Change, End}
use Rattle.ops_exit_wait.specs.Waitpid.{leaves, has_match, tell, take, report, report_first, wait_effect}
use Rattle.ops_exit_wait.specs.Decide.{effect_of}
use Rattle.ops_exit_wait.specs.MethodWaitpid.{finding_of, first_finding, finding, reply_by, vprocs_by, groups_by, effect_by, CanTell}

-- ---- the effect is that of what is found
found_of : (sig : Signals) (p : Pid) (call : Call) (u : Vproc) (o : Option WaitStatus) → report sig p call u o ≡ effect_by sig p call (finding_of u o)
found_of sig p call u None = refl
found_of sig p call u (Some w) = go (is_living u.life)
  where
    go : (b : Bool) → (if b then tell sig p call u w else take sig p call u w) ≡ effect_by sig p call (if b then Change u.pid w else End u.pid u.group w)
    go true = refl
    go false = refl

found_first : (sig : Signals) (p : Pid) (call : Call) (stopped continued : Bool) (o : Option Vproc) → report_first sig p call stopped continued o ≡ effect_by sig p call (first_finding stopped continued o)
found_first sig p call stopped continued None = refl
found_first sig p call stopped continued (Some u) = found_of sig p call u (report_of u.life u.change stopped continued)

pub found_effect : (bag : Bag) (sig : Signals) (p : Pid) (v : Vproc) (sel : ℤ) (stopped continued : Bool) → wait_effect bag sig p v sel stopped continued ≡ effect_by sig p (Waitpid sel stopped continued) (finding bag v (selector_of sel) stopped continued)
found_effect bag sig p v sel stopped continued = go (has_match bag v sel) (first_child bag v (is_ready v (selector_of sel) stopped continued))
  where
    go : (b : Bool) (o : Option Vproc) → (if not b then replied p (Waitpid sel stopped continued) (Refused ECHILD) sig else report_first sig p (Waitpid sel stopped continued) stopped continued o) ≡ effect_by sig p (Waitpid sel stopped continued) (if not b then NoChild else first_finding stopped continued o)
    go true o = found_first sig p (Waitpid sel stopped continued) stopped continued o
    go false o = refl

-- ---- names
-- where one of the named children lacks
pub names_selected : (bag : Bag) (v : Vproc) (sel : Selector) (stopped continued : Bool) (names : List Name) → names ≡ wanted bag (selected_footprint v sel) [] → is_none names ≡ false → names ≡ wanted bag (wait_footprint bag v sel stopped continued) []
names_selected bag v sel stopped continued names is some =
    is ∙ sym (wanted_more bag (selected_footprint v sel) [] [])
    ∙ sym (ap (λ (b : Bool). wanted bag (selected_footprint v sel ++ (if b then ended_group_shown (first_child bag v (is_ready v sel stopped continued)) else [])) []) (sym (wanted_none bag (selected_footprint v sel)) ∙ sym (ap is_none is) ∙ some))

-- where each is held
pub names_all : (bag : Bag) (v : Vproc) (sel : Selector) (stopped continued : Bool) (names later : List Name) → names ≡ wanted bag (selected_footprint v sel) [] → is_none names ≡ true → later ≡ wanted bag (ended_group_shown (first_child bag v (is_ready v sel stopped continued))) names →
    later ≡ wanted bag (wait_footprint bag v sel stopped continued) []
names_all bag v sel stopped continued names later is none more =
    more ∙ ap (wanted bag (ended_group_shown (first_child bag v (is_ready v sel stopped continued)))) is
    ∙ sym (wanted_more bag (selected_footprint v sel) (ended_group_shown (first_child bag v (is_ready v sel stopped continued))) [])
    ∙ sym (ap (λ (b : Bool). wanted bag (selected_footprint v sel ++ (if b then ended_group_shown (first_child bag v (is_ready v sel stopped continued)) else [])) []) (sym (wanted_none bag (selected_footprint v sel)) ∙ sym (ap is_none is) ∙ none))

-- ---- what is to be written is held
-- a record that is held is that of its name
named : (rows : List Row) (bag : Bag) (q : Pid) (u : Vproc) → Agrees bag rows → vproc_at bag q ≡ Some (Some u) → u.pid ≡ q
named rows bag q u a e = go (row_of rows q) refl (a.vprocs q (Some u) e)
  where
    go : (o : Option Row) → row_of rows q ≡ o → VprocAgrees rows (Some u) o → u.pid ≡ q
    go None s k = absurd k
    go (Some x) s k = k.pid ∙ row_pid rows q x s

present_some : {T : Type 0} (o : Option (Option T)) (x : T) → present o ≡ Some x → o ≡ Some (Some x)
present_some None x e = cc
present_some (Some h) x e = ap Some e

record_held : (rows : List Row) (bag : Bag) (o : Option Pid) (u : Vproc) → Agrees bag rows → record_in bag o ≡ Some u → IsSome (vproc_at bag u.pid)
record_held rows bag None u a e = cc
record_held rows bag (Some q) u a e =
    let held = present_some (vproc_at bag q) u e in
    subst IsSome (sym (ap (vproc_at bag) (named rows bag q u a held) ∙ held)) refl

some_is : {T : Type 0} (o : Option T) → is_some o ≡ true → IsSome o
some_is None e = cc
some_is (Some x) e = refl

tells_of : (bag : Bag) (p : Pid) (u : Vproc) (o : Option WaitStatus) → IsSome (vproc_at bag p) → IsSome (vproc_at bag u.pid) → EachHeld bag (ended_group_shown (Some u)) → CanTell bag p (finding_of u o)
tells_of bag p u None own held group = tt
tells_of bag p u (Some w) own held group = go (is_living u.life) group
  where
    go : (b : Bool) → EachHeld bag (if b then [] else G u.group ∷ []) → CanTell bag p (if b then Change u.pid w else End u.pid u.group w)
    go true h = held
    go false h = (own, held, some_is (group_at bag u.group) h.0)

pub can_tell : (rows : List Row) (bag : Bag) (p : Pid) (v : Vproc) (sel : Selector) (stopped continued : Bool) → Agrees bag rows → IsSome (vproc_at bag p) → EachHeld bag (wait_footprint bag v sel stopped continued) → CanTell bag p (finding bag v sel stopped continued)
can_tell rows bag p v sel stopped continued a own held = go (list_any (λ c. passes (selects v sel) (vproc_in bag c)) v.children) (first_child bag v (is_ready v sel stopped continued)) refl shown
  where
    shown : EachHeld bag (ended_group_shown (first_child bag v (is_ready v sel stopped continued)))
    shown =
        subst (λ (l : List Name). EachHeld bag (if is_none l then ended_group_shown (first_child bag v (is_ready v sel stopped continued)) else [])) (lacks_none bag (selected_footprint v sel) (held_first bag (selected_footprint v sel) _ held))
        (held_later bag (selected_footprint v sel) _ held)

    go : (b : Bool) (o : Option Vproc) → first_child bag v (is_ready v sel stopped continued) ≡ o → EachHeld bag (ended_group_shown o) → CanTell bag p (if not b then NoChild else first_finding stopped continued o)
    go false o e h = tt
    go true None e h = tt
    go true (Some u) e h = tells_of bag p u (report_of u.life u.change stopped continued) own (record_held rows bag (find (λ c. passes (is_ready v sel stopped continued) (vproc_in bag c)) v.children) u a e) h

lacks_of : (l : List Name) → is_none l ≡ true → l ≡ []
lacks_of [] e = refl
lacks_of (n ∷ ns) e = cc

-- where the code gathered no name, and the caller is settled
pub settled_tells : (p : Pid) (own : Own) (bag settled : Bag) (sel : Selector) (stopped continued : Bool) (names : List Name) (base : HasBase own p bag) → IsFitting p own bag → settled ≡ settled_in p base.vproc.group bag → names ≡ wanted bag (wait_footprint bag base.vproc sel stopped continued) [] → is_none names ≡ true →
    CanTell settled p (finding settled (emptied base.vproc) sel stopped continued)
settled_tells p own bag settled sel stopped continued names base fit was is none =
    subst (λ (b : Bag). CanTell b p (finding b (emptied base.vproc) sel stopped continued)) (sym was)
    (can_tell fit.fits.rows (settled_in p base.vproc.group bag) p (emptied base.vproc) sel stopped continued (settled_agree fit.fits.rows p base.vproc.group bag fit.fits.asks.agrees)
    (subst IsSome (sym (base_emptied own p bag (settled_in p base.vproc.group bag) base refl)) refl)
    (none_lacks (settled_in p base.vproc.group bag) (wait_footprint (settled_in p base.vproc.group bag) (emptied base.vproc) sel stopped continued)
    (ap (lacking (settled_in p base.vproc.group bag)) (wait_footprint_same p base.vproc.group bag base.vproc sel stopped continued)
    ∙ lacking_same p base.vproc.group bag (wait_footprint bag base.vproc sel stopped continued)
    ∙ lacks_of (lacking bag (wait_footprint bag base.vproc sel stopped continued)) (sym (wanted_none bag (wait_footprint bag base.vproc sel stopped continued)) ∙ sym (ap is_none is) ∙ none))))

-- ---- the caller's group is held, and its members' parts begin within its log
held_by : (bag : Bag) (p id : Pid) (f : Found) → IsSome (group_at bag id) → IsSome (group_at (changed (vprocs_by p f) (groups_by f) bag) id)
held_by bag p id f h = subst IsSome (sym (group_changed (vprocs_by p f) (groups_by f) bag id)) (go (group_at bag id) h)
  where
    go : (o : Option (Option Group)) → IsSome o → IsSome (option_map (groups_by f id) o)
    go None e = e
    go (Some x) e = refl

pub told_held : (bag wrote : Bag) (p id : Pid) (f : Found) → wrote ≡ changed (vprocs_by p f) (groups_by f) bag → IsSome (group_at bag id) → IsSome (group_at wrote id)
told_held bag wrote p id f is h = subst (λ (b : Bag). IsSome (group_at b id)) (sym is) (held_by bag p id f h)

abbrev Within : Group → Type 0
Within g = All (λ m. m.from ≤ length g.log) g.members

left_within : (c : Pid) (h : Option Group) (g : Group) → ((x : Group) → h ≡ Some x → Within x) → leaves c h ≡ Some g → Within g
left_within c None g k e = cc
left_within c (Some x) g k e = go (left x c).members e
  where
    rest : Within (left x c)
    rest = All-filter (λ m. not (m.pid.0 == c.0)) (λ m. m.from ≤ length x.log) x.members (k x refl)

    go : (ms : List Member) → unless_empty_by ms (left x c) ≡ Some g → Within g
    go [] e = cc
    go (m ∷ ms) e = subst Within (some_same _ _ e) rest

told_within_by : (id : Pid) (f : Found) (h : Option Group) (g : Group) → ((x : Group) → h ≡ Some x → Within x) → groups_by f id h ≡ Some g → Within g
told_within_by id NoChild h g k e = k g e
told_within_by id Nothing h g k e = k g e
told_within_by id (Change c w) h g k e = k g e
told_within_by id (End c q w) h g k e = go (id.0 == q.0) e
  where
    go : (b : Bool) → cond b (leaves c h) h ≡ Some g → Within g
    go true s = left_within c h g k s
    go false s = k g s

pub told_within : (bag wrote : Bag) (p id : Pid) (f : Found) → wrote ≡ changed (vprocs_by p f) (groups_by f) bag → ((x : Group) → group_at bag id ≡ Some (Some x) → Within x) → (g : Group) → group_at wrote id ≡ Some (Some g) → Within g
told_within bag wrote p id f is k g e = go (group_at bag id) refl (sym (ap (λ (b : Bag). group_at b id) is ∙ group_changed (vprocs_by p f) (groups_by f) bag id) ∙ e)
  where
    go : (o : Option (Option Group)) → group_at bag id ≡ o → option_map (groups_by f id) o ≡ Some (Some g) → Within g
    go None s m = cc
    go (Some h) s m = told_within_by id f h g (λ x same. k x (s ∙ ap Some same)) (some_same _ _ m)

-- ---- the whole
pub wait_whole : (p id : Pid) (sel : ℤ) (stopped continued : Bool) (own taken : Own) (bag settled wrote left : Bag) (base : HasBase own p bag) (f : Found) (names : List Name) (o : Outcome) → id ≡ base.vproc.group → settled ≡ settled_in p base.vproc.group bag → taken ≡ folded own base.vproc base.group →
    f ≡ finding settled (emptied base.vproc) (selector_of sel) stopped continued → wrote ≡ changed (vprocs_by p f) (groups_by f) settled → left ≡ trimmed_in id wrote → names ≡ wanted bag (wait_footprint bag base.vproc (selector_of sel) stopped continued) [] → is_none names ≡ true →
    o ≡ outcome.Done (record { entry = Some (Called p (Waitpid sel stopped continued) (reply_by f)); own = taken; phase = phase.Ready; born = None; nudges = [] }) →
    answered o left ≡ decide_by (Waitpid sel stopped continued) (effect_of (Waitpid sel stopped continued)) p own bag
wait_whole p id sel stopped continued own taken bag settled wrote left base f names o at was took found writes trimmed is none out =
    let sig = (folded own base.vproc base.group).sig in
    let call : Call = Waitpid sel stopped continued in
    let effect : effect_by sig p call f ≡ wait_effect (settled_in p base.vproc.group bag) sig p (emptied base.vproc) sel stopped continued =
    ap (effect_by sig p call) (found ∙ ap (λ (b : Bag). finding b (emptied base.vproc) (selector_of sel) stopped continued) was) ∙ sym (found_effect (settled_in p base.vproc.group bag) sig p (emptied base.vproc) sel stopped continued) in
    parts_whole (effect_by sig p call f) p id base.vproc o bag settled wrote left at was writes trimmed
    (out ∙ ap (λ (x : Own). outcome.Done (record { entry = Some (Called p call (reply_by f)); own = x; phase = phase.Ready; born = None; nudges = [] })) took)
    ∙ ap (done_by p base.vproc bag) effect
    ∙ call_held call (effect_of call) p own bag base.vproc base.group names base.vproc_is base.group_is is none
