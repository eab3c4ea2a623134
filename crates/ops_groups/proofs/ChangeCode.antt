-- the change that the code makes of a bag is what the call's effect writes
use Rattle.std.proofs.Common.{◌≡◌, ◌≤◌, ◌++◌, ◌&&◌, ℕ, ℤ, pos, negsuc, Bool, true, false, cond, List, [], ◌∷◌, length, refl, sym, ap, ◌∙◌, subst, arith, Option, None, Some, IsSome, All, Bor}
use Rattle.std.specs.Prelude.{not, ◌==◌, is_some, IfOk, Result, Ok, Err}
use Rattle.std.specs.Option.{option_map, option_copied}
use Rattle.std.proofs.lemmas.List.Elements.{All-nil, All-cons, All-filter, All-append}
use Rattle.list_laws.proofs.Filters.{some_same}
use Rattle.unix_names.specs.declared.Pid.{Pid}
use Rattle.unix_names.specs.declared.Name.{Name}
use Rattle.unix_names.specs.declared.Errno.{Errno}
use Rattle.unix_names.specs.declared.Errno.TheVariants.{EPERM}
use Rattle.unix_calls.specs.declared.Call.{Call}
use Rattle.unix_calls.specs.declared.Call.TheVariants.{Setpgid, Setsid}
use Rattle.unix_calls.specs.declared.Reply.{Reply}
use Rattle.unix_calls.specs.declared.Reply.TheVariants.{Fine, Refused}
use Rattle.unix_calls.specs.declared.Entry.TheVariants.{Called}
use Rattle.signal_state.specs.Signals.{Signals}
use Rattle.signal_state.specs.declared.Own.{Own}
use Rattle.vproc_record.specs.declared.Vproc.{Vproc}
use Rattle.group_record.specs.declared.Member.{Member}
use Rattle.group_record.specs.declared.Group.{Group}
use Rattle.record_bag.specs.declared.bag.Bag.{Bag}
use Rattle.record_bag.specs.declared.vector.Outcome.{Outcome}
use Rattle.record_bag.specs.declared.vector.Outcome.TheVariants as outcome
use Rattle.record_bag.specs.Bags.{present, vproc_in, group_in}
use Rattle.record_bag.specs.Decisions.{answered}
use Rattle.process_table.specs.Rows.{is_same}
use Rattle.decide_law.specs.Agrees.{vproc_at, group_at}
use Rattle.decide_law.specs.Base.{HasBase, folded_on, folded_by, folded_in}
use Rattle.decide_law.specs.Effects.{only, emptied, settled_for, folded, settled_in, trimmed_in, replied, unless_refused, regroups, or_empty, unless_empty_by, done_by}
use Rattle.decide_law.specs.Footprints.{is_none, call_footprint}
use Rattle.decide_law.specs.MethodNeeds.{wanted}
use Rattle.decide_law.specs.Nudges.{but_system}
use Rattle.decide_law.specs.Parts.{decide_by}
use Rattle.decide_law.specs.Told.{target_pid, wanted_group, target_in, is_session_group, early_refusal}
use Rattle.decide_law.proofs.Changes.{group_changed}
use Rattle.decide_law.proofs.NeedParts.{call_held}
use Rattle.decide_law.proofs.PutBack.{same_bag}
use Rattle.decide_law.proofs.Records.{only_same}
use Rattle.decide_law.proofs.RoundParts.{parts_whole}
use Rattle.decide_law.proofs.SettledFootprints.{seen}
use Rattle.decide_law.proofs.SettledGroups.{group_view_same}
use Rattle.ops_groups.specs.Decide.{effect_of}
use Rattle.ops_groups.specs.Move.{GroupInSession, moved_vproc, moved_group, moved_members, move}
use Rattle.ops_groups.specs.Setsid.{led_from, setsid_effect}
use Rattle.ops_groups.specs.Setpgid.{first_of, setpgid_entry, within_session, setpgid_refusal, move_from, move_of, moved_by, setpgid_effect}
use Rattle.ops_groups.specs.MethodMove.{named_group, moved_bag, backlog_taken, group_settled, decided_as, IsWithin, ChangesAs}
use Rattle.ops_groups.specs.declared.moves.Change.{Change}
use Rattle.ops_groups.proofs.MovedCode.{some_there}

-- ---- clauses
-- one that speaks of a success alone
pub if_ok : {T E : Type 0} {P Q : T → Type 0} (r : Result T E) → ((x : T) → P x → Q x) → IfOk r P → IfOk r Q
if_ok (Ok x) f h = f x h
if_ok (Err e) f h = h

pub copied_is_some : (o : Option (Bor Group)) → is_some (option_copied o) ≡ is_some o
copied_is_some None = refl
copied_is_some (Some x) = refl

-- ---- a bag that stays
pub stays : (bag later : Bag) (p : Pid) (call : Call) (reply : Reply) (nudges : List Pid) → later ≡ bag → nudges ≡ [] → ChangesAs bag later p call (replied p call reply) (record { reply = reply; nudges = nudges })
stays bag later p call reply nudges same none = λ sig. record {
  decided = ap (decided_as p call (record { sig = sig; taken = 0 }) reply) (sym none);
  left = same ∙ sym (same_bag bag);
  held = λ id h. subst (λ (b : Bag). IsSome (group_at b id)) (sym same) h;
  within = λ id k g e. k g (ap (λ (b : Bag). group_at b id) (sym same) ∙ e);
}

-- ---- what is seen of groups once the caller has taken its part of a log
pub some_seen : (p id : Pid) (bag : Bag) (q : Pid) → is_some (group_in (group_settled p id bag) q) ≡ is_some (group_in bag q)
some_seen p id bag q = group_view_same is_some p id bag q some_kept
  where
    some_kept : (h : Option Group) → is_some (option_map (settled_for p) h) ≡ is_some h
    some_kept None = refl
    some_kept (Some g) = refl

pub none_seen : (p id : Pid) (bag : Bag) (q : Pid) → is_some (group_in bag q) ≡ false → group_in (group_settled p id bag) q ≡ None
none_seen p id bag q none = go (group_in (group_settled p id bag) q) (some_seen p id bag q ∙ none)
  where
    go : (o : Option Group) → is_some o ≡ false → o ≡ None
    go None e = refl
    go (Some g) e = cc

pub group_seen_there : (p id : Pid) (bag : Bag) (q : Pid) → is_some (group_in bag q) ≡ true → (g : Group) × (group_in (group_settled p id bag) q ≡ Some g)
group_seen_there p id bag q there = some_there (group_in (group_settled p id bag) q) (some_seen p id bag q ∙ there)

pub refusal_seen : (p id : Pid) (bag : Bag) (v : Vproc) (t : ℕ) (z : ℤ) → setpgid_refusal (group_settled p id bag) v t z ≡ setpgid_refusal bag v t z
refusal_seen p id bag v t (negsuc n) = refl
refusal_seen p id bag v t (pos q) =
    ap (λ (b : Bool). first_of (early_refusal v (target_in bag v (target_pid v t))) (cond (not (is_same (wanted_group v t q) (target_pid v t)) && not b) (Some EPERM) None)) (group_view_same (is_session_group v) p id bag (wanted_group v t q) session_kept)
  where
    session_kept : (h : Option Group) → is_session_group v (option_map (settled_for p) h) ≡ is_session_group v h
    session_kept None = refl
    session_kept (Some g) = refl

-- ---- a bag in which one has moved
left_within : (u : Vproc) (g : Group) → IsWithin g → All (λ m. m.from ≤ length g.log) (moved_members false u g)
left_within u g a = All-filter (λ (m : Member). not (m.pid.0 == u.pid.0)) (λ (m : Member). m.from ≤ length g.log) g.members a

moved_members_within : (b : Bool) (u : Vproc) (g : Group) → IsWithin g → All (λ m. m.from ≤ length g.log) (moved_members b u g)
moved_members_within false u g a = left_within u g a
moved_members_within true u g a =
    All-append (λ (m : Member). m.from ≤ length g.log) (moved_members false u g) _ (left_within u g a)
    (All-cons (λ (m : Member). m.from ≤ length g.log) _ [] (omega arith) (All-nil (λ (m : Member). m.from ≤ length g.log)))

group_within : (bag : Bag) (u : Vproc) (old : Group) (new : GroupInSession) (id : Pid) (h : Option Group) (g : Group) → ((x : Group) → h ≡ Some x → IsWithin x) → regroups new.session (moved_group bag u old new) id h ≡ Some g → IsWithin g
group_within bag u old new id h g k e = go (moved_members (is_same new.group id) u (or_empty id new.session h)) e
  where
    first : (o : Option Group) → ((x : Group) → o ≡ Some x → IsWithin x) → IsWithin (or_empty id new.session o)
    first None f = All-nil (λ (m : Member). m.from ≤ 0)
    first (Some x) f = f x refl

    rest : IsWithin (moved_group bag u old new id (or_empty id new.session h))
    rest = moved_members_within (is_same new.group id) u (or_empty id new.session h) (first h k)

    go : (ms : List Member) → unless_empty_by ms (moved_group bag u old new id (or_empty id new.session h)) ≡ Some g → IsWithin g
    go [] n = cc
    go (m ∷ ms) n = subst IsWithin (some_same _ _ n) rest

moved_held : (bag : Bag) (u : Vproc) (old : Group) (new : GroupInSession) (id : Pid) → IsSome (group_at bag id) → IsSome (group_at (moved_bag bag u old new) id)
moved_held bag u old new id h = subst IsSome (sym (group_changed (only u.pid (option_map (moved_vproc old new))) (regroups new.session (moved_group bag u old new)) bag id)) (go (group_at bag id) h)
  where
    go : (o : Option (Option Group)) → IsSome o → IsSome (option_map (regroups new.session (moved_group bag u old new) id) o)
    go None e = e
    go (Some x) e = refl

moved_within : (bag : Bag) (u : Vproc) (old : Group) (new : GroupInSession) (id : Pid) → ((x : Group) → group_at bag id ≡ Some (Some x) → IsWithin x) → (g : Group) → group_at (moved_bag bag u old new) id ≡ Some (Some g) → IsWithin g
moved_within bag u old new id k g e = go (group_at bag id) refl (sym (group_changed (only u.pid (option_map (moved_vproc old new))) (regroups new.session (moved_group bag u old new)) bag id) ∙ e)
  where
    go : (o : Option (Option Group)) → group_at bag id ≡ o → option_map (regroups new.session (moved_group bag u old new) id) o ≡ Some (Some g) → IsWithin g
    go None s m = cc
    go (Some h) s m = group_within bag u old new id h g (λ x same. k x (s ∙ ap Some same)) (some_same _ _ m)

pub moves : (bag left : Bag) (p : Pid) (call : Call) (reply : Reply) (u : Vproc) (old : Group) (new : GroupInSession) (nudges : List Pid) → nudges ≡ but_system p u.pid ++ but_system p u.parent → left ≡ moved_bag bag u old new →
    ChangesAs bag left p call (λ sig. move (Called p call reply) bag sig p u old new) (record { reply = reply; nudges = nudges })
moves bag left p call reply u old new nudges nudged is = λ sig. record {
  decided = ap (decided_as p call (record { sig = sig; taken = 0 }) reply) (sym nudged);
  left = is;
  held = λ id h. subst (λ (b : Bag). IsSome (group_at b id)) (sym is) (moved_held bag u old new id h);
  within = λ id k g e. moved_within bag u old new id k g (ap (λ (b : Bag). group_at b id) (sym is) ∙ e);
}

-- ---- setsid
pub setsid_as : (bag later : Bag) (p : Pid) (v w : Vproc) (b : Bool) (h : Option Group) (change : Change) → Some w ≡ vproc_in bag p → vproc_in bag p ≡ Some v → is_some (group_in bag w.pid) ≡ b → group_in bag w.group ≡ h →
    ChangesAs bag later p Setsid (λ sig. unless_refused (cond b (Some EPERM) None) p Setsid sig (led_from bag sig p w h)) change → ChangesAs bag later p Setsid (λ sig. setsid_effect bag sig p v) change
setsid_as bag later p v w b h change here there is_b is_h made =
    subst (λ (u : Vproc). ChangesAs bag later p Setsid (λ sig. setsid_effect bag sig p u) change) (some_same w v (here ∙ there))
    (subst (λ (c : Bool). ChangesAs bag later p Setsid (λ sig. unless_refused (cond c (Some EPERM) None) p Setsid sig (led_from bag sig p w (group_in bag w.group))) change) (sym is_b)
    (subst (λ (o : Option Group). ChangesAs bag later p Setsid (λ sig. unless_refused (cond b (Some EPERM) None) p Setsid sig (led_from bag sig p w o)) change) (sym is_h) made))

-- ---- setpgid
pub setpgid_refused : (bag later : Bag) (p : Pid) (v w : Vproc) (t : ℕ) (z : ℤ) (e : Errno) (change : Change) → Some w ≡ vproc_in bag p → vproc_in bag p ≡ Some v → Some e ≡ setpgid_refusal bag w t z →
    ChangesAs bag later p (Setpgid t z) (replied p (Setpgid t z) (Refused e)) change → ChangesAs bag later p (Setpgid t z) (λ sig. setpgid_effect bag sig p v t z) change
setpgid_refused bag later p v w t z e change here there is made =
    subst (λ (u : Vproc). ChangesAs bag later p (Setpgid t z) (λ sig. setpgid_effect bag sig p u t z) change) (some_same w v (here ∙ there))
    (subst (λ (o : Option Errno). ChangesAs bag later p (Setpgid t z) (λ sig. unless_refused o p (Setpgid t z) sig (moved_by bag sig p w t z)) change) is made)

pub setpgid_as : (bag later : Bag) (p : Pid) (v w : Vproc) (t : ℕ) (z : ℤ) (new : Pid) (h : Option Vproc) (change : Change) → Some w ≡ vproc_in bag p → vproc_in bag p ≡ Some v → None ≡ setpgid_refusal bag w t z → new ≡ named_group w t z → h ≡ target_in bag w (target_pid w t) →
    ChangesAs bag later p (Setpgid t z) (λ sig. move_of bag sig p t z new h) change → ChangesAs bag later p (Setpgid t z) (λ sig. setpgid_effect bag sig p v t z) change
setpgid_as bag later p v w t z new h change here there fine named target made =
    subst (λ (u : Vproc). ChangesAs bag later p (Setpgid t z) (λ sig. setpgid_effect bag sig p u t z) change) (some_same w v (here ∙ there))
    (subst (λ (o : Option Errno). ChangesAs bag later p (Setpgid t z) (λ sig. unless_refused o p (Setpgid t z) sig (moved_by bag sig p w t z)) change) fine
    (by z fine (subst (λ (n : Pid). ChangesAs bag later p (Setpgid t z) (λ sig. move_of bag sig p t z n (target_in bag w (target_pid w t))) change) named
    (subst (λ (o : Option Vproc). ChangesAs bag later p (Setpgid t z) (λ sig. move_of bag sig p t z new o) change) target made))))
  where
    by : (y : ℤ) → None ≡ setpgid_refusal bag w t y → ChangesAs bag later p (Setpgid t y) (λ sig. move_of bag sig p t y (named_group w t y) (target_in bag w (target_pid w t))) change → ChangesAs bag later p (Setpgid t y) (λ sig. moved_by bag sig p w t y) change
    by (pos q) f m = m
    by (negsuc n) f m = cc

-- where the target is there, by its group
pub from_group : (bag later : Bag) (p : Pid) (t : ℕ) (z : ℤ) (u : Vproc) (new : Pid) (x : Option Group) (change : Change) → group_in bag u.group ≡ x → ChangesAs bag later p (Setpgid t z) (λ sig. move_from bag sig p t z u new x) change → ChangesAs bag later p (Setpgid t z) (λ sig. move_of bag sig p t z new (Some u)) change
from_group bag later p t z u new x change is made = subst (λ (o : Option Group). ChangesAs bag later p (Setpgid t z) (λ sig. move_from bag sig p t z u new o) change) (sym is) made

-- its group is the new one, or another
pub same_group : (bag later : Bag) (p : Pid) (t : ℕ) (z : ℤ) (u : Vproc) (old : Group) (new : Pid) (change : Change) → is_same u.group new ≡ true → ChangesAs bag later p (Setpgid t z) (replied p (Setpgid t z) Fine) change → ChangesAs bag later p (Setpgid t z) (λ sig. move_from bag sig p t z u new (Some old)) change
same_group bag later p t z u old new change is made =
    subst (λ (b : Bool). ChangesAs bag later p (Setpgid t z) (λ sig. cond b (replied p (Setpgid t z) Fine sig) (move (setpgid_entry p t z) bag sig p u old (within_session u new))) change) (sym is) made

pub other_group : (bag later : Bag) (p : Pid) (t : ℕ) (z : ℤ) (u : Vproc) (old : Group) (new : Pid) (change : Change) → is_same u.group new ≡ false → ChangesAs bag later p (Setpgid t z) (λ sig. move (setpgid_entry p t z) bag sig p u old (within_session u new)) change →
    ChangesAs bag later p (Setpgid t z) (λ sig. move_from bag sig p t z u new (Some old)) change
other_group bag later p t z u old new change is made =
    subst (λ (b : Bool). ChangesAs bag later p (Setpgid t z) (λ sig. cond b (replied p (Setpgid t z) Fine sig) (move (setpgid_entry p t z) bag sig p u old (within_session u new))) change) (sym is) made

-- ---- the whole
pub settled_record : (p : Pid) (bag settled : Bag) (v : Vproc) → vproc_at bag p ≡ Some (Some v) → settled ≡ settled_in p v.group bag → vproc_in settled p ≡ Some (emptied v)
settled_record p bag settled v there was =
    ap (λ (b : Bag). vproc_in b p) was ∙ seen p v.group bag p ∙ only_same p (option_map emptied) p (vproc_in bag p) refl ∙ ap (λ (o : Option (Option Vproc)). option_map emptied (present o)) there

-- the caller has taken its backlog, and then its part of its group's log
pub half_record : (p : Pid) (bag half : Bag) (v : Vproc) → vproc_at bag p ≡ Some (Some v) → half ≡ backlog_taken p bag → vproc_in half p ≡ Some (emptied v)
half_record p bag half v there is = ap (λ (b : Bag). vproc_in b p) is ∙ settled_record p bag (settled_in p v.group bag) v there refl

pub same_record : (p : Pid) (bag : Bag) (w v : Vproc) → Some w ≡ vproc_in bag p → vproc_at bag p ≡ Some (Some v) → w ≡ v
same_record p bag w v here there = some_same w v (here ∙ ap present there)

pub both_halves : (p : Pid) (bag half : Bag) (w v : Vproc) → Some w ≡ vproc_in bag p → vproc_at bag p ≡ Some (Some v) → half ≡ backlog_taken p bag → group_settled p w.group half ≡ settled_in p v.group bag
both_halves p bag half w v here there is = ap (group_settled p w.group) is ∙ ap (λ (x : Vproc). settled_in p x.group bag) (same_record p bag w v here there)

pub carried_is : (own carried : Own) (p : Pid) (bag : Bag) (base : HasBase own p bag) → Some carried ≡ folded_in own p bag → carried ≡ folded own base.vproc base.group
carried_is own carried p bag base told =
    some_same _ _ (told ∙ ap (λ (o : Option (Option Vproc)). folded_by own bag (present o)) base.vproc_is ∙ ap (λ (o : Option (Option Group)). folded_on own base.vproc (present o)) base.group_is)

-- the names, by the record that the base has
pub names_by : (call : Call) (p : Pid) (bag : Bag) (w v : Vproc) (names : List Name) → Some w ≡ vproc_in bag p → vproc_at bag p ≡ Some (Some v) → names ≡ wanted bag (call_footprint bag w call) [] → names ≡ wanted bag (call_footprint bag v call) []
names_by call p bag w v names here there is = is ∙ ap (λ (u : Vproc). wanted bag (call_footprint bag u call) []) (some_same w v (here ∙ ap present there))

pub move_whole : (call : Call) (p id : Pid) (own taken : Own) (bag settled later left : Bag) (base : HasBase own p bag) (names : List Name) (change : Change) (o : Outcome) → names ≡ wanted bag (call_footprint bag base.vproc call) [] → is_none names ≡ true → id ≡ base.vproc.group →
    settled ≡ settled_in p base.vproc.group bag → taken ≡ folded own base.vproc base.group → ChangesAs settled later p call (λ sig. effect_of call settled sig p (emptied base.vproc)) change → left ≡ trimmed_in id later → o ≡ outcome.Done (decided_as p call taken change.reply change.nudges) →
    answered o left ≡ decide_by call (effect_of call) p own bag
move_whole call p id own taken bag settled later left base names change o is none at was took made trimmed out =
    let v = base.vproc in
    let sig : Signals = (folded own v base.group).sig in
    parts_whole (effect_of call settled sig p (emptied v)) p id v o bag settled later left at was (made sig).left trimmed
    (out ∙ ap (λ (x : Own). outcome.Done (decided_as p call x change.reply change.nudges)) took ∙ ap outcome.Done (sym (made sig).decided))
    ∙ ap (λ (b : Bag). done_by p v bag (effect_of call b sig p (emptied v))) was
    ∙ call_held call (effect_of call) p own bag v base.group names base.vproc_is base.group_is is none
