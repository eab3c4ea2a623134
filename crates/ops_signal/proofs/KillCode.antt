-- kill, as the code makes it, is the whole decision
use Rattle.std.proofs.Common.{◌≡◌, ◌||◌, ℕ, ℤ, Bool, true, not, List, [], ◌∷◌, refl, sym, ap, ◌∙◌, Option, None, Some, if◌then◌else◌}
use Rattle.std.specs.Prelude.{is_some}
use Rattle.std.specs.List.{list_any}
use Rattle.std.specs.Option.{option_map}
use Rattle.list_laws.proofs.Filters.{any-map, some_same}
use Rattle.unix_names.specs.declared.Pid.{Pid}
use Rattle.unix_names.specs.declared.Name.{Name}
use Rattle.unix_names.specs.declared.Signal.{Signal}
use Rattle.unix_names.specs.declared.Errno.{Errno}
use Rattle.unix_names.specs.declared.Errno.TheVariants.{EPERM, ESRCH, EINVAL}
use Rattle.unix_names.specs.Signals.{signal_of}
use Rattle.unix_calls.specs.declared.Call.TheVariants.{Kill}
use Rattle.unix_calls.specs.declared.Reply.TheVariants.{Refused}
use Rattle.unix_calls.specs.declared.Phase.TheVariants as phase
use Rattle.unix_calls.specs.declared.Target.{Target}
use Rattle.unix_calls.specs.declared.Target.TheVariants.{OwnGroup, One, InGroup}
use Rattle.unix_calls.specs.Calls.{target_of}
use Rattle.signal_state.specs.Signals.{Signals}
use Rattle.signal_state.specs.declared.Own.{Own}
use Rattle.vproc_record.specs.declared.Vproc.{Vproc}
use Rattle.group_record.specs.declared.Member.{Member}
use Rattle.group_record.specs.declared.Group.{Group}
use Rattle.group_record.specs.Groups.{settled}
use Rattle.group_record.specs.Members.{begun_at}
use Rattle.group_record.proofs.MemberLaws.{begun_at-uid}
use Rattle.record_bag.specs.declared.bag.Bag.{Bag}
use Rattle.record_bag.specs.Bags.{vproc_in}
use Rattle.kernel_rules.specs.Kill.{is_sendable, is_system}
use Rattle.decide_law.specs.Base.{HasBase}
use Rattle.decide_law.specs.Effects.{Effect, append, unless_refused, folded, emptied, settled_for, settled_in, done_by}
use Rattle.decide_law.specs.Footprints.{lacking, is_none, kill_footprint}
use Rattle.decide_law.specs.MethodNeeds.{wanted}
use Rattle.decide_law.specs.Parts.{EachHeld, decide_by}
use Rattle.decide_law.proofs.Held.{none_lacks}
use Rattle.decide_law.proofs.NeedParts.{wanted_none, call_held}
use Rattle.decide_law.proofs.SettledFootprints.{view_same}
use Rattle.decide_law.proofs.SettledGroups.{group_view_same, others_settled}
use Rattle.ops_signal.specs.declared.kill.Sending.TheVariants.{Nothing}
use Rattle.ops_signal.specs.Decide.{effect_of}
use Rattle.ops_signal.specs.Kill.{may_member, is_nobody, process_forbidden, group_forbidden, is_forbidden, kill_refusal, kill_entry, to_group, send_group, send_one, send, send_any, kill_effect}
use Rattle.ops_signal.specs.MethodKill.{effect_by}

-- ---- settling changes nothing that kill reads
some_blind : (h : Option Vproc) → not (is_some (option_map emptied h)) ≡ not (is_some h)
some_blind None = refl
some_blind (Some u) = refl

some_group_blind : (p : Pid) (h : Option Group) → not (is_some (option_map (settled_for p) h)) ≡ not (is_some h)
some_group_blind p None = refl
some_group_blind p (Some g) = refl

nobody_settled : (p id : Pid) (bag : Bag) (target : Target) → is_nobody (settled_in p id bag) target ≡ is_nobody bag target
nobody_settled p id bag OwnGroup = refl
nobody_settled p id bag (One t) = view_same (λ (h : Option Vproc). not (is_some h)) p id bag t some_blind
nobody_settled p id bag (InGroup g) = group_view_same (λ (h : Option Group). not (is_some h)) p id bag g (some_group_blind p)

any_same : {X : Type 0} (t u : X → Bool) (xs : List X) → ((x : X) → t x ≡ u x) → list_any t xs ≡ list_any u xs
any_same t u [] e = refl
any_same t u (x ∷ xs) e = ap (λ (b : Bool). b || list_any t xs) (e x) ∙ ap (λ (b : Bool). u x || b) (any_same t u xs e)

process_blind : (v : Vproc) (s : ℕ) (h : Option Vproc) → process_forbidden v s (option_map emptied h) ≡ process_forbidden v s h
process_blind v s None = refl
process_blind v s (Some u) = refl

member_blind : (v : Vproc) (s : ℕ) (p : Pid) (g : Group) → list_any (may_member v s (settled g p)) (settled g p).members ≡ list_any (may_member v s g) g.members
member_blind v s p g =
    any-map (may_member v s (settled g p)) (begun_at _ p) g.members
    ∙ any_same _ (may_member v s g) g.members (λ (m : Member). ap (λ (uid : ℕ). may_member v s g (record m { uid = uid })) (begun_at-uid _ p m))

group_blind : (v : Vproc) (s : ℕ) (p : Pid) (h : Option Group) → group_forbidden v s (option_map (settled_for p) h) ≡ group_forbidden v s h
group_blind v s p None = refl
group_blind v s p (Some g) = ap not (member_blind v s p g)

forbidden_settled : (p id : Pid) (bag : Bag) (v : Vproc) (target : Target) (s : ℕ) → is_forbidden (settled_in p id bag) (emptied v) target s ≡ is_forbidden bag v target s
forbidden_settled p id bag v OwnGroup s = refl
forbidden_settled p id bag v (One t) s = view_same (process_forbidden v s) p id bag t (process_blind v s)
forbidden_settled p id bag v (InGroup g) s = group_view_same (group_forbidden v s) p id bag g (group_blind v s p)

refusal_settled : (p id : Pid) (bag : Bag) (v : Vproc) (target : Target) (s : ℕ) → kill_refusal (settled_in p id bag) (emptied v) target s ≡ kill_refusal bag v target s
refusal_settled p id bag v target s =
    ap (λ (b : Bool). if not (is_sendable s) then Some EINVAL else (if is_system target then Some EPERM else (if b then Some ESRCH else (if is_forbidden (settled_in p id bag) (emptied v) target s then Some EPERM else None)))) (nobody_settled p id bag target)
    ∙ ap (λ (b : Bool). if not (is_sendable s) then Some EINVAL else (if is_system target then Some EPERM else (if is_nobody bag target then Some ESRCH else (if b then Some EPERM else None)))) (forbidden_settled p id bag v target s)

group_send_blind : (x : Signals) (p : Pid) (v : Vproc) (z : ℤ) (s : ℕ) (signal : Signal) (id : Pid) (h : Option Group) → send_group x p v z s signal id (option_map (settled_for p) h) ≡ send_group x p v z s signal id h
group_send_blind x p v z s signal id None = refl
group_send_blind x p v z s signal id (Some g) = ap (λ (nudges : List Pid). append (Some (kill_entry p z s)) x phase.Ready nudges id (to_group signal v s g)) (others_settled p p g)

one_send_blind : (x : Signals) (p : Pid) (z : ℤ) (s : ℕ) (signal : Signal) (t : Pid) (h : Option Vproc) → send_one x p z s signal t (option_map emptied h) ≡ send_one x p z s signal t h
one_send_blind x p z s signal t None = refl
one_send_blind x p z s signal t (Some u) = refl

send_settled : (x : Signals) (p id : Pid) (bag : Bag) (v : Vproc) (z : ℤ) (s : ℕ) (signal : Signal) (target : Target) → send (settled_in p id bag) x p (emptied v) z s signal target ≡ send bag x p v z s signal target
send_settled x p id bag v z s signal OwnGroup = group_view_same (send_group x p v z s signal v.group) p id bag v.group (group_send_blind x p v z s signal v.group)
send_settled x p id bag v z s signal (One t) = view_same (send_one x p z s signal t) p id bag t (one_send_blind x p z s signal t)
send_settled x p id bag v z s signal (InGroup g) = group_view_same (send_group x p v z s signal g) p id bag g (group_send_blind x p v z s signal g)

any_settled : (x : Signals) (p id : Pid) (bag : Bag) (v : Vproc) (z : ℤ) (s : ℕ) (signal : Option Signal) → send_any (settled_in p id bag) x p (emptied v) z s signal ≡ send_any bag x p v z s signal
any_settled x p id bag v z s None = refl
any_settled x p id bag v z s (Some signal) = send_settled x p id bag v z s signal (target_of z)

pub kill_settled : (x : Signals) (p id : Pid) (bag : Bag) (v : Vproc) (z : ℤ) (s : ℕ) → kill_effect (settled_in p id bag) x p (emptied v) z s ≡ kill_effect bag x p v z s
kill_settled x p id bag v z s =
    ap (λ (o : Option Errno). unless_refused o p (Kill z s) x (send_any (settled_in p id bag) x p (emptied v) z s (signal_of s))) (refusal_settled p id bag v (target_of z) s)
    ∙ ap (unless_refused (kill_refusal bag v (target_of z) s) p (Kill z s) x) (any_settled x p id bag v z s (signal_of s))

-- ---- what is held where none lacks
empty_of : (names : List Name) → is_none names ≡ true → names ≡ []
empty_of [] e = refl
empty_of (n ∷ ns) e = cc

pub kill_held : (bag : Bag) (names gathered : List Name) → gathered ≡ wanted bag names [] → is_none gathered ≡ true → EachHeld bag names
kill_held bag names gathered is none = none_lacks bag names (empty_of (lacking bag names) (sym (wanted_none bag names) ∙ sym (ap is_none is) ∙ none))

-- ---- what was told from the records
pub told_refused : (bag : Bag) (x : Signals) (p : Pid) (v : Vproc) (z : ℤ) (s : ℕ) (e : Errno) → Some e ≡ kill_refusal bag v (target_of z) s → effect_by p z s x (Nothing (Refused e)) ≡ kill_effect bag x p v z s
told_refused bag x p v z s e is = ap (λ (o : Option Errno). unless_refused o p (Kill z s) x (send_any bag x p v z s (signal_of s))) is

pub told_sent : (bag : Bag) (x : Signals) (p : Pid) (v : Vproc) (z : ℤ) (s : ℕ) (signal : Option Signal) → None ≡ kill_refusal bag v (target_of z) s → signal_of s ≡ signal → send_any bag x p v z s signal ≡ kill_effect bag x p v z s
told_sent bag x p v z s signal fine is = ap (send_any bag x p v z s) (sym is) ∙ ap (λ (o : Option Errno). unless_refused o p (Kill z s) x (send_any bag x p v z s (signal_of s))) fine

-- ---- the whole
pub kill_whole : (p : Pid) (z : ℤ) (s : ℕ) (own : Own) (bag : Bag) (base : HasBase own p bag) (v : Vproc) (gathered : List Name) (y : Signals → Effect) → Some v ≡ vproc_in bag p → vproc_in bag p ≡ Some base.vproc → gathered ≡ wanted bag (kill_footprint bag (target_of z) s) [] → is_none gathered ≡ true →
    ((x : Signals) → y x ≡ kill_effect bag x p v z s) → done_by p base.vproc bag (y (folded own base.vproc base.group).sig) ≡ decide_by (Kill z s) (effect_of (Kill z s)) p own bag
kill_whole p z s own bag base v gathered y here there is none told =
    ap (done_by p base.vproc bag) (told (folded own base.vproc base.group).sig ∙ ap (λ (u : Vproc). kill_effect bag (folded own base.vproc base.group).sig p u z s) one ∙ sym (kill_settled (folded own base.vproc base.group).sig p base.vproc.group bag base.vproc z s))
    ∙ call_held (Kill z s) (effect_of (Kill z s)) p own bag base.vproc base.group gathered base.vproc_is base.group_is is none
  where
    one : v ≡ base.vproc
    one = some_same v base.vproc (here ∙ there)
