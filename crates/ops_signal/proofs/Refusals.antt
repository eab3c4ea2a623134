-- the refusals of kill, told by records
use Rattle.std.proofs.Common.{◌≡◌, ◌==◌, ◌&&◌, ◌||◌, ℕ, Bool, true, false, not, List, [], ◌∷◌, refl, sym, ap, ◌∙◌, Option, None, Some}
use Rattle.std.specs.Prelude.{is_some, if◌then◌else◌}
use Rattle.std.specs.Option.{option_map}
use Rattle.std.specs.List.{list_any}
use Rattle.std.proofs.lemmas.Bool.{eqb-true, eq-eqb}
use Rattle.list_laws.specs.Keyed.{option_filter}
use Rattle.list_laws.proofs.Filters.{some_same, mapped_some}
use Rattle.list_laws.proofs.Elements.{any_some, any_found, any_none_found, any-same}
use Rattle.list_laws.proofs.Finding.{same_number, filtered_some}
use Rattle.unix_names.specs.declared.Pid.{Pid}
use Rattle.unix_names.specs.declared.Signal.TheVariants.{Cont}
use Rattle.unix_names.specs.declared.Errno.TheVariants.{EPERM, ESRCH, EINVAL}
use Rattle.unix_names.specs.Signals.{number_of}
use Rattle.unix_calls.specs.declared.Target.{Target}
use Rattle.unix_calls.specs.declared.Target.TheVariants.{OwnGroup, One, InGroup}
use Rattle.vproc_record.specs.declared.Vproc.{Vproc}
use Rattle.group_record.specs.declared.Member.{Member}
use Rattle.group_record.specs.declared.Group.{Group}
use Rattle.group_record.specs.Members.{member_number, member_of, uid_of}
use Rattle.record_bag.specs.declared.bag.Bag.{Bag}
use Rattle.record_bag.specs.Bags.{present, vproc_in}
use Rattle.process_table.specs.declared.Row.{Row}
use Rattle.process_table.specs.Rows.{row_of, is_pid, in_group, in_session}
use Rattle.kernel_rules.specs.Permission.{may}
use Rattle.kernel_rules.specs.Kill.{is_named, is_permitted, is_sendable, is_system}
use Rattle.kernel_rules.specs.Kill as kernel
use Rattle.kernel_model.specs.Sound.{IsSound}
use Rattle.decide_law.specs.Agrees.{vproc_at, group_at, IsRecordOf, VprocAgrees, IsGroupOf, GroupAgrees, Agrees}
use Rattle.decide_law.specs.Footprints.{kill_footprint, target_footprint, with_living_group}
use Rattle.decide_law.proofs.Records.{number, distinct, pid_same, row_pid, pass_some}
use Rattle.decide_law.proofs.Counts.{told_held}
use Rattle.decide_law.proofs.Groups.{nobody}
use Rattle.decide_law.specs.Parts.{EachHeld}
use Rattle.decide_law.proofs.Told.{has_row}
use Rattle.ops_signal.specs.Kill.{continues, may_user, may_process, may_member, is_nobody, process_forbidden, group_forbidden, is_forbidden, kill_refusal}

-- ---- permission
pub may_told : (rows : List Row) (v u : Vproc) (r c : Row) (s : ℕ) → IsRecordOf rows v r → IsRecordOf rows u c → may_process v s u ≡ may r c s
may_told rows v u r c s of is =
    ap (λ (n : ℕ). (n == 0) || ((n == u.uid) || ((s == number_of Cont) && (u.session.0 == v.session.0)))) of.uid
    ∙ ap (λ (n : ℕ). (r.uid == 0) || ((r.uid == n) || ((s == number_of Cont) && (u.session.0 == v.session.0)))) is.uid
    ∙ ap (λ (p : Pid). (r.uid == 0) || ((r.uid == c.uid) || ((s == number_of Cont) && (p.0 == v.session.0)))) is.session
    ∙ ap (λ (p : Pid). (r.uid == 0) || ((r.uid == c.uid) || ((s == number_of Cont) && (c.session.0 == p.0)))) of.session

-- a member's user id is that of its row, and the group's session too
pub may_in : (rows : List Row) (v : Vproc) (r c : Row) (s id : _) (g : Group) (q : Pid) → IsRecordOf rows v r → IsGroupOf rows id g → row_of rows q ≡ Some c → in_group id c ≡ true → may_user v c.uid (continues s v g.session) ≡ may r c s
may_in rows v r c s id g q of k here i =
    ap (λ (n : ℕ). (n == 0) || ((n == c.uid) || ((s == number_of Cont) && (g.session.0 == v.session.0)))) of.uid
    ∙ ap (λ (p : Pid). (r.uid == 0) || ((r.uid == c.uid) || ((s == number_of Cont) && (p.0 == v.session.0)))) (sym (k.session q c here i))
    ∙ ap (λ (p : Pid). (r.uid == 0) || ((r.uid == c.uid) || ((s == number_of Cont) && (c.session.0 == p.0)))) of.session

-- ---- one process
one_any : (rows : List Row) (t : Pid) (test : Row → Bool) → IsSound rows → (o : Option Row) → row_of rows t ≡ o → (b : Bool) → ((c : Row) → o ≡ Some c → test c ≡ b) → (o ≡ None → b ≡ false) → list_any (λ c. is_pid t c && test c) rows ≡ b
one_any rows t test k None here b f n = any_none_found number (λ c. is_pid t c && test c) rows (distinct rows k.distinct) (λ c at_c. pick c at_c (is_pid t c) refl) ∙ sym (n refl)
  where
    pick : (c : Row) → row_of rows c.pid ≡ Some c → (a : Bool) → is_pid t c ≡ a → (a && test c) ≡ false
    pick c at_c true e = let h : row_of rows t ≡ Some c = ap (row_of rows) (pid_same t c.pid (sym (eqb-true _ _ e))) ∙ at_c in cc
    pick c at_c false e = refl
one_any rows t test k (Some c) here true f n = any_some number (λ c. is_pid t c && test c) t.0 rows c here (ap (λ b. b && test c) (eq-eqb _ _ (ap (λ (p : Pid). p.0) (row_pid rows t c here))) ∙ f c refl)
one_any rows t test k (Some c) here false f n = any_none_found number (λ c. is_pid t c && test c) rows (distinct rows k.distinct) (λ x at_x. pick x at_x (is_pid t x) refl)
  where
    pick : (x : Row) → row_of rows x.pid ≡ Some x → (a : Bool) → is_pid t x ≡ a → (a && test x) ≡ false
    pick x at_x true e = let same : c ≡ x = some_same c x (sym here ∙ ap (row_of rows) (pid_same t x.pid (sym (eqb-true _ _ e))) ∙ at_x) in f x (ap Some same)
    pick x at_x false e = refl

and_true : (b : Bool) → (b && true) ≡ b
and_true true = refl
and_true false = refl

list_same : (rows : List Row) (t u : Row → Bool) → ((c : Row) → t c ≡ u c) → list_any t rows ≡ list_any u rows
list_same [] t u e = refl
list_same (c ∷ rows) t u e = ap (λ b. b || list_any t rows) (e c) ∙ ap (λ b. u c || b) (list_same rows t u e)

pub one_there : (rows : List Row) (r : Row) (t : Pid) → IsSound rows → list_any (is_named r (One t)) rows ≡ is_some (row_of rows t)
one_there rows r t k = list_same rows (is_pid t) (λ c. is_pid t c && true) (λ c. sym (and_true (is_pid t c))) ∙ one_any rows t (λ c. true) k (row_of rows t) refl (is_some (row_of rows t)) (λ c e. sym (ap is_some e)) (λ e. ap is_some e)

-- ---- one group
pub group_any : (rows : List Row) (id : Pid) (h : Option Group) → IsSound rows → GroupAgrees rows id h → list_any (in_group id) rows ≡ is_some h
group_any rows id None k a = any_none_found number (in_group id) rows (distinct rows k.distinct) (λ c here. nobody rows id c.pid c a here)
group_any rows id (Some g) k a = let m = has_row rows id g a in any_some number (in_group id) m.0.0 rows m.1 m.2 m.3

-- a test of user ids, over the members and over their rows
same_truth : (a b : Bool) → (a ≡ true → b ≡ true) → (b ≡ true → a ≡ true) → a ≡ b
same_truth true b f g = sym (f refl)
same_truth false true f g = g refl
same_truth false false f g = refl

both_parts : (a b : Bool) → (a && b) ≡ true → (a ≡ true) × (b ≡ true)
both_parts true b e = (refl, e)
both_parts false b e = cc

pub members_any : (rows : List Row) (id : Pid) (g : Group) (test : ℕ → Bool) → IsSound rows → IsGroupOf rows id g → list_any (λ (m : Member). test m.uid) g.members ≡ list_any (λ c. in_group id c && test c.uid) rows
members_any rows id g test k h = same_truth _ _ there back
  where
    there : list_any (λ (m : Member). test m.uid) g.members ≡ true → list_any (λ c. in_group id c && test c.uid) rows ≡ true
    there e =
        let m = any_found member_number (λ (m : Member). test m.uid) g.members h.distinct e in
        let at_row = mapped_some (λ (c : Row). c.uid) (option_filter (in_group id) (row_of rows m.0.pid)) m.0.uid (sym (h.members m.0.pid) ∙ ap (option_map (λ (x : Member). x.uid)) m.1) in
        let row = filtered_some (in_group id) (row_of rows m.0.pid) at_row.0 at_row.1 in
        any_some number (λ c. in_group id c && test c.uid) m.0.pid.0 rows at_row.0 row.0 (ap (λ b. b && test at_row.0.uid) row.1 ∙ ap test (sym at_row.2) ∙ m.2)

    back : list_any (λ c. in_group id c && test c.uid) rows ≡ true → list_any (λ (m : Member). test m.uid) g.members ≡ true
    back e =
        let c = any_found number (λ c. in_group id c && test c.uid) rows (distinct rows k.distinct) e in
        let parts = both_parts (in_group id c.0) (test c.0.uid) c.2 in
        let listed : uid_of g.members c.0.pid ≡ Some c.0.uid = h.members c.0.pid ∙ ap (option_map (λ (x : Row). x.uid)) (pass_some (in_group id) (row_of rows c.0.pid) c.0 c.1 parts.0) in
        let m = mapped_some (λ (x : Member). x.uid) (member_of g.members c.0.pid) c.0.uid listed in
        any_some member_number (λ (m : Member). test m.uid) c.0.pid.0 g.members m.0 m.1 (ap test (sym m.2) ∙ parts.1)

-- ---- the refusals
nobody_is : (rows : List Row) (bag : Bag) (r : Row) (target : Target) (s : ℕ) → IsSound rows → Agrees bag rows → EachHeld bag (target_footprint bag target) → is_system target ≡ false → is_nobody bag target ≡ kernel.is_nobody rows r target
nobody_is rows bag r OwnGroup s k a held n = refl
nobody_is rows bag r (One t) s k a held n =
    ap not (go (vproc_in bag t) (row_of rows t) (told_held rows bag t a.vprocs (first (t.0 == 1) n held)) ∙ sym (one_there rows r t k))
  where
    first : (b : Bool) → b ≡ false → EachHeld bag (if b then [] else with_living_group bag t) → is_some (vproc_at bag t) ≡ true
    first true e h = cc
    first false e h = h.0

    go : (h : Option Vproc) (o : Option Row) → VprocAgrees rows h o → is_some h ≡ is_some o
    go None None e = refl
    go None (Some x) e = absurd e
    go (Some y) None e = absurd e
    go (Some y) (Some x) e = refl
nobody_is rows bag r (InGroup id) s k a held n = ap not (go (group_at bag id) refl held.0)
  where
    go : (o : Option (Option Group)) → group_at bag id ≡ o → is_some o ≡ true → is_some (present o) ≡ list_any (in_group id) rows
    go None e h = cc
    go (Some h) e t = sym (group_any rows id h k (a.groups id h e))

and_not : (a b c : Bool) → a ≡ true → b ≡ c → (a && not b) ≡ not c
and_not true b c e h = ap not h
and_not false b c e h = cc

forbidden_is : (rows : List Row) (bag : Bag) (p : Pid) (v : Vproc) (r : Row) (target : Target) (s : ℕ) → IsSound rows → Agrees bag rows → IsRecordOf rows v r → row_of rows p ≡ Some r → EachHeld bag (target_footprint bag target) → is_system target ≡ false →
    is_forbidden bag v target s ≡ kernel.is_forbidden rows r target s
forbidden_is rows bag p v r OwnGroup s k a of here held n =
    let own : list_any (is_permitted r OwnGroup s) rows ≡ true = any_some number (is_permitted r OwnGroup s) p.0 rows r here (ap (λ b. b && may r r s) (same_number r.group.0) ∙ self (r.uid == 0) ((s == number_of Cont) && in_session r.session r)) in
    sym (ap (λ b. list_any (is_named r OwnGroup) rows && not b) own ∙ and_false (list_any (is_named r OwnGroup) rows))
  where
    or_true : (a : Bool) → (a || true) ≡ true
    or_true true = refl
    or_true false = refl

    self : (a c : Bool) → (a || ((r.uid == r.uid) || c)) ≡ true
    self a c = ap (λ b. a || (b || c)) (same_number r.uid) ∙ or_true a

    and_false : (b : Bool) → (b && false) ≡ false
    and_false true = refl
    and_false false = refl
forbidden_is rows bag p v r (One t) s k a of here held n = go (vproc_in bag t) (row_of rows t) refl (told_held rows bag t a.vprocs (first (t.0 == 1) n held))
  where
    first : (b : Bool) → b ≡ false → EachHeld bag (if b then [] else with_living_group bag t) → is_some (vproc_at bag t) ≡ true
    first true e h = cc
    first false e h = h.0

    go : (h : Option Vproc) (o : Option Row) → row_of rows t ≡ o → VprocAgrees rows h o → process_forbidden v s h ≡ kernel.is_forbidden rows r (One t) s
    go None None e w = sym (ap (λ b. b && not (list_any (is_permitted r (One t) s) rows)) (one_there rows r t k ∙ ap is_some e))
    go None (Some x) e w = absurd w
    go (Some u) None e w = absurd w
    go (Some u) (Some x) e w = sym (and_not (list_any (is_named r (One t)) rows) (list_any (is_permitted r (One t) s) rows) (may_process v s u) (one_there rows r t k ∙ ap is_some e)
        (one_any rows t (λ c. may r c s) k (Some x) e (may_process v s u) (λ c i. ap (λ (y : Row). may r y s) (sym (some_same x c i)) ∙ sym (may_told rows v u r x s of w)) (λ i. cc)))
forbidden_is rows bag p v r (InGroup id) s k a of here held n = go (group_at bag id) refl held.0
  where
    permitted : (g : Group) → IsGroupOf rows id g → list_any (may_member v s g) g.members ≡ list_any (is_permitted r (InGroup id) s) rows
    permitted g h =
        members_any rows id g (λ (n : ℕ). may_user v n (continues s v g.session)) k h
        ∙ any-same number (λ c. in_group id c && may_user v c.uid (continues s v g.session)) (is_permitted r (InGroup id) s) rows (distinct rows k.distinct) (λ c at_c. pick g h c at_c (in_group id c) refl)
      where
        pick : (g : Group) → IsGroupOf rows id g → (c : Row) → row_of rows c.pid ≡ Some c → (b : Bool) → in_group id c ≡ b → (b && may_user v c.uid (continues s v g.session)) ≡ (b && may r c s)
        pick g h c at_c true e = may_in rows v r c s id g c.pid of h at_c e
        pick g h c at_c false e = refl

    go : (o : Option (Option Group)) → group_at bag id ≡ o → is_some o ≡ true → group_forbidden v s (present o) ≡ kernel.is_forbidden rows r (InGroup id) s
    go None e h = cc
    go (Some None) e h = sym (ap (λ b. b && not (list_any (is_permitted r (InGroup id) s) rows)) (group_any rows id None k (a.groups id None e)))
    go (Some (Some g)) e h = let w = a.groups id (Some g) e in sym (and_not (list_any (in_group id) rows) (list_any (is_permitted r (InGroup id) s) rows) (list_any (may_member v s g) g.members) (group_any rows id (Some g) k w) (sym (permitted g w.1)))

pub refusal_is : (rows : List Row) (bag : Bag) (p : Pid) (v : Vproc) (r : Row) (target : Target) (s : ℕ) → IsSound rows → Agrees bag rows → IsRecordOf rows v r → row_of rows p ≡ Some r → EachHeld bag (kill_footprint bag target s) → kill_refusal bag v target s ≡ kernel.kill_refusal rows r target s
refusal_is rows bag p v r target s k a of here held = go (is_sendable s) (is_system target) refl held
  where
    go : (x y : Bool) → is_system target ≡ y → EachHeld bag (if x then target_footprint bag target else []) →
        (if not x then Some EINVAL else (if y then Some EPERM else (if is_nobody bag target then Some ESRCH else (if is_forbidden bag v target s then Some EPERM else None))))
        ≡ (if not x then Some EINVAL else (if y then Some EPERM else (if kernel.is_nobody rows r target then Some ESRCH else (if kernel.is_forbidden rows r target s then Some EPERM else None))))
    go false y e h = refl
    go true true e h = refl
    go true false e h =
        ap (λ b. if b then Some ESRCH else (if is_forbidden bag v target s then Some EPERM else None)) (nobody_is rows bag r target s k a h e)
        ∙ ap (λ b. if kernel.is_nobody rows r target then Some ESRCH else (if b then Some EPERM else None)) (forbidden_is rows bag p v r target s k a of here h e)
