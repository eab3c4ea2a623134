-- the refusals of setpgid, told by records
use Rattle.std.proofs.Common.{◌≡◌, ◌==◌, ◌&&◌, ◌||◌, ℕ, ℤ, pos, negsuc, Bool, true, false, cond, not, List, [], ◌∷◌, refl, sym, ap, ◌∙◌, subst, Option, None, Some, ◌⊎◌, inl, inr}
use Rattle.std.specs.Prelude.{is_some, if◌then◌else◌}
use Rattle.std.specs.List.{list_any}
use Rattle.std.proofs.lemmas.Bool.{eqb-true, eqb-false, ne_eqb}
use Rattle.list_laws.proofs.Finding.{found}
use Rattle.unix_names.specs.declared.Pid.{Pid}
use Rattle.unix_names.specs.declared.Name.TheVariants.{V}
use Rattle.unix_names.specs.declared.Life.{Life}
use Rattle.unix_names.specs.declared.Errno.{Errno}
use Rattle.unix_names.specs.declared.Errno.TheVariants.{EPERM, ESRCH, EACCES}
use Rattle.unix_names.specs.States.{is_living}
use Rattle.signal_state.specs.Signals.{Signals}
use Rattle.vproc_record.specs.declared.Vproc.{Vproc}
use Rattle.group_record.specs.declared.Group.{Group}
use Rattle.record_bag.specs.declared.bag.Bag.{Bag}
use Rattle.record_bag.specs.Bags.{present, vproc_in, group_in}
use Rattle.process_table.specs.declared.Row.{Row}
use Rattle.process_table.specs.Rows.{pid, row_of, row_named, is_pid, is_parent, is_same, in_session, is_living_child, is_session_leader}
use Rattle.kernel_rules.specs.Setpgid.{is_in_session_group, is_fixed_in_group, regroup_refusal, setpgid_refusal}
use Rattle.kernel_rules.specs.Setpgid as kernel
use Rattle.decide_law.specs.Agrees.{vproc_at, group_at, IsRecordOf, VprocAgrees}
use Rattle.decide_law.specs.Law.{Settled}
use Rattle.decide_law.specs.Told.{target_pid, wanted_group, has_child, target_in, is_session_group, early_refusal}
use Rattle.decide_law.specs.Footprints.{regroup_footprint, move_footprint_of, setpgid_footprint}
use Rattle.decide_law.proofs.Records.{number, pid_same, row_pid, row_own}
use Rattle.decide_law.proofs.Held.{held_first, held_later}
use Rattle.decide_law.specs.Parts.{EachHeld}
use Rattle.decide_law.proofs.Shell.{own_record}
use Rattle.decide_law.proofs.Told.{child_row, child_listed, session_group}
use Rattle.ops_groups.specs.Setpgid.{group_refusal, first_of, refusal_by}
use Rattle.ops_groups.specs.Setpgid as told

-- the target that is named has a record and this row
pub record Names (rows : List Row) (bag : Bag) (p : Pid) (v : Vproc) (r : Row) (t : Pid) (u : Vproc) (c : Row) : Type 0 where
  pub target : target_in bag v t ≡ Some u
  pub held : vproc_at bag t ≡ Some (Some u)
  pub row : row_of rows t ≡ Some c
  pub is : IsRecordOf rows u c
  -- it is the caller, or a child of the caller
  pub kin : (t ≡ p) ⊎ (c.parent ≡ p)

-- who is named: a process with a record, or one that is neither the caller nor a child
pub named : (rows : List Row) (p : Pid) (sig : Signals) (bag : Bag) (r : Row) (v : Vproc) (g : Group) (t new : Pid) → Settled rows p sig bag r v g → EachHeld bag (regroup_footprint bag v t new) →
    ((u : Vproc) × (c : Row) × Names rows bag p v r t u c) ⊎ ((target_in bag v t ≡ None) × (is_same t v.pid ≡ false) × (has_child v t ≡ false))
named rows p sig bag r v g t new a held = go (is_same t v.pid) (has_child v t) refl refl (held_first bag (cond (is_same t v.pid || has_child v t) (V t ∷ []) []) _ held)
  where
    of : IsRecordOf rows v r
    of = own_record rows p bag r v a.agrees a.row a.vproc

    at_p : v.pid ≡ p
    at_p = of.pid ∙ row_pid rows p r a.row

    child : (c : Row) → row_of rows t ≡ Some c → c.parent ≡ r.pid → (o : Option (Option Vproc)) → vproc_at bag t ≡ o → is_some o ≡ true → (target_in bag v t ≡ present o) →
        ((u : Vproc) × (c : Row) × Names rows bag p v r t u c) ⊎ ((target_in bag v t ≡ None) × (is_same t v.pid ≡ false) × (has_child v t ≡ false))
    child c here up None e s i = cc
    child c here up (Some None) e s i = absurd (subst (VprocAgrees rows None) here (a.agrees.vprocs t None e))
    child c here up (Some (Some u)) e s i = inl (u, c, record { target = i; held = e; row = here; is = own_record rows t bag c u a.agrees here e; kin = inr (up ∙ row_pid rows p r a.row) })

    go : (x y : Bool) → is_same t v.pid ≡ x → has_child v t ≡ y → EachHeld bag (cond (x || y) (V t ∷ []) []) →
        ((u : Vproc) × (c : Row) × Names rows bag p v r t u c) ⊎ ((target_in bag v t ≡ None) × (is_same t v.pid ≡ false) × (has_child v t ≡ false))
    go true y ex ey h =
        let one : t ≡ p = pid_same t v.pid (eqb-true _ _ ex) ∙ at_p in
        inl (v, r, record { target = ap (λ (b : Bool). cond b (Some v) (cond (has_child v t) (vproc_in bag t) None)) ex; held = ap (vproc_at bag) one ∙ a.vproc; row = ap (row_of rows) one ∙ a.row; is = of; kin = inl one })
    go false true ex ey h =
        let c = child_row rows v r t a.sound of ey in
        child c.0 c.1 c.2 (vproc_at bag t) refl h.0 (ap (λ (b : Bool). cond b (Some v) (cond (has_child v t) (vproc_in bag t) None)) ex ∙ ap (λ (b : Bool). cond b (vproc_in bag t) None) ey)
    go false false ex ey h = inr (ap (λ (b : Bool). cond b (Some v) (cond (has_child v t) (vproc_in bag t) None)) ex ∙ ap (λ (b : Bool). cond b (vproc_in bag t) None) ey, ex, ey)

-- ---- the refusals one by one
abbrev pub early_by : Bool → Bool → Bool → Bool → Option Errno
early_by own ex l s = if not own then Some ESRCH else (if ex then Some EACCES else (if l || not s then Some EPERM else None))

abbrev all_by : Bool → Bool → Bool → Bool → Bool → Option Errno
all_by own ex l s k = if not own then Some ESRCH else (if ex then Some EACCES else (if l || (not s || k) then Some EPERM else None))

in_parts : (own ex l s j k : Bool) → (early_by own ex l s ≡ None → j ≡ k) → first_of (early_by own ex l s) (if j then Some EPERM else None) ≡ all_by own ex l s k
in_parts false ex l s j k e = refl
in_parts true true l s j k e = refl
in_parts true false true s j k e = refl
in_parts true false false false j k e = refl
in_parts true false false true j k e = ap (λ (b : Bool). if b then Some EPERM else None) (e refl)

-- the refusals that the records of processes tell
pub early_is : (rows : List Row) (v u : Vproc) (r c : Row) → IsRecordOf rows v r → IsRecordOf rows u c → early_refusal v (Some u) ≡ early_by (kernel.is_own r c) (kernel.is_execed_child r c) (is_session_leader c) (in_session r.session c)
early_is rows v u r c of is =
    ap (λ (q : Pid). if not (is_same q v.pid || (is_same u.parent v.pid && is_living u.life)) then Some ESRCH else (if is_same u.parent v.pid && u.execed then Some EACCES else (if is_same u.session q || not (is_same u.session v.session) then Some EPERM else None))) is.pid
    ∙ ap (λ (q : Pid). if not (is_same c.pid q || (is_same u.parent q && is_living u.life)) then Some ESRCH else (if is_same u.parent q && u.execed then Some EACCES else (if is_same u.session c.pid || not (is_same u.session v.session) then Some EPERM else None))) of.pid
    ∙ ap (λ (q : Pid). if not (is_same c.pid r.pid || (is_same q r.pid && is_living u.life)) then Some ESRCH else (if is_same q r.pid && u.execed then Some EACCES else (if is_same u.session c.pid || not (is_same u.session v.session) then Some EPERM else None))) is.parent
    ∙ ap (λ (l : Life). if not (is_same c.pid r.pid || (is_same c.parent r.pid && is_living l)) then Some ESRCH else (if is_same c.parent r.pid && u.execed then Some EACCES else (if is_same u.session c.pid || not (is_same u.session v.session) then Some EPERM else None))) is.life
    ∙ ap (λ (x : Bool). if not (is_same c.pid r.pid || (is_same c.parent r.pid && is_living c.life)) then Some ESRCH else (if is_same c.parent r.pid && x then Some EACCES else (if is_same u.session c.pid || not (is_same u.session v.session) then Some EPERM else None))) is.execed
    ∙ ap (λ (s : Pid). if not (is_same c.pid r.pid || (is_same c.parent r.pid && is_living c.life)) then Some ESRCH else (if is_same c.parent r.pid && c.execed then Some EACCES else (if is_same s c.pid || not (is_same s v.session) then Some EPERM else None))) is.session
    ∙ ap (λ (s : Pid). if not (is_same c.pid r.pid || (is_same c.parent r.pid && is_living c.life)) then Some ESRCH else (if is_same c.parent r.pid && c.execed then Some EACCES else (if is_same c.session c.pid || not (is_same c.session s) then Some EPERM else None))) of.session

-- the whole of a target that is named
refusal_named : (rows : List Row) (p : Pid) (sig : Signals) (bag : Bag) (r : Row) (v : Vproc) (g : Group) (t new : Pid) (u : Vproc) (c : Row) → Settled rows p sig bag r v g → Names rows bag p v r t u c → EachHeld bag (regroup_footprint bag v t new) →
    refusal_by bag v t new ≡ regroup_refusal rows r (Some c) new
refusal_named rows p sig bag r v g t new u c a n held =
    let of = own_record rows p bag r v a.agrees a.row a.vproc in
    let early = early_is rows v u r c of n.is in
    ap (λ (o : Option Vproc). first_of (early_refusal v o) (group_refusal bag v t new)) n.target
    ∙ ap (λ (o : Option Errno). first_of o (group_refusal bag v t new)) early
    ∙ in_parts (kernel.is_own r c) (kernel.is_execed_child r c) (is_session_leader c) (in_session r.session c) (not (is_same new t) && not (is_session_group v (group_in bag new))) (not (is_same new c.pid) && not (list_any (is_in_session_group r new) rows))
    (λ none. group_same (ap (early_refusal v) n.target ∙ early ∙ none) of)
  where
    rest : early_refusal v (target_in bag v t) ≡ None → EachHeld bag (move_footprint_of bag v (target_in bag v t) new)
    rest none = subst (λ (o : Option Errno). EachHeld bag (cond (is_some o) [] (move_footprint_of bag v (target_in bag v t) new))) none (held_later bag (cond (is_same t v.pid || has_child v t) (V t ∷ []) []) _ held)

    told : (o : Option (Option Group)) → group_at bag new ≡ o → is_some o ≡ true → IsRecordOf rows v r → is_session_group v (present o) ≡ list_any (is_in_session_group r new) rows
    told None e h of = cc
    told (Some h) e s of = session_group rows v r new h a.sound of (a.agrees.groups new h e)

    group_same : early_refusal v (target_in bag v t) ≡ None → IsRecordOf rows v r → (not (is_same new t) && not (is_session_group v (group_in bag new))) ≡ (not (is_same new c.pid) && not (list_any (is_in_session_group r new) rows))
    group_same none of =
        let all = subst (λ (o : Option Vproc). EachHeld bag (move_footprint_of bag v o new)) n.target (rest none) in
        ap (λ (q : Pid). not (is_same new q) && not (is_session_group v (group_in bag new))) (sym (row_pid rows t c n.row))
        ∙ ap (λ (b : Bool). not (is_same new c.pid) && not b) (told (group_at bag new) refl all.1.0 of)

-- ---- the numbers of the call
pub target_same : (v : Vproc) (r : Row) (t : ℕ) → v.pid ≡ r.pid → target_pid v t ≡ kernel.target_pid r t
target_same v r t e = ap (λ (q : Pid). cond (t == 0) q (pid t)) e

pub wanted_same : (v : Vproc) (r : Row) (t q : ℕ) → v.pid ≡ r.pid → wanted_group v t q ≡ kernel.wanted_group r t q
wanted_same v r t q e = ap (λ (x : Pid). cond (q == 0) x (pid q)) (target_same v r t e)

-- the row that a number names is that of the process that it names
row_named_is : (rows : List Row) (r : Row) (t : ℕ) → row_of rows r.pid ≡ Some r → row_named rows r t ≡ row_of rows (kernel.target_pid r t)
row_named_is rows r t here = go (t == 0)
  where
    go : (b : Bool) → cond b (Some r) (row_of rows (pid t)) ≡ row_of rows (cond b r.pid (pid t))
    go true = sym here
    go false = refl

-- who is neither the caller nor a child is refused
refusal_stranger : (rows : List Row) (r : Row) (v : Vproc) (t new : Pid) → IsRecordOf rows v r → is_same t v.pid ≡ false → has_child v t ≡ false → Some ESRCH ≡ regroup_refusal rows r (row_of rows t) new
refusal_stranger rows r v t new of np nc = go (row_of rows t) refl
  where
    go : (o : Option Row) → row_of rows t ≡ o → Some ESRCH ≡ regroup_refusal rows r o new
    go None e = refl
    go (Some c) e =
        let other : is_pid r.pid c ≡ false = ne_eqb _ _ (λ h. eqb-false _ _ np (sym (found number t.0 rows c e) ∙ h ∙ ap (λ (x : Pid). x.0) (sym of.pid))) in
        let far : is_parent r.pid c ≡ false = ne_eqb _ _ (λ h. let yes : has_child v t ≡ true = child_listed rows v r t c of e h in cc) in
        sym (ap (λ (b : Bool). if not b then Some ESRCH else (if kernel.is_execed_child r c then Some EACCES else (if is_fixed_in_group rows r c new then Some EPERM else None)))
        (ap (λ (b : Bool). b || is_living_child r.pid c) other ∙ ap (λ (b : Bool). b && is_living c.life) far))

pub refusal_is : (rows : List Row) (p : Pid) (sig : Signals) (bag : Bag) (r : Row) (v : Vproc) (g : Group) (t : ℕ) (q : ℤ) → Settled rows p sig bag r v g → EachHeld bag (setpgid_footprint bag v t q) → told.setpgid_refusal bag v t q ≡ setpgid_refusal rows r t q
refusal_is rows p sig bag r v g t (negsuc n) a held = refl
refusal_is rows p sig bag r v g t (pos q) a held =
    let of = own_record rows p bag r v a.agrees a.row a.vproc in
    go of (named rows p sig bag r v g (target_pid v t) (wanted_group v t q) a held)
    ∙ ap (λ (x : Pid). regroup_refusal rows r (row_of rows x) (wanted_group v t q)) (target_same v r t of.pid)
    ∙ ap (λ (o : Option Row). regroup_refusal rows r o (wanted_group v t q)) (sym (row_named_is rows r t (row_own rows p r a.row)))
    ∙ ap (regroup_refusal rows r (row_named rows r t)) (wanted_same v r t q of.pid)
  where
    go : IsRecordOf rows v r → ((u : Vproc) × (c : Row) × Names rows bag p v r (target_pid v t) u c) ⊎ ((target_in bag v (target_pid v t) ≡ None) × (is_same (target_pid v t) v.pid ≡ false) × (has_child v (target_pid v t) ≡ false)) →
        refusal_by bag v (target_pid v t) (wanted_group v t q) ≡ regroup_refusal rows r (row_of rows (target_pid v t)) (wanted_group v t q)
    go of (inl (u, c, n)) = refusal_named rows p sig bag r v g (target_pid v t) (wanted_group v t q) u c a n held ∙ ap (λ (o : Option Row). regroup_refusal rows r o (wanted_group v t q)) (sym n.row)
    go of (inr (none, np, nc)) = ap (λ (o : Option Vproc). first_of (early_refusal v o) (group_refusal bag v (target_pid v t) (wanted_group v t q))) none ∙ refusal_stranger rows r v (target_pid v t) (wanted_group v t q) of np nc
