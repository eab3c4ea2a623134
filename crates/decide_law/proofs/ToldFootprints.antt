-- each name of a footprint is the process's own, its job's, or one of the table's
use Rattle.std.proofs.Common.{◌≡◌, inl, inr, ◌==◌, ◌||◌, ◌++◌, ℕ, ℤ, pos, negsuc, zero, suc, nat_lt, Bool, true, false, cond, List, [], ◌∷◌, refl, sym, ap, ◌∙◌, subst, Option, None, Some}
use Rattle.std.specs.Prelude.{map, filter, flat_map, find, is_some}
use Rattle.std.proofs.lemmas.List.Elements.{All-nil, All-cons, All-head, All-tail}
use Rattle.unix_names.specs.declared.Pid.{Pid}
use Rattle.unix_names.specs.declared.Name.{Name}
use Rattle.unix_names.specs.declared.Name.TheVariants.{V, G}
use Rattle.unix_names.specs.Names.{pid_of}
use Rattle.unix_names.specs.States.{is_living}
use Rattle.unix_calls.specs.declared.Job.{Job}
use Rattle.unix_calls.specs.Calls.{target_of, selector_of}
use Rattle.vproc_record.specs.declared.Vproc.{Vproc}
use Rattle.record_bag.specs.declared.bag.Bag.{Bag}
use Rattle.record_bag.specs.Bags.{vproc_in}
use Rattle.process_table.specs.declared.Row.{Row}
use Rattle.process_table.specs.Rows.{pid, is_same, is_parent, row_of}
use Rattle.kernel_rules.specs.Kill.{is_sendable}
use Rattle.decide_law.specs.Agrees.{vproc_at, IsRecordOf, VprocAgrees, Agrees, group_at}
use Rattle.decide_law.specs.Needs.{size, OfRow, IsNamed, AreTold, OfJob}
use Rattle.decide_law.specs.Told.{has_child, target_pid, wanted_group, target_in, early_refusal, is_ready, record_in, first_child}
use Rattle.decide_law.specs.Counts.{passes}
use Rattle.decide_law.specs.Footprints.{living_group_shown, with_living_group, parent_name, living_children_footprint, look_footprint, target_footprint, kill_footprint, move_footprint_of, setpgid_footprint, selected_footprint, ended_group_shown, lacking, is_none, wait_footprint, group_shown, with_group, parent_footprint, children_footprint, end_footprint, setsid_rest, call_footprint}
use Rattle.std.proofs.lemmas.Bool.{eq-eqb}
use Rattle.list_laws.proofs.Filters.{some_same}
use Rattle.decide_law.proofs.Records.{row_pid}
use Rattle.decide_law.proofs.Told.{present_vproc}
use Rattle.group_record.specs.declared.Group.{Group}
use Rattle.unix_calls.specs.declared.Call.{Call}
use Rattle.unix_calls.specs.declared.Call.TheVariants as calls
use Rattle.unix_calls.specs.declared.Job.TheVariants.{Ask}
use Rattle.unix_names.specs.declared.NodeId.{NodeId}

module _ (rows : List Row) (p : Pid) (job : Job) (bag : Bag) (a : Agrees bag rows) where
  abbrev Named : Name → Type 0
  Named n = IsNamed rows p job (pid_of n)

  none : AreTold rows p job []
  none = All-nil Named

  more : (n : Name) (ns : List Name) → IsNamed rows p job (pid_of n) → AreTold rows p job ns → AreTold rows p job (n ∷ ns)
  more n ns is all = All-cons Named n ns is all

  join : (xs ys : List Name) → AreTold rows p job xs → AreTold rows p job ys → AreTold rows p job (xs ++ ys)
  join [] ys all rest = rest
  join (x ∷ xs) ys all rest = more x (xs ++ ys) (All-head Named x xs all) (join xs ys (All-tail Named x xs all) rest)

  choose : (b : Bool) (xs ys : List Name) → AreTold rows p job xs → AreTold rows p job ys → AreTold rows p job (cond b xs ys)
  choose true xs ys f g = f
  choose false xs ys f g = g

  pick : (b : Bool) (x y : Pid) → IsNamed rows p job x.0 → IsNamed rows p job y.0 → IsNamed rows p job (cond b x y).0
  pick true x y f g = f
  pick false x y f g = g

  -- ---- what a held record tells
  pub record Known (u : Vproc) : Type 0 where
    pub pid : Pid
    pub row : Row
    pub there : row_of rows pid ≡ Some row
    pub of : IsRecordOf rows u row

  pub known : (q : Pid) (u : Vproc) → vproc_at bag q ≡ Some (Some u) → Known u
  known q u e = go (row_of rows q) refl (a.vprocs q (Some u) e)
    where
      go : (o : Option Row) → row_of rows q ≡ o → VprocAgrees rows (Some u) o → Known u
      go None here of = absurd of
      go (Some c) here of = record { pid = q; row = c; there = here; of = of }

  own_named : (u : Vproc) → Known u → IsNamed rows p job u.pid.0
  own_named u k = OfRow k.pid k.row k.there (inl (ap (λ (q : Pid). q.0) k.of.pid))

  parent_named : (u : Vproc) → Known u → IsNamed rows p job u.parent.0
  parent_named u k = OfRow k.pid k.row k.there (inr (inl (ap (λ (q : Pid). q.0) k.of.parent)))

  group_named : (u : Vproc) → Known u → IsNamed rows p job u.group.0
  group_named u k = OfRow k.pid k.row k.there (inr (inr (inl (ap (λ (q : Pid). q.0) k.of.group))))

  living_told : (o : Option Vproc) → ((u : Vproc) → o ≡ Some u → Known u) → AreTold rows p job (living_group_shown o)
  living_told None has = none
  living_told (Some u) has = choose (is_living u.life) (G u.group ∷ []) [] (more (G u.group) [] (group_named u (has u refl)) none) none

  with_living_told : (q : Pid) → IsNamed rows p job q.0 → AreTold rows p job (with_living_group bag q)
  with_living_told q is = more (V q) (living_group_shown (vproc_in bag q)) is (living_told (vproc_in bag q) (λ u e. known q u (present_vproc bag q u e)))

  has_row : (q : Pid) → is_some (row_of rows q) ≡ true → IsNamed rows p job q.0
  has_row q e = go (row_of rows q) refl e
    where
      go : (o : Option Row) → row_of rows q ≡ o → is_some o ≡ true → IsNamed rows p job q.0
      go None here e = cc
      go (Some r) here e = OfRow q r here (inl (ap (λ (x : Pid). x.0) (sym (row_pid rows q r here))))

  kids : (f : Pid → List Name) → ((q : Pid) → IsNamed rows p job q.0 → AreTold rows p job (f q)) → (t : Row → Bool) (xs : List Row) → ((q : Pid) → is_some (row_of xs q) ≡ true → is_some (row_of rows q) ≡ true) →
      AreTold rows p job (flat_map f (map (λ c. c.pid) (filter t xs)))
  kids f each t [] inc = none
  kids f each t (x ∷ xs) inc = go (t x) (each x.pid (has_row x.pid (inc x.pid (first x.pid (x.pid.0 == x.pid.0) refl)))) (kids f each t xs (λ q e. inc q (still q (x.pid.0 == q.0) e)))
    where
      still : (q : Pid) (b : Bool) → is_some (row_of xs q) ≡ true → is_some (cond b (Some x) (row_of xs q)) ≡ true
      still q true e = refl
      still q false e = e

      first : (q : Pid) (b : Bool) → (x.pid.0 == x.pid.0) ≡ b → is_some (cond b (Some x) (row_of xs q)) ≡ true
      first q true e = refl
      first q false e = let s : true ≡ false = sym (same x.pid.0) ∙ e in cc
        where
          same : (n : ℕ) → (n == n) ≡ true
          same n = eq-eqb n n refl

      go : (b : Bool) → AreTold rows p job (f x.pid) → AreTold rows p job (flat_map f (map (λ c. c.pid) (filter t xs))) → AreTold rows p job (flat_map f (map (λ c. c.pid) (cond b (x ∷ filter t xs) (filter t xs))))
      go true one rest = join (f x.pid) (flat_map f (map (λ c. c.pid) (filter t xs))) one rest
      go false one rest = rest

  children_told : (f : Pid → List Name) → ((q : Pid) → IsNamed rows p job q.0 → AreTold rows p job (f q)) → (u : Vproc) → Known u → AreTold rows p job (flat_map f u.children)
  children_told f each u k = subst (λ (l : List Pid). AreTold rows p job (flat_map f l)) (sym k.of.children) (kids f each (is_parent k.row.pid) rows (λ q e. e))

  -- ---- footprints of calls
  pub look_told : (t : ℕ) → IsNamed rows p job t → AreTold rows p job (look_footprint t)
  look_told t is = choose (nat_lt 1 t) (V (pid t) ∷ []) [] (more (V (pid t)) [] is none) none

  pub kill_told : (z : ℤ) (s : ℕ) → IsNamed rows p job (size z) → AreTold rows p job (kill_footprint bag (target_of z) s)
  kill_told z s is = choose (is_sendable s) (target_footprint bag (target_of z)) [] (go z is) none
    where
      go : (z : ℤ) → IsNamed rows p job (size z) → AreTold rows p job (target_footprint bag (target_of z))
      go (pos zero) is = none
      go (pos (suc n)) is = choose (suc n == 1) [] (with_living_group bag (record { 0 = suc n })) none (with_living_told (record { 0 = suc n }) is)
      go (negsuc n) is = more (G (record { 0 = suc n })) [] is none

  ended_told : (o : Option Vproc) → ((u : Vproc) → o ≡ Some u → Known u) → AreTold rows p job (ended_group_shown o)
  ended_told None has = none
  ended_told (Some u) has = choose (is_living u.life) [] (G u.group ∷ []) none (more (G u.group) [] (group_named u (has u refl)) none)

  pub wait_told : (v : Vproc) → Known v → (sel : ℤ) (stopped continued : Bool) → IsNamed rows p job (size sel) → AreTold rows p job (wait_footprint bag v (selector_of sel) stopped continued)
  wait_told v k sel stopped continued is =
      join (selected_footprint v (selector_of sel)) _ (selected sel is)
      (choose (is_none (lacking bag (selected_footprint v (selector_of sel)))) (ended_group_shown (first_child bag v (is_ready v (selector_of sel) stopped continued))) []
      (ended_told (first_child bag v (is_ready v (selector_of sel) stopped continued)) (λ u e. of_child (find (λ c. passes (is_ready v (selector_of sel) stopped continued) (vproc_in bag c)) v.children) u e)) none)
    where
      all : AreTold rows p job (flat_map (λ c. V c ∷ []) v.children)
      all = children_told (λ c. V c ∷ []) (λ q named. more (V q) [] named none) v k

      of_child : (o : Option Pid) (u : Vproc) → record_in bag o ≡ Some u → Known u
      of_child None u e = cc
      of_child (Some c) u e = known c u (present_vproc bag c u e)

      selected : (sel : ℤ) → IsNamed rows p job (size sel) → AreTold rows p job (selected_footprint v (selector_of sel))
      selected (pos zero) is = all
      selected (pos (suc n)) is = choose (has_child v (record { 0 = suc n })) (V (record { 0 = suc n }) ∷ []) [] (more (V (record { 0 = suc n })) [] is none) none
      selected (negsuc zero) is = all
      selected (negsuc (suc n)) is = all

  pub setpgid_told : (v : Vproc) → Known v → (t : ℕ) (q : ℤ) → IsNamed rows p job t → IsNamed rows p job (size q) → AreTold rows p job (setpgid_footprint bag v t q)
  setpgid_told v k t (negsuc n) named_t named_q = none
  setpgid_told v k t (pos q) named_t named_q =
      join (cond (is_same (target_pid v t) v.pid || has_child v (target_pid v t)) (V (target_pid v t) ∷ []) []) _
      (choose (is_same (target_pid v t) v.pid || has_child v (target_pid v t)) (V (target_pid v t) ∷ []) [] (more (V (target_pid v t)) [] target none) none)
      (choose (is_some (early_refusal v (target_in bag v (target_pid v t)))) [] (move_footprint_of bag v (target_in bag v (target_pid v t)) (wanted_group v t q)) none (moved (target_in bag v (target_pid v t)) (λ u e. of_target (is_same (target_pid v t) v.pid) (has_child v (target_pid v t)) u e)))
    where
      target : IsNamed rows p job (target_pid v t).0
      target = pick (t == 0) v.pid (pid t) (own_named v k) named_t

      wanted : IsNamed rows p job (wanted_group v t q).0
      wanted = pick (q == 0) (target_pid v t) (pid q) target named_q

      of_target : (b c : Bool) (u : Vproc) → cond b (Some v) (cond c (vproc_in bag (target_pid v t)) None) ≡ Some u → Known u
      of_target true c u e = subst Known (some_same v u e) k
      of_target false true u e = known (target_pid v t) u (present_vproc bag (target_pid v t) u e)
      of_target false false u e = cc

      moved : (o : Option Vproc) → ((u : Vproc) → o ≡ Some u → Known u) → AreTold rows p job (move_footprint_of bag v o (wanted_group v t q))
      moved None has = none
      moved (Some u) has =
          more (G u.group) (G (wanted_group v t q) ∷ (cond (is_same u.pid v.pid) (parent_name u) [] ++ living_children_footprint bag u)) (group_named u (has u refl)) (more (G (wanted_group v t q)) (cond (is_same u.pid v.pid) (parent_name u) [] ++ living_children_footprint bag u) wanted
          (join (cond (is_same u.pid v.pid) (parent_name u) []) (living_children_footprint bag u)
          (choose (is_same u.pid v.pid) (parent_name u) [] (choose (u.parent.0 == 1) [] (V u.parent ∷ []) none (more (V u.parent) [] (parent_named u (has u refl)) none)) none)
          (children_told (with_living_group bag) (λ q named. with_living_told q named) u (has u refl))))

  -- ---- the other calls
  group_told : (o : Option Vproc) → ((u : Vproc) → o ≡ Some u → Known u) → AreTold rows p job (group_shown o)
  group_told None has = none
  group_told (Some u) has = more (G u.group) [] (group_named u (has u refl)) none

  with_group_told : (q : Pid) → IsNamed rows p job q.0 → AreTold rows p job (with_group bag q)
  with_group_told q is = more (V q) (group_shown (vproc_in bag q)) is (group_told (vproc_in bag q) (λ u e. known q u (present_vproc bag q u e)))

  pub parent_told : (v : Vproc) → Known v → AreTold rows p job (parent_footprint bag v)
  parent_told v k = choose (v.parent.0 == 1) [] (with_group bag v.parent) none (with_group_told v.parent (parent_named v k))

  pub end_told : (v : Vproc) → Known v → AreTold rows p job (end_footprint bag v)
  end_told v k = join (parent_footprint bag v) (children_footprint bag v) (parent_told v k) (children_told (with_group bag) (λ q named. with_group_told q named) v k)

  pub setsid_told : (v : Vproc) → Known v → AreTold rows p job (G v.pid ∷ setsid_rest bag v (group_at bag v.pid))
  setsid_told v k = more (G v.pid) (setsid_rest bag v (group_at bag v.pid)) (own_named v k) (go (group_at bag v.pid))
    where
      go : (o : Option (Option Group)) → AreTold rows p job (setsid_rest bag v o)
      go None = none
      go (Some None) = join (parent_name v) (living_children_footprint bag v) (choose (v.parent.0 == 1) [] (V v.parent ∷ []) none (more (V v.parent) [] (parent_named v k) none)) (children_told (with_living_group bag) (λ q named. with_living_told q named) v k)
      go (Some (Some g)) = none

-- each name of a call's footprint is told
pub call_told : (rows : List Row) (p : Pid) (call : Call) (at : Option NodeId) (bag : Bag) → (a : Agrees bag rows) → (v : Vproc) → Known rows p (Ask call at) bag a v → AreTold rows p (Ask call at) (call_footprint bag v call)
call_told rows p (calls.Getpgid t) at bag a v k = look_told rows p (Ask (calls.Getpgid t) at) bag a t (OfJob refl)
call_told rows p (calls.Getsid t) at bag a v k = look_told rows p (Ask (calls.Getsid t) at) bag a t (OfJob refl)
call_told rows p (calls.Kill target s) at bag a v k = kill_told rows p (Ask (calls.Kill target s) at) bag a target s (OfJob refl)
call_told rows p (calls.Setpgid t q) at bag a v k = setpgid_told rows p (Ask (calls.Setpgid t q) at) bag a v k t q (OfJob (inl refl)) (OfJob (inr refl))
call_told rows p calls.Setsid at bag a v k = setsid_told rows p (Ask calls.Setsid at) bag a v k
call_told rows p (calls.Waitpid sel stopped continued) at bag a v k = wait_told rows p (Ask (calls.Waitpid sel stopped continued) at) bag a v k sel stopped continued (OfJob refl)
call_told rows p (calls.Exit n) at bag a v k = end_told rows p (Ask (calls.Exit n) at) bag a v k
call_told rows p calls.Getpid at bag a v k = none rows p (Ask calls.Getpid at) bag a
call_told rows p calls.Getppid at bag a v k = none rows p (Ask calls.Getppid at) bag a
call_told rows p calls.Fork at bag a v k = none rows p (Ask calls.Fork at) bag a
call_told rows p calls.Exec at bag a v k = none rows p (Ask calls.Exec at) bag a
call_told rows p (calls.Action s act) at bag a v k = none rows p (Ask (calls.Action s act) at) bag a
call_told rows p (calls.Mask set) at bag a v k = none rows p (Ask (calls.Mask set) at) bag a
call_told rows p calls.Pending at bag a v k = none rows p (Ask calls.Pending at) bag a
call_told rows p calls.Migrate at bag a v k = none rows p (Ask calls.Migrate at) bag a
