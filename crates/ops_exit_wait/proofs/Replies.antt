-- which child is reported, told by records
use Rattle.std.proofs.Common.{◌≡◌, ◌==◌, ◌&&◌, ℤ, Bool, true, false, cond, List, [], ◌∷◌, refl, sym, ap, ◌∙◌, subst, Option, None, Some}
use Rattle.std.specs.Prelude.{is_some, find}
use Rattle.std.specs.Option.{option_map}
use Rattle.std.specs.List.{list_any}
use Rattle.std.proofs.lemmas.Bool.{eqb-true}
use Rattle.list_laws.proofs.Filters.{any-map, any-filter}
use Rattle.list_laws.proofs.Elements.{any-same}
use Rattle.unix_names.specs.declared.Pid.{Pid}
use Rattle.unix_names.specs.declared.Name.TheVariants.{V}
use Rattle.unix_names.specs.declared.Life.{Life}
use Rattle.unix_names.specs.declared.WaitStatus.{WaitStatus}
use Rattle.unix_calls.specs.declared.Selector.{Selector}
use Rattle.unix_calls.specs.declared.Selector.TheVariants as selector
use Rattle.unix_calls.specs.Calls.{selector_of}
use Rattle.vproc_record.specs.declared.Vproc.{Vproc}
use Rattle.record_bag.specs.declared.bag.Bag.{Bag}
use Rattle.record_bag.specs.Bags.{present, vproc_in}
use Rattle.process_table.specs.declared.Row.{Row}
use Rattle.process_table.specs.Rows.{row_of, is_pid, is_parent, children}
use Rattle.kernel_rules.specs.Wait.{is_match, report_of, is_ready_match}
use Rattle.kernel_rules.specs.Wait as kernel
use Rattle.kernel_model.specs.Sound.{IsSound}
use Rattle.decide_law.specs.Agrees.{vproc_at, IsRecordOf, VprocAgrees, Agrees}
use Rattle.decide_law.specs.Counts.{passes}
use Rattle.decide_law.specs.Told.{selects, is_ready, has_child, record_in, first_child}
use Rattle.decide_law.specs.Footprints.{selected_footprint}
use Rattle.decide_law.proofs.Records.{number, distinct, pid_same}
use Rattle.decide_law.proofs.Counts.{passes_same}
use Rattle.decide_law.proofs.Held.{held_flat}
use Rattle.decide_law.specs.Parts.{EachHeld}
use Rattle.list_laws.proofs.Firsts.{find-same, find-views, find_passes, find_own}
use Rattle.decide_law.proofs.Shell.{own_record}
use Rattle.decide_law.proofs.Told.{child_listed}
use Rattle.ops_exit_wait.specs.Waitpid.{has_match}

-- ---- tests
pub selects_same : (rows : List Row) (v u : Vproc) (r x : Row) (sel : Selector) → IsRecordOf rows v r → IsRecordOf rows u x → selects v sel u ≡ kernel.selects r sel x
selects_same rows v u r x selector.Any of is = refl
selects_same rows v u r x selector.OwnGroup of is = ap (λ (g : Pid). g.0 == v.group.0) is.group ∙ ap (λ (g : Pid). x.group.0 == g.0) of.group
selects_same rows v u r x (selector.One p) of is = ap (λ (q : Pid). q.0 == p.0) is.pid
selects_same rows v u r x (selector.InGroup g) of is = ap (λ (q : Pid). q.0 == g.0) is.group

pub report_same : (rows : List Row) (u : Vproc) (x : Row) (stopped continued : Bool) → IsRecordOf rows u x → report_of u.life u.change stopped continued ≡ report_of x.life x.change stopped continued
report_same rows u x stopped continued is = ap (λ (l : Life). report_of l u.change stopped continued) is.life ∙ ap (λ (c : Option WaitStatus). report_of x.life c stopped continued) is.change

pub ready_same : (rows : List Row) (v u : Vproc) (r x : Row) (sel : Selector) (stopped continued : Bool) → IsRecordOf rows v r → IsRecordOf rows u x → is_ready v sel stopped continued u ≡ (kernel.selects r sel x && is_some (report_of x.life x.change stopped continued))
ready_same rows v u r x sel stopped continued of is =
    ap (λ (b : Bool). b && is_some (report_of u.life u.change stopped continued)) (selects_same rows v u r x sel of is)
    ∙ ap (λ (o : Option WaitStatus). kernel.selects r sel x && is_some o) (report_same rows u x stopped continued is)

-- a child whose record is not held is not selected
unselected : (rows : List Row) (bag : Bag) (v : Vproc) (r x : Row) (sel : Selector) → IsRecordOf rows v r → EachHeld bag (selected_footprint v sel) → row_of rows x.pid ≡ Some x → x.parent.0 ≡ r.pid.0 → vproc_at bag x.pid ≡ None → kernel.selects r sel x ≡ false
unselected rows bag v r x (selector.One p) of held here up none = go (is_pid p x) refl
  where
    go : (b : Bool) → is_pid p x ≡ b → b ≡ false
    go true e =
        let listed : has_child v p ≡ true = child_listed rows v r p x of (ap (row_of rows) (pid_same p x.pid (sym (eqb-true _ _ e))) ∙ here) up in
        let there : is_some (vproc_at bag p) ≡ true = (subst (λ (b : Bool). EachHeld bag (cond b (V p ∷ []) [])) listed held).0 in
        let away : is_some (vproc_at bag p) ≡ false = ap (λ (q : Pid). is_some (vproc_at bag q)) (pid_same p x.pid (sym (eqb-true _ _ e))) ∙ ap is_some none in cc
    go false e = refl
unselected rows bag v r x selector.Any of held here up none = let there : is_some (vproc_at bag x.pid) ≡ true = (held_flat bag (λ c. V c ∷ []) v.children x.pid held (child_listed rows v r x.pid x of here up)).0 in let away : is_some (vproc_at bag x.pid) ≡ false = ap is_some none in cc
unselected rows bag v r x selector.OwnGroup of held here up none = let there : is_some (vproc_at bag x.pid) ≡ true = (held_flat bag (λ c. V c ∷ []) v.children x.pid held (child_listed rows v r x.pid x of here up)).0 in let away : is_some (vproc_at bag x.pid) ≡ false = ap is_some none in cc
unselected rows bag v r x (selector.InGroup g) of held here up none = let there : is_some (vproc_at bag x.pid) ≡ true = (held_flat bag (λ c. V c ∷ []) v.children x.pid held (child_listed rows v r x.pid x of here up)).0 in let away : is_some (vproc_at bag x.pid) ≡ false = ap is_some none in cc

-- a test of children, by record and by row
pub child_test : (rows : List Row) (bag : Bag) (v : Vproc) (r x : Row) (sel : Selector) (more : Bool) (test : Vproc → Bool) → IsRecordOf rows v r → Agrees bag rows → EachHeld bag (selected_footprint v sel) → row_of rows x.pid ≡ Some x →
    ((u : Vproc) → IsRecordOf rows u x → test u ≡ (kernel.selects r sel x && more)) → (is_parent r.pid x && passes test (vproc_in bag x.pid)) ≡ (is_parent r.pid x && (kernel.selects r sel x && more))
child_test rows bag v r x sel more test of a held here same = go (is_parent r.pid x) refl
  where
    by_held : (o : Option (Option Vproc)) → vproc_at bag x.pid ≡ o → x.parent.0 ≡ r.pid.0 → passes test (present o) ≡ (kernel.selects r sel x && more)
    by_held None e up = sym (ap (λ (b : Bool). b && more) (unselected rows bag v r x sel of held here up e))
    by_held (Some h) e up = passes_same rows test h (row_of rows x.pid) x (kernel.selects r sel x && more) (a.vprocs x.pid h e) here same

    go : (b : Bool) → is_parent r.pid x ≡ b → (b && passes test (vproc_in bag x.pid)) ≡ (b && (kernel.selects r sel x && more))
    go true e = by_held (vproc_at bag x.pid) refl (eqb-true _ _ e)
    go false e = refl

and_true : (b : Bool) → (b && true) ≡ b
and_true true = refl
and_true false = refl

three : (a b c : Bool) → (a && (b && c)) ≡ ((a && b) && c)
three true b c = refl
three false b c = refl

-- some child is named exactly where a row matches
pub match_is : (rows : List Row) (bag : Bag) (v : Vproc) (r : Row) (sel : ℤ) → IsSound rows → Agrees bag rows → IsRecordOf rows v r → EachHeld bag (selected_footprint v (selector_of sel)) → has_match bag v sel ≡ list_any (is_match r (selector_of sel)) rows
match_is rows bag v r sel k a of held =
    ap (list_any (λ c. passes (selects v (selector_of sel)) (vproc_in bag c))) of.children
    ∙ any-map (λ c. passes (selects v (selector_of sel)) (vproc_in bag c)) (λ (x : Row). x.pid) (children rows r.pid)
    ∙ any-filter (λ (x : Row). passes (selects v (selector_of sel)) (vproc_in bag x.pid)) (is_parent r.pid) rows
    ∙ any-same number (λ x. is_parent r.pid x && passes (selects v (selector_of sel)) (vproc_in bag x.pid)) (is_match r (selector_of sel)) rows (distinct rows k.distinct)
    (λ x here. child_test rows bag v r x (selector_of sel) true (selects v (selector_of sel)) of a held here (λ u is. selects_same rows v u r x (selector_of sel) of is ∙ sym (and_true (kernel.selects r (selector_of sel) x)))
    ∙ ap (λ (b : Bool). is_parent r.pid x && b) (and_true (kernel.selects r (selector_of sel) x)))

-- the first child that is ready is that of the first row that is
find_is : (rows : List Row) (bag : Bag) (v : Vproc) (r : Row) (sel : Selector) (stopped continued : Bool) → IsSound rows → Agrees bag rows → IsRecordOf rows v r → EachHeld bag (selected_footprint v sel) →
    find (λ c. passes (is_ready v sel stopped continued) (vproc_in bag c)) v.children ≡ option_map (λ (x : Row). x.pid) (find (is_ready_match r sel stopped continued) rows)
find_is rows bag v r sel stopped continued k a of held =
    ap (find (λ c. passes (is_ready v sel stopped continued) (vproc_in bag c))) of.children
    ∙ find-views (λ (x : Row). x.pid) (is_parent r.pid) (λ c. passes (is_ready v sel stopped continued) (vproc_in bag c)) rows
    ∙ ap (option_map (λ (x : Row). x.pid)) (find-same number (λ x. is_parent r.pid x && passes (is_ready v sel stopped continued) (vproc_in bag x.pid)) (is_ready_match r sel stopped continued) rows (distinct rows k.distinct)
    (λ x here. child_test rows bag v r x sel (is_some (report_of x.life x.change stopped continued)) (is_ready v sel stopped continued) of a held here (λ u is. ready_same rows v u r x sel stopped continued of is)
    ∙ three (is_parent r.pid x) (kernel.selects r sel x) (is_some (report_of x.life x.change stopped continued))))

-- nobody is ready
pub none_ready : (rows : List Row) (bag : Bag) (v : Vproc) (r : Row) (sel : Selector) (stopped continued : Bool) → IsSound rows → Agrees bag rows → IsRecordOf rows v r → EachHeld bag (selected_footprint v sel) →
    find (is_ready_match r sel stopped continued) rows ≡ None → first_child bag v (is_ready v sel stopped continued) ≡ None
none_ready rows bag v r sel stopped continued k a of held e = ap (record_in bag) (find_is rows bag v r sel stopped continued k a of held ∙ ap (option_map (λ (x : Row). x.pid)) e)

and_parts : (a b c : Bool) → ((a && b) && c) ≡ true → (a ≡ true) × (c ≡ true)
and_parts true true c e = (refl, e)
and_parts true false c e = cc
and_parts false b c e = cc

-- the record of the child of this row, which is ready
pub record FirstReady (rows : List Row) (bag : Bag) (v : Vproc) (r : Row) (sel : Selector) (stopped continued : Bool) (x : Row) : Type 0 where
  pub child : Vproc
  pub first : first_child bag v (is_ready v sel stopped continued) ≡ Some child
  pub held : vproc_at bag x.pid ≡ Some (Some child)
  pub row : row_of rows x.pid ≡ Some x
  pub is : IsRecordOf rows child x
  pub parent : x.parent.0 ≡ r.pid.0
  pub ready : is_some (report_of x.life x.change stopped continued) ≡ true

pub some_ready : (rows : List Row) (bag : Bag) (v : Vproc) (r : Row) (sel : Selector) (stopped continued : Bool) (x : Row) → IsSound rows → Agrees bag rows → IsRecordOf rows v r → EachHeld bag (selected_footprint v sel) →
    find (is_ready_match r sel stopped continued) rows ≡ Some x → FirstReady rows bag v r sel stopped continued x
some_ready rows bag v r sel stopped continued x k a of held e = go (vproc_at bag x.pid) refl
  where
    here : row_of rows x.pid ≡ Some x
    here = find_own number (is_ready_match r sel stopped continued) rows x (distinct rows k.distinct) e

    found : find (λ c. passes (is_ready v sel stopped continued) (vproc_in bag c)) v.children ≡ Some x.pid
    found = find_is rows bag v r sel stopped continued k a of held ∙ ap (option_map (λ (x : Row). x.pid)) e

    facts : (is_parent r.pid x ≡ true) × (is_some (report_of x.life x.change stopped continued) ≡ true)
    facts = and_parts (is_parent r.pid x) (kernel.selects r sel x) (is_some (report_of x.life x.change stopped continued)) (find_passes (is_ready_match r sel stopped continued) rows x e)

    told : passes (is_ready v sel stopped continued) (vproc_in bag x.pid) ≡ true
    told = find_passes (λ c. passes (is_ready v sel stopped continued) (vproc_in bag c)) v.children x.pid found

    go : (o : Option (Option Vproc)) → vproc_at bag x.pid ≡ o → FirstReady rows bag v r sel stopped continued x
    go None s = let no : passes (is_ready v sel stopped continued) (vproc_in bag x.pid) ≡ false = ap (λ h. passes (is_ready v sel stopped continued) (present h)) s in let yes = told in absurd cc
    go (Some None) s = absurd (subst (VprocAgrees rows None) here (a.vprocs x.pid None s))
    go (Some (Some u)) s = record {
      child = u;
      first = ap (record_in bag) found ∙ ap present s;
      held = s;
      row = here;
      is = own_record rows x.pid bag x u a here s;
      parent = eqb-true _ _ facts.0;
      ready = facts.1;
    }
