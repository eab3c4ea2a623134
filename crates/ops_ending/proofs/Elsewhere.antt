-- what is not held goes on to agree
use Rattle.std.proofs.Common.{◌≡◌, ◌==◌, ◌&&◌, ◌||◌, Bool, true, false, cond, not, List, length, refl, sym, ap, ◌∙◌, subst, Option, None, Some, inl, inr, ◌⊎◌}
use Rattle.std.specs.Prelude.{map, filter, is_some}
use Rattle.std.specs.Option.{option_map}
use Rattle.std.proofs.lemmas.Bool.{eqb-true, ne_eqb}
use Rattle.list_laws.specs.Keyed.{option_filter}
use Rattle.list_laws.proofs.Filters.{and_true, filter-map, filter-filter}
use Rattle.list_laws.proofs.Elements.{filter-same}
use Rattle.unix_names.specs.declared.Pid.{Pid}
use Rattle.unix_names.specs.declared.WaitStatus.{WaitStatus}
use Rattle.unix_names.specs.States.{is_living}
use Rattle.vproc_record.specs.declared.Vproc.{Vproc}
use Rattle.group_record.specs.declared.Group.{Group}
use Rattle.record_bag.specs.declared.bag.Bag.{Bag}
use Rattle.process_table.specs.declared.Row.{Row}
use Rattle.process_table.specs.Rows.{row_of, is_pid, is_parent, in_group, is_stopped, children}
use Rattle.process_table.specs.Orphans.{is_outside_parent, is_link_of, is_stopped_in}
use Rattle.kernel_rules.specs.Ending.{vanishes}
use Rattle.kernel_laws.proofs.Ends.{is_left, after_end_of}
use Rattle.decide_law.specs.Agrees.{vproc_at, group_at, children_of, uid_in, links_in, stopped_in, IsRecordOf, VprocAgrees, GroupAgrees}
use Rattle.decide_law.proofs.Records.{number, distinct, pid_same, row_pid, row_own}
use Rattle.decide_law.proofs.Counts.{is_near}
use Rattle.decide_law.proofs.Shell.{own_record}
use Rattle.ops_ending.specs.Ending.{goes, left_vproc, ended_vproc}
use Rattle.ops_ending.proofs.Kin.{HoldsBoth}
use Rattle.ops_ending.proofs.Turned.{count_turned}
use Rattle.ops_ending.proofs.Vprocs.{left_rows, vproc_left}
use Rattle.ops_ending.proofs.Groups.{IsEnd, own_held, same_row, uid_left, far_link, far_stopped, session_left}

-- ---- groups
pub in_other : (bag : Bag) (id g : Pid) → group_at bag id ≡ None → is_some (group_at bag g) ≡ true → (g.0 == id.0) ≡ false
in_other bag id g none held = ne_eqb _ _ (λ e. let h : is_some (group_at bag id) ≡ true = ap (λ (q : Pid). is_some (group_at bag q)) (pid_same id g (sym e)) ∙ held in let n : is_some (group_at bag id) ≡ false = ap is_some none in cc)

-- a process whose record and group are held is in no group that is not held
pub both_out : (rows : List Row) (bag : Bag) (r : Row) (id q : Pid) (c : Row) → IsEnd rows bag r → group_at bag id ≡ None → HoldsBoth bag q → row_of rows q ≡ Some c → in_group id c ≡ false
both_out rows bag r id q c a none h here = ap (λ (g : Pid). g.0 == id.0) (sym (own_record rows q bag c h.vproc a.agrees here h.held).group) ∙ in_other bag id h.vproc.group none h.group

near_out : (rows : List Row) (bag : Bag) (r : Row) (id : Pid) (c : Row) → IsEnd rows bag r → group_at bag id ≡ None → row_of rows c.pid ≡ Some c → (x y : Bool) → is_pid r.pid c ≡ x → is_parent r.pid c ≡ y → (x || y) ≡ true → in_group id c ≡ false
near_out rows bag r id c a none here true y ex ey n = both_out rows bag r id r.pid c a none a.own (ap (row_of rows) (pid_same r.pid c.pid (sym (eqb-true _ _ ex))) ∙ here)
near_out rows bag r id c a none here false true ex ey n = both_out rows bag r id c.pid c a none (a.kin.children c.pid c here (eqb-true _ _ ey)) here
near_out rows bag r id c a none here false false ex ey n = cc

-- a member of a group that is not held stays
stays_out : (rows : List Row) (bag : Bag) (r : Row) (w : WaitStatus) (id : Pid) (c : Row) → IsEnd rows bag r → group_at bag id ≡ None → row_of rows c.pid ≡ Some c → in_group id c ≡ true → is_left rows r w c ≡ true
stays_out rows bag r w id c a none here i = go (is_pid r.pid c) (is_parent r.pid c) refl refl
  where
    go : (x y : Bool) → is_pid r.pid c ≡ x → is_parent r.pid c ≡ y → is_left rows r w c ≡ true
    go true y ex ey = let no : in_group id c ≡ false = near_out rows bag r id c a none here true y ex ey refl in cc
    go false true ex ey = let no : in_group id c ≡ false = near_out rows bag r id c a none here false true ex ey refl in cc
    go false false ex ey = rw (ex, ey)

drop_out : (s i b c : Bool) → i ≡ false → (s && (i && b)) ≡ (i && c)
drop_out true i b c e = ap (λ t. t && b) e ∙ sym (ap (λ t. t && c) e)
drop_out false i b c e = sym (ap (λ t. t && c) e)

pub links_out : (rows : List Row) (bag : Bag) (r : Row) (w : WaitStatus) (id : Pid) → IsEnd rows bag r → group_at bag id ≡ None → links_in (left_rows rows r w) id ≡ links_in rows id
links_out rows bag r w id a none =
    count_turned (is_left rows r w) (after_end_of rows r w) (is_link_of (left_rows rows r w) id) rows
    ∙ ap length (filter-same number (λ c. is_left rows r w c && is_link_of (left_rows rows r w) id (after_end_of rows r w c)) (is_link_of rows id) rows (distinct rows a.sound.distinct) (λ c here. pick c here (is_near r.pid c) refl))
  where
    pick : (c : Row) → row_of rows c.pid ≡ Some c → (b : Bool) → is_near r.pid c ≡ b → (is_left rows r w c && is_link_of (left_rows rows r w) id (after_end_of rows r w c)) ≡ is_link_of rows id c
    pick c here true n = drop_out (is_left rows r w c) (in_group id c) (is_living (after_end_of rows r w c).life && is_outside_parent (after_end_of rows r w c) (row_of (left_rows rows r w) (after_end_of rows r w c).parent)) (is_living c.life && is_outside_parent c (row_of rows c.parent)) (near_out rows bag r id c a none here (is_pid r.pid c) (is_parent r.pid c) refl refl n)
    pick c here false n = sym (far_link rows r w id c a.sound here n)

stopped_out : (rows : List Row) (bag : Bag) (r : Row) (w : WaitStatus) (id : Pid) → IsEnd rows bag r → group_at bag id ≡ None → stopped_in (left_rows rows r w) id ≡ stopped_in rows id
stopped_out rows bag r w id a none =
    count_turned (is_left rows r w) (after_end_of rows r w) (is_stopped_in id) rows
    ∙ ap length (filter-same number (λ c. is_left rows r w c && is_stopped_in id (after_end_of rows r w c)) (is_stopped_in id) rows (distinct rows a.sound.distinct) (λ c here. pick c here (is_near r.pid c) refl))
  where
    pick : (c : Row) → row_of rows c.pid ≡ Some c → (b : Bool) → is_near r.pid c ≡ b → (is_left rows r w c && is_stopped_in id (after_end_of rows r w c)) ≡ is_stopped_in id c
    pick c here true n = drop_out (is_left rows r w c) (in_group id c) (is_stopped (after_end_of rows r w c).life) (is_stopped c.life) (near_out rows bag r id c a none here (is_pid r.pid c) (is_parent r.pid c) refl refl n)
    pick c here false n = sym (far_stopped rows r w id c n)

uid_out : (rows : List Row) (bag : Bag) (r : Row) (w : WaitStatus) (id q : Pid) → IsEnd rows bag r → group_at bag id ≡ None → uid_in (left_rows rows r w) id q ≡ uid_in rows id q
uid_out rows bag r w id q a none = uid_left rows r w id q a.sound ∙ go (row_of rows q) (λ x e. row_own rows q x e)
  where
    last : (x : Row) (i s : Bool) → (i ≡ true → s ≡ true) → option_map (λ (c : Row). c.uid) (cond (s && i) (Some x) None) ≡ option_map (λ (c : Row). c.uid) (cond i (Some x) None)
    last x true true f = refl
    last x true false f = let h : false ≡ true = f refl in cc
    last x false true f = refl
    last x false false f = refl

    go : (o : Option Row) → ((x : Row) → o ≡ Some x → row_of rows x.pid ≡ Some x) → option_map (λ (c : Row). c.uid) (option_filter (λ c. is_left rows r w c && in_group id c) o) ≡ option_map (λ (c : Row). c.uid) (option_filter (in_group id) o)
    go None here = refl
    go (Some x) here = last x (in_group id x) (is_left rows r w x) (λ i. stays_out rows bag r w id x a none (here x refl) i)

pub groups_out : (rows : List Row) (bag : Bag) (r : Row) (w : WaitStatus) (id : Pid) (h : Option Group) → IsEnd rows bag r → group_at bag id ≡ None → GroupAgrees rows id h → GroupAgrees (left_rows rows r w) id h
groups_out rows bag r w id None a none k = λ q. uid_out rows bag r w id q a none ∙ k q
groups_out rows bag r w id (Some g) a none k = (
  k.0,
  record {
    id_is = k.1.id_is;
    distinct = k.1.distinct;
    members = λ q. k.1.members q ∙ sym (uid_out rows bag r w id q a none);
    session = session_left rows r w id g.session a.sound k.1.session;
    from = k.1.from;
    links = k.1.links ∙ sym (links_out rows bag r w id a none);
    stopped = k.1.stopped ∙ sym (stopped_out rows bag r w id a none);
  },
)

-- ---- processes
not_self : (rows : List Row) (bag : Bag) (r x : Row) → IsEnd rows bag r → vproc_at bag x.pid ≡ None → is_pid r.pid x ≡ false
not_self rows bag r x a none = ne_eqb _ _ (λ e. let h = own_held rows bag r x.pid a e in let n : is_some (vproc_at bag x.pid) ≡ false = ap is_some none in cc)

not_child : (rows : List Row) (bag : Bag) (r x : Row) → IsEnd rows bag r → row_of rows x.pid ≡ Some x → vproc_at bag x.pid ≡ None → is_parent r.pid x ≡ false
not_child rows bag r x a here none = ne_eqb _ _ (λ e. let h : is_some (vproc_at bag x.pid) ≡ true = ap is_some (a.kin.children x.pid x here e).held in let n : is_some (vproc_at bag x.pid) ≡ false = ap is_some none in cc)

not_parent : (rows : List Row) (bag : Bag) (r x : Row) → IsEnd rows bag r → row_of rows x.pid ≡ Some x → vproc_at bag x.pid ≡ None → is_parent x.pid r ≡ false
not_parent rows bag r x a here none = ne_eqb _ _ (λ e. go (pid_same r.parent x.pid e) a.kin.parent)
  where
    go : r.parent ≡ x.pid → (row_of rows r.parent ≡ None) ⊎ HoldsBoth bag r.parent → ⊥
    go e (inl n) = let h : row_of rows r.parent ≡ Some x = ap (row_of rows) e ∙ here in cc
    go e (inr h) = let s : is_some (vproc_at bag x.pid) ≡ true = ap (λ (q : Pid). is_some (vproc_at bag q)) (sym e) ∙ ap is_some h.held in let n : is_some (vproc_at bag x.pid) ≡ false = ap is_some none in cc

kids_out : (rows : List Row) (bag : Bag) (r x : Row) (b : Bool) → IsEnd rows bag r → row_of rows x.pid ≡ Some x → vproc_at bag x.pid ≡ None →
    filter (λ c. not ((c.0 == r.pid.0) && b)) (children_of rows x.pid) ≡ children_of rows x.pid
kids_out rows bag r x b a here none =
    filter-map (λ (c : Pid). not ((c.0 == r.pid.0) && b)) (λ (c : Row). c.pid) (children rows x.pid)
    ∙ ap (map (λ (c : Row). c.pid)) (filter-filter (λ c. not (is_pid r.pid c && b)) (is_parent x.pid) rows
    ∙ filter-same number (λ c. is_parent x.pid c && not (is_pid r.pid c && b)) (is_parent x.pid) rows (distinct rows a.sound.distinct) (λ c at_c. point c (is_pid r.pid c) at_c refl))
  where
    point : (c : Row) (p : Bool) → row_of rows c.pid ≡ Some c → is_pid r.pid c ≡ p → (is_parent x.pid c && not (p && b)) ≡ is_parent x.pid c
    point c true at_c e = let no : is_parent x.pid c ≡ false = ap (is_parent x.pid) (same_row rows r c a.row at_c e) ∙ not_parent rows bag r x a here none in rw no
    point c false at_c e = and_true (is_parent x.pid c)

same_record : (rows : List Row) (bag : Bag) (r : Row) (w : WaitStatus) (u : Vproc) (x : Row) → IsEnd rows bag r → row_of rows x.pid ≡ Some x → vproc_at bag x.pid ≡ None → IsRecordOf rows u x →
    left_vproc r.pid (vanishes rows r) w u ≡ u
same_record rows bag r w u x a here none of =
    let p : (u.pid.0 == r.pid.0) ≡ false = ap (λ (q : Pid). q.0 == r.pid.0) of.pid ∙ not_self rows bag r x a none in
    let c : (u.parent.0 == r.pid.0) ≡ false = ap (λ (q : Pid). q.0 == r.pid.0) of.parent ∙ not_child rows bag r x a here none in
    let k : filter (λ c. not ((c.0 == r.pid.0) && vanishes rows r)) u.children ≡ u.children =
    ap (filter (λ c. not ((c.0 == r.pid.0) && vanishes rows r))) of.children ∙ kids_out rows bag r x (vanishes rows r) a here none ∙ sym of.children in
    rw (p, c) (ap (λ (l : List Pid). record u { children = l }) k)

keeps_out : (rows : List Row) (bag : Bag) (r : Row) (u : Vproc) (x : Row) → IsEnd rows bag r → row_of rows x.pid ≡ Some x → vproc_at bag x.pid ≡ None → IsRecordOf rows u x → goes r.pid (vanishes rows r) u ≡ false
keeps_out rows bag r u x a here none of =
    let p : (u.pid.0 == r.pid.0) ≡ false = ap (λ (q : Pid). q.0 == r.pid.0) of.pid ∙ not_self rows bag r x a none in
    let c : (u.parent.0 == r.pid.0) ≡ false = ap (λ (q : Pid). q.0 == r.pid.0) of.parent ∙ not_child rows bag r x a here none in rw (p, c)

-- a record that is not held stays as it is
out_same : (rows : List Row) (bag : Bag) (r : Row) (w : WaitStatus) (q : Pid) (h : Option Vproc) → IsEnd rows bag r → vproc_at bag q ≡ None → VprocAgrees rows h (row_of rows q) → ended_vproc r.pid (vanishes rows r) w q h ≡ h
out_same rows bag r w q h a none k = go h (row_of rows q) refl k
  where
    go : (h : Option Vproc) (o : Option Row) → row_of rows q ≡ o → VprocAgrees rows h o → ended_vproc r.pid (vanishes rows r) w q h ≡ h
    go None o e k = refl
    go (Some u) None e k = absurd k
    go (Some u) (Some x) e k =
        let here = row_own rows q x e in
        let away : vproc_at bag x.pid ≡ None = ap (vproc_at bag) (row_pid rows q x e) ∙ none in
        ap (λ b. option_map (left_vproc r.pid (vanishes rows r) w) (cond (not b) (Some u) None)) (keeps_out rows bag r u x a here away k) ∙ ap Some (same_record rows bag r w u x a here away k)

pub vprocs_out : (rows : List Row) (bag : Bag) (r : Row) (w : WaitStatus) (q : Pid) (h : Option Vproc) → IsEnd rows bag r → vproc_at bag q ≡ None → VprocAgrees rows h (row_of rows q) → VprocAgrees (left_rows rows r w) h (row_of (left_rows rows r w) q)
vprocs_out rows bag r w q h a none k = subst (λ (y : Option Vproc). VprocAgrees (left_rows rows r w) y (row_of (left_rows rows r w) q)) (out_same rows bag r w q h a none k) (vproc_left rows r w q h a.sound k)
