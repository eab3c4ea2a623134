-- the table and the records after a move from group to group
use Rattle.std.proofs.Common.{◌≡◌, ◌≢◌, ◌==◌, ◌&&◌, ◌||◌, ◌+◌, ◌-◌, ◌≤◌, ℕ, Bool, true, false, cond, not, List, [], ◌∷◌, length, refl, sym, ap, ◌∙◌, subst, arith, Option, None, Some, ◌⊎◌, inl, inr}
use Rattle.std.specs.Prelude.{map, filter, is_some, All}
use Rattle.std.specs.Option.{option_map}
use Rattle.std.proofs.lemmas.Bool.{eqb-true, eqb-false, ne_eqb, eq-eqb}
use Rattle.std.proofs.lemmas.List.Elements.{All-append, All-filter, All-cons, All-nil}
use Rattle.list_laws.specs.Keyed.{Distinct, option_filter}
use Rattle.list_laws.proofs.Filters.{some_same, length-filter-map, views-map}
use Rattle.list_laws.proofs.Finding.{at-map, found, distinct-filter, distinct-append}
use Rattle.unix_names.specs.declared.Pid.{Pid}
use Rattle.unix_names.specs.States.{is_living}
use Rattle.vproc_record.specs.declared.Vproc.{Vproc}
use Rattle.group_record.specs.declared.Member.{Member}
use Rattle.group_record.specs.declared.Group.{Group}
use Rattle.group_record.specs.Members.{member_number, member_of, uid_of}
use Rattle.group_record.specs.Groups.{left}
use Rattle.group_record.proofs.LogLaws.{member_of-joined_own, member_of-joined_other, member_of-left_other}
use Rattle.record_bag.specs.declared.bag.Bag.{Bag}
use Rattle.record_bag.specs.Bags.{vproc_in}
use Rattle.process_table.specs.declared.Row.{Row}
use Rattle.process_table.specs.Rows.{row_of, is_pid, is_parent, in_group, is_same}
use Rattle.process_table.specs.Orphans.{is_outside_parent, is_link_of, is_stopped_in}
use Rattle.kernel_model.specs.Sound.{IsSound}
use Rattle.decide_law.specs.Agrees.{vproc_at, children_of, IsRecordOf, VprocAgrees, VprocsAgree, uid_in, links_in, stopped_in, IsGroupOf}
use Rattle.decide_law.specs.Effects.{only, same, changed}
use Rattle.decide_law.specs.Counts.{passes, is_link_to, is_stopped_to, count_passing}
use Rattle.decide_law.proofs.Records.{number, pid_same, row_pid}
use Rattle.decide_law.proofs.Counts.{is_near, count_near, recount, passes_link, passes_stopped}
use Rattle.decide_law.proofs.Changes.{vproc_changed}
use Rattle.ops_groups.specs.Move.{GroupInSession, moved_at, moved_members, moved_vproc, moved_vprocs, moved_group}
use Rattle.ops_groups.specs.MoveLaw.{Moves}
use Rattle.group_record.proofs.MemberLaws.{member_of-left_own}

-- the table after the move
abbrev pub later : Pid → GroupInSession → List Row → List Row
later t new rows = map (moved_at t new) rows

pub row_later : (rows : List Row) (t : Pid) (new : GroupInSession) (q : Pid) → row_of (later t new rows) q ≡ option_map (moved_at t new) (row_of rows q)
row_later rows t new q = at-map number number (moved_at t new) (λ _. refl) q.0 rows

pub children_later : (rows : List Row) (t : Pid) (new : GroupInSession) (q : Pid) → children_of (later t new rows) q ≡ children_of rows q
children_later rows t new q = views-map (λ (c : Row). c.pid) (is_parent q) (moved_at t new) (λ _. refl) (λ _. refl) rows

-- a row after the move comes from one before
pub comes_from : (rows : List Row) (t : Pid) (new : GroupInSession) (q : Pid) (c : Row) → row_of (later t new rows) q ≡ Some c → (b : Row) × (row_of rows q ≡ Some b) × (c ≡ moved_at t new b)
comes_from rows t new q c e = go (row_of rows q) refl (sym (row_later rows t new q) ∙ e)
  where
    go : (o : Option Row) → row_of rows q ≡ o → option_map (moved_at t new) o ≡ Some c → (b : Row) × (row_of rows q ≡ Some b) × (c ≡ moved_at t new b)
    go None h m = cc
    go (Some b) h m = (b, h, sym (some_same _ _ m))

-- the row of another process stays
pub still : (t : Pid) (new : GroupInSession) (c : Row) → c.pid.0 ≢ t.0 → moved_at t new c ≡ c
still t new c ne = ap (λ (b : Bool). record c { group = cond b new.group c.group; session = cond b new.session c.session }) (ne_eqb _ _ ne)

pub taken_to : (t : Pid) (new : GroupInSession) (c : Row) → c.pid.0 ≡ t.0 → moved_at t new c ≡ record c { group = new.group; session = new.session }
taken_to t new c e = ap (λ (b : Bool). record c { group = cond b new.group c.group; session = cond b new.session c.session }) (eq-eqb _ _ e)

-- ---- records
record_later : (rows : List Row) (t : Pid) (new : GroupInSession) (old : Group) (y : Vproc) (c : Row) → IsRecordOf rows y c → (b : Bool) → (c.pid.0 == t.0) ≡ b → IsRecordOf (later t new rows) (cond b (moved_vproc old new y) y) (record c { group = cond b new.group c.group; session = cond b new.session c.session })
record_later rows t new old y c of true e = record {
  pid = of.pid;
  parent = of.parent;
  group = refl;
  session = refl;
  uid = of.uid;
  life = of.life;
  change = of.change;
  execed = of.execed;
  ignchld = of.ignchld;
  children = of.children ∙ sym (children_later rows t new c.pid);
}
record_later rows t new old y c of false e = record {
  pid = of.pid;
  parent = of.parent;
  group = of.group;
  session = of.session;
  uid = of.uid;
  life = of.life;
  change = of.change;
  execed = of.execed;
  ignchld = of.ignchld;
  children = of.children ∙ sym (children_later rows t new c.pid);
}

pub vproc_later : (rows : List Row) (t : Pid) (new : GroupInSession) (old : Group) (q : Pid) (h : Option Vproc) → VprocAgrees rows h (row_of rows q) → VprocAgrees (later t new rows) (only t (option_map (moved_vproc old new)) q h) (row_of (later t new rows) q)
vproc_later rows t new old q h a = subst (VprocAgrees (later t new rows) (only t (option_map (moved_vproc old new)) q h)) (sym (row_later rows t new q)) (go h (row_of rows q) refl a)
  where
    go : (h : Option Vproc) (o : Option Row) → row_of rows q ≡ o → VprocAgrees rows h o → VprocAgrees (later t new rows) (only t (option_map (moved_vproc old new)) q h) (option_map (moved_at t new) o)
    go None None e a = none (q.0 == t.0)
      where
        none : (b : Bool) → VprocAgrees (later t new rows) (cond b (option_map (moved_vproc old new) None) None) None
        none true = tt
        none false = tt
    go None (Some c) e a = absurd a
    go (Some y) None e a = absurd a
    go (Some y) (Some c) e a =
        let n : (c.pid.0 == t.0) ≡ (q.0 == t.0) = ap (λ (k : ℕ). k == t.0) (found number q.0 rows c e) in
        some (q.0 == t.0) (c.pid.0 == t.0) refl n
      where
        some : (b d : Bool) → (c.pid.0 == t.0) ≡ d → d ≡ b → VprocAgrees (later t new rows) (cond b (option_map (moved_vproc old new) (Some y)) (Some y)) (Some (record c { group = cond d new.group c.group; session = cond d new.session c.session }))
        some true true s n = record_later rows t new old y c a true s
        some true false s n = cc
        some false true s n = cc
        some false false s n = record_later rows t new old y c a false s

pub vprocs_later : (rows : List Row) (t : Pid) (new : GroupInSession) (old : Group) (bag : Bag) → VprocsAgree bag rows → VprocsAgree (changed (only t (option_map (moved_vproc old new))) same bag) (later t new rows)
vprocs_later rows t new old bag a = λ q h e. go q h (vproc_at bag q) refl (sym (vproc_changed (only t (option_map (moved_vproc old new))) same bag q) ∙ e)
  where
    go : (q : Pid) (h : Option Vproc) (o : Option (Option Vproc)) → vproc_at bag q ≡ o → option_map (only t (option_map (moved_vproc old new)) q) o ≡ Some h → VprocAgrees (later t new rows) h (row_of (later t new rows) q)
    go q h None e m = cc
    go q h (Some y) e m = subst (λ (z : Option Vproc). VprocAgrees (later t new rows) z (row_of (later t new rows) q)) (some_same _ _ m) (vproc_later rows t new old q y (a q y e))

-- ---- links and stopped members
outside_later : (rows : List Row) (t : Pid) (new : GroupInSession) (c : Row) → is_pid t c ≡ false → is_parent t c ≡ false → is_outside_parent (moved_at t new c) (row_of (later t new rows) c.parent) ≡ is_outside_parent c (row_of rows c.parent)
outside_later rows t new c np nc =
    ap (λ (d : Row). is_outside_parent d (row_of (later t new rows) c.parent)) (still t new c (eqb-false _ _ np))
    ∙ ap (is_outside_parent c) (row_later rows t new c.parent) ∙ go (row_of rows c.parent) refl
  where
    go : (o : Option Row) → row_of rows c.parent ≡ o → is_outside_parent c (option_map (moved_at t new) o) ≡ is_outside_parent c o
    go None e = refl
    go (Some d) e = ap (λ (x : Row). is_outside_parent c (Some x)) (still t new d (λ h. eqb-false _ _ nc (sym (found number c.parent.0 rows d e) ∙ h)))

neither : (a b : Bool) → (a || b) ≡ false → (a ≡ false) × (b ≡ false)
neither true b e = cc
neither false b e = (refl, e)

-- a process that is neither the one that moves nor a child of it
pub far_link : (rows : List Row) (t : Pid) (new : GroupInSession) (id : Pid) (c : Row) → is_near t c ≡ false → is_link_of rows id c ≡ is_link_of (later t new rows) id (moved_at t new c)
far_link rows t new id c n =
    let apart = neither (is_pid t c) (is_parent t c) n in
    sym (ap (λ (b : Bool). in_group id (moved_at t new c) && (is_living c.life && b)) (outside_later rows t new c apart.0 apart.1)
    ∙ ap (λ (d : Row). in_group id d && (is_living c.life && is_outside_parent c (row_of rows c.parent))) (still t new c (eqb-false _ _ apart.0)))

pub far_stopped : (rows : List Row) (t : Pid) (new : GroupInSession) (id : Pid) (c : Row) → is_near t c ≡ false → is_stopped_in id c ≡ is_stopped_in id (moved_at t new c)
far_stopped rows t new id c n = ap (is_stopped_in id) (sym (still t new c (eqb-false _ _ (neither (is_pid t c) (is_parent t c) n).0)))

-- ---- members
own_member : (g : Group) (u : Vproc) (b : Bool) → uid_of (moved_members b u g) u.pid ≡ option_map (λ (n : ℕ). n) (cond b (Some u.uid) None)
own_member g u true = ap (option_map (λ (m : Member). m.uid)) (member_of-joined_own (left g u.pid) u.pid u.uid (ap is_some (member_of-left_own g u.pid)))
own_member g u false = ap (option_map (λ (m : Member). m.uid)) (member_of-left_own g u.pid)

pub other_member : (g : Group) (u : Vproc) (b : Bool) (q : Pid) → q.0 ≢ u.pid.0 → member_of (moved_members b u g) q ≡ member_of g.members q
other_member g u true q ne = member_of-joined_other (left g u.pid) u.pid q u.uid ne ∙ member_of-left_other g u.pid q ne
other_member g u false q ne = member_of-left_other g u.pid q ne

-- the members after the move are those of the table
pub members_later : (rows : List Row) (id : Pid) (new : GroupInSession) (g : Group) (u : Vproc) (x : Row) → IsGroupOf rows id g → row_of rows u.pid ≡ Some x → IsRecordOf rows u x → (q : Pid) →
    uid_of (moved_members (is_same new.group id) u g) q ≡ uid_in (later u.pid new rows) id q
members_later rows id new g u x k here of q = pick (q.0 == u.pid.0) refl
  where
    own : (b : Bool) → option_map (λ (n : ℕ). n) (cond b (Some u.uid) None) ≡ option_map (λ (c : Row). c.uid) (cond b (Some (moved_at u.pid new x)) None)
    own true = ap Some of.uid
    own false = refl

    own_row : row_of (later u.pid new rows) u.pid ≡ Some (moved_at u.pid new x)
    own_row = row_later rows u.pid new u.pid ∙ ap (option_map (moved_at u.pid new)) here

    own_in : in_group id (moved_at u.pid new x) ≡ is_same new.group id
    own_in = ap (in_group id) (taken_to u.pid new x (ap (λ (p : Pid). p.0) (row_pid rows u.pid x here)))

    other : (o : Option Row) → row_of rows q ≡ o → q.0 ≢ u.pid.0 → option_map (λ (c : Row). c.uid) (option_filter (in_group id) o) ≡ option_map (λ (c : Row). c.uid) (option_filter (in_group id) (option_map (moved_at u.pid new) o))
    other None e ne = refl
    other (Some c) e ne = ap (λ (d : Row). option_map (λ (c : Row). c.uid) (option_filter (in_group id) (Some d))) (sym (still u.pid new c (λ h. ne (sym (found number q.0 rows c e) ∙ h))))

    pick : (b : Bool) → (q.0 == u.pid.0) ≡ b → uid_of (moved_members (is_same new.group id) u g) q ≡ uid_in (later u.pid new rows) id q
    pick true e =
        let at_u : q ≡ u.pid = pid_same q u.pid (eqb-true _ _ e) in
        subst (λ (m : Pid). uid_of (moved_members (is_same new.group id) u g) m ≡ uid_in (later u.pid new rows) id m) (sym at_u)
        (own_member g u (is_same new.group id) ∙ own (is_same new.group id) ∙ ap (λ (b : Bool). option_map (λ (c : Row). c.uid) (cond b (Some (moved_at u.pid new x)) None)) (sym own_in)
        ∙ ap (λ (o : Option Row). option_map (λ (c : Row). c.uid) (option_filter (in_group id) o)) (sym own_row))
    pick false e =
        let ne : q.0 ≢ u.pid.0 = eqb-false _ _ e in
        ap (option_map (λ (m : Member). m.uid)) (other_member g u (is_same new.group id) q ne) ∙ k.members q ∙ other (row_of rows q) refl ne
        ∙ ap (λ (o : Option Row). option_map (λ (c : Row). c.uid) (option_filter (in_group id) o)) (sym (row_later rows u.pid new q))

pub distinct_later : (g : Group) (u : Vproc) (b : Bool) → Distinct member_number g.members → Distinct member_number (moved_members b u g)
distinct_later g u true d = distinct-append member_number (left g u.pid).members (record { pid = u.pid; from = length g.log; uid = u.uid }) (member_of-left_own g u.pid) (distinct-filter member_number (λ m. not (m.pid.0 == u.pid.0)) g.members d)
distinct_later g u false d = distinct-filter member_number (λ m. not (m.pid.0 == u.pid.0)) g.members d

pub from_later : (g : Group) (u : Vproc) (b : Bool) → All (λ m. m.from ≤ length g.log) g.members → All (λ m. m.from ≤ length g.log) (moved_members b u g)
from_later g u true a = All-append (λ m. m.from ≤ length g.log) (left g u.pid).members ((record { pid = u.pid; from = length g.log; uid = u.uid }) ∷ []) (All-filter (λ m. not (m.pid.0 == u.pid.0)) (λ m. m.from ≤ length g.log) g.members a)
    (All-cons (λ (m : Member). m.from ≤ length g.log) (record { pid = u.pid; from = length g.log; uid = u.uid }) [] (omega arith) (All-nil (λ (m : Member). m.from ≤ length g.log)))
from_later g u false a = All-filter (λ m. not (m.pid.0 == u.pid.0)) (λ m. m.from ≤ length g.log) g.members a

-- ---- counts
near_held : (rows : List Row) (bag : Bag) (u : Vproc) (x : Row) (old : Group) (new : GroupInSession) → Moves rows bag u x old new → (c : Row) → row_of rows c.pid ≡ Some c → is_near u.pid c ≡ true → is_some (vproc_at bag c.pid) ≡ true
near_held rows bag u x old new m c here n = go (is_pid u.pid c) refl n
  where
    go : (b : Bool) → is_pid u.pid c ≡ b → (b || is_parent u.pid c) ≡ true → is_some (vproc_at bag c.pid) ≡ true
    go true e h = subst (λ (q : Pid). is_some (vproc_at bag q) ≡ true) (pid_same u.pid c.pid (sym (eqb-true _ _ e))) (ap is_some m.held)
    go false e h = m.children c.pid c here (eqb-true _ _ h)

near_parent : (rows : List Row) (bag : Bag) (u : Vproc) (x : Row) (old : Group) (new : GroupInSession) → Moves rows bag u x old new → (c : Row) → row_of rows c.pid ≡ Some c → is_near u.pid c ≡ true → (row_of rows c.parent ≡ None) ⊎ (is_some (vproc_at bag c.parent) ≡ true)
near_parent rows bag u x old new m c here n = go (is_pid u.pid c) refl n
  where
    go : (b : Bool) → is_pid u.pid c ≡ b → (b || is_parent u.pid c) ≡ true → (row_of rows c.parent ≡ None) ⊎ (is_some (vproc_at bag c.parent) ≡ true)
    go true e h =
        let at_u : row_of rows u.pid ≡ Some c = subst (λ (q : Pid). row_of rows q ≡ Some c) (pid_same c.pid u.pid (eqb-true _ _ e)) here in
        subst (λ (d : Row). (row_of rows d.parent ≡ None) ⊎ (is_some (vproc_at bag d.parent) ≡ true)) (some_same x c (sym m.row ∙ at_u)) m.parent
    go false e h = inr (subst (λ (q : Pid). is_some (vproc_at bag q) ≡ true) (pid_same u.pid c.parent (sym (eqb-true _ _ h))) (ap is_some m.held))

kept_held : (bag : Bag) (t : Pid) (f : Option Vproc → Option Vproc) (q : Pid) → is_some (vproc_at bag q) ≡ true → is_some (vproc_at (changed (only t f) same bag) q) ≡ true
kept_held bag t f q h = ap is_some (vproc_changed (only t f) same bag q) ∙ go (vproc_at bag q) h
  where
    go : (o : Option (Option Vproc)) → is_some o ≡ true → is_some (option_map (only t f q) o) ≡ true
    go None e = cc
    go (Some y) e = refl

-- the links of a group, counted again, are those of the table
pub links_later : (rows : List Row) (bag : Bag) (u : Vproc) (x : Row) (old : Group) (new : GroupInSession) (id : Pid) (g : Group) → IsSound rows → VprocsAgree bag rows → Moves rows bag u x old new → IsRecordOf rows u x → IsGroupOf rows id g →
    (moved_group bag u old new id g).links ≡ links_in (later u.pid new rows) id
links_later rows bag u x old new id g k a m of h =
    let s : Row → Bool = λ c. is_link_of (later u.pid new rows) id (moved_at u.pid new c) in
    let b' = moved_vprocs bag u old new in
    let kids : u.children ≡ children_of rows u.pid = of.children ∙ ap (children_of rows) (row_pid rows u.pid x m.row) in
    let before : count_passing bag (is_link_to bag id) (u.pid ∷ u.children) ≡ length (filter (λ c. is_near u.pid c && is_link_of rows id c) rows) =
    ap (λ (l : List Pid). count_passing bag (is_link_to bag id) (u.pid ∷ l)) kids
    ∙ count_near rows u.pid x (λ q. passes (is_link_to bag id) (vproc_in bag q)) (is_link_of rows id) k m.row (λ c here n. passes_link rows bag id c a here (near_held rows bag u x old new m c here n) (near_parent rows bag u x old new m c here n)) in
    let now : count_passing b' (is_link_to b' id) (u.pid ∷ u.children) ≡ length (filter (λ c. is_near u.pid c && s c) rows) =
    ap (λ (l : List Pid). count_passing b' (is_link_to b' id) (u.pid ∷ l)) kids
    ∙ count_near rows u.pid x (λ q. passes (is_link_to b' id) (vproc_in b' q)) s k m.row
    (λ c here n. passes_link (later u.pid new rows) b' id (moved_at u.pid new c) (vprocs_later rows u.pid new old bag a) (row_later rows u.pid new c.pid ∙ ap (option_map (moved_at u.pid new)) here)
    (kept_held bag u.pid (option_map (moved_vproc old new)) c.pid (near_held rows bag u x old new m c here n)) (parent_later c (near_parent rows bag u x old new m c here n))) in
    sum g.links _ _ _ _ _ _ h.links before now (recount rows (is_near u.pid) (is_link_of rows id) s k (λ c here n. far_link rows u.pid new id c n))
    ∙ sym (length-filter-map (is_link_of (later u.pid new rows) id) (moved_at u.pid new) rows)
  where
    sum : (l a b c d e f : ℕ) → l ≡ c → a ≡ d → b ≡ e → (c + e) - d ≡ f → (l + b) - a ≡ f
    sum l a b c d e f h i j w = omega arith

    parent_later : (c : Row) → (row_of rows c.parent ≡ None) ⊎ (is_some (vproc_at bag c.parent) ≡ true) →
        (row_of (later u.pid new rows) c.parent ≡ None) ⊎ (is_some (vproc_at (moved_vprocs bag u old new) c.parent) ≡ true)
    parent_later c (inl n) = inl (row_later rows u.pid new c.parent ∙ ap (option_map (moved_at u.pid new)) n)
    parent_later c (inr s) = inr (kept_held bag u.pid (option_map (moved_vproc old new)) c.parent s)

pub stopped_later : (rows : List Row) (bag : Bag) (u : Vproc) (x : Row) (old : Group) (new : GroupInSession) (id : Pid) (g : Group) → IsSound rows → VprocsAgree bag rows → Moves rows bag u x old new → IsRecordOf rows u x → IsGroupOf rows id g →
    (moved_group bag u old new id g).stopped ≡ stopped_in (later u.pid new rows) id
stopped_later rows bag u x old new id g k a m of h =
    let s : Row → Bool = λ c. is_stopped_in id (moved_at u.pid new c) in
    let b' = moved_vprocs bag u old new in
    let kids : u.children ≡ children_of rows u.pid = of.children ∙ ap (children_of rows) (row_pid rows u.pid x m.row) in
    let before : count_passing bag (is_stopped_to id) (u.pid ∷ u.children) ≡ length (filter (λ c. is_near u.pid c && is_stopped_in id c) rows) =
    ap (λ (l : List Pid). count_passing bag (is_stopped_to id) (u.pid ∷ l)) kids
    ∙ count_near rows u.pid x (λ q. passes (is_stopped_to id) (vproc_in bag q)) (is_stopped_in id) k m.row (λ c here n. passes_stopped rows bag id c a here (near_held rows bag u x old new m c here n)) in
    let now : count_passing b' (is_stopped_to id) (u.pid ∷ u.children) ≡ length (filter (λ c. is_near u.pid c && s c) rows) =
    ap (λ (l : List Pid). count_passing b' (is_stopped_to id) (u.pid ∷ l)) kids
    ∙ count_near rows u.pid x (λ q. passes (is_stopped_to id) (vproc_in b' q)) s k m.row
    (λ c here n. passes_stopped (later u.pid new rows) b' id (moved_at u.pid new c) (vprocs_later rows u.pid new old bag a) (row_later rows u.pid new c.pid ∙ ap (option_map (moved_at u.pid new)) here)
    (kept_held bag u.pid (option_map (moved_vproc old new)) c.pid (near_held rows bag u x old new m c here n))) in
    sum g.stopped _ _ _ _ _ _ h.stopped before now (recount rows (is_near u.pid) (is_stopped_in id) s k (λ c here n. far_stopped rows u.pid new id c n))
    ∙ sym (length-filter-map (is_stopped_in id) (moved_at u.pid new) rows)
  where
    sum : (l a b c d e f : ℕ) → l ≡ c → a ≡ d → b ≡ e → (c + e) - d ≡ f → (l + b) - a ≡ f
    sum l a b c d e f h i j w = omega arith
