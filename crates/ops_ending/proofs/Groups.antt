-- the records of groups after an end
use Rattle.std.proofs.Common.{◌≡◌, ◌==◌, ◌&&◌, ◌||◌, ◌++◌, ◌≤◌, ℕ, Bool, true, false, cond, not, List, length, refl, sym, ap, ◌∙◌, subst, arith, Option, None, Some, inl, inr, ◌⊎◌, length-append}
use Rattle.std.specs.Prelude.{map, is_some}
use Rattle.std.specs.Option.{option_map}
use Rattle.std.specs.List.{list_any}
use Rattle.std.proofs.lemmas.Bool.{eqb-true}
use Rattle.std.proofs.lemmas.List.Elements.{All-weaker, All-filter}
use Rattle.list_laws.specs.Keyed.{at, option_filter}
use Rattle.list_laws.proofs.Filters.{some_same, and_false}
use Rattle.list_laws.proofs.Finding.{at-filter, found, distinct-filter}
use Rattle.list_laws.proofs.Counts.{any-count}
use Rattle.unix_names.specs.declared.Pid.{Pid}
use Rattle.unix_names.specs.declared.WaitStatus.{WaitStatus}
use Rattle.unix_names.specs.States.{is_living}
use Rattle.vproc_record.specs.declared.Vproc.{Vproc}
use Rattle.group_record.specs.declared.Member.{Member}
use Rattle.group_record.specs.declared.LogEntry.{LogEntry}
use Rattle.group_record.specs.declared.Group.{Group}
use Rattle.group_record.specs.Members.{member_number, uid_of}
use Rattle.ordered_table.proofs.MapLaws.{has_value-pids}
use Rattle.record_bag.specs.declared.bag.Bag.{Bag}
use Rattle.record_bag.specs.Bags.{present, vproc_in}
use Rattle.process_table.specs.declared.Row.{Row}
use Rattle.process_table.specs.Rows.{pid, row_of, is_pid, is_parent, in_group}
use Rattle.process_table.specs.Orphans.{is_outside_parent, is_link_of, is_orphaned, is_stopped_in}
use Rattle.kernel_rules.specs.Orphans as kernel
use Rattle.kernel_model.specs.Sound.{IsSound, IsAlive}
use Rattle.process_table.specs.Changes.{receives}
use Rattle.kernel_rules.specs.Ending.{vanishes, rows_left, sent_by_end}
use Rattle.kernel_laws.proofs.Ends.{is_left, after_end_of}
use Rattle.decide_law.specs.Agrees.{vproc_at, children_of, uid_in, links_in, stopped_in, VprocAgrees, IsGroupOf, GroupAgrees, Agrees}
use Rattle.decide_law.specs.Counts.{passes}
use Rattle.decide_law.specs.Effects.{same, or_empty, regroups}
use Rattle.decide_law.proofs.Records.{number, pid_same, row_own}
use Rattle.decide_law.proofs.Counts.{is_near, no_system, not_own_child}
use Rattle.decide_law.proofs.Groups.{or_empty_is, unless_empty_agrees}
use Rattle.decide_law.proofs.Plain.{links_map, stopped_map}
use Rattle.decide_law.proofs.AppendStep.{receiving}
use Rattle.decide_law.proofs.Changes.{names_changed}
use Rattle.ops_ending.specs.Ending.{goes, ended_vproc, ended_vprocs, ended_counts, is_newly_orphaned, is_newly, end_entries, left_members, left_group}
use Rattle.ops_ending.proofs.Kin.{HoldsBoth, HoldsKin}
use Rattle.ops_ending.proofs.Turned.{NearHeld, IsTurn, links_turned, stopped_turned}
use Rattle.ops_ending.proofs.Vprocs.{left_rows, end_is, row_left, keep_same, vprocs_left}

-- the end of a living process, with its kin at hand
pub record IsEnd (rows : List Row) (bag : Bag) (r : Row) : Type 0 where
  pub sound : IsSound rows
  pub agrees : Agrees bag rows
  pub row : row_of rows r.pid ≡ Some r
  pub living : is_living r.life ≡ true
  pub own : HoldsBoth bag r.pid
  pub kin : HoldsKin rows bag r

-- the bag with the records of processes changed
abbrev pub later : List Row → Bag → Row → WaitStatus → Bag
later rows bag r w = ended_vprocs bag r.pid (vanishes rows r) w

pub still_held : (rows : List Row) (bag : Bag) (r : Row) (w : WaitStatus) (q : Pid) → is_some (vproc_at bag q) ≡ true → is_some (vproc_at (later rows bag r w) q) ≡ true
still_held rows bag r w q h = has_value-pids (later rows bag r w).vprocs bag.vprocs q (names_changed (ended_vproc r.pid (vanishes rows r) w) same bag).vprocs ∙ h

pub own_held : (rows : List Row) (bag : Bag) (r : Row) (q : Pid) → IsEnd rows bag r → q.0 ≡ r.pid.0 → is_some (vproc_at bag q) ≡ true
own_held rows bag r q a e = ap (λ (m : Pid). is_some (vproc_at bag m)) (pid_same q r.pid e) ∙ ap is_some a.own.held

pub same_row : (rows : List Row) (r c : Row) → row_of rows r.pid ≡ Some r → row_of rows c.pid ≡ Some c → is_pid r.pid c ≡ true → c ≡ r
same_row rows r c at_r here e = some_same c r (sym here ∙ ap (row_of rows) (pid_same c.pid r.pid (eqb-true _ _ e)) ∙ at_r)

none_left : (rows : List Row) (r : Row) (w : WaitStatus) (q : Pid) → IsSound rows → row_of rows q ≡ None → row_of (left_rows rows r w) q ≡ None
none_left rows r w q k e = row_left rows r w k q ∙ ap (λ (o : Option Row). option_map (after_end_of rows r w) (option_filter (is_left rows r w) o)) e

parent_kept : (rows : List Row) (bag : Bag) (r : Row) (w : WaitStatus) (q : Pid) → IsSound rows → (row_of rows q ≡ None) ⊎ (is_some (vproc_at bag q) ≡ true) → (row_of (left_rows rows r w) q ≡ None) ⊎ (is_some (vproc_at (later rows bag r w) q) ≡ true)
parent_kept rows bag r w q k (inl n) = inl (none_left rows r w q k n)
parent_kept rows bag r w q k (inr h) = inr (still_held rows bag r w q h)

parent_there : (rows : List Row) (bag : Bag) (q : Pid) → (row_of rows q ≡ None) ⊎ HoldsBoth bag q → (row_of rows q ≡ None) ⊎ (is_some (vproc_at bag q) ≡ true)
parent_there rows bag q (inl n) = inl n
parent_there rows bag q (inr h) = inr (ap is_some h.held)

pub end_turn : (rows : List Row) (bag : Bag) (r : Row) (w : WaitStatus) → IsEnd rows bag r → IsTurn rows (is_left rows r w) (after_end_of rows r w) bag (later rows bag r w) r.pid r
end_turn rows bag r w a = record {
  sound = a.sound;
  before = a.agrees.vprocs;
  after = vprocs_left rows r w bag a.sound a.agrees.vprocs;
  row = a.row;
  pids = λ c. refl;
  near = λ c here n. pick c here (is_pid r.pid c) (is_parent r.pid c) refl refl n;
}
  where
    own_parent : (row_of rows r.parent ≡ None) ⊎ (is_some (vproc_at bag r.parent) ≡ true)
    own_parent = parent_there rows bag r.parent a.kin.parent

    is_up : (c : Row) (b : Bool) → is_parent r.pid c ≡ b → (after_end_of rows r w c).parent ≡ cond b (pid 1) c.parent
    is_up c b e = ap (λ (t : Bool). cond t (pid 1) c.parent) e

    pick : (c : Row) → row_of rows c.pid ≡ Some c → (x y : Bool) → is_pid r.pid c ≡ x → is_parent r.pid c ≡ y → (x || y) ≡ true → NearHeld rows (is_left rows r w) (after_end_of rows r w) bag (later rows bag r w) c
    pick c here true y ex ey n =
        let one : c ≡ r = same_row rows r c a.row here ex in
        let up : (row_of rows c.parent ≡ None) ⊎ (is_some (vproc_at bag c.parent) ≡ true) = subst (λ (d : Row). (row_of rows d.parent ≡ None) ⊎ (is_some (vproc_at bag d.parent) ≡ true)) (sym one) own_parent in
        let held = own_held rows bag r c.pid a (eqb-true _ _ ex) in
        record {
          held = held;
          parent = up;
          later = still_held rows bag r w c.pid held;
          up = λ k. subst (λ (q : Pid). (row_of (left_rows rows r w) q ≡ None) ⊎ (is_some (vproc_at (later rows bag r w) q) ≡ true)) (sym (is_up c false (not_own_child rows r.pid c a.sound here ex))) (parent_kept rows bag r w c.parent a.sound up);
        }
    pick c here false true ex ey n =
        let held : is_some (vproc_at bag c.pid) ≡ true = ap is_some (a.kin.children c.pid c here (eqb-true _ _ ey)).held in
        record {
          held = held;
          parent = inr (own_held rows bag r c.parent a (eqb-true _ _ ey));
          later = still_held rows bag r w c.pid held;
          up = λ k. inl (ap (row_of (left_rows rows r w)) (is_up c true ey) ∙ none_left rows r w (pid 1) a.sound (no_system rows (pid 1) a.sound refl));
        }
    pick c here false false ex ey n = cc

-- ---- who stays, by what is held
pub gone_same : (rows : List Row) (bag : Bag) (r : Row) (w : WaitStatus) → IsEnd rows bag r → (x : Row) → row_of rows x.pid ≡ Some x → not (passes (goes r.pid (vanishes rows r)) (vproc_in bag x.pid)) ≡ is_left rows r w x
gone_same rows bag r w a x here = go (vproc_at bag x.pid) refl
  where
    far : (b c : Bool) → vproc_at bag x.pid ≡ None → is_pid r.pid x ≡ b → is_parent r.pid x ≡ c → true ≡ is_left rows r w x
    far true c e eb ec = let h = own_held rows bag r x.pid a (eqb-true _ _ eb) in let n : is_some (vproc_at bag x.pid) ≡ false = ap is_some e in cc
    far false true e eb ec = let h : is_some (vproc_at bag x.pid) ≡ true = ap is_some (a.kin.children x.pid x here (eqb-true _ _ ec)).held in let n : is_some (vproc_at bag x.pid) ≡ false = ap is_some e in cc
    far false false e eb ec = rw (eb, ec)

    go : (o : Option (Option Vproc)) → vproc_at bag x.pid ≡ o → not (passes (goes r.pid (vanishes rows r)) (present o)) ≡ is_left rows r w x
    go None e = far (is_pid r.pid x) (is_parent r.pid x) e refl refl
    go (Some None) e = absurd (subst (VprocAgrees rows None) here (a.agrees.vprocs x.pid None e))
    go (Some (Some u)) e = keep_same rows r w u x a.sound here (subst (VprocAgrees rows (Some u)) here (a.agrees.vprocs x.pid (Some u) e))

-- ---- members
uid_case : (id : Pid) (rows : List Row) (r : Row) (w : WaitStatus) (o : Option Row) →
    option_map (λ (c : Row). c.uid) (option_filter (in_group id) (option_map (after_end_of rows r w) (option_filter (is_left rows r w) o))) ≡ option_map (λ (c : Row). c.uid) (option_filter (λ c. is_left rows r w c && in_group id c) o)
uid_case id rows r w None = refl
uid_case id rows r w (Some x) = go (is_left rows r w x)
  where
    last : (b : Bool) → option_map (λ (c : Row). c.uid) (cond b (Some (after_end_of rows r w x)) None) ≡ option_map (λ (c : Row). c.uid) (cond b (Some x) None)
    last true = refl
    last false = refl

    go : (b : Bool) → option_map (λ (c : Row). c.uid) (option_filter (in_group id) (option_map (after_end_of rows r w) (cond b (Some x) None))) ≡ option_map (λ (c : Row). c.uid) (cond (b && in_group id x) (Some x) None)
    go true = last (in_group id x)
    go false = refl

pub uid_left : (rows : List Row) (r : Row) (w : WaitStatus) (id q : Pid) → IsSound rows →
    uid_in (left_rows rows r w) id q ≡ option_map (λ (c : Row). c.uid) (option_filter (λ c. is_left rows r w c && in_group id c) (row_of rows q))
uid_left rows r w id q k = ap (λ (o : Option Row). option_map (λ (c : Row). c.uid) (option_filter (in_group id) o)) (row_left rows r w k q) ∙ uid_case id rows r w (row_of rows q)

none_after : (id : Pid) (stay : Row → Bool) (o : Option Row) → None ≡ option_map (λ (c : Row). c.uid) (option_filter (in_group id) o) → None ≡ option_map (λ (c : Row). c.uid) (option_filter (λ c. stay c && in_group id c) o)
none_after id stay None e = refl
none_after id stay (Some x) e = go (in_group id x) (stay x) e
  where
    go : (b s : Bool) → None ≡ option_map (λ (c : Row). c.uid) (cond b (Some x) None) → None ≡ option_map (λ (c : Row). c.uid) (cond (s && b) (Some x) None)
    go true s e = cc
    go false true e = refl
    go false false e = refl

member_case : (id : Pid) (keep : Member → Bool) (stay : Row → Bool) (b : Bool) (m : Option Member) (o : Option Row) → ((y : Member) → m ≡ Some y → keep y ≡ b) → ((x : Row) → o ≡ Some x → stay x ≡ b) →
    option_map (λ (y : Member). y.uid) m ≡ option_map (λ (c : Row). c.uid) (option_filter (in_group id) o) → option_map (λ (y : Member). y.uid) (option_filter keep m) ≡ option_map (λ (c : Row). c.uid) (option_filter (λ c. stay c && in_group id c) o)
member_case id keep stay b None o km kx e = none_after id stay o e
member_case id keep stay b (Some y) None km kx e = cc
member_case id keep stay b (Some y) (Some x) km kx e = go b (in_group id x) (km y refl) (kx x refl) e
  where
    go : (b g : Bool) → keep y ≡ b → stay x ≡ b → Some y.uid ≡ option_map (λ (c : Row). c.uid) (cond g (Some x) None) → option_map (λ (y : Member). y.uid) (cond (keep y) (Some y) None) ≡ option_map (λ (c : Row). c.uid) (cond (stay x && g) (Some x) None)
    go b false ey ex e = cc
    go true true ey ex e = rw (ey, ex) e
    go false true ey ex e = rw (ey, ex)

pub members_left : (rows : List Row) (bag : Bag) (r : Row) (w : WaitStatus) → IsEnd rows bag r → (id : Pid) (g : Group) → IsGroupOf rows id g →
    (q : Pid) → uid_of (left_members bag r.pid (vanishes rows r) g) q ≡ uid_in (left_rows rows r w) id q
members_left rows bag r w a id g k q =
    ap (option_map (λ (m : Member). m.uid)) (at-filter member_number (λ m. not (passes (goes r.pid (vanishes rows r)) (vproc_in bag m.pid))) q.0 g.members k.distinct)
    ∙ pick (row_of rows q) refl ∙ sym (uid_left rows r w id q a.sound)
  where
    by_number : (m : Pid) → m.0 ≡ q.0 → not (passes (goes r.pid (vanishes rows r)) (vproc_in bag m)) ≡ not (passes (goes r.pid (vanishes rows r)) (vproc_in bag q))
    by_number m e = ap (λ (n : Pid). not (passes (goes r.pid (vanishes rows r)) (vproc_in bag n))) (pid_same m q e)

    pick : (o : Option Row) → row_of rows q ≡ o → option_map (λ (y : Member). y.uid) (option_filter (λ m. not (passes (goes r.pid (vanishes rows r)) (vproc_in bag m.pid))) (at member_number q.0 g.members)) ≡ option_map (λ (c : Row). c.uid) (option_filter (λ c. is_left rows r w c && in_group id c) (row_of rows q))
    pick o at_q = member_case id (λ m. not (passes (goes r.pid (vanishes rows r)) (vproc_in bag m.pid))) (is_left rows r w) (not (passes (goes r.pid (vanishes rows r)) (vproc_in bag q))) (at member_number q.0 g.members) (row_of rows q)
        (λ y e. by_number y.pid (found member_number q.0 g.members y e))
        (λ x e. sym (gone_same rows bag r w a x (row_own rows q x e)) ∙ by_number x.pid (found number q.0 rows x e))
        (k.members q)

-- ---- counts
-- a living parent other than the one that ends stays as it is
outside_left : (rows : List Row) (r : Row) (w : WaitStatus) (c : Row) (o : Option Row) → ((d : Row) → o ≡ Some d → is_pid r.pid d ≡ false) → IsAlive o →
    is_outside_parent c (option_map (after_end_of rows r w) (option_filter (is_left rows r w) o)) ≡ is_outside_parent c o
outside_left rows r w c None other a = absurd a
outside_left rows r w c (Some d) other a = rw (other d refl, a, and_false (is_parent r.pid d))

far_outside : (rows : List Row) (r : Row) (w : WaitStatus) (c : Row) → IsSound rows → row_of rows c.pid ≡ Some c → is_parent r.pid c ≡ false →
    is_outside_parent c (row_of (left_rows rows r w) c.parent) ≡ is_outside_parent c (row_of rows c.parent)
far_outside rows r w c k here nc = elim ((k.each c.pid c here).parent_lives) [
  | inl one ↦
      (let e : row_of rows c.parent ≡ None = no_system rows c.parent k one in
      ap (is_outside_parent c) (none_left rows r w c.parent k e) ∙ sym (ap (is_outside_parent c) e))
  | inr a ↦ ap (is_outside_parent c) (row_left rows r w k c.parent) ∙ outside_left rows r w c (row_of rows c.parent)
      (λ d e. ap (λ m. m == r.pid.0) (found number c.parent.0 rows d e) ∙ nc) a
]

pub far_parts : (a b : Bool) → (a || b) ≡ false → (a ≡ false) × (b ≡ false)
far_parts true b e = cc
far_parts false b e = (refl, e)

pub far_link : (rows : List Row) (r : Row) (w : WaitStatus) (id : Pid) (c : Row) → IsSound rows → row_of rows c.pid ≡ Some c → is_near r.pid c ≡ false →
    is_link_of rows id c ≡ (is_left rows r w c && is_link_of (left_rows rows r w) id (after_end_of rows r w c))
far_link rows r w id c k here n =
    let f = far_parts (is_pid r.pid c) (is_parent r.pid c) n in
    let out = far_outside rows r w c k here f.1 in
    sym (rw (f.0, f.1) (ap (λ (b : Bool). in_group id c && (is_living c.life && b)) out))

pub far_stopped : (rows : List Row) (r : Row) (w : WaitStatus) (id : Pid) (c : Row) → is_near r.pid c ≡ false → is_stopped_in id c ≡ (is_left rows r w c && is_stopped_in id (after_end_of rows r w c))
far_stopped rows r w id c n = let f = far_parts (is_pid r.pid c) (is_parent r.pid c) n in sym (rw (f.0, f.1) refl)

pub links_left : (rows : List Row) (bag : Bag) (r : Row) (w : WaitStatus) → IsEnd rows bag r → (id : Pid) (g : Group) → IsGroupOf rows id g → (ended_counts bag w r.pid (children_of rows r.pid) (vanishes rows r) id g).links ≡ links_in (left_rows rows r w) id
links_left rows bag r w a id g k = links_turned rows (is_left rows r w) (after_end_of rows r w) bag (later rows bag r w) r.pid id r g.links (end_turn rows bag r w a) (λ c here n. far_link rows r w id c a.sound here n) k.links

pub stopped_left : (rows : List Row) (bag : Bag) (r : Row) (w : WaitStatus) → IsEnd rows bag r → (id : Pid) (g : Group) → IsGroupOf rows id g → (ended_counts bag w r.pid (children_of rows r.pid) (vanishes rows r) id g).stopped ≡ stopped_in (left_rows rows r w) id
stopped_left rows bag r w a id g k = stopped_turned rows (is_left rows r w) (after_end_of rows r w) bag (later rows bag r w) r.pid id r g.stopped (end_turn rows bag r w a) (λ c here n. far_stopped rows r w id c n) k.stopped

-- ---- newly orphaned
twice : (b : Bool) → not (not b) ≡ b
twice true = refl
twice false = refl

-- the table after the signals, as a change of the one before them
signals_last : (rows : List Row) (r : Row) (w : WaitStatus) → left_rows rows r w ≡ map (receives (sent_by_end rows r w)) (rows_left rows r w)
signals_last rows r w = sym (end_is rows r w)

pub links_first : (rows : List Row) (r : Row) (w : WaitStatus) (id : Pid) → links_in (left_rows rows r w) id ≡ links_in (rows_left rows r w) id
links_first rows r w id = ap (λ (t : List Row). links_in t id) (signals_last rows r w) ∙ links_map (rows_left rows r w) (receives (sent_by_end rows r w)) id (receiving (sent_by_end rows r w))

stopped_first : (rows : List Row) (r : Row) (w : WaitStatus) (id : Pid) → stopped_in (left_rows rows r w) id ≡ stopped_in (rows_left rows r w) id
stopped_first rows r w id = ap (λ (t : List Row). stopped_in t id) (signals_last rows r w) ∙ stopped_map (rows_left rows r w) (receives (sent_by_end rows r w)) id (receiving (sent_by_end rows r w))

-- the counts of records tell it
newly_by : (rows now : List Row) (id : Pid) (g left : Group) → g.links ≡ links_in rows id → left.links ≡ links_in now id → left.stopped ≡ stopped_in now id → is_newly_orphaned g left ≡ kernel.is_newly_orphaned rows now id
newly_by rows now id g left k l s =
    ap (λ n. not (n == 0) && ((left.links == 0) && not (left.stopped == 0))) k
    ∙ ap (λ n. not (links_in rows id == 0) && ((n == 0) && not (left.stopped == 0))) l
    ∙ ap (λ n. not (links_in rows id == 0) && ((links_in now id == 0) && not (n == 0))) s
    ∙ ap (λ b. not b && ((links_in now id == 0) && not (stopped_in now id == 0))) (sym (any-count (is_link_of rows id) rows))
    ∙ ap (λ b. not (is_orphaned rows id) && (b && not (stopped_in now id == 0))) (sym (any-count (is_link_of now id) now))
    ∙ ap (λ b. not (is_orphaned rows id) && (is_orphaned now id && not b)) (sym (any-count (is_stopped_in id) now))
    ∙ ap (λ b. not (is_orphaned rows id) && (is_orphaned now id && b)) (twice (list_any (is_stopped_in id) now))

-- of the table before the signals, and of the one after them
pub newly_is : (rows : List Row) (bag : Bag) (r : Row) (w : WaitStatus) → IsEnd rows bag r → (id : Pid) (g : Group) → IsGroupOf rows id g →
    is_newly bag w r.pid (children_of rows r.pid) (vanishes rows r) id g ≡ kernel.is_newly_orphaned rows (rows_left rows r w) id
newly_is rows bag r w a id g k = newly_by rows (rows_left rows r w) id g (ended_counts bag w r.pid (children_of rows r.pid) (vanishes rows r) id g) k.links
    (links_left rows bag r w a id g k ∙ links_first rows r w id) (stopped_left rows bag r w a id g k ∙ stopped_first rows r w id)

pub newly_now : (rows : List Row) (bag : Bag) (r : Row) (w : WaitStatus) → IsEnd rows bag r → (id : Pid) (g : Group) → IsGroupOf rows id g →
    is_newly bag w r.pid (children_of rows r.pid) (vanishes rows r) id g ≡ kernel.is_newly_orphaned rows (left_rows rows r w) id
newly_now rows bag r w a id g k = newly_by rows (left_rows rows r w) id g (ended_counts bag w r.pid (children_of rows r.pid) (vanishes rows r) id g) k.links
    (links_left rows bag r w a id g k) (stopped_left rows bag r w a id g k)

-- ---- the whole record
pub session_left : (rows : List Row) (r : Row) (w : WaitStatus) (id session : Pid) → IsSound rows → ((q : Pid) (c : Row) → row_of rows q ≡ Some c → in_group id c ≡ true → c.session ≡ session) →
    (q : Pid) (c : Row) → row_of (left_rows rows r w) q ≡ Some c → in_group id c ≡ true → c.session ≡ session
session_left rows r w id session k all q c e i = go (row_of rows q) refl
  where
    go : (o : Option Row) → row_of rows q ≡ o → c.session ≡ session
    go None f = let n : None ≡ Some c = sym (none_left rows r w q k f) ∙ e in cc
    go (Some x) f = last (is_left rows r w x) (sym (row_left rows r w k q ∙ ap (λ (o : Option Row). option_map (after_end_of rows r w) (option_filter (is_left rows r w) o)) f) ∙ e)
      where
        last : (b : Bool) → option_map (after_end_of rows r w) (cond b (Some x) None) ≡ Some c → c.session ≡ session
        last true n = let one : after_end_of rows r w x ≡ c = some_same _ _ n in sym (ap (λ (y : Row). y.session) one) ∙ all q x f (ap (in_group id) one ∙ i)
        last false n = cc

pub longer : (n : ℕ) (l m : List LogEntry) → n ≤ length l → n ≤ length (l ++ m)
longer n l m h = simp length-append (omega arith)

abbrev pub group_after : List Row → Bag → Row → WaitStatus → Pid → Group → Group
group_after rows bag r w id g = left_group bag w r.pid r.parent (children_of rows r.pid) (vanishes rows r) id g

pub group_left : (rows : List Row) (bag : Bag) (r : Row) (w : WaitStatus) → IsEnd rows bag r → (id : Pid) (g : Group) → IsGroupOf rows id g → IsGroupOf (left_rows rows r w) id (group_after rows bag r w id g)
group_left rows bag r w a id g k = record {
  id_is = k.id_is;
  distinct = distinct-filter member_number (λ x. not (passes (goes r.pid (vanishes rows r)) (vproc_in bag x.pid))) g.members k.distinct;
  members = members_left rows bag r w a id g k;
  session = session_left rows r w id g.session a.sound k.session;
  from = All-weaker (λ x. x.from ≤ length g.log) (λ x. x.from ≤ length (g.log ++ end_entries bag w r.pid r.parent (children_of rows r.pid) (vanishes rows r) id g)) (λ x h. longer x.from g.log (end_entries bag w r.pid r.parent (children_of rows r.pid) (vanishes rows r) id g) h) _
      (All-filter (λ x. not (passes (goes r.pid (vanishes rows r)) (vproc_in bag x.pid))) (λ x. x.from ≤ length g.log) g.members k.from);
  links = links_left rows bag r w a id g k;
  stopped = stopped_left rows bag r w a id g k;
}

pub groups_left : (rows : List Row) (bag : Bag) (r : Row) (w : WaitStatus) → IsEnd rows bag r → (session id : Pid) (h : Option Group) → GroupAgrees rows id h →
    GroupAgrees (left_rows rows r w) id (regroups session (left_group bag w r.pid r.parent (children_of rows r.pid) (vanishes rows r)) id h)
groups_left rows bag r w a session id h k = unless_empty_agrees (left_rows rows r w) id (group_after rows bag r w id (or_empty id session h)) (group_left rows bag r w a id (or_empty id session h) (or_empty_is rows id session h a.sound k))
