-- whom an end nudges: each other process that is sent anything, and each whose wait may answer otherwise
use Rattle.std.proofs.Common.{◌≡◌, ◌≢◌, ◌==◌, ◌&&◌, ◌||◌, ◌++◌, Bool, true, false, cond, not, nat_lt, List, [], ◌∷◌, refl, sym, ap, ◌∙◌, Option, None, Some, if◌then◌else◌}
use Rattle.std.specs.Prelude.{map, filter, flat_map, is_some}
use Rattle.std.specs.Option.{option_map}
use Rattle.std.specs.List.{list_any}
use Rattle.std.proofs.lemmas.Bool.{eqb-true, ne_eqb, eq-eqb}
use Rattle.list_laws.specs.Keyed.{at, option_filter}
use Rattle.list_laws.proofs.Filters.{some_same}
use Rattle.list_laws.proofs.Counts.{any-count}
use Rattle.list_laws.proofs.Finding.{at-filter, found, same_number, distinct-filter}
use Rattle.unix_names.specs.declared.Pid.{Pid}
use Rattle.unix_names.specs.declared.Signal.TheVariants.{Hup, Chld, Cont}
use Rattle.unix_names.specs.declared.WaitStatus.{WaitStatus}
use Rattle.group_record.specs.declared.Member.{Member}
use Rattle.group_record.specs.declared.Group.{Group}
use Rattle.group_record.specs.Members.{member_number, has_member, member_of}
use Rattle.ordered_table.specs.declared.Entry.{Entry as Held}
use Rattle.ordered_table.specs.Entries.{value_at, with_each}
use Rattle.record_bag.specs.declared.bag.Bag.{Bag}
use Rattle.record_bag.specs.Bags.{present, vproc_in}
use Rattle.process_table.specs.declared.Row.{Row}
use Rattle.process_table.specs.Rows.{pid, row_of, is_pid, is_parent, in_group}
use Rattle.process_table.specs.Orphans.{is_link_of, is_orphaned, is_stopped_in}
use Rattle.kernel_rules.specs.Orphans as kernel
use Rattle.kernel_rules.specs.Ending.{vanishes, rows_left, sent_by_end}
use Rattle.kernel_laws.proofs.Ends.{is_left, after_end_of}
use Rattle.decide_law.specs.Agrees.{group_at, children_of, IsGroupOf}
use Rattle.decide_law.specs.Counts.{passes}
use Rattle.decide_law.specs.Effects.{unless_empty_by, unless_empty, regroups, empty_group}
use Rattle.decide_law.specs.Nudges as law
use Rattle.decide_law.specs.Wakes.{report_in, seen_by, WakesOthers}
use Rattle.decide_law.proofs.Records.{number, pid_same, row_own, member_has}
use Rattle.decide_law.proofs.Groups.{nobody, or_empty_is}
use Rattle.decide_law.proofs.Shell.{group_is}
use Rattle.ops_ending.specs.Ending.{goes, passes_group, is_newly, left_members, leaves_orphaned, nudged_in, left_group, end_nudges}
use Rattle.ops_ending.proofs.Vprocs.{left_rows, row_left}
use Rattle.ops_ending.proofs.Groups.{IsEnd, same_row, group_left, group_after, newly_is, newly_now}
use Rattle.ops_ending.proofs.Elsewhere.{links_out}
use Rattle.ops_ending.proofs.Streams.{nothing_sent}

-- ---- lists of pids
abbrev pub named : Pid → List Pid → Bool
named m l = list_any (λ (n : Pid). n.0 == m.0) l

or_right : (a b : Bool) → b ≡ true → (a || b) ≡ true
or_right true b e = refl
or_right false b e = e

named_first : (m : Pid) (xs ys : List Pid) → named m xs ≡ true → named m (xs ++ ys) ≡ true
named_first m [] ys e = cc
named_first m (x ∷ xs) ys e = go (x.0 == m.0) e (λ f. named_first m xs ys f)
  where
    go : (b : Bool) → (b || named m xs) ≡ true → (named m xs ≡ true → named m (xs ++ ys) ≡ true) → (b || named m (xs ++ ys)) ≡ true
    go true f ih = refl
    go false f ih = ih f

named_later : (m : Pid) (xs ys : List Pid) → named m ys ≡ true → named m (xs ++ ys) ≡ true
named_later m [] ys e = e
named_later m (x ∷ xs) ys e = or_right (x.0 == m.0) _ (named_later m xs ys e)

unnamed_first : (m : Pid) (xs ys : List Pid) → named m (xs ++ ys) ≡ false → named m xs ≡ false
unnamed_first m xs ys e = go (named m xs) refl
  where
    go : (b : Bool) → named m xs ≡ b → b ≡ false
    go true f = let h : named m (xs ++ ys) ≡ true = named_first m xs ys f in cc
    go false f = refl

named_member : (m : Pid) (ms : List Member) (y : Member) → at member_number m.0 ms ≡ Some y → named m (map (λ (z : Member). z.pid) ms) ≡ true
named_member m [] y e = cc
named_member m (z ∷ ms) y e = go (λ f. named_member m ms y f) (z.pid.0 == m.0) e
  where
    go : (at member_number m.0 ms ≡ Some y → named m (map (λ (z : Member). z.pid) ms) ≡ true) → (b : Bool) → cond b (Some z) (at member_number m.0 ms) ≡ Some y → (b || named m (map (λ (z : Member). z.pid) ms)) ≡ true
    go ih true f = refl
    go ih false f = ih f

-- what one held value brings is among what all bring
named_at : {T : Type 0} (f : Pid → T → List Pid) (m id : Pid) (es : List (Held T)) (x : T) → value_at es id ≡ Some x → named m (f id x) ≡ true → named m (flat_map (λ (h : Held T). f h.pid h.value) es) ≡ true
named_at f m id [] x e k = cc
named_at f m id (h ∷ es) x e k = go (λ g. named_at f m id es x g k) (nat_lt h.pid.0 id.0) (h.pid.0 == id.0) refl e
  where
    go : (value_at es id ≡ Some x → named m (flat_map (λ h. f h.pid h.value) es) ≡ true) → (a b : Bool) → (h.pid.0 == id.0) ≡ b → (if a then value_at es id else (if b then Some h.value else None)) ≡ Some x → named m (f h.pid h.value ++ flat_map (λ h. f h.pid h.value) es) ≡ true
    go ih true b s g = named_later m (f h.pid h.value) _ (ih g)
    go ih false true s g = named_first m (f h.pid h.value) _ (ap (λ (i : Pid). named m (f i h.value)) (pid_same h.pid id (eqb-true _ _ s)) ∙ ap (λ y. named m (f id y)) (some_same _ _ g) ∙ k)
    go ih false false s g = cc

-- ---- who is sent anything
has_some : (ms : List Member) (m : Pid) → has_member ms m ≡ true → (y : Member) × (member_of ms m ≡ Some y)
has_some ms m e = go (member_of ms m) refl e
  where
    go : (o : Option Member) → member_of ms m ≡ o → is_some o ≡ true → (y : Member) × (member_of ms m ≡ Some y)
    go None f s = cc
    go (Some y) f s = (y, f)

pub end_nudged : (rows : List Row) (bag : Bag) (r : Row) (w : WaitStatus) (m : Pid) (x x' : Row) → IsEnd rows bag r → m.0 ≢ r.pid.0 → row_of rows m ≡ Some x → row_of (left_rows rows r w) m ≡ Some x' → sent_by_end rows r w x ≢ [] →
    named m (end_nudges bag w r.pid r.parent (children_of rows r.pid) (vanishes rows r)) ≡ true
end_nudged rows bag r w m x x' a other here here' sends = first (is_pid r.parent x) refl
  where
    kids : List Pid
    kids = children_of rows r.pid

    -- the row stays
    now : (b : Bool) → option_map (after_end_of rows r w) (cond b (Some x) None) ≡ Some x' → after_end_of rows r w x ≡ x'
    now true e = some_same _ _ e
    now false e = cc

    is_now : after_end_of rows r w x ≡ x'
    is_now = now (is_left rows r w x) (sym (row_left rows r w a.sound m ∙ ap (λ (o : Option Row). option_map (after_end_of rows r w) (option_filter (is_left rows r w) o)) here) ∙ here')

    member : (g : Group) → group_at bag x.group ≡ Some (Some g) → kernel.is_newly_orphaned rows (rows_left rows r w) x.group ≡ true → named m (nudged_in bag w r.pid (children_of rows r.pid) (vanishes rows r) x.group (Some g)) ≡ true
    member g h new =
        let k : IsGroupOf rows x.group g = group_is rows bag x.group g a.agrees h in
        let there = has_some (left_members bag r.pid (vanishes rows r) g) m (member_has (left_rows rows r w) x.group (group_after rows bag r w x.group g) m x' (group_left rows bag r w a x.group g k) here' (ap (in_group x.group) (sym is_now) ∙ same_number x.group.0)) in
        let n : there.0.pid.0 ≡ m.0 = found member_number m.0 (left_members bag r.pid (vanishes rows r) g) there.0 there.1 in
        let away : (there.0.pid.0 == r.pid.0) ≡ false = ne_eqb _ _ (λ q. other (sym n ∙ q)) in
        let at_m : at member_number m.0 (filter (λ y. not (y.pid.0 == r.pid.0)) (left_members bag r.pid (vanishes rows r) g)) ≡ Some there.0 =
        at-filter member_number (λ y. not (y.pid.0 == r.pid.0)) m.0 (left_members bag r.pid (vanishes rows r) g) (distinct-filter member_number (λ y. not (passes (goes r.pid (vanishes rows r)) (vproc_in bag y.pid))) g.members k.distinct)
        ∙ ap (option_filter (λ y. not (y.pid.0 == r.pid.0))) there.1 ∙ ap (λ b. cond (not b) (Some there.0) None) away in
        ap (λ b. named m (cond b (map (λ (y : Member). y.pid) (filter (λ y. not (y.pid.0 == r.pid.0)) (left_members bag r.pid (vanishes rows r) g))) [])) (ap (λ o. passes_group (is_newly bag w r.pid kids (vanishes rows r) x.group) (present o)) h ∙ newly_is rows bag r w a x.group g k ∙ new)
        ∙ named_member m _ there.0 at_m

    in_groups : kernel.is_newly_orphaned rows (rows_left rows r w) x.group ≡ true → (o : Option (Option Group)) → group_at bag x.group ≡ o → named m (flat_map (λ (h : Held (Option Group)). nudged_in bag w r.pid (children_of rows r.pid) (vanishes rows r) h.pid h.value) bag.groups) ≡ true
    in_groups new None h = absurd (sends (nothing_sent rows bag r w x a (row_own rows m x here) h))
    in_groups new (Some None) h = let no : in_group x.group x ≡ false = nobody rows x.group m x (a.agrees.groups x.group None h) here in let yes : in_group x.group x ≡ true = same_number x.group.0 in cc
    in_groups new (Some (Some g)) h = named_at (nudged_in bag w r.pid (children_of rows r.pid) (vanishes rows r)) m x.group bag.groups (Some g) h (member g h new)

    newly_case : (b : Bool) → kernel.is_newly_orphaned rows (rows_left rows r w) x.group ≡ b → is_pid r.parent x ≡ false → named m (flat_map (λ (h : Held (Option Group)). nudged_in bag w r.pid (children_of rows r.pid) (vanishes rows r) h.pid h.value) bag.groups) ≡ true
    newly_case true n np = in_groups n (group_at bag x.group) refl
    newly_case false n np = absurd (sends (ap (λ b. cond b (Chld ∷ []) [] ++ cond (kernel.is_newly_orphaned rows (rows_left rows r w) x.group) (Hup ∷ Cont ∷ []) []) np ∙ ap (λ b. cond b (Hup ∷ Cont ∷ []) []) n))

    first : (b : Bool) → is_pid r.parent x ≡ b → named m (end_nudges bag w r.pid r.parent (children_of rows r.pid) (vanishes rows r)) ≡ true
    first true p =
        let own : r.parent.0 ≡ m.0 = sym (eqb-true _ _ p) ∙ found number m.0 rows x here in
        let not_one : (r.parent.0 == 1) ≡ false = ne_eqb _ _ (λ one. (a.sound.each m x here).not_system (found number m.0 rows x here ∙ sym own ∙ one)) in
        named_first m (cond (r.parent.0 == 1) [] (r.parent ∷ [])) _ (ap (λ b. named m (cond b [] (r.parent ∷ []))) not_one ∙ ap (λ n. (n == m.0) || false) own ∙ ap (λ b. b || false) (same_number m.0))
    first false p = named_later m (cond (r.parent.0 == 1) [] (r.parent ∷ [])) _ (newly_case (kernel.is_newly_orphaned rows (rows_left rows r w) x.group) refl p)

-- ---- whose wait may answer otherwise
-- who is neither the one that ended nor its parent sees the same of each process
end_seen : (rows : List Row) (bag : Bag) (r : Row) (w : WaitStatus) (m q : Pid) → IsEnd rows bag r → m.0 ≢ r.pid.0 → m.0 ≢ r.parent.0 → m.0 ≢ 1 → seen_by m (left_rows rows r w) q ≡ seen_by m rows q
end_seen rows bag r w m q a other up one = ap (λ (o : Option Row). option_map report_in (option_filter (is_parent m) o)) (row_left rows r w a.sound q) ∙ go (row_of rows q) (λ x e. row_own rows q x e)
  where
    -- a row that m is not the parent of, before or after
    unseen : (c : Row) (b : Bool) → is_parent m c ≡ false → is_parent m (after_end_of rows r w c) ≡ false → option_map report_in (option_filter (is_parent m) (option_map (after_end_of rows r w) (cond b (Some c) None))) ≡ option_map report_in (option_filter (is_parent m) (Some c))
    unseen c true was now = ap (λ (b : Bool). option_map report_in (cond b (Some (after_end_of rows r w c)) None)) now ∙ sym (ap (λ (b : Bool). option_map report_in (cond b (Some c) None)) was)
    unseen c false was now = sym (ap (λ (b : Bool). option_map report_in (cond b (Some c) None)) was)

    is_up : (c : Row) (b : Bool) → is_parent r.pid c ≡ b → is_parent m (after_end_of rows r w c) ≡ ((cond b (pid 1) c.parent).0 == m.0)
    is_up c b e = ap (λ (t : Bool). (cond t (pid 1) c.parent).0 == m.0) e

    last : (c : Row) (b : Bool) → option_map report_in (cond b (Some c) None) ≡ option_map report_in (cond b (Some c) None)
    last c b = refl

    seen_again : (c : Row) (d : Row) → (report_in d ≡ report_in c) → (d.parent ≡ c.parent) → option_map report_in (option_filter (is_parent m) (Some d)) ≡ option_map report_in (option_filter (is_parent m) (Some c))
    seen_again c d s p = ap (λ (i : Pid). option_map report_in (cond (i.0 == m.0) (Some d) None)) p ∙ both (is_parent m c)
      where
        both : (b : Bool) → option_map report_in (cond b (Some d) None) ≡ option_map report_in (cond b (Some c) None)
        both true = ap Some s
        both false = refl

    pick : (c : Row) → row_of rows c.pid ≡ Some c → (x y : Bool) → is_pid r.pid c ≡ x → is_parent r.pid c ≡ y → option_map report_in (option_filter (is_parent m) (option_map (after_end_of rows r w) (option_filter (is_left rows r w) (Some c)))) ≡ option_map report_in (option_filter (is_parent m) (Some c))
    pick c here true y ex ey =
        let was : is_parent m c ≡ false = ap (is_parent m) (same_row rows r c a.row here ex) ∙ ne_eqb _ _ (λ e. up (sym e)) in
        unseen c (is_left rows r w c) was (is_up c y ey ∙ fate y)
      where
        fate : (b : Bool) → ((cond b (pid 1) c.parent).0 == m.0) ≡ false
        fate true = ne_eqb _ _ (λ e. one (sym e))
        fate false = ap (is_parent m) (same_row rows r c a.row here ex) ∙ ne_eqb _ _ (λ e. up (sym e))
    pick c here false true ex ey =
        let was : is_parent m c ≡ false = ne_eqb _ _ (λ e. other (sym e ∙ eqb-true _ _ ey)) in
        unseen c (is_left rows r w c) was (is_up c true ey ∙ ne_eqb _ _ (λ e. one (sym e)))
    pick c here false false ex ey =
        let stays : is_left rows r w c ≡ true = rw (ex, ey) in
        ap (λ (b : Bool). option_map report_in (option_filter (is_parent m) (option_map (after_end_of rows r w) (cond b (Some c) None)))) stays
        ∙ seen_again c (after_end_of rows r w c) (rw ex) (ap (λ (t : Bool). cond t (pid 1) c.parent) ey)

    go : (o : Option Row) → ((x : Row) → o ≡ Some x → row_of rows x.pid ≡ Some x) → option_map report_in (option_filter (is_parent m) (option_map (after_end_of rows r w) (option_filter (is_left rows r w) o))) ≡ option_map report_in (option_filter (is_parent m) o)
    go None here = refl
    go (Some c) here = pick c (here c refl) (is_pid r.pid c) (is_parent r.pid c) refl refl

pub end_wakes : (rows : List Row) (bag : Bag) (r : Row) (w : WaitStatus) → IsEnd rows bag r → WakesOthers rows (left_rows rows r w) r.pid (end_nudges bag w r.pid r.parent (children_of rows r.pid) (vanishes rows r))
end_wakes rows bag r w a = λ m x x' other here here' living none.
    let one : m.0 ≢ 1 = λ e. (a.sound.each m x here).not_system (found number m.0 rows x here ∙ e) in
    let up : m.0 ≢ r.parent.0 = not_up m one none in
    (group_same m x x' here (row_left rows r w a.sound m) here', λ q. end_seen rows bag r w m q a other up one)
  where
    group_same : (m : Pid) (x x' : Row) → row_of rows m ≡ Some x → row_of (left_rows rows r w) m ≡ option_map (after_end_of rows r w) (option_filter (is_left rows r w) (row_of rows m)) → row_of (left_rows rows r w) m ≡ Some x' → x'.group ≡ x.group
    group_same m x x' here is here' = go (is_left rows r w x) (sym (is ∙ ap (λ (o : Option Row). option_map (after_end_of rows r w) (option_filter (is_left rows r w) o)) here) ∙ here')
      where
        go : (b : Bool) → option_map (after_end_of rows r w) (cond b (Some x) None) ≡ Some x' → x'.group ≡ x.group
        go true e = ap (λ (c : Row). c.group) (sym (some_same _ _ e))
        go false e = cc

    not_up : (m : Pid) → m.0 ≢ 1 → named m (end_nudges bag w r.pid r.parent (children_of rows r.pid) (vanishes rows r)) ≡ false → m.0 ≢ r.parent.0
    not_up m one none e = go (r.parent.0 == 1) refl (unnamed_first m (cond (r.parent.0 == 1) [] (r.parent ∷ [])) _ none)
      where
        go : (b : Bool) → (r.parent.0 == 1) ≡ b → named m (cond b [] (r.parent ∷ [])) ≡ false → ⊥
        go true s f = one (e ∙ eqb-true _ _ s)
        go false s f = let yes : (r.parent.0 == m.0) ≡ true = eq-eqb _ _ (sym e) in let t : named m (r.parent ∷ []) ≡ true = ap (λ b. b || false) yes in absurd cc

-- ---- the list, by the table
-- a group is left orphaned by its record where it is by the table
never : (o s : Bool) → (not o && (o && s)) ≡ false
never true s = refl
never false s = refl

orphans_is : (rows : List Row) (bag : Bag) (r : Row) (w : WaitStatus) (id : Pid) → IsEnd rows bag r → leaves_orphaned bag w r.pid (children_of rows r.pid) (vanishes rows r) id ≡ kernel.is_newly_orphaned rows (left_rows rows r w) id
orphans_is rows bag r w id a = go (group_at bag id) refl
  where
    go : (o : Option (Option Group)) → group_at bag id ≡ o → passes_group (is_newly bag w r.pid (children_of rows r.pid) (vanishes rows r) id) (present o) ≡ kernel.is_newly_orphaned rows (left_rows rows r w) id
    go None e =
        let stays : is_orphaned (left_rows rows r w) id ≡ is_orphaned rows id = any-count (is_link_of (left_rows rows r w) id) (left_rows rows r w) ∙ ap (λ n. n == 0) (links_out rows bag r w id a e) ∙ sym (any-count (is_link_of rows id) rows) in
        sym (ap (λ b. not (is_orphaned rows id) && (b && list_any (is_stopped_in id) (left_rows rows r w))) stays ∙ never (is_orphaned rows id) (list_any (is_stopped_in id) (left_rows rows r w)))
    go (Some None) e =
        let k : IsGroupOf rows id (empty_group id id) = or_empty_is rows id id None a.sound (a.agrees.groups id None e) in
        let was : is_orphaned rows id ≡ true = any-count (is_link_of rows id) rows ∙ sym (ap (λ n. n == 0) k.links) in
        sym (ap (λ b. not b && (is_orphaned (left_rows rows r w) id && list_any (is_stopped_in id) (left_rows rows r w))) was)
    go (Some (Some g)) e = newly_now rows bag r w a id g (group_is rows bag id g a.agrees e)

either_way : (b : Bool) (l : List Pid) → l ≡ cond b l l
either_way true l = refl
either_way false l = refl

-- the members but p of a group that is absent once it is empty
others_some : (p : Pid) (g : Group) → law.others_of p g.members ≡ law.others_in p (unless_empty g)
others_some p g = go g.members refl
  where
    go : (ms : List Member) → g.members ≡ ms → law.others_of p g.members ≡ law.others_in p (unless_empty_by ms g)
    go [] e = ap (law.others_of p) e
    go (m ∷ ms) e = refl

pub nudges_law : (rows : List Row) (bag : Bag) (r : Row) (w : WaitStatus) (session : Pid) → IsEnd rows bag r →
    end_nudges bag w r.pid r.parent (children_of rows r.pid) (vanishes rows r)
    ≡ law.parent_of_row (row_of rows r.pid) ++ flat_map (law.orphan_nudges rows (left_rows rows r w) r.pid) (with_each (regroups session (left_group bag w r.pid r.parent (children_of rows r.pid) (vanishes rows r))) bag.groups)
nudges_law rows bag r w session a =
    ap (λ l. cond (r.parent.0 == 1) [] (r.parent ∷ []) ++ l) (all bag.groups)
    ∙ ap (λ o. law.parent_of_row o ++ flat_map (law.orphan_nudges rows (left_rows rows r w) r.pid) (with_each fg bag.groups)) (sym a.row)
  where
    fg : Pid → Option Group → Option Group
    fg = regroups session (left_group bag w r.pid r.parent (children_of rows r.pid) (vanishes rows r))

    one : (id : Pid) (h : Option Group) → nudged_in bag w r.pid (children_of rows r.pid) (vanishes rows r) id h ≡ cond (kernel.is_newly_orphaned rows (left_rows rows r w) id) (law.others_in r.pid (fg id h)) []
    one id None = either_way (kernel.is_newly_orphaned rows (left_rows rows r w) id) []
    one id (Some g) =
        ap (λ b. cond b (law.others_of r.pid (left_members bag r.pid (vanishes rows r) g)) []) (orphans_is rows bag r w id a)
        ∙ ap (λ l. cond (kernel.is_newly_orphaned rows (left_rows rows r w) id) l []) (others_some r.pid (group_after rows bag r w id g))

    all : (es : List (Held (Option Group))) → flat_map (λ (h : Held (Option Group)). nudged_in bag w r.pid (children_of rows r.pid) (vanishes rows r) h.pid h.value) es ≡ flat_map (law.orphan_nudges rows (left_rows rows r w) r.pid) (with_each fg es)
    all [] = refl
    all (h ∷ es) =
        ap (λ l. l ++ flat_map (λ (h : Held (Option Group)). nudged_in bag w r.pid (children_of rows r.pid) (vanishes rows r) h.pid h.value) es) (one h.pid h.value)
        ∙ ap (λ l. cond (kernel.is_newly_orphaned rows (left_rows rows r w) h.pid) (law.others_in r.pid (fg h.pid h.value)) [] ++ l) (all es)
