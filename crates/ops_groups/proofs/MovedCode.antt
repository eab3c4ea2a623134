-- a move, as the code goes through it, is the whole change
use Rattle.std.proofs.Common.{◌≡◌, ◌==◌, ℕ, Bool, true, false, cond, List, [], ◌∷◌, length, nat_lt, All, refl, sym, ap, ◌∙◌, subst, arith, Option, None, Some}
use Rattle.std.specs.Prelude.{◌++◌, not, filter, map, slice_get, IsSome}
use Rattle.std.proofs.lemmas.Bool.{eqb-true, eqb-false, ne_eqb}
use Rattle.std.specs.Option.{option_map}
use Rattle.std.proofs.lemmas.List.Elements.{All-head, All-tail}
use Rattle.std.proofs.lemmas.List.{map-append}
use Rattle.list_laws.proofs.Filters.{length-map, map-map, filter-map, some_same}
use Rattle.list_laws.proofs.Finding.{same_number}
use Rattle.unix_names.specs.declared.Pid.{Pid}
use Rattle.signal_state.specs.declared.Own.{Own}
use Rattle.vproc_record.specs.declared.Vproc.{Vproc}
use Rattle.group_record.specs.declared.Group.{Group}
use Rattle.group_record.specs.declared.Member.{Member}
use Rattle.group_record.specs.Groups.{joined, left}
use Rattle.group_record.specs.Members.{begun_at}
use Rattle.group_record.proofs.MemberLaws.{begun_at-number}
use Rattle.ordered_table.specs.declared.Entry.{Entry}
use Rattle.ordered_table.specs.Entries.{value_at, IsRising}
use Rattle.record_bag.specs.declared.bag.Bag.{Bag}
use Rattle.record_bag.specs.Bags.{present, group_in}
use Rattle.process_table.specs.Rows.{is_same}
use Rattle.decide_law.specs.Agrees.{group_at}
use Rattle.decide_law.specs.Counts.{recounted}
use Rattle.decide_law.specs.Effects.{only, or_empty, unless_empty, regroups, settled_for}
use Rattle.decide_law.proofs.Changes.{group_changed}
use Rattle.decide_law.proofs.Records.{pid_same}
use Rattle.decide_law.proofs.SettledGroups.{group_seen}
use Rattle.decide_law.proofs.FewCounts.{few_counts, held_group}
use Rattle.decide_law.specs.Vector.{IsFitting}
use Rattle.ops_groups.specs.Move.{GroupInSession, moved_vproc, moved_vprocs, moved_members, moved_group}
use Rattle.ops_groups.specs.MethodMove.{IsCountedIn, mover_of, counts_in, counts_by_group, joined_to, joined_bag, recounted_from, left_unless, regrouped_by, with_counts, group_settled, moved_bag}
use Rattle.ops_groups.specs.declared.mover.Mover.{Mover}
use Rattle.ops_groups.specs.declared.tallies.Counts.{Counts}
use Rattle.ops_groups.proofs.CountedTables.{entry_found, counted_each, each_agrees}

-- what is there
pub some_there : {X : Type 0} (o : Option X) → IsSome o → (x : X) × (o ≡ Some x)
some_there None h = cc
some_there (Some x) h = (x, refl)

-- ---- counts
-- a question that fits
pub fits_counted : (p : Pid) (own : Own) (bag : Bag) → IsFitting p own bag → (q : Pid) → IsCountedIn (group_in bag q)
fits_counted p own bag fit q =
    held_group IsCountedIn fit.fits.rows bag q tt (λ g is. let counts = few_counts fit.fits.rows q g fit.fits.asks.few is in record { links = counts.0; stopped = counts.1 }) fit.fits.asks.agrees

-- once the caller has taken its part of the log of its group
pub settled_counted : (p id : Pid) (bag : Bag) → ((q : Pid) → IsCountedIn (group_in bag q)) → (q : Pid) → IsCountedIn (group_in (group_settled p id bag) q)
settled_counted p id bag counted q = subst IsCountedIn (sym (group_seen p id bag q)) (go (q.0 == id.0) (group_in bag q) (counted q))
  where
    go : (b : Bool) (h : Option Group) → IsCountedIn h → IsCountedIn (cond b (option_map (settled_for p) h) h)
    go false h k = k
    go true None k = k
    go true (Some g) k = record { links = k.links; stopped = k.stopped }

-- once who moves has joined its new group
joined_at : (m : Mover) (new : GroupInSession) (q : Pid) (o : Option (Option Group)) → IsCountedIn (present o) → IsCountedIn (present (option_map (only new.group (joined_to m new) q) o))
joined_at m new q None k = tt
joined_at m new q (Some h) k = go (q.0 == new.group.0) h k
  where
    go : (b : Bool) (h : Option Group) → IsCountedIn h → IsCountedIn (cond b (joined_to m new h) h)
    go false h k = k
    go true None k = record { links = omega arith; stopped = omega arith }
    go true (Some g) k = record { links = k.links; stopped = k.stopped }

pub joined_counted : (bag later : Bag) (m : Mover) (old : Group) (new : GroupInSession) → ((q : Pid) → IsCountedIn (group_in bag q)) → later ≡ joined_bag bag m old new → (q : Pid) → IsCountedIn (group_in later q)
joined_counted bag later m old new counted is q =
    subst (λ (b : Bag). IsCountedIn (group_in b q)) (sym is)
    (subst (λ (o : Option (Option Group)). IsCountedIn (present o)) (sym (group_changed (only m.pid (option_map (moved_vproc old new))) (only new.group (joined_to m new)) bag q)) (joined_at m new q (group_at bag q) (counted q)))

-- each entry of a table of groups is found under its id
pub counted_entry : (es : List (Entry (Option Group))) (i : ℕ) (e : Entry (Option Group)) → IsRising es → slice_get es i ≡ Some e → ((id : Pid) → IsCountedIn (present (value_at es id))) → IsCountedIn e.value
counted_entry es i e r got counted = subst IsCountedIn (ap present (entry_found es i e r got)) (counted e.pid)

-- ---- what the passes make of the bag is what the move leaves
-- of the group that it goes to
at_new : (bag : Bag) (u : Vproc) (old : Group) (new : GroupInSession) (h : Option Group) →
    regrouped_by (counts_in bag (u.pid ∷ u.children) new.group) (joined_bag bag (mover_of u) old new) (mover_of u) new.group new.group (joined_to (mover_of u) new h) ≡ regroups new.session (moved_group bag u old new) new.group h
at_new bag u old new h =
    let g = or_empty new.group new.session h in
    ap (λ (b : Bool). unless_empty (left_unless b u.pid (recounted_from (counts_in bag (u.pid ∷ u.children) new.group) (joined_bag bag (mover_of u) old new) (u.pid ∷ u.children) new.group (joined (left g u.pid) u.pid u.uid)))) (same_number new.group.0)
    ∙ sym (ap (λ (b : Bool). unless_empty (record (recounted bag (moved_vprocs bag u old new) (u.pid ∷ u.children) new.group g) { members = moved_members b u g })) (same_number new.group.0))

-- of another one
at_other : (bag : Bag) (u : Vproc) (old : Group) (new : GroupInSession) (q : Pid) (h : Option Group) → is_same new.group q ≡ false →
    regrouped_by (counts_in bag (u.pid ∷ u.children) q) (joined_bag bag (mover_of u) old new) (mover_of u) new.group q h ≡ regroups new.session (moved_group bag u old new) q h
at_other bag u old new q None other =
    sym (ap (λ (b : Bool). unless_empty (record (recounted bag (moved_vprocs bag u old new) (u.pid ∷ u.children) q (or_empty q new.session None)) { members = moved_members b u (or_empty q new.session None) })) other)
at_other bag u old new q (Some g) other =
    ap (λ (b : Bool). unless_empty (left_unless b u.pid (recounted_from (counts_in bag (u.pid ∷ u.children) q) (joined_bag bag (mover_of u) old new) (u.pid ∷ u.children) q g))) other
    ∙ sym (ap (λ (b : Bool). unless_empty (record (recounted bag (moved_vprocs bag u old new) (u.pid ∷ u.children) q g) { members = moved_members b u g })) other)

each_group : (bag : Bag) (u : Vproc) (old : Group) (new : GroupInSession) (q : Pid) (h : Option Group) →
    regrouped_by (counts_in bag (u.pid ∷ u.children) q) (joined_bag bag (mover_of u) old new) (mover_of u) new.group q (only new.group (joined_to (mover_of u) new) q h) ≡ regroups new.session (moved_group bag u old new) q h
each_group bag u old new q h = go (q.0 == new.group.0) refl
  where
    go : (b : Bool) → (q.0 == new.group.0) ≡ b →
        regrouped_by (counts_in bag (u.pid ∷ u.children) q) (joined_bag bag (mover_of u) old new) (mover_of u) new.group q (cond b (joined_to (mover_of u) new h) h) ≡ regroups new.session (moved_group bag u old new) q h
    go true e =
        subst (λ (i : Pid). regrouped_by (counts_in bag (u.pid ∷ u.children) i) (joined_bag bag (mover_of u) old new) (mover_of u) new.group i (joined_to (mover_of u) new h) ≡ regroups new.session (moved_group bag u old new) i h)
        (pid_same new.group q (sym (eqb-true _ _ e))) (at_new bag u old new h)
    go false e = at_other bag u old new q h (ne_eqb _ _ (λ same. eqb-false _ _ e (sym same)))

all_groups : (bag : Bag) (u : Vproc) (old : Group) (new : GroupInSession) →
    with_counts (λ (counts : Counts). regrouped_by counts (joined_bag bag (mover_of u) old new) (mover_of u) new.group) (counts_by_group bag (u.pid ∷ u.children) bag.groups) (joined_bag bag (mover_of u) old new).groups ≡ (moved_bag bag u old new).groups
all_groups bag u old new =
    counted_each (λ (counts : Counts). regrouped_by counts (joined_bag bag (mover_of u) old new) (mover_of u) new.group) (counts_in bag (u.pid ∷ u.children)) (only new.group (joined_to (mover_of u) new)) bag.groups
    ∙ each_agrees _ (regroups new.session (moved_group bag u old new)) bag.groups (each_group bag u old new)

pub moved_is : (bag later left : Bag) (m : Mover) (u : Vproc) (old : Group) (new : GroupInSession) (before counts : List Counts) → m ≡ mover_of u → before ≡ counts_by_group bag m.near bag.groups → counts ≡ before → later ≡ joined_bag bag m old new →
    left ≡ record later { groups = with_counts (λ (c : Counts). regrouped_by c later m new.group) counts later.groups } → left ≡ moved_bag bag u old new
moved_is bag later left m u old new before counts is told same joined made =
    made
    ∙ ap (λ (b : Bag). record b { groups = with_counts (λ (c : Counts). regrouped_by c b m new.group) counts b.groups }) joined
    ∙ ap (λ (cs : List Counts). record (joined_bag bag m old new) { groups = with_counts (λ (c : Counts). regrouped_by c (joined_bag bag m old new) m new.group) cs (joined_bag bag m old new).groups }) (same ∙ told)
    ∙ ap (λ (x : Mover). record (joined_bag bag x old new) { groups = with_counts (λ (c : Counts). regrouped_by c (joined_bag bag x old new) x new.group) (counts_by_group bag x.near bag.groups) (joined_bag bag x old new).groups }) is
    ∙ ap (λ (gs : List (Entry (Option Group))). record (moved_bag bag u old new) { groups = gs }) (all_groups bag u old new)

-- as many counts as there are groups
pub counts_each : (bag later : Bag) (near : List Pid) (m : Mover) (old : Group) (new : GroupInSession) (before counts : List Counts) → before ≡ counts_by_group bag near bag.groups → counts ≡ before → later ≡ joined_bag bag m old new → length counts ≡ length later.groups
counts_each bag later near m old new before counts told same joined =
    ap length (same ∙ told) ∙ length-map (λ (e : Entry (Option Group)). counts_in bag near e.pid) bag.groups
    ∙ sym (ap (λ (b : Bag). length b.groups) joined ∙ length-map _ bag.groups)

-- ---- the caller's part of the log, which it takes last
test_agrees : {X : Type 0} (s t : X → Bool) (xs : List X) → ((x : X) → s x ≡ t x) → filter s xs ≡ filter t xs
test_agrees s t [] h = refl
test_agrees s t (x ∷ xs) h = ap (λ (b : Bool). cond b (x ∷ filter s xs) (filter s xs)) (h x) ∙ ap (λ l. cond (t x) (x ∷ l) l) (test_agrees s t xs h)

abbrev from_end : Pid → ℕ → ℕ → Member
from_end p n uid = record { pid = p; from = n; uid = uid }

members_settled : (p u : Pid) (n uid : ℕ) (ms : List Member) →
    map (begun_at n p) (filter (λ (m : Member). not (m.pid.0 == u.0)) ms ++ (from_end u n uid) ∷ []) ≡ filter (λ (m : Member). not (m.pid.0 == u.0)) (map (begun_at n p) ms) ++ (from_end u n uid) ∷ []
members_settled p u n uid ms =
    map-append (begun_at n p) (filter (λ (m : Member). not (m.pid.0 == u.0)) ms) ((from_end u n uid) ∷ [])
    ∙ ap (λ (m : Member). map (begun_at n p) (filter (λ (x : Member). not (x.pid.0 == u.0)) ms) ++ m ∷ []) (last (u.0 == p.0))
    ∙ ap (λ (l : List Member). l ++ (from_end u n uid) ∷ [])
    (sym (filter-map (λ (m : Member). not (m.pid.0 == u.0)) (begun_at n p) ms ∙ ap (map (begun_at n p)) (test_agrees _ (λ (m : Member). not (m.pid.0 == u.0)) ms (λ m. ap (λ (k : ℕ). not (k == u.0)) (begun_at-number n p m)))))
  where
    last : (b : Bool) → cond b (from_end u n uid) (from_end u n uid) ≡ from_end u n uid
    last true = refl
    last false = refl

settled_joined : (p : Pid) (m : Mover) (new : GroupInSession) (h : Option Group) → option_map (settled_for p) (joined_to m new h) ≡ joined_to m new (option_map (settled_for p) h)
settled_joined p m new None = ap (λ (l : List Member). Some (record (or_empty new.group new.session None) { members = l })) (members_settled p m.pid 0 m.uid [])
settled_joined p m new (Some g) = ap (λ (l : List Member). Some (record g { members = l })) (members_settled p m.pid (length g.log) m.uid g.members)

settled_after : (p id : Pid) (m : Mover) (new : GroupInSession) (q : Pid) (h : Option Group) → only id (option_map (settled_for p)) q (only new.group (joined_to m new) q h) ≡ only new.group (joined_to m new) q (only id (option_map (settled_for p)) q h)
settled_after p id m new q h = go (q.0 == id.0) (q.0 == new.group.0)
  where
    go : (b c : Bool) → cond b (option_map (settled_for p) (cond c (joined_to m new h) h)) (cond c (joined_to m new h) h) ≡ cond c (joined_to m new (cond b (option_map (settled_for p) h) h)) (cond b (option_map (settled_for p) h) h)
    go false c = refl
    go true false = refl
    go true true = settled_joined p m new h

-- it may join and then settle, or settle and then join
pub in_order : (p id : Pid) (bag later left : Bag) (m : Mover) (old : Group) (new : GroupInSession) → later ≡ joined_bag bag m old new → left ≡ group_settled p id later → left ≡ joined_bag (group_settled p id bag) m old new
in_order p id bag later left m old new joined settle =
    settle ∙ ap (group_settled p id) joined
    ∙ ap (λ (gs : List (Entry (Option Group))). record (joined_bag bag m old new) { groups = gs })
    (map-map _ _ bag.groups
    ∙ each_agrees (λ q h. only id (option_map (settled_for p)) q (only new.group (joined_to m new) q h)) (λ q h. only new.group (joined_to m new) q (only id (option_map (settled_for p)) q h)) bag.groups (settled_after p id m new)
    ∙ sym (map-map _ _ bag.groups))

-- the old group, as it is then
pub old_settled : (p id : Pid) (bag : Bag) (q r : Pid) (old settled_old : Group) → q ≡ r → group_in bag q ≡ Some old → group_in (group_settled p id bag) r ≡ Some settled_old → only id (settled_for p) q old ≡ settled_old
old_settled p id bag q r old settled_old same there then_there =
    some_same _ _ (go (q.0 == id.0) ∙ ap (only id (option_map (settled_for p)) q) (sym there) ∙ sym (group_seen p id bag q) ∙ ap (group_in (group_settled p id bag)) same ∙ then_there)
  where
    go : (b : Bool) → Some (cond b (settled_for p old) old) ≡ cond b (option_map (settled_for p) (Some old)) (Some old)
    go true = refl
    go false = refl

-- the counts are the same
pub counts_settled : (p id : Pid) (bag : Bag) (near : List Pid) → counts_by_group bag near bag.groups ≡ counts_by_group (group_settled p id bag) near (group_settled p id bag).groups
counts_settled p id bag near = sym (map-map (λ (e : Entry (Option Group)). counts_in bag near e.pid) _ bag.groups)

-- ---- what a test of each entry tells
pub counted_all : (es : List (Entry (Option Group))) → All (λ (e : Entry (Option Group)). IsCountedIn e.value) es → (id : Pid) → IsCountedIn (present (value_at es id))
counted_all [] a id = tt
counted_all (e ∷ es) a id =
    go (nat_lt e.pid.0 id.0) (e.pid.0 == id.0) (All-head (λ (x : Entry (Option Group)). IsCountedIn x.value) e es a) (counted_all es (All-tail (λ (x : Entry (Option Group)). IsCountedIn x.value) e es a) id)
  where
    go : (b c : Bool) → IsCountedIn e.value → IsCountedIn (present (value_at es id)) → IsCountedIn (present (cond b (value_at es id) (cond c (Some e.value) None)))
    go true c first rest = rest
    go false true first rest = first
    go false false first rest = tt
