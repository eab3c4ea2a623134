-- the records at home before the first turn, against the first table
use Rattle.std.proofs.Common.{◌≡◌, ◌≢◌, ◌==◌, ◌&&◌, ◌≤◌, ℕ, Bool, true, false, cond, List, [], ◌∷◌, ◌++◌, length, map, refl, sym, ap, ◌∙◌, subst, arith, Option, None, Some, All}
use Rattle.std.specs.Prelude.{filter, slice_get, option_and_then}
use Rattle.std.specs.Option.{option_map}
use Rattle.std.proofs.lemmas.Bool.{eqb-true, eqb-false, eq-eqb, ne_eqb}
use Rattle.std.proofs.lemmas.Option.{slice_get-map}
use Rattle.std.proofs.lemmas.List.{map-append}
use Rattle.std.proofs.lemmas.List.Elements.{All-nil, All-cons}
use Rattle.unix_names.specs.declared.Pid.{Pid}
use Rattle.unix_names.specs.declared.Name.{Name}
use Rattle.unix_names.specs.declared.Name.TheVariants as name
use Rattle.unix_names.specs.declared.Life.TheVariants.{Runs}
use Rattle.unix_names.specs.declared.Signal.TheVariants.{Chld}
use Rattle.unix_names.proofs.SetLaws.{has-none}
use Rattle.unix_calls.specs.declared.Start.{Start}
use Rattle.unix_calls.specs.declared.World.{World}
use Rattle.signal_state.specs.Sig.{fresh}
use Rattle.list_laws.specs.Keyed.{at, Distinct, option_filter}
use Rattle.list_laws.proofs.Filters.{some_same, filter-map, mapped_some}
use Rattle.list_laws.proofs.Finding.{at-map, at-filter, found, distinct-map, distinct-filter}
use Rattle.group_record.specs.declared.Member.{Member}
use Rattle.group_record.specs.declared.Group.{Group}
use Rattle.group_record.specs.Members.{member_number}
use Rattle.record_bag.specs.declared.Held.{Held}
use Rattle.record_bag.specs.declared.Held.TheVariants as held
use Rattle.record_bag.specs.Kinds.{of_kind}
use Rattle.record_table.specs.declared.Slot.{Slot}
use Rattle.record_table.specs.declared.Slot.TheVariants.{Home}
use Rattle.record_table.specs.declared.Line.{Line}
use Rattle.record_table.specs.declared.Slots.{Slots}
use Rattle.record_table.specs.Slots.{slot_at, with_slot}
use Rattle.record_table.proofs.SlotLaws.{slot_at-put_home, slot_at-put_other}
use Rattle.courier_core.specs.declared.Courier.{Courier}
use Rattle.process_table.specs.declared.Row.{Row}
use Rattle.process_table.specs.Rows.{pid, row_of, in_group, children, is_parent}
use Rattle.process_table.specs.Orphans.{is_link_of, is_outside_parent, is_stopped_in}
use Rattle.kernel_model.specs.Legal.{joined_row, first_row, row_with, booted, boot}
use Rattle.kernel_model.specs.Sound.{IsSound}
use Rattle.kernel_laws.proofs.Rows.{number, row_pid, row_here}
use Rattle.kernel_laws.proofs.Starts.{start_number}
use Rattle.kernel_laws.proofs.Boot.{IsFirst}
use Rattle.node_core.specs.declared.led.Led.{Led}
use Rattle.node_core.specs.First.{led_number, leader_with, led_by, all_led, led_starts, first_vproc, has_leader, first_member, first_group, with_first_group, is_at, with_first, first_slots}
use Rattle.decide_law.specs.Agrees.{VprocAgrees, GroupAgrees, RecordAgrees}

-- ---- starts with their leaders, and rows
-- the row of a start
abbrev pub led_row : Led → Row
led_row led = record { pid = led.start.pid; parent = pid 1; group = led.leader; session = led.leader; uid = led.start.uid; life = Runs; change = None; execed = false; sig = fresh }

row_joined : (start : Start) (o : Option Led) → row_with start (option_map led_row o) ≡ led_row (record { start = start; leader = leader_with start o })
row_joined start None = refl
row_joined start (Some led) = refl

first_row_is : (earlier : List Led) (start : Start) → first_row (map led_row earlier) start ≡ led_row (led_by earlier start)
first_row_is earlier start = go start.joined
  where
    go : (o : Option ℕ) → row_with start (joined_row (map led_row earlier) o) ≡ led_row (record { start = start; leader = leader_with start (option_and_then (slice_get earlier) o) })
    go None = refl
    go (Some k) = ap (row_with start) (slice_get-map led_row earlier k) ∙ row_joined start (slice_get earlier k)

booted_is : (starts : List Start) (earlier : List Led) → booted (map led_row earlier) starts ≡ map led_row (all_led earlier starts)
booted_is [] earlier = refl
booted_is (start ∷ starts) earlier =
    ap (λ rows. booted rows starts) (ap (λ r. map led_row earlier ++ r ∷ []) (first_row_is earlier start) ∙ sym (map-append led_row earlier (led_by earlier start ∷ [])))
    ∙ booted_is starts (earlier ++ led_by earlier start ∷ [])

starts_are : (starts : List Start) (earlier : List Led) → map (λ led. led.start) (all_led earlier starts) ≡ map (λ led. led.start) earlier ++ starts
starts_are [] earlier = sym (append-nil_of (map (λ led. led.start) earlier))
  where
    append-nil_of : (xs : List Start) → xs ++ [] ≡ xs
    append-nil_of [] = refl
    append-nil_of (x ∷ xs) = ap (λ l. x ∷ l) (append-nil_of xs)
starts_are (start ∷ starts) earlier =
    starts_are starts (earlier ++ led_by earlier start ∷ [])
    ∙ (ap (λ l. l ++ starts) (map-append (λ led. led.start) earlier (led_by earlier start ∷ [])) ∙ assoc (map (λ led. led.start) earlier))
  where
    assoc : (xs : List Start) → (xs ++ start ∷ []) ++ starts ≡ xs ++ start ∷ starts
    assoc [] = refl
    assoc (x ∷ xs) = ap (λ l. x ∷ l) (assoc xs)

-- ---- the slots
abbrev pub Stands : Type 0
Stands = Slot Held (Line Courier)

abbrev home_of : Held → Stands
home_of h = Home h

abbrev pub vproc_put : ℕ → Option Led → Stands → Stands
vproc_put k None s = s
vproc_put k (Some led) s = cond (is_at k led.start) (Home (held.V (Some (first_vproc led)))) s

abbrev pub group_put : ℕ → List Led → Option Led → Stands → Stands
group_put k all None s = s
group_put k all (Some led) s = cond (is_at k led.start) (cond (led.leader.0 == led.start.pid.0) (Home (held.G (Some (first_group all led.leader)))) s) s

module _ (k : ℕ) (all : List Led) where
  v_other_g : (p g : Pid) → name.V p ≢ name.G g
  v_other_g p g e = cc

  v_same : (p q : Pid) → p.0 ≡ q.0 → name.V p ≡ name.V q
  v_same p q e = ap (λ (n : ℕ). name.V (record { 0 = n })) e

  v_apart : (p q : Pid) → (p.0 == q.0) ≡ false → name.V q ≢ name.V p
  v_apart p q ne e = let same : q ≡ p = cc in eqb-false p.0 q.0 ne (ap (λ (r : Pid). r.0) (sym same))

  g_apart : (p q : Pid) → (p.0 == q.0) ≡ false → name.G q ≢ name.G p
  g_apart p q ne e = let same : q ≡ p = cc in eqb-false p.0 q.0 ne (ap (λ (r : Pid). r.0) (sym same))

  -- the group's record does not touch a process's slot
  group_v : (led : Led) (slots : Slots Courier) (q : Pid) → slot_at (with_first_group all led slots) (name.V q) ≡ slot_at slots (name.V q)
  group_v led slots q = go (led.leader.0 == led.start.pid.0)
    where
      go : (b : Bool) → slot_at (cond b (with_slot slots (name.G led.leader) (Home (held.G (Some (first_group all led.leader))))) slots) (name.V q) ≡ slot_at slots (name.V q)
      go true = slot_at-put_other slots (name.G led.leader) (name.V q) (Home (held.G (Some (first_group all led.leader)))) (λ e. cc)
      go false = refl

  one_v_mine : (led : Led) (slots : Slots Courier) (q : Pid) → (led.start.pid.0 == q.0) ≡ true → slot_at (with_first k all slots led) (name.V q) ≡ vproc_put k (Some led) (slot_at slots (name.V q))
  one_v_mine led slots q e = go (is_at k led.start)
    where
      go : (t : Bool) → slot_at (cond t (with_first_group all led (with_slot slots (name.V led.start.pid) (Home (held.V (Some (first_vproc led)))))) slots) (name.V q) ≡ cond t (Home (held.V (Some (first_vproc led)))) (slot_at slots (name.V q))
      go true =
          group_v led (with_slot slots (name.V led.start.pid) (Home (held.V (Some (first_vproc led))))) q
          ∙ (ap (slot_at (with_slot slots (name.V led.start.pid) (Home (held.V (Some (first_vproc led)))))) (sym (v_same led.start.pid q (eqb-true _ _ e))) ∙ slot_at-put_home slots (name.V led.start.pid) (held.V (Some (first_vproc led))))
      go false = refl

  one_v_other : (led : Led) (slots : Slots Courier) (q : Pid) → (led.start.pid.0 == q.0) ≡ false → slot_at (with_first k all slots led) (name.V q) ≡ slot_at slots (name.V q)
  one_v_other led slots q e = go (is_at k led.start)
    where
      go : (t : Bool) → slot_at (cond t (with_first_group all led (with_slot slots (name.V led.start.pid) (Home (held.V (Some (first_vproc led)))))) slots) (name.V q) ≡ slot_at slots (name.V q)
      go true =
          group_v led (with_slot slots (name.V led.start.pid) (Home (held.V (Some (first_vproc led))))) q
          ∙ slot_at-put_other slots (name.V led.start.pid) (name.V q) (Home (held.V (Some (first_vproc led)))) (v_apart led.start.pid q e)
      go false = refl

  one_g_mine : (led : Led) (slots : Slots Courier) (g : Pid) → (led.start.pid.0 == g.0) ≡ true → slot_at (with_first k all slots led) (name.G g) ≡ group_put k all (Some led) (slot_at slots (name.G g))
  one_g_mine led slots g e = go (is_at k led.start)
    where
      mid : Slots Courier
      mid = with_slot slots (name.V led.start.pid) (Home (held.V (Some (first_vproc led))))

      inner : (b : Bool) → (led.leader.0 == led.start.pid.0) ≡ b →
          slot_at (cond b (with_slot (with_slot slots (name.V led.start.pid) (Home (held.V (Some (first_vproc led))))) (name.G led.leader) (Home (held.G (Some (first_group all led.leader))))) (with_slot slots (name.V led.start.pid) (Home (held.V (Some (first_vproc led)))))) (name.G g)
          ≡ cond b (Home (held.G (Some (first_group all led.leader)))) (slot_at slots (name.G g))
      inner true f =
          ap (slot_at (with_slot (with_slot slots (name.V led.start.pid) (Home (held.V (Some (first_vproc led))))) (name.G led.leader) (Home (held.G (Some (first_group all led.leader))))))
          (ap (λ (n : ℕ). name.G (record { 0 = n })) (sym (eqb-true led.start.pid.0 g.0 e) ∙ sym (eqb-true led.leader.0 led.start.pid.0 f)))
          ∙ slot_at-put_home (with_slot slots (name.V led.start.pid) (Home (held.V (Some (first_vproc led))))) (name.G led.leader) (held.G (Some (first_group all led.leader)))
      inner false f = slot_at-put_other slots (name.V led.start.pid) (name.G g) (Home (held.V (Some (first_vproc led)))) (λ e. cc)

      go : (t : Bool) → slot_at (cond t (with_first_group all led (with_slot slots (name.V led.start.pid) (Home (held.V (Some (first_vproc led)))))) slots) (name.G g) ≡ cond t (cond (led.leader.0 == led.start.pid.0) (Home (held.G (Some (first_group all led.leader)))) (slot_at slots (name.G g))) (slot_at slots (name.G g))
      go true = inner (led.leader.0 == led.start.pid.0) refl
      go false = refl

  one_g_other : (led : Led) (slots : Slots Courier) (g : Pid) → (led.start.pid.0 == g.0) ≡ false → slot_at (with_first k all slots led) (name.G g) ≡ slot_at slots (name.G g)
  one_g_other led slots g e = go (is_at k led.start)
    where
      inner : (b : Bool) → (led.leader.0 == led.start.pid.0) ≡ b →
          slot_at (cond b (with_slot (with_slot slots (name.V led.start.pid) (Home (held.V (Some (first_vproc led))))) (name.G led.leader) (Home (held.G (Some (first_group all led.leader))))) (with_slot slots (name.V led.start.pid) (Home (held.V (Some (first_vproc led)))))) (name.G g)
          ≡ slot_at slots (name.G g)
      inner true f =
          slot_at-put_other (with_slot slots (name.V led.start.pid) (Home (held.V (Some (first_vproc led))))) (name.G led.leader) (name.G g) (Home (held.G (Some (first_group all led.leader))))
          (g_apart led.leader g (ap (λ (n : ℕ). n == g.0) (eqb-true led.leader.0 led.start.pid.0 f) ∙ e))
          ∙ slot_at-put_other slots (name.V led.start.pid) (name.G g) (Home (held.V (Some (first_vproc led)))) (λ e. cc)
      inner false f = slot_at-put_other slots (name.V led.start.pid) (name.G g) (Home (held.V (Some (first_vproc led)))) (λ e. cc)

      go : (t : Bool) → slot_at (cond t (with_first_group all led (with_slot slots (name.V led.start.pid) (Home (held.V (Some (first_vproc led)))))) slots) (name.G g) ≡ slot_at slots (name.G g)
      go true = inner (led.leader.0 == led.start.pid.0) refl
      go false = refl

  pub slots_v : (leds : List Led) → Distinct led_number leds → (slots : Slots Courier) (q : Pid) → slot_at (first_slots k all slots leds) (name.V q) ≡ vproc_put k (at led_number q.0 leds) (slot_at slots (name.V q))
  slots_v [] d slots q = refl
  slots_v (led ∷ rest) d slots q = go (led.start.pid.0 == q.0) refl (slots_v rest d.1 (with_first k all slots led) q)
    where
      go : (b : Bool) → (led.start.pid.0 == q.0) ≡ b → slot_at (first_slots k all (with_first k all slots led) rest) (name.V q) ≡ vproc_put k (at led_number q.0 rest) (slot_at (with_first k all slots led) (name.V q)) →
          slot_at (first_slots k all (with_first k all slots led) rest) (name.V q) ≡ vproc_put k (cond b (Some led) (at led_number q.0 rest)) (slot_at slots (name.V q))
      go true e rest_is = rest_is ∙ (ap (λ o. vproc_put k o (slot_at (with_first k all slots led) (name.V q))) (ap (λ n. at led_number n rest) (sym (eqb-true _ _ e)) ∙ d.0) ∙ one_v_mine led slots q e)
      go false e rest_is = rest_is ∙ ap (vproc_put k (at led_number q.0 rest)) (one_v_other led slots q e)

  pub slots_g : (leds : List Led) → Distinct led_number leds → (slots : Slots Courier) (g : Pid) → slot_at (first_slots k all slots leds) (name.G g) ≡ group_put k all (at led_number g.0 leds) (slot_at slots (name.G g))
  slots_g [] d slots g = refl
  slots_g (led ∷ rest) d slots g = go (led.start.pid.0 == g.0) refl (slots_g rest d.1 (with_first k all slots led) g)
    where
      go : (b : Bool) → (led.start.pid.0 == g.0) ≡ b → slot_at (first_slots k all (with_first k all slots led) rest) (name.G g) ≡ group_put k all (at led_number g.0 rest) (slot_at (with_first k all slots led) (name.G g)) →
          slot_at (first_slots k all (with_first k all slots led) rest) (name.G g) ≡ group_put k all (cond b (Some led) (at led_number g.0 rest)) (slot_at slots (name.G g))
      go true e rest_is = rest_is ∙ (ap (λ o. group_put k all o (slot_at (with_first k all slots led) (name.G g))) (ap (λ n. at led_number n rest) (sym (eqb-true _ _ e)) ∙ d.0) ∙ one_g_mine led slots g e)
      go false e rest_is = rest_is ∙ ap (group_put k all (at led_number g.0 rest)) (one_g_other led slots g e)

-- ---- what is held under each name
abbrev pub led_group : List Led → Option Led → Option Group
led_group all None = None
led_group all (Some led) = cond (led.leader.0 == led.start.pid.0) (Some (first_group all led.leader)) None

abbrev pub first_what : List Led → Name → Held
first_what all (name.V q) = held.V (option_map first_vproc (at led_number q.0 all))
first_what all (name.G g) = held.G (led_group all (at led_number g.0 all))

pub first_kind : (all : List Led) (n : Name) → of_kind n (first_what all n) ≡ first_what all n
first_kind all (name.V q) = refl
first_kind all (name.G g) = refl

pub slot_v : (k : ℕ) (all : List Led) → Distinct led_number all → (q : Pid) → ((led : Led) → at led_number q.0 all ≡ Some led → led.start.node.0 ≡ k) → slot_at (first_slots k all (record { vprocs = []; groups = [] }) all) (name.V q) ≡ Home (first_what all (name.V q))
slot_v k all d q here = slots_v k all all d (record { vprocs = []; groups = [] }) q ∙ go (at led_number q.0 all) here
  where
    go : (o : Option Led) → ((led : Led) → o ≡ Some led → led.start.node.0 ≡ k) → vproc_put k o (Home (held.V None)) ≡ Home (held.V (option_map first_vproc o))
    go None h = refl
    go (Some led) h = ap (λ b. cond b (Home (held.V (Some (first_vproc led)))) (Home (held.V None))) (eq-eqb led.start.node.0 k (h led refl))

pub slot_g : (k : ℕ) (all : List Led) → Distinct led_number all → (g : Pid) → ((led : Led) → at led_number g.0 all ≡ Some led → led.start.node.0 ≡ k) → slot_at (first_slots k all (record { vprocs = []; groups = [] }) all) (name.G g) ≡ Home (first_what all (name.G g))
slot_g k all d g here = slots_g k all all d (record { vprocs = []; groups = [] }) g ∙ go (at led_number g.0 all) here
  where
    inner : (led : Led) (b : Bool) → cond b (home_of (held.G (Some (first_group all led.leader)))) (home_of (held.G None)) ≡ home_of (held.G (cond b (Some (first_group all led.leader)) None))
    inner led true = refl
    inner led false = refl

    go : (o : Option Led) → ((led : Led) → o ≡ Some led → led.start.node.0 ≡ k) → group_put k all o (Home (held.G None)) ≡ Home (held.G (led_group all o))
    go None h = refl
    go (Some led) h = ap (λ b. cond b (cond (led.leader.0 == led.start.pid.0) (Home (held.G (Some (first_group all led.leader)))) (Home (held.G None))) (Home (held.G None))) (eq-eqb led.start.node.0 k (h led refl)) ∙ inner led (led.leader.0 == led.start.pid.0)

-- ---- against the table
filter_none : {X : Type 0} (f : X → Bool) (xs : List X) → ((x : X) → f x ≡ false) → filter f xs ≡ []
filter_none f [] no_one = refl
filter_none f (x ∷ xs) no_one = ap (λ b. cond b (x ∷ filter f xs) (filter f xs)) (no_one x) ∙ filter_none f xs no_one

nothing_and : (b : Bool) → (b && false) ≡ false
nothing_and true = refl
nothing_and false = refl

module _ (all : List Led) (first : IsFirst (map led_row all)) (sound : IsSound (map led_row all)) where
  abbrev rows : List Row
  rows = map led_row all

  pub row_led : (q : Pid) → row_of (map led_row all) q ≡ option_map led_row (at led_number q.0 all)
  row_led q = at-map led_number number led_row (λ x. refl) q.0 all

  distinct : Distinct led_number all
  distinct = undo all first.distinct
    where
      none_back : (q : ℕ) (o : Option Led) → option_map led_row o ≡ None → o ≡ None
      none_back q None e = refl
      none_back q (Some led) e = cc

      undo : (xs : List Led) → Distinct number (map led_row xs) → Distinct led_number xs
      undo [] d = tt
      undo (x ∷ xs) d = (none_back x.start.pid.0 (at led_number x.start.pid.0 xs) (sym (at-map led_number number led_row (λ y. refl) x.start.pid.0 xs) ∙ d.0), undo xs d.1)

  no_system : row_of (map led_row all) (pid 1) ≡ None
  no_system = go (row_of (map led_row all) (pid 1)) refl
    where
      go : (o : Option Row) → row_of (map led_row all) (pid 1) ≡ o → o ≡ None
      go None e = refl
      go (Some c) e = absurd ((first.each c (row_here (map led_row all) (pid 1) c e)).own_pid.0 (ap (λ (p : Pid). p.0) (row_pid (map led_row all) (pid 1) c e)))

  no_children : (p : Pid) → p.0 ≢ 1 → children (map led_row all) p ≡ []
  no_children p ne = filter-map (is_parent p) led_row all ∙ ap (map led_row) (filter_none (λ led. is_parent p (led_row led)) all (λ led. ne_eqb 1 p.0 (λ e. ne (sym e))))

  vproc_agrees : (q : Pid) → VprocAgrees (map led_row all) (option_map first_vproc (at led_number q.0 all)) (row_of (map led_row all) q)
  vproc_agrees q = subst (λ o. VprocAgrees (map led_row all) (option_map first_vproc (at led_number q.0 all)) o) (sym (row_led q)) (go (at led_number q.0 all) refl)
    where
      go : (o : Option Led) → at led_number q.0 all ≡ o → VprocAgrees (map led_row all) (option_map first_vproc o) (option_map led_row o)
      go None e = tt
      go (Some led) e =
          let here = row_here (map led_row all) q (led_row led) (row_led q ∙ ap (option_map led_row) e) in
          record {
            pid = refl;
            parent = refl;
            group = refl;
            session = refl;
            uid = refl;
            life = refl;
            change = refl;
            execed = refl;
            ignchld = sym (has-none Chld);
            children = sym (ap (map (λ (c : Row). c.pid)) (no_children led.start.pid (first.each (led_row led) here).own_pid.0));
          }

  -- a group that is led by nobody has no member
  no_member : (g : Pid) → ((leader : Row) → row_of (map led_row all) g ≡ Some leader → leader.group ≡ leader.pid → ⊥) → (q : Pid) → option_map (λ (r : Row). r.uid) (option_filter (in_group g) (row_of (map led_row all) q)) ≡ None
  no_member g led q = go (row_of (map led_row all) q) refl
    where
      go : (o : Option Row) → row_of (map led_row all) q ≡ o → option_map (λ (r : Row). r.uid) (option_filter (in_group g) o) ≡ None
      go None e = refl
      go (Some c) e = by (in_group g c) refl
        where
          by : (b : Bool) → in_group g c ≡ b → option_map (λ (r : Row). r.uid) (cond b (Some c) None) ≡ None
          by false f = refl
          by true f =
              let k = first.each c (row_here (map led_row all) q c e) in
              absurd (led k.leader (ap (λ (n : ℕ). row_of (map led_row all) (record { 0 = n })) (sym (eqb-true c.group.0 g.0 f)) ∙ k.led) k.leads)

  no_links : (g : Pid) → length (filter (is_link_of (map led_row all) g) (map led_row all)) ≡ 0
  no_links g =
      ap length (filter-map (is_link_of (map led_row all) g) led_row all
      ∙ ap (map led_row) (filter_none (λ led. is_link_of (map led_row all) g (led_row led)) all (λ led. ap (λ o. in_group g (led_row led) && is_outside_parent (led_row led) o) no_system ∙ nothing_and (in_group g (led_row led)))))

  no_stopped : (g : Pid) → length (filter (is_stopped_in g) (map led_row all)) ≡ 0
  no_stopped g = ap length (filter-map (is_stopped_in g) led_row all ∙ ap (map led_row) (filter_none (λ led. is_stopped_in g (led_row led)) all (λ led. nothing_and (in_group g (led_row led)))))

  some_member : (f : Led → Bool) (q : ℕ) (led : Led) (xs : List Led) → at led_number q xs ≡ Some led → f led ≡ true → map first_member (filter f xs) ≢ []
  some_member f q led [] e passes = cc
  some_member f q led (x ∷ xs) e passes = go (x.start.pid.0 == q) e (some_member f q led xs)
    where
      in_front : (b : Bool) → (map first_member (filter f xs) ≢ []) → map first_member (cond b (x ∷ filter f xs) (filter f xs)) ≢ []
      in_front true ne = λ e. cc
      in_front false ne = ne

      go : (b : Bool) → cond b (Some x) (at led_number q xs) ≡ Some led → (at led_number q xs ≡ Some led → f led ≡ true → map first_member (filter f xs) ≢ []) → map first_member (cond (f x) (x ∷ filter f xs) (filter f xs)) ≢ []
      go true e rest = let same : x ≡ led = some_same x led e in subst (λ b. map first_member (cond b (x ∷ filter f xs) (filter f xs)) ≢ []) (sym (ap f same ∙ passes)) (λ h. cc)
      go false e rest = in_front (f x) (rest e passes)

  all_from : (ms : List Led) → All (λ (m : Member). m.from ≤ 0) (map first_member ms)
  all_from [] = All-nil (λ (m : Member). m.from ≤ 0)
  all_from (r ∷ rs) = All-cons (λ (m : Member). m.from ≤ 0) (first_member r) (map first_member rs) (omega arith) (all_from rs)

  led_group_agrees : (led : Led) → at led_number led.leader.0 all ≡ Some led → GroupAgrees (map led_row all) led.leader (Some (first_group all led.leader))
  led_group_agrees led there = (
    some_member (has_leader led.leader) led.leader.0 led all there (eq-eqb led.leader.0 led.leader.0 refl),
    record {
      id_is = refl;
      distinct = distinct-map led_number member_number first_member (λ x. refl) (filter (has_leader led.leader) all) (distinct-filter led_number (has_leader led.leader) all distinct);
      members = λ q. ap (option_map (λ (m : Member). m.uid)) (at-map led_number member_number first_member (λ x. refl) q.0 (filter (has_leader led.leader) all) ∙ ap (option_map first_member) (at-filter led_number (has_leader led.leader) q.0 all distinct))
          ∙ (same_uid (at led_number q.0 all) ∙ sym (ap (λ o. option_map (λ (r : Row). r.uid) (option_filter (in_group led.leader) o)) (row_led q)));
      session = λ q c there in_it. let l = mapped_some led_row (at led_number q.0 all) c (sym (row_led q) ∙ there) in ap (λ (r : Row). r.session) l.2 ∙ (ap (λ (r : Row). r.group) (sym l.2) ∙ ap (λ (n : ℕ). record { 0 = n }) (eqb-true c.group.0 led.leader.0 in_it));
      from = all_from (filter (has_leader led.leader) all);
      links = sym (no_links led.leader);
      stopped = sym (no_stopped led.leader);
    },
  )
    where
      same_uid : (o : Option Led) → option_map (λ (m : Member). m.uid) (option_map first_member (option_filter (has_leader led.leader) o)) ≡ option_map (λ (r : Row). r.uid) (option_filter (in_group led.leader) (option_map led_row o))
      same_uid None = refl
      same_uid (Some l) = by (has_leader led.leader l)
        where
          by : (b : Bool) → option_map (λ (m : Member). m.uid) (option_map first_member (cond b (Some l) None)) ≡ option_map (λ (r : Row). r.uid) (cond b (Some (led_row l)) None)
          by true = refl
          by false = refl

  group_agrees : (g : Pid) → GroupAgrees (map led_row all) g (led_group all (at led_number g.0 all))
  group_agrees g = go (at led_number g.0 all) refl
    where
      go : (o : Option Led) → at led_number g.0 all ≡ o → GroupAgrees (map led_row all) g (led_group all o)
      go None e = no_member g (λ leader there leads. let x : None ≡ Some leader = sym (row_led g ∙ ap (option_map led_row) e) ∙ there in cc)
      go (Some led) e = by (led.leader.0 == led.start.pid.0) refl
        where
          by : (b : Bool) → (led.leader.0 == led.start.pid.0) ≡ b → GroupAgrees (map led_row all) g (cond b (Some (first_group all led.leader)) None)
          by true f =
              let named : led.leader.0 ≡ g.0 = eqb-true _ _ f ∙ found led_number g.0 all led e in
              let same : led.leader ≡ g = ap (λ (n : ℕ). record { 0 = n }) named in
              subst (λ (p : Pid). GroupAgrees (map led_row all) p (Some (first_group all led.leader))) same (led_group_agrees led (ap (λ n. at led_number n all) named ∙ e))
          by false f = no_member g (λ leader there leads.
              let is : led_row led ≡ leader = some_same (led_row led) leader (sym (row_led g ∙ ap (option_map led_row) e) ∙ there) in
              eqb-false _ _ f (ap (λ (r : Row). r.group.0) is ∙ (ap (λ (p : Pid). p.0) leads ∙ ap (λ (r : Row). r.pid.0) (sym is))))

  pub first_agrees : (n : Name) → RecordAgrees (map led_row all) n (first_what all n)
  first_agrees (name.V q) = vproc_agrees q
  first_agrees (name.G g) = group_agrees g

-- ---- the first table of a world
pub boot_leds : (world : World) → boot world ≡ map led_row (led_starts world)
boot_leds world = booted_is world.starts []

pub start_led : (world : World) (q : Pid) → at start_number q.0 world.starts ≡ option_map (λ (led : Led). led.start) (at led_number q.0 (led_starts world))
start_led world q = ap (at start_number q.0) (sym (starts_are world.starts [])) ∙ at-map led_number start_number (λ (led : Led). led.start) (λ x. refl) q.0 (led_starts world)
