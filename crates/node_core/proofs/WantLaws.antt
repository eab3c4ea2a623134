-- the ways in which a courier goes for a name
use Rattle.std.proofs.Common.{◌≡◌, ◌≢◌, ◌==◌, ◌∙◌, Bool, true, false, List, Option, None, Some, refl, sym, ap, if◌then◌else◌}
use Rattle.std.specs.Prelude.{is_none}
use Rattle.std.proofs.lemmas.Bool.{eq-eqb, ne_eqb}
use Rattle.unix_names.specs.declared.Name.{Name}
use Rattle.unix_names.specs.Names.{home}
use Rattle.unix_names.specs.declared.Pid.{Pid}
use Rattle.vproc_record.specs.declared.Vproc.{Vproc}
use Rattle.group_record.specs.declared.Group.{Group}
use Rattle.ordered_table.specs.declared.Entry.{Entry}
use Rattle.ordered_table.specs.Entries.{with_value}
use Rattle.record_bag.specs.declared.Held.{Held}
use Rattle.record_bag.specs.declared.Held.TheVariants as held
use Rattle.record_bag.specs.declared.Bag.{Bag}
use Rattle.record_bag.specs.Bags.{with_held}
use Rattle.record_table.specs.declared.Slot.{Slot}
use Rattle.record_table.specs.declared.Slot.TheVariants.{Home, Out}
use Rattle.record_table.specs.declared.Slots.{Slots}
use Rattle.record_table.specs.declared.Line.{Line}
use Rattle.record_table.specs.Places.{nobody, joined, line_of, is_out_slot}
use Rattle.record_table.specs.Slots.{slot_at, with_slot, is_out, process, resting, group_name, resting_group}
use Rattle.courier_core.specs.declared.Courier.{Courier}
use Rattle.courier_core.specs.Couriers.{next_want, must_restart}
use Rattle.node_state.specs.declared.State.{State}
use Rattle.node_core.specs.declared.step.Step.TheVariants.{Again, Over}
use Rattle.node_core.specs.declared.step.Next.TheVariants as next
use Rattle.node_core.specs.MethodAsking.{left_to_do}
use Rattle.node_core.specs.Advance.{Stepped, is_stepped, wanted_at, wanted, restarted, needed, needed_least}

at-home : (b : Bool) (x y z : Stepped) → b ≡ true → x ≡ y → x ≡ (if b then y else z)
at-home true x y z e same = same
at-home false x y z e same = cc

elsewhere : (b : Bool) (x y z : Stepped) → b ≡ false → x ≡ z → x ≡ (if b then y else z)
elsewhere true x y z e same = cc
elsewhere false x y z e same = same

here-by : (s : State) (c : Courier) (x : Name) (h : Held) (slots : Slots Courier) (bag : Bag) (a : Slot Held (Line Courier)) → a ≡ Home h → slots ≡ with_slot s.slots x (Out nobody) → bag ≡ with_held c.bag x h →
    is_stepped (record s { slots = slots }) (Again (record c { bag = bag })) ≡ wanted_at s c x a
here-by s c x h slots bag a rests is got =
    ap (λ z. is_stepped (record s { slots = z }) (Again (record c { bag = bag }))) is
    ∙ (ap (λ b. is_stepped (record s { slots = with_slot s.slots x (Out nobody) }) (Again (record c { bag = b }))) got
    ∙ sym (ap (wanted_at s c x) rests))

-- a process's record is taken
pub take-vproc : (s : State) (c : Courier) (p : Pid) (v : Option Vproc) (slots : Slots Courier) (vprocs : List (Entry (Option Vproc))) →
    slot_at s.slots (process p) ≡ resting v → slots ≡ with_slot s.slots (process p) (Out nobody) → vprocs ≡ with_value c.bag.vprocs p v →
    is_stepped (record s { slots = slots }) (Again (record c { bag = record c.bag { vprocs = vprocs } })) ≡ wanted_at s c (process p) (slot_at s.slots (process p))
take-vproc s c p v slots vprocs rests is got =
    here-by s c (process p) (held.V v) slots (record c.bag { vprocs = vprocs }) (slot_at s.slots (process p)) rests is (ap (λ z. record c.bag { vprocs = z }) got)

-- a group's record is taken
pub take-group : (s : State) (c : Courier) (p : Pid) (g : Option Group) (slots : Slots Courier) (groups : List (Entry (Option Group))) →
    slot_at s.slots (group_name p) ≡ resting_group g → slots ≡ with_slot s.slots (group_name p) (Out nobody) → groups ≡ with_value c.bag.groups p g →
    is_stepped (record s { slots = slots }) (Again (record c { bag = record c.bag { groups = groups } })) ≡ wanted_at s c (group_name p) (slot_at s.slots (group_name p))
take-group s c p g slots groups rests is got =
    here-by s c (group_name p) (held.G g) slots (record c.bag { groups = groups }) (slot_at s.slots (group_name p)) rests is (ap (λ z. record c.bag { groups = z }) got)

-- the record is here
pub want-here : (s : State) (c : Courier) (x : Name) (y : Stepped) → home x s.nodes ≡ s.id → y ≡ wanted_at s c x (slot_at s.slots x) → y ≡ wanted s c x
want-here s c x y at is = at-home (home x s.nodes == s.id) _ (wanted_at s c x (slot_at s.slots x)) _ (eq-eqb (home x s.nodes) s.id at) is

waits-by : (s : State) (c : Courier) (x : Name) (a : Slot Held (Line Courier)) → is_out_slot a ≡ true → is_stepped (record s { slots = with_slot s.slots x (Out (joined (line_of a) c)) }) (Over None) ≡ wanted_at s c x a
waits-by s c x (Home h) out = cc
waits-by s c x (Out line) out = refl

-- the record is out
pub want-waits : (s : State) (c : Courier) (x : Name) → home x s.nodes ≡ s.id → is_out s.slots x ≡ true → left_to_do s c (next.Wait x) ≡ wanted s c x
want-waits s c x at out = want-here s c x _ at (waits-by s c x (slot_at s.slots x) out)

-- its home is another node
pub want-rides : (s : State) (c : Courier) (x : Name) → home x s.nodes ≢ s.id → left_to_do s c (next.Ride (home x s.nodes)) ≡ wanted s c x
want-rides s c x away = elsewhere (home x s.nodes == s.id) _ (wanted_at s c x (slot_at s.slots x)) _ (ne_eqb (home x s.nodes) s.id away) refl

none-is : (o : Option Name) → is_none o ≡ true → o ≡ None
none-is None e = refl
none-is (Some x) e = cc

-- nothing is lacking
pub gather-none : (s : State) (c : Courier) (names : List Name) → is_none (next_want c names) ≡ true → is_stepped s (Over None) ≡ needed s c names
gather-none s c names e = sym (ap (needed_least s c names) (none-is (next_want c names) e))

some-by : (s : State) (c : Courier) (names : List Name) (x : Name) (b : Bool) → must_restart c x ≡ b → (y : Stepped) → y ≡ (if b then restarted s c names else wanted s c x) → y ≡ (if must_restart c x then restarted s c names else wanted s c x)
some-by s c names x b e y is = is ∙ ap (λ d. if d then restarted s c names else wanted s c x) (sym e)

-- the next want is below what is held
pub gather-restarts : (s : State) (c : Courier) (names : List Name) (x : Name) (y : Stepped) → next_want c names ≡ Some x → must_restart c x ≡ true → y ≡ restarted s c names → y ≡ needed s c names
gather-restarts s c names x y next again is = some-by s c names x true again y is ∙ sym (ap (needed_least s c names) next)

-- or not
pub gather-wants : (s : State) (c : Courier) (names : List Name) (x : Name) (y : Stepped) → next_want c names ≡ Some x → must_restart c x ≡ false → y ≡ wanted s c x → y ≡ needed s c names
gather-wants s c names x y next again is = some-by s c names x false again y is ∙ sym (ap (needed_least s c names) next)
