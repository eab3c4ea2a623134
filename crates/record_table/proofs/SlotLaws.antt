-- slots as a map from names
use Rattle.std.proofs.Common.{◌≡◌, ◌≢◌, ◌==◌, ℕ, Bool, true, false, nat_lt, List, [], ◌∷◌, ◌++◌, sym, ap, ◌∙◌, refl, Some, None, Option, unwrap_or, is_some, Result, Ok, Err, OnOk, OnErr, if◌then◌else◌}
use Rattle.std.proofs.lemmas.Bool.{eqb-true}
use Rattle.unix_names.specs.declared.Pid.{Pid}
use Rattle.unix_names.specs.declared.Name.{Name}
use Rattle.unix_names.specs.declared.Name.TheVariants as name
use Rattle.vproc_record.specs.declared.Vproc.{Vproc}
use Rattle.group_record.specs.declared.Group.{Group}
use Rattle.ordered_table.specs.declared.Entry.{Entry}
use Rattle.ordered_table.specs.Entries.{value_at, with_value}
use Rattle.ordered_table.proofs.MapLaws.{put-same, put-other, with_value_again}
use Rattle.record_bag.specs.declared.Held.{Held}
use Rattle.record_table.specs.declared.slot.Slot.{Slot}
use Rattle.record_table.specs.declared.slot.Slot.TheVariants.{Home, Out}
use Rattle.record_bag.specs.Kinds.{of_kind}
use Rattle.record_table.specs.declared.slot.Line.{Line}
use Rattle.record_table.specs.declared.slots.Slots.{Slots}
use Rattle.record_table.specs.declared.slots.PutBack.TheVariants.{Handed}
use Rattle.record_table.specs.Places.{nobody, in_vprocs, in_groups, of_vproc, of_group, place_in, is_out_slot, line_of, left, put_back, given, joined, marked}
use Rattle.record_table.specs.Slots.{slot_at, with_slot, process, is_known, is_out, after_nudge, SameElsewhere}

put-known-by : {T : Type 0} (e : Entry T) (es : List (Entry T)) (p : Pid) (v : T) (b c : Bool) → (e.pid.0 == p.0) ≡ c → (value_at es p ≡ Some v → with_value es p v ≡ es) →
    (if b then value_at es p else (if c then Some e.value else None)) ≡ Some v →
    (if b then e ∷ with_value es p v else (if c then (record { pid = p; value = v }) ∷ es else (record { pid = p; value = v }) ∷ e ∷ es)) ≡ e ∷ es
put-known-by e es p v true c same rest at = ap (λ xs. e ∷ xs) (rest at)
put-known-by e es p v false true same rest at =
    let s : p ≡ e.pid = ap (λ (n : ℕ). record { 0 = n }) (sym (eqb-true e.pid.0 p.0 same)) in
    let h : v ≡ e.value = cc in
    rw (s, h) refl
put-known-by e es p v false false same rest at = cc

-- the same value again changes nothing
pub put-known : {T : Type 0} (es : List (Entry T)) (p : Pid) (v : T) → value_at es p ≡ Some v → with_value es p v ≡ es
put-known [] p v at = cc
put-known (e ∷ es) p v at = put-known-by e es p v (nat_lt e.pid.0 p.0) (e.pid.0 == p.0) refl (put-known es p v) at

-- what can stand at the home of a name: a record of its kind, and no mark for groups
abbrev pub seen : {C : Type 0} → Name → Slot Held (Line C) → Slot Held (Line C)
seen (name.V p) a = of_vproc (in_vprocs a)
seen (name.G g) a = of_group (in_groups a)

-- what was put at the home of a name stands there
pub slot_at-put : {C : Type 0} (s : Slots C) (n : Name) (a : Slot Held (Line C)) → slot_at (with_slot s n a) n ≡ seen n a
slot_at-put s (name.V p) a = ap (λ o. of_vproc (unwrap_or o (Home None))) (put-same s.vprocs p (in_vprocs a))
slot_at-put s (name.G g) a = ap (λ o. of_group (unwrap_or o (Home None))) (put-same s.groups g (in_groups a))

-- a record at the home of a name, as far as it is of its kind
pub slot_at-put_home : {C : Type 0} (s : Slots C) (n : Name) (h : Held) → slot_at (with_slot s n (Home h)) n ≡ Home (of_kind n h)
slot_at-put_home s (name.V p) h = slot_at-put s (name.V p) (Home h)
slot_at-put_home s (name.G g) h = slot_at-put s (name.G g) (Home h)

abbrev pid : ℕ → Pid
pid n = record { 0 = n }

-- the other names are as before
pub slot_at-put_other : {C : Type 0} (s : Slots C) (n m : Name) (a : Slot Held (Line C)) → m ≢ n → slot_at (with_slot s n a) m ≡ slot_at s m
slot_at-put_other s (name.V p) (name.V q) a ne = ap (λ o. of_vproc (unwrap_or o (Home None))) (put-other s.vprocs p q (in_vprocs a) (λ e. ne (ap (λ k. name.V (pid k)) e)))
slot_at-put_other s (name.V p) (name.G q) a ne = refl
slot_at-put_other s (name.G p) (name.V q) a ne = refl
slot_at-put_other s (name.G p) (name.G q) a ne = ap (λ o. of_group (unwrap_or o (Home None))) (put-other s.groups p q (in_groups a) (λ e. ne (ap (λ k. name.G (pid k)) e)))

-- the later of two slots stays
pub with_slot-twice : {C : Type 0} (s : Slots C) (n : Name) (a b : Slot Held (Line C)) → with_slot (with_slot s n a) n b ≡ with_slot s n b
with_slot-twice s (name.V p) a b = ap (λ vs. record s { vprocs = vs }) (with_value_again s.vprocs p (in_vprocs a) (in_vprocs b))
with_slot-twice s (name.G g) a b = ap (λ gs. record s { groups = gs }) (with_value_again s.groups g (in_groups a) (in_groups b))

-- who is out was seen
out-known : {R L : Type 0} (o : Option (Slot (Option R) L)) → is_out_slot (unwrap_or o (Home None)) ≡ true → is_some o ≡ true
out-known None out = cc
out-known (Some v) out = refl

of_vproc-out : {C : Type 0} (a : Slot (Option Vproc) (Line C)) → is_out_slot (of_vproc a) ≡ is_out_slot a
of_vproc-out (Home v) = refl
of_vproc-out (Out line) = refl

of_group-out : {C : Type 0} (a : Slot (Option Group) (List C)) → is_out_slot (of_group a) ≡ is_out_slot a
of_group-out (Home g) = refl
of_group-out (Out waiters) = refl

pub is_known-out : {C : Type 0} (s : Slots C) (n : Name) → is_out s n ≡ true → is_known s n ≡ true
is_known-out s (name.V p) out = out-known (value_at s.vprocs p) (sym (of_vproc-out (place_in s.vprocs p)) ∙ out)
is_known-out s (name.G g) out = out-known (value_at s.groups g) (sym (of_group-out (place_in s.groups g)) ∙ out)

-- a name is known once something stands there
pub is_known-put : {C : Type 0} (s : Slots C) (n : Name) (a : Slot Held (Line C)) → is_known (with_slot s n a) n ≡ true
is_known-put s (name.V p) a = ap is_some (put-same s.vprocs p (in_vprocs a))
is_known-put s (name.G g) a = ap is_some (put-same s.groups g (in_groups a))

out-same_vproc : {C : Type 0} (o : Option (Slot (Option Vproc) (Line C))) (line : Line C) → of_vproc (unwrap_or o (Home None)) ≡ Out line → o ≡ Some (Out line)
out-same_vproc None line e = cc
out-same_vproc (Some (Home v)) line e = cc
out-same_vproc (Some (Out l)) line e = cc

out-same_group : {C : Type 0} (o : Option (Slot (Option Group) (List C))) (line : Line C) → of_group (unwrap_or o (Home None)) ≡ Out line → o ≡ Some (Out line.waiters)
out-same_group None line e = cc
out-same_group (Some (Home g)) line e = cc
out-same_group (Some (Out ws)) line e = let h : record { is_marked = false; waiters = ws } ≡ line = cc in ap (λ (l : Line _). Some (Out l.waiters)) h

-- the same line again changes nothing
pub with_slot-same : {C : Type 0} (s : Slots C) (n : Name) (line : Line C) → slot_at s n ≡ Out line → with_slot s n (Out line) ≡ s
with_slot-same s (name.V p) line e = ap (λ vs. record s { vprocs = vs }) (put-known s.vprocs p (Out line) (out-same_vproc (value_at s.vprocs p) line e))
with_slot-same s (name.G g) line e = ap (λ gs. record s { groups = gs }) (put-known s.groups g (Out line.waiters) (out-same_group (value_at s.groups g) line e))

of_group-unmarked : {C : Type 0} (a : Slot (Option Group) (List C)) → (line_of (of_group a)).is_marked ≡ false
of_group-unmarked (Home g) = refl
of_group-unmarked (Out waiters) = refl

-- the line of a name, changed as lines change, stands there
pub slot_at-put_line : {C : Type 0} (s : Slots C) (n : Name) (ws : List C) → let m = (line_of (slot_at s n)).is_marked in slot_at (with_slot s n (Out (record { is_marked = m; waiters = ws }))) n ≡ Out (record { is_marked = m; waiters = ws })
slot_at-put_line s (name.V p) ws = slot_at-put s (name.V p) (Out (record { is_marked = (line_of (slot_at s (name.V p))).is_marked; waiters = ws }))
slot_at-put_line s (name.G g) ws = slot_at-put s (name.G g) (Out (record { is_marked = (line_of (slot_at s (name.G g))).is_marked; waiters = ws })) ∙ ap (λ m. Out (record { is_marked = m; waiters = ws })) (sym (of_group-unmarked (place_in s.groups g)))

-- a record that comes back stands there, or the first has left the line
pub slot_at-given : {C : Type 0} (s : Slots C) (n : Name) (ws : List C) (h : Held) → let m = (line_of (slot_at s n)).is_marked in slot_at (with_slot s n (given m ws h)) n ≡ given m ws (of_kind n h)
slot_at-given s n [] h = slot_at-put_home s n h
slot_at-given s n (w ∷ ws) h = slot_at-put_line s n ws

-- nobody waits yet
pub slot_at-nobody : {C : Type 0} (s : Slots C) (n : Name) → slot_at (with_slot s n (Out nobody)) n ≡ Out nobody
slot_at-nobody s (name.V p) = slot_at-put s (name.V p) (Out nobody)
slot_at-nobody s (name.G g) = slot_at-put s (name.G g) (Out nobody)

-- one slot changed
pub others-put : {C : Type 0} (s new : Slots C) (n : Name) (a : Slot Held (Line C)) → new ≡ with_slot s n a → SameElsewhere n s new
others-put s new n a is = λ m ne. ap (λ t. slot_at t m) is ∙ slot_at-put_other s n m a ne

-- one slot changed twice
pub after-twice : {C : Type 0} (s mid new : Slots C) (n : Name) (a b : Slot Held (Line C)) → mid ≡ with_slot s n a → new ≡ with_slot mid n b → new ≡ with_slot s n b
after-twice s mid new n a b first second = second ∙ (ap (λ t. with_slot t n b) first ∙ with_slot-twice s n a b)

-- a record that rests is not out
pub home-not_out : {C : Type 0} (s mid : Slots C) (n : Name) (h : Held) (line : Line C) → mid ≡ with_slot s n (Home h) → Out line ≡ slot_at mid n → ⊥
home-not_out s mid n h line is out = let e : Out line ≡ Home (of_kind n h) = out ∙ (ap (λ t. slot_at t n) is ∙ slot_at-put_home s n h) in cc

-- nobody waited
pub after-rests : {C : Type 0} (s new : Slots C) (n : Name) (h : Held) (line : Line C) → slot_at s n ≡ Out line → line.waiters ≡ [] → new ≡ with_slot s n (Home h) →
    let was = line_of (slot_at s n) in new ≡ with_slot s n (given was.is_marked was.waiters h)
after-rests s new n h line at none is = is ∙ rw (at, none) refl

-- somebody waited
pub after-handed : {C : Type 0} (s mid new : Slots C) (n : Name) (h : Held) (line : Line C) (w : C) (ws : List C) → slot_at s n ≡ Out line → line.waiters ≡ w ∷ ws → mid ≡ with_slot s n (Home h) →
    new ≡ with_slot mid n (Out (record { is_marked = line.is_marked; waiters = ws })) → let was = line_of (slot_at s n) in new ≡ with_slot s n (given was.is_marked was.waiters h)
after-handed s mid new n h line w ws at some first second = after-twice s mid new n (Home h) (Out (record { is_marked = line.is_marked; waiters = ws })) first second ∙ rw (at, some) refl

pub answer-handed : {C : Type 0} (s mid : Slots C) (n : Name) (h held : Held) (line : Line C) (w : C) (ws : List C) → slot_at s n ≡ Out line → line.waiters ≡ w ∷ ws → mid ≡ with_slot s n (Home h) → Home held ≡ slot_at mid n →
    let was = line_of (slot_at s n) in Handed w held ≡ put_back was.is_marked was.waiters (of_kind n h)
answer-handed s mid n h held line w ws at some first home =
    let e : Home held ≡ Home (of_kind n h) = home ∙ (ap (λ t. slot_at t n) first ∙ slot_at-put_home s n h) in
    let f : held ≡ of_kind n h = cc in
    rw (at, some) (ap (λ x. Handed w x) f)

-- after a record came back
pub stands-given : {C : Type 0} (s new : Slots C) (n : Name) (h : Held) → let was = line_of (slot_at s n) in new ≡ with_slot s n (given was.is_marked was.waiters h) → slot_at new n ≡ given was.is_marked was.waiters (of_kind n h)
stands-given s new n h is = ap (λ t. slot_at t n) is ∙ slot_at-given s n (line_of (slot_at s n)).waiters h

-- one more waits, if there was memory
pub after-joined : {C A B : Type 0} (r : Result A B) (s mid new : Slots C) (n : Name) (h : Held) (line : Line C) (ws : List C) (c : C) → slot_at s n ≡ Out line → mid ≡ with_slot s n (Home h) →
    new ≡ with_slot mid n (Out (record { is_marked = line.is_marked; waiters = ws })) → OnOk r (ws ≡ line.waiters ++ c ∷ []) → OnOk r (new ≡ with_slot s n (Out (joined (line_of (slot_at s n)) c)))
after-joined (Ok a) s mid new n h line ws c at first second ok =
    after-twice s mid new n (Home h) (Out (record { is_marked = line.is_marked; waiters = ws })) first second ∙ rw (at, ok) refl
after-joined (Err b) s mid new n h line ws c at first second ok = tt

pub stands-joined : {C A B : Type 0} (r : Result A B) (s new : Slots C) (n : Name) (c : C) → OnOk r (new ≡ with_slot s n (Out (joined (line_of (slot_at s n)) c))) → OnOk r (slot_at new n ≡ Out (joined (line_of (slot_at s n)) c))
stands-joined (Ok a) s new n c is = ap (λ t. slot_at t n) is ∙ slot_at-put_line s n ((line_of (slot_at s n)).waiters ++ c ∷ [])
stands-joined (Err b) s new n c is = tt

-- without memory nothing changes
pub same-joined : {C A B : Type 0} (r : Result A B) (s mid new : Slots C) (n : Name) (h : Held) (line : Line C) (ws : List C) → slot_at s n ≡ Out line → mid ≡ with_slot s n (Home h) →
    new ≡ with_slot mid n (Out (record { is_marked = line.is_marked; waiters = ws })) → OnErr r (ws ≡ line.waiters) → OnErr r (new ≡ s)
same-joined (Ok a) s mid new n h line ws at first second err = tt
same-joined (Err b) s mid new n h line ws at first second err =
    after-twice s mid new n (Home h) (Out (record { is_marked = line.is_marked; waiters = ws })) first second ∙ (ap (λ xs. with_slot s n (Out (record { is_marked = line.is_marked; waiters = xs }))) err ∙ with_slot-same s n line at)

-- a process that is out is marked
pub after-marked : {C : Type 0} (s mid new : Slots C) (p : Pid) (h : Held) (line : Line C) → slot_at s (process p) ≡ Out line → mid ≡ with_slot s (process p) (Home h) →
    new ≡ with_slot mid (process p) (Out (record { is_marked = true; waiters = line.waiters })) → new ≡ after_nudge s p (slot_at s (process p))
after-marked s mid new p h line at first second = after-twice s mid new (process p) (Home h) (Out (record { is_marked = true; waiters = line.waiters })) first second ∙ rw at refl

nudge-others : {C : Type 0} (s new : Slots C) (p : Pid) (a : Slot Held (Line C)) → new ≡ after_nudge s p a → SameElsewhere (process p) s new
nudge-others s new p (Home h) is = λ m ne. ap (λ t. slot_at t m) is
nudge-others s new p (Out line) is = others-put s new (process p) (marked (Out line)) is

-- after a nudge
pub others-nudge : {C : Type 0} (s new : Slots C) (p : Pid) → new ≡ after_nudge s p (slot_at s (process p)) → SameElsewhere (process p) s new
others-nudge s new p is = nudge-others s new p (slot_at s (process p)) is

nudge-stands : {C : Type 0} (s new : Slots C) (p : Pid) (a : Slot Held (Line C)) → slot_at s (process p) ≡ a → new ≡ after_nudge s p a → slot_at new (process p) ≡ marked a
nudge-stands s new p (Home h) at is = ap (λ t. slot_at t (process p)) is ∙ at
nudge-stands s new p (Out line) at is = ap (λ t. slot_at t (process p)) is ∙ slot_at-put s (process p) (marked (Out line))

pub stands-nudge : {C : Type 0} (s new : Slots C) (p : Pid) → new ≡ after_nudge s p (slot_at s (process p)) → slot_at new (process p) ≡ marked (slot_at s (process p))
stands-nudge s new p is = nudge-stands s new p (slot_at s (process p)) refl is

-- after a record was taken
pub stands-take : {C : Type 0} (s new : Slots C) (n : Name) (h : Held) → Home h ≡ slot_at s n → new ≡ with_slot s n (Out nobody) → slot_at new n ≡ left (slot_at s n)
stands-take s new n h at is = ap (λ t. slot_at t n) is ∙ (slot_at-nobody s n ∙ rw (← at) refl)
