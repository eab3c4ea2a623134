-- changes of rows that leave each where it is: its pid, its parent, its group and session, and whether it lives
use Rattle.std.proofs.Common.{◌≡◌, ◌∙◌, ◌⊎◌, ◌<◌, ℕ, zero, suc, Bool, true, false, cond, List, [], ◌∷◌, length, get_or, set, refl, sym, ap, subst, inl, inr, arith}
use Rattle.std.specs.Prelude.{map, filter}
use Rattle.std.proofs.lemmas.Bool.{eq-eqb, lt-ltb, le-ltb}
use Rattle.ordered_table.proofs.RisingLaws.{above-at}
use Rattle.process_table.proofs.ChangeLaws.{nothing_sent}
use Rattle.unix_names.specs.declared.Pid.{Pid}
use Rattle.unix_names.specs.declared.Signal.{Signal}
use Rattle.unix_names.specs.States.{is_living}
use Rattle.signal_state.specs.Signals.{Signals}
use Rattle.process_table.specs.declared.rows.Row.{Row}
use Rattle.process_table.specs.declared.index.Index.{Index}
use Rattle.process_table.specs.Rows.{pid, is_pid, is_parent}
use Rattle.process_table.specs.MethodIndex.{IsRising, place, is_same_life, is_same_place, AllStay, Knows, forgotten}
use Rattle.process_table.proofs.IndexLaws.{knows-map, knows-forgotten_map, knows-forgotten_filter, map-at}
use Rattle.process_table.specs.declared.changes.Change.{Change}
use Rattle.process_table.specs.declared.changes.Change.TheVariants.{Delivered, Stopped, Continued, Ended, Reported, Execed, Regrouped, Leading, Acting, Masked, Signalled}
use Rattle.process_table.specs.Changes.{changed_at, receives, received, given_up}

life_same : (b : Bool) → is_same_life b b ≡ true
life_same true = refl
life_same false = refl

-- other signals leave a row in its place
place_same : (c : Row) (sig : Signals) → is_same_place c (record c { sig = sig }) ≡ true
place_same c sig = rw (eq-eqb c.group.0 c.group.0 refl, eq-eqb c.session.0 c.session.0 refl) (life_same (is_living c.life))

pub receives_stay : (sent : Row → List Signal) (rows : List Row) → AllStay (receives sent) rows
receives_stay sent [] = tt
receives_stay sent (c ∷ rows) = (place_same c (receives sent c).sig, receives_stay sent rows)

pub changed_pid : (p : Pid) (change : Change) (c : Row) → (changed_at p change c).pid ≡ c.pid
changed_pid p (Delivered s) c = refl
changed_pid p (Stopped s) c = refl
changed_pid p Continued c = refl
changed_pid p (Ended w) c = refl
changed_pid p Reported c = refl
changed_pid p Execed c = refl
changed_pid p (Regrouped g) c = refl
changed_pid p Leading c = refl
changed_pid p (Acting s act) c = refl
changed_pid p (Masked set) c = refl
changed_pid p (Signalled s) c = refl

pub changed_parent : (p : Pid) (change : Change) (c : Row) → (changed_at p change c).parent ≡ c.parent
changed_parent p (Delivered s) c = refl
changed_parent p (Stopped s) c = refl
changed_parent p Continued c = refl
changed_parent p (Ended w) c = refl
changed_parent p Reported c = refl
changed_parent p Execed c = refl
changed_parent p (Regrouped g) c = refl
changed_parent p Leading c = refl
changed_parent p (Acting s act) c = refl
changed_parent p (Masked set) c = refl
changed_parent p (Signalled s) c = refl

-- ---- what is known after each change
pub knows-received : (index : Index) (sent : Row → List Signal) (rows now : List Row) → now ≡ received sent rows → Knows index rows → Knows index now
knows-received index sent rows now is known = subst (Knows index) (sym is) (knows-map index (receives sent) rows (λ c. refl) (λ c. refl) (receives_stay sent rows) known)

pub knows-changed : (index : Index) (p : Pid) (change : Change) (rows now : List Row) → now ≡ map (changed_at p change) rows → AllStay (changed_at p change) rows → Knows index rows → Knows index now
knows-changed index p change rows now is stay known = subst (Knows index) (sym is) (knows-map index (changed_at p change) rows (changed_pid p change) (changed_parent p change) stay known)

pub knows-changed_place : (old new : Index) (p : Pid) (change : Change) (rows now : List Row) → new ≡ forgotten old → now ≡ map (changed_at p change) rows → Knows old rows → Knows new now
knows-changed_place old new p change rows now forgets is known =
    subst (λ index. Knows index now) (sym forgets) (subst (Knows (forgotten old)) (sym is)
    (knows-forgotten_map old (changed_at p change) rows (changed_pid p change) (λ c. inl (changed_parent p change c)) known))

pub knows-gone : (old new : Index) (keep : Row → Bool) (rows now : List Row) → new ≡ forgotten old → now ≡ filter keep rows → Knows old rows → Knows new now
knows-gone old new keep rows now forgets is known = subst (λ index. Knows index now) (sym forgets) (subst (Knows (forgotten old)) (sym is) (knows-forgotten_filter old keep rows known))

given_parent : (p : Pid) (c : Row) (b : Bool) → (cond b (pid 1) c.parent ≡ c.parent) ⊎ ((cond b (pid 1) c.parent).0 ≡ 1)
given_parent p c true = inr refl
given_parent p c false = inl refl

pub knows-given_up : (old new : Index) (p : Pid) (rows now : List Row) → new ≡ forgotten old → now ≡ map (given_up p) rows → Knows old rows → Knows new now
knows-given_up old new p rows now forgets is known =
    subst (λ index. Knows index now) (sym forgets) (subst (Knows (forgotten old)) (sym is)
    (knows-forgotten_map old (given_up p) rows (λ c. refl) (λ c. given_parent p c (is_parent p c)) known))

-- a row that was changed at the place of its process
pub changed-at : (rows now : List Row) (p : Pid) (f : Row → Row) (i : ℕ) → IsRising rows → ((c : Row) → is_pid p c ≡ false → f c ≡ c) → i ≡ place rows p → i < length rows →
    ((d : Row) → now ≡ set rows i (f (get_or rows i d))) → now ≡ map f rows
changed-at [] now p f i rising others at within is = absurd (omega arith)
changed-at (c ∷ rows) now p f i rising others at within is = is c ∙ sym (map-at (c ∷ rows) p f i c rising others at within)

-- ---- signals for the row at a place
-- among rows whose pids rise, a row stands at the place of its pid
place-own : (rows : List Row) (i : ℕ) (d : Row) → IsRising rows → i < length rows → i ≡ place rows (get_or rows i d).pid
place-own [] i d r lt = absurd (omega arith)
place-own (c ∷ rows) zero d r lt = rw (le-ltb c.pid.0 c.pid.0 (omega arith)) refl
place-own (c ∷ rows) (suc i) d r lt = rw (lt-ltb c.pid.0 (get_or rows i d).pid.0 (above-at (λ (x : Row). x.pid.0) c.pid.0 rows i d r.0 (omega arith))) (ap suc (place-own rows i d r.1 (omega arith)))

-- signals for one process
abbrev sent_to : Pid → List Signal → Row → List Signal
sent_to p signals c = cond (is_pid p c) signals []

none_at : (p : Pid) (signals : List Signal) (c : Row) → is_pid p c ≡ false → receives (sent_to p signals) c ≡ c
none_at p signals c e = rw e (nothing_sent (is_living c.life) c)

own_at : (signals : List Signal) (c : Row) → receives (sent_to c.pid signals) c ≡ receives (λ d. signals) c
own_at signals c = rw (eq-eqb c.pid.0 c.pid.0 refl) refl

received_as : (rows now : List Row) (signals : List Signal) (i : ℕ) (d : Row) → IsRising rows → i < length rows → now ≡ set rows i (receives (λ c. signals) (get_or rows i d)) → now ≡ map (receives (sent_to (get_or rows i d).pid signals)) rows
received_as [] now signals i d rising within is = absurd (omega arith)
received_as (c ∷ rows) now signals i d rising within is =
    let p = (get_or (c ∷ rows) i d).pid in
    is ∙ ap (set (c ∷ rows) i) (sym (own_at signals (get_or (c ∷ rows) i d))) ∙ sym (map-at (c ∷ rows) p (receives (sent_to p signals)) i d rising (none_at p signals) (place-own (c ∷ rows) i d rising within) within)

pub knows-received_at : (index : Index) (signals : List Signal) (rows now : List Row) (i : ℕ) → ((d : Row) → now ≡ set rows i (receives (λ c. signals) (get_or rows i d))) → i < length rows → Knows index rows → Knows index now
knows-received_at index signals [] now i is within known rises = absurd (omega arith)
knows-received_at index signals (c ∷ rows) now i is within known rises =
    let p = (get_or (c ∷ rows) i c).pid in
    knows-received index (sent_to p signals) (c ∷ rows) now (received_as (c ∷ rows) now signals i c (known rises).rising within (is c)) known rises
