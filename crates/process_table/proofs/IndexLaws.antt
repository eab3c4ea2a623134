-- what an index knows still holds after the changes of a table
use Rattle.std.proofs.Common.{◌≡◌, ◌∙◌, ◌&&◌, ◌||◌, not, ◌⊎◌, inl, inr, ◌<◌, ◌≤◌, ℕ, zero, suc, Bool, true, false, cond, nat_lt, IsTrue, IfSome, List, [], ◌∷◌, Option, None, Some, length, get_or, set, map, refl, sym, ap, ap₂, arith, eq-eqb, eqb-true, ltb-false}
use Rattle.std.specs.Prelude.{filter}
use Rattle.std.specs.List.{list_any}
use Rattle.std.specs.Option.{option_map}
use Rattle.std.proofs.lemmas.Bool.{and_parts, and_from, or_left, not-true, cond_both}
use Rattle.unix_names.specs.declared.Pid.{Pid}
use Rattle.unix_names.specs.States.{is_living}
use Rattle.ordered_table.specs.Lists.{Lists}
use Rattle.process_table.specs.declared.rows.Row.{Row}
use Rattle.process_table.specs.declared.index.Index.{Index}
use Rattle.process_table.specs.Rows.{pid, is_pid, is_same, row_of}
use Rattle.process_table.specs.Orphans.{is_outside_parent, is_link_of}
use Rattle.process_table.specs.MethodIndex.{AllAbove, IsRising, place, is_listed, AreListed, is_same_life, is_same_place, AllStay, Knows, forgotten}
use Rattle.process_table.proofs.RisingLaws.{not-pid, not-pid_above}

-- ---- pids that rise
above-map : (p : Pid) (f : Row → Row) (rows : List Row) → ((c : Row) → (f c).pid ≡ c.pid) → AllAbove p rows → AllAbove p (map f rows)
above-map p f [] pids a = tt
above-map p f (c ∷ rows) pids a = (rw (pids c) a.0, above-map p f rows pids a.1)

-- a change that keeps the pids
rising-map : (f : Row → Row) (rows : List Row) → ((c : Row) → (f c).pid ≡ c.pid) → IsRising rows → IsRising (map f rows)
rising-map f [] pids r = tt
rising-map f (c ∷ rows) pids r = (rw (pids c) (above-map c.pid f rows pids r.0), rising-map f rows pids r.1)

above-filter : (p : Pid) (keep : Row → Bool) (rows : List Row) → AllAbove p rows → AllAbove p (filter keep rows)
above-filter p keep [] a = tt
above-filter p keep (c ∷ rows) a = let rest = above-filter p keep rows a.1 in cond_both (keep c) _ _ (AllAbove p) (λ e. (a.0, rest)) (λ e. rest)

rising-filter : (keep : Row → Bool) (rows : List Row) → IsRising rows → IsRising (filter keep rows)
rising-filter keep [] r = tt
rising-filter keep (c ∷ rows) r = let rest = rising-filter keep rows r.1 in cond_both (keep c) _ _ IsRising (λ e. (above-filter c.pid keep rows r.0, rest)) (λ e. rest)

-- ---- children that are listed
still_listed : (children : Lists) (c d : Row) → d.pid ≡ c.pid → (d.parent ≡ c.parent) ⊎ (d.parent.0 ≡ 1) → IsTrue (is_listed children c) → IsTrue (is_listed children d)
still_listed children c d same (inl kept) h = rw (same, kept) h
still_listed children c d same (inr given) h = or_left _ _ (eq-eqb _ _ given)

listed-map : (children : Lists) (f : Row → Row) (rows : List Row) → ((c : Row) → (f c).pid ≡ c.pid) → ((c : Row) → ((f c).parent ≡ c.parent) ⊎ ((f c).parent.0 ≡ 1)) → AreListed children rows → AreListed children (map f rows)
listed-map children f [] pids parents l = tt
listed-map children f (c ∷ rows) pids parents l = (still_listed children c (f c) (pids c) (parents c) l.0, listed-map children f rows pids parents l.1)

listed-filter : (children : Lists) (keep : Row → Bool) (rows : List Row) → AreListed children rows → AreListed children (filter keep rows)
listed-filter children keep [] l = tt
listed-filter children keep (c ∷ rows) l = let rest = listed-filter children keep rows l.1 in cond_both (keep c) _ _ (AreListed children) (λ e. (l.0, rest)) (λ e. rest)

-- ---- orphaned groups
-- a row that keeps its place keeps all that the rule on orphaned groups reads of it
record Stays (c d : Row) : Type 0 where
  group : d.group ≡ c.group
  session : d.session ≡ c.session
  lives : is_living d.life ≡ is_living c.life

same_pid : (p q : Pid) → is_same p q ≡ true → q ≡ p
same_pid p q e = ap pid (sym (eqb-true _ _ e))

same_life : (a b : Bool) → is_same_life a b ≡ true → b ≡ a
same_life true b e = e
same_life false b e = not-true b e

stays : (c d : Row) → IsTrue (is_same_place c d) → Stays c d
stays c d h =
    let parts = and_parts _ _ h in
    let rest = and_parts _ _ parts.1 in
    record { group = same_pid c.group d.group parts.0; session = same_pid c.session d.session rest.0; lives = same_life _ _ rest.1 }

row_of_map_step : (f : Row → Row) (c : Row) (a b : Bool) (l m : Option Row) → a ≡ b → l ≡ option_map f m → cond a (Some (f c)) l ≡ option_map f (cond b (Some c) m)
row_of_map_step f c a true l m same e = rw same
row_of_map_step f c a false l m same e = rw same e

row_of-map : (f : Row → Row) (rows : List Row) (p : Pid) → ((c : Row) → (f c).pid ≡ c.pid) → row_of (map f rows) p ≡ option_map f (row_of rows p)
row_of-map f [] p pids = refl
row_of-map f (c ∷ rows) p pids = row_of_map_step f c _ _ _ _ (ap (λ q. is_same q p) (pids c)) (row_of-map f rows p pids)

-- a row that is found keeps its place
found_stays : (f : Row → Row) (rows : List Row) (p : Pid) → AllStay f rows → IfSome (row_of rows p) (λ c. IsTrue (is_same_place c (f c)))
found_stays f [] p stay = tt
found_stays f (c ∷ rows) p stay = cond_both (is_pid p c) (Some c) (row_of rows p) (λ o. IfSome o (λ d. IsTrue (is_same_place d (f d)))) (λ e. stay.0) (λ e. found_stays f rows p stay.1)

outside-map : (f : Row → Row) (c : Row) (o : Option Row) → Stays c (f c) → IfSome o (λ d. IsTrue (is_same_place d (f d))) → is_outside_parent (f c) (option_map f o) ≡ is_outside_parent c o
outside-map f c None s h = refl
outside-map f c (Some d) s h = let t = stays d (f d) h in rw (s.group, s.session, t.group, t.session)

link-map : (f : Row → Row) (rows : List Row) (c : Row) (g : Pid) → ((d : Row) → (f d).pid ≡ d.pid) → (f c).parent ≡ c.parent → AllStay f rows → Stays c (f c) → is_link_of (map f rows) g (f c) ≡ is_link_of rows g c
link-map f rows c g pids parent stay s =
    let outside = outside-map f c (row_of rows c.parent) s (found_stays f rows c.parent stay) in
    ap₂ (λ a b. a && b) (ap (λ q. is_same q g) s.group)
    (ap₂ (λ a b. a && b) s.lives (ap (λ q. is_outside_parent (f c) (row_of (map f rows) q)) parent ∙ ap (is_outside_parent (f c)) (row_of-map f rows c.parent pids) ∙ outside))

links-map : (f : Row → Row) (rows cs : List Row) (g : Pid) → ((c : Row) → (f c).pid ≡ c.pid) → ((c : Row) → (f c).parent ≡ c.parent) → AllStay f rows → AllStay f cs → list_any (is_link_of (map f rows) g) (map f cs) ≡ list_any (is_link_of rows g) cs
links-map f rows [] g pids parents stay kept = refl
links-map f rows (c ∷ cs) g pids parents stay kept = ap₂ (λ a b. a || b) (link-map f rows c g pids (parents c) stay (stays c (f c) kept.0)) (links-map f rows cs g pids parents stay kept.1)

-- a change of rows that keeps their pids, parents and places leaves all that is known
pub knows-map : (index : Index) (f : Row → Row) (rows : List Row) → ((c : Row) → (f c).pid ≡ c.pid) → ((c : Row) → (f c).parent ≡ c.parent) → AllStay f rows → Knows index rows → Knows index (map f rows)
knows-map index f rows pids parents stay known = λ rises. let k = known rises in record {
  rising = rising-map f rows pids k.rising;
  listed = listed-map index.children f rows pids (λ c. inl (parents c)) k.listed;
  right = λ g b e. k.right g b e ∙ ap not (sym (links-map f rows rows g pids parents stay stay));
}

-- one that keeps their pids, and their parents or gives them to the system process, leaves what is known but for the groups
pub knows-forgotten_map : (index : Index) (f : Row → Row) (rows : List Row) → ((c : Row) → (f c).pid ≡ c.pid) → ((c : Row) → ((f c).parent ≡ c.parent) ⊎ ((f c).parent.0 ≡ 1)) → Knows index rows → Knows (forgotten index) (map f rows)
knows-forgotten_map index f rows pids parents known = λ rises. let k = known rises in record {
  rising = rising-map f rows pids k.rising;
  listed = listed-map index.children f rows pids parents k.listed;
  right = λ g b e. cc;
}

-- so do rows that go
pub knows-forgotten_filter : (index : Index) (keep : Row → Bool) (rows : List Row) → Knows index rows → Knows (forgotten index) (filter keep rows)
knows-forgotten_filter index keep rows known = λ rises. let k = known rises in record {
  rising = rising-filter keep rows k.rising;
  listed = listed-filter index.children keep rows k.listed;
  right = λ g b e. cc;
}

-- ---- a change of the row of one process, among rows whose pids rise
-- rows above its pid stay as they are
map-above : (rows : List Row) (p q : Pid) (f : Row → Row) → ((c : Row) → is_pid p c ≡ false → f c ≡ c) → p.0 ≤ q.0 → AllAbove q rows → map f rows ≡ rows
map-above [] p q f others le a = refl
map-above (c ∷ rows) p q f others le a = rw (others c (not-pid_above p q c le a.0), map-above rows p q f others le a.1)

abbrev ChangedAt : List Row → Pid → (Row → Row) → Row → ℕ → Type 0
ChangedAt rows p f d i = i ≡ place rows p → i < length rows → map f rows ≡ set rows i (f (get_or rows i d))

map_at_step : (c : Row) (rows : List Row) (p : Pid) (f : Row → Row) (d : Row) (b : Bool) → nat_lt c.pid.0 p.0 ≡ b → AllAbove c.pid rows → ((e : Row) → is_pid p e ≡ false → f e ≡ e) → ((i : ℕ) → ChangedAt rows p f d i) →
    (i : ℕ) → i ≡ cond b (suc (place rows p)) zero → i < length (c ∷ rows) → map f (c ∷ rows) ≡ set (c ∷ rows) i (f (get_or (c ∷ rows) i d))
map_at_step c rows p f d true less above others ih zero at within = absurd (omega arith)
map_at_step c rows p f d true less above others ih (suc i) at within = rw (others c (not-pid p c less)) (ap (λ z. c ∷ z) (ih i (omega arith) (omega arith)))
map_at_step c rows p f d false less above others ih zero at within = ap (λ z. f c ∷ z) (map-above rows p c.pid f others (ltb-false _ _ less) above)
map_at_step c rows p f d false less above others ih (suc i) at within = absurd (omega arith)

pub map-at : (rows : List Row) (p : Pid) (f : Row → Row) (i : ℕ) (d : Row) → IsRising rows → ((c : Row) → is_pid p c ≡ false → f c ≡ c) → i ≡ place rows p → i < length rows → map f rows ≡ set rows i (f (get_or rows i d))
map-at [] p f i d rising others at within = absurd (omega arith)
map-at (c ∷ rows) p f i d rising others at within = map_at_step c rows p f d (nat_lt c.pid.0 p.0) refl rising.0 others (λ j. map-at rows p f j d rising.1 others) i at within

map_none_step : (c : Row) (rows : List Row) (p : Pid) (f : Row → Row) (b : Bool) → nat_lt c.pid.0 p.0 ≡ b → ((e : Row) → is_pid p e ≡ false → f e ≡ e) → (length rows ≤ place rows p → map f rows ≡ rows) →
    length (c ∷ rows) ≤ cond b (suc (place rows p)) zero → map f (c ∷ rows) ≡ c ∷ rows
map_none_step c rows p f true less others ih none = rw (others c (not-pid p c less), ih (omega arith))
map_none_step c rows p f false less others ih none = absurd (omega arith)

pub map-none : (rows : List Row) (p : Pid) (f : Row → Row) (i : ℕ) → IsRising rows → ((c : Row) → is_pid p c ≡ false → f c ≡ c) → i ≡ place rows p → length rows ≤ i → map f rows ≡ rows
map-none [] p f i rising others at none = refl
map-none (c ∷ rows) p f i rising others at none = map_none_step c rows p f (nat_lt c.pid.0 p.0) refl others (λ h. map-none rows p f _ rising.1 others refl h) (omega arith)

-- ---- a row that has not changed has kept its place
life_stays : (a : Bool) → is_same_life a a ≡ true
life_stays true = refl
life_stays false = refl

same_stays : (c d : Row) → d ≡ c → IsTrue (is_same_place c d)
same_stays c d e = rw e (and_from (is_same c.group c.group) _ (eq-eqb _ _ refl) (and_from (is_same c.session c.session) _ (eq-eqb _ _ refl) (life_stays (is_living c.life))))

stay-above : (rows : List Row) (p q : Pid) (f : Row → Row) → ((c : Row) → is_pid p c ≡ false → f c ≡ c) → p.0 ≤ q.0 → AllAbove q rows → AllStay f rows
stay-above [] p q f others le a = tt
stay-above (c ∷ rows) p q f others le a = (same_stays c (f c) (others c (not-pid_above p q c le a.0)), stay-above rows p q f others le a.1)

abbrev StaysAt : List Row → (Row → Row) → ℕ → Type 0
StaysAt rows f i = (d : Row) → i < length rows → IsTrue (is_same_place (get_or rows i d) (f (get_or rows i d)))

stay_at_step : (c : Row) (rows : List Row) (p : Pid) (f : Row → Row) (b : Bool) → nat_lt c.pid.0 p.0 ≡ b → AllAbove c.pid rows → ((e : Row) → is_pid p e ≡ false → f e ≡ e) → ((i : ℕ) → i ≡ place rows p → StaysAt rows f i → AllStay f rows) →
    (i : ℕ) → i ≡ cond b (suc (place rows p)) zero → StaysAt (c ∷ rows) f i → AllStay f (c ∷ rows)
stay_at_step c rows p f true less above others ih zero at stays = absurd (omega arith)
stay_at_step c rows p f true less above others ih (suc i) at stays = (same_stays c (f c) (others c (not-pid p c less)), ih i (omega arith) (λ d lt. stays d (omega arith)))
stay_at_step c rows p f false less above others ih zero at stays = (stays c (omega arith), stay-above rows p c.pid f others (ltb-false _ _ less) above)
stay_at_step c rows p f false less above others ih (suc i) at stays = absurd (omega arith)

-- every row keeps its place where that of the process does
pub stay-at : (rows : List Row) (p : Pid) (f : Row → Row) (i : ℕ) → IsRising rows → ((c : Row) → is_pid p c ≡ false → f c ≡ c) → i ≡ place rows p → ((d : Row) → i < length rows → IsTrue (is_same_place (get_or rows i d) (f (get_or rows i d)))) → AllStay f rows
stay-at [] p f i rising others at stays = tt
stay-at (c ∷ rows) p f i rising others at stays = stay_at_step c rows p f (nat_lt c.pid.0 p.0) refl rising.0 others (λ j. stay-at rows p f j rising.1 others) i at stays
