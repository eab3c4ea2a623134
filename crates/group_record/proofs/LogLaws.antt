-- what joining, leaving, appending and trimming leave of the log's part of a process
use Rattle.std.proofs.Common.{◌≡◌, ◌≢◌, ◌==◌, ◌≤◌, ◌+◌, ◌-◌, ℕ, Bool, true, false, cond, not, List, [], ◌∷◌, ◌++◌, length, drop, refl, sym, ap, ◌∙◌, arith, Option, None, Some, length-drop, min}
use Rattle.std.specs.Prelude.{map, filter, fold, is_some, All}
use Rattle.std.specs.Option.{option_map, option_or}
use Rattle.std.specs.List.{list_any}
use Rattle.std.proofs.lemmas.Bool.{eqb-true, ne_eqb}
use Rattle.std.proofs.lemmas.List.{drop-append-le, drop-drop, map-append}
use Rattle.std.proofs.lemmas.List.Elements.{filter-append, All-map, All-weaker, All-head}
use Rattle.list_laws.specs.Keyed.{at}
use Rattle.list_laws.proofs.Finding.{at-append, at-map, found, same_number}
use Rattle.list_laws.proofs.Filters.{some_same}
use Rattle.unix_names.specs.declared.Pid.{Pid}
use Rattle.group_record.specs.declared.member.Member.{Member}
use Rattle.group_record.specs.declared.log.LogEntry.{LogEntry}
use Rattle.group_record.specs.declared.group.Group.{Group}
use Rattle.group_record.specs.Members.{member_number, member_of, has_member, from_in, from_of, least_from, is_behind, lowered, begun_at}
use Rattle.group_record.specs.Log.{concerns, told, log_part}
use Rattle.group_record.specs.Groups.{joined, left, with_entry, spare, trimmed, settled}

-- the part depends on where it begins alone
same_part : (p : Pid) (uid : ℕ) (g h : Group) → from_of h.members p ≡ from_of g.members p → h.log ≡ g.log → log_part p uid h ≡ log_part p uid g
same_part p uid g h from log =
    ap (λ n. map (λ e. e.signal) (filter (concerns p uid) (drop n h.log))) from ∙ ap (λ l. map (λ e. e.signal) (filter (concerns p uid) (drop (from_of g.members p) l))) log

drop_all : {X : Type 0} (l : List X) → drop (length l) l ≡ []
drop_all [] = refl
drop_all (x ∷ l) = drop_all l

or_none : {X : Type 0} (o : Option X) → option_or o None ≡ o
or_none None = refl
or_none (Some x) = refl

-- ---- joining
pub member_of-joined_own : (g : Group) (p : Pid) (uid : ℕ) → has_member g.members p ≡ false → member_of (joined g p uid).members p ≡ Some (record { pid = p; from = length g.log; uid = uid })
member_of-joined_own g p uid absent =
    at-append member_number p.0 g.members _ ∙ go (member_of g.members p) absent ∙ ap (λ b. cond b (Some (record { pid = p; from = length g.log; uid = uid })) None) (same_number p.0)
  where
    go : (o : Option Member) → is_some o ≡ false → option_or o (at member_number p.0 ((record { pid = p; from = length g.log; uid = uid }) ∷ [])) ≡ at member_number p.0 ((record { pid = p; from = length g.log; uid = uid }) ∷ [])
    go None n = refl
    go (Some m) n = cc

pub member_of-joined_other : (g : Group) (p q : Pid) (uid : ℕ) → q.0 ≢ p.0 → member_of (joined g p uid).members q ≡ member_of g.members q
member_of-joined_other g p q uid ne =
    at-append member_number q.0 g.members _
    ∙ ap (λ b. option_or (member_of g.members q) (cond b (Some (record { pid = p; from = length g.log; uid = uid })) None)) (ne_eqb _ _ (λ e. ne (sym e)))
    ∙ or_none (member_of g.members q)

pub log_part-joined_own : (g : Group) (p : Pid) (uid u : ℕ) → has_member g.members p ≡ false → log_part p u (joined g p uid) ≡ []
log_part-joined_own g p uid u absent =
    ap (λ o. map (λ e. e.signal) (filter (concerns p u) (drop (from_in o) g.log))) (member_of-joined_own g p uid absent)
    ∙ ap (λ l. map (λ e. e.signal) (filter (concerns p u) l)) (drop_all g.log)

pub log_part-joined_other : (g : Group) (p q : Pid) (uid u : ℕ) → q.0 ≢ p.0 → log_part q u (joined g p uid) ≡ log_part q u g
log_part-joined_other g p q uid u ne = same_part q u g (joined g p uid) (ap from_in (member_of-joined_other g p q uid ne)) refl

-- ---- leaving
left_step : (m : Member) (p q : Pid) (rest ms : List Member) → q.0 ≢ p.0 → at member_number q.0 rest ≡ at member_number q.0 ms → (b : Bool) → (m.pid.0 == p.0) ≡ b →
    at member_number q.0 (cond (not b) (m ∷ rest) rest) ≡ at member_number q.0 (m ∷ ms)
left_step m p q rest ms ne ih true e =
    let same : m.pid.0 ≡ p.0 = eqb-true _ _ e in
    let apart : (m.pid.0 == q.0) ≡ false = ne_eqb _ _ (λ h. ne (sym h ∙ same)) in rw apart ih
left_step m p q rest ms ne ih false e = ap (λ o. cond (m.pid.0 == q.0) (Some m) o) ih

at_left : (ms : List Member) (p q : Pid) → q.0 ≢ p.0 → at member_number q.0 (filter (λ m. not (m.pid.0 == p.0)) ms) ≡ at member_number q.0 ms
at_left [] p q ne = refl
at_left (m ∷ ms) p q ne = left_step m p q _ ms ne (at_left ms p q ne) (m.pid.0 == p.0) refl

pub member_of-left_other : (g : Group) (p q : Pid) → q.0 ≢ p.0 → member_of (left g p).members q ≡ member_of g.members q
member_of-left_other g p q ne = at_left g.members p q ne

pub log_part-left_other : (g : Group) (p q : Pid) (u : ℕ) → q.0 ≢ p.0 → log_part q u (left g p) ≡ log_part q u g
log_part-left_other g p q u ne = same_part q u g (left g p) (ap from_in (at_left g.members p q ne)) refl

-- ---- appending
told_is : (b : Bool) (e : LogEntry) → map (λ x. x.signal) (cond b (e ∷ []) []) ≡ cond b (e.signal ∷ []) []
told_is true e = refl
told_is false e = refl

pub log_part-appended : (g : Group) (p : Pid) (uid : ℕ) (e : LogEntry) → from_of g.members p ≤ length g.log → log_part p uid (with_entry g e) ≡ log_part p uid g ++ told p uid e
log_part-appended g p uid e small =
    ap (λ l. map (λ x. x.signal) (filter (concerns p uid) l)) (drop-append-le (from_of g.members p) g.log (e ∷ []) small)
    ∙ ap (map (λ x. x.signal)) (filter-append (concerns p uid) (drop (from_of g.members p) g.log) (e ∷ []))
    ∙ map-append (λ x. x.signal) (filter (concerns p uid) (drop (from_of g.members p) g.log)) (filter (concerns p uid) (e ∷ []))
    ∙ ap (λ l. log_part p uid g ++ l) (told_is (concerns p uid e) e)

-- ---- trimming
drop_more : {X : Type 0} (k n : ℕ) (l : List X) → k ≤ n → drop (n - k) (drop k l) ≡ drop n l
drop_more k n l le = let e : k + (n - k) ≡ n = omega arith in drop-drop (n - k) k l ∙ ap (λ i. drop i l) e

-- the least is below each
least_below : (n : ℕ) (ms : List Member) → fold (λ least x. min least x.from) n ms ≤ n
least_below n [] = omega arith
least_below n (m ∷ ms) = let h = least_below (min n m.from) ms in omega arith

least_each : (n : ℕ) (ms : List Member) (q : ℕ) (m : Member) → at member_number q ms ≡ Some m → fold (λ least x. min least x.from) n ms ≤ m.from
least_each n [] q m e = cc
least_each n (y ∷ ys) q m e = go (λ h. least_each (min n y.from) ys q m h) (y.pid.0 == q) e
  where
    go : (at member_number q ys ≡ Some m → fold (λ least x. min least x.from) (min n y.from) ys ≤ m.from) → (t : Bool) → cond t (Some y) (at member_number q ys) ≡ Some m → fold (λ least x. min least x.from) (min n y.from) ys ≤ m.from
    go ih true h = let w : y.from ≡ m.from = ap (λ x. x.from) (some_same y m h) in let z = least_below (min n y.from) ys in omega arith
    go ih false h = ih h

least_of : (ms : List Member) (q : ℕ) (m : Member) → at member_number q ms ≡ Some m → least_from ms ≤ m.from
least_of [] q m e = cc
least_of (y ∷ ys) q m e = go (y.pid.0 == q) e
  where
    go : (t : Bool) → cond t (Some y) (at member_number q ys) ≡ Some m → fold (λ least x. min least x.from) y.from ys ≤ m.from
    go true h = let w : y.from ≡ m.from = ap (λ x. x.from) (some_same y m h) in let z = least_below y.from ys in omega arith
    go false h = least_each y.from ys q m h

-- the least is within what each is within
fold_within : (n k : ℕ) (ms : List Member) → n ≤ k → fold (λ least x. min least x.from) n ms ≤ k
fold_within n k ms h = let z = least_below n ms in omega arith

pub least_within : (ms : List Member) (k : ℕ) → All (λ m. m.from ≤ k) ms → least_from ms ≤ k
least_within [] k a = omega arith
least_within (m ∷ ms) k a = fold_within m.from k ms (All-head (λ x. x.from ≤ k) m ms a)

-- and no more than the least is taken out
spare_least : (g : Group) → spare g ≤ least_from g.members
spare_least g = go (list_any (is_behind (length g.log)) g.members)
  where
    go : (b : Bool) → cond b 0 (least_from g.members) ≤ least_from g.members
    go true = omega arith
    go false = omega arith

pub spare_within : (g : Group) → All (λ m. m.from ≤ length g.log) g.members → spare g ≤ length g.log
spare_within g a = let least = spare_least g in let within = least_within g.members (length g.log) a in omega arith

pub member_of-trimmed : (g : Group) (p : Pid) → member_of (trimmed g).members p ≡ option_map (lowered (spare g)) (member_of g.members p)
member_of-trimmed g p = at-map member_number member_number (lowered (spare g)) (λ _. refl) p.0 g.members

pub log_part-trimmed : (g : Group) (p : Pid) (uid : ℕ) → has_member g.members p ≡ true → log_part p uid (trimmed g) ≡ log_part p uid g
log_part-trimmed g p uid has = go (member_of g.members p) refl has
  where
    go : (o : Option Member) → member_of g.members p ≡ o → is_some o ≡ true → log_part p uid (trimmed g) ≡ log_part p uid g
    go None e h = cc
    go (Some m) e h =
        let some = spare_least g in
        let least = least_of g.members p.0 m e in
        ap (λ n. map (λ x. x.signal) (filter (concerns p uid) (drop n (drop (spare g) g.log)))) (ap from_in (member_of-trimmed g p ∙ ap (option_map (lowered (spare g))) e))
        ∙ ap (λ l. map (λ x. x.signal) (filter (concerns p uid) l)) (drop_more (spare g) m.from g.log (omega arith))
        ∙ ap (λ n. map (λ x. x.signal) (filter (concerns p uid) (drop n g.log))) (sym (ap from_in e))

pub within-trimmed : (g : Group) → All (λ m. m.from ≤ length g.log) g.members → All (λ m. m.from ≤ length (trimmed g).log) (trimmed g).members
within-trimmed g a =
    All-map (λ m. m.from ≤ length (drop (spare g) g.log)) (lowered (spare g)) g.members
    (All-weaker (λ m. m.from ≤ length g.log) (λ m. (m.from - spare g) ≤ length (drop (spare g) g.log)) (λ m h. simp length-drop (omega arith)) g.members a)

-- ---- settling
begun_pid : (from : ℕ) (p : Pid) (m : Member) → member_number (begun_at from p m) ≡ member_number m
begun_pid from p m = go (m.pid.0 == p.0)
  where
    go : (b : Bool) → member_number (cond b (record m { from = from }) m) ≡ member_number m
    go true = refl
    go false = refl

pub member_of-settled : (g : Group) (p q : Pid) → member_of (settled g p).members q ≡ option_map (begun_at (length g.log) p) (member_of g.members q)
member_of-settled g p q = at-map member_number member_number (begun_at (length g.log) p) (begun_pid (length g.log) p) q.0 g.members

pub log_part-settled_own : (g : Group) (p : Pid) (uid : ℕ) → has_member g.members p ≡ true → log_part p uid (settled g p) ≡ []
log_part-settled_own g p uid has = go (member_of g.members p) refl has
  where
    go : (o : Option Member) → member_of g.members p ≡ o → is_some o ≡ true → log_part p uid (settled g p) ≡ []
    go None e h = cc
    go (Some m) e h =
        let own : (m.pid.0 == p.0) ≡ true = ap (λ n. n == p.0) (found member_number p.0 g.members m e) ∙ same_number p.0 in
        ap (λ n. map (λ x. x.signal) (filter (concerns p uid) (drop n g.log))) (ap from_in (member_of-settled g p p ∙ ap (option_map (begun_at (length g.log) p)) e) ∙ ap (λ (b : Bool). (cond b (record m { from = length g.log }) m).from) own)
        ∙ ap (λ l. map (λ x. x.signal) (filter (concerns p uid) l)) (drop_all g.log)

pub log_part-settled_other : (g : Group) (p q : Pid) (uid : ℕ) → q.0 ≢ p.0 → log_part q uid (settled g p) ≡ log_part q uid g
log_part-settled_other g p q uid ne = same_part q uid g (settled g p) (ap from_in (member_of-settled g p q) ∙ go (member_of g.members q) refl) refl
  where
    go : (o : Option Member) → member_of g.members q ≡ o → from_in (option_map (begun_at (length g.log) p) o) ≡ from_in o
    go None e = refl
    go (Some m) e = let apart : (m.pid.0 == p.0) ≡ false = ne_eqb _ _ (λ h. ne (sym (found member_number q.0 g.members m e) ∙ h)) in ap (λ (b : Bool). (cond b (record m { from = length g.log }) m).from) apart

pub within-settled : (g : Group) (p : Pid) → All (λ m. m.from ≤ length g.log) g.members → All (λ m. m.from ≤ length (settled g p).log) (settled g p).members
within-settled g p a =
    All-map (λ m. m.from ≤ length g.log) (begun_at (length g.log) p) g.members
    (All-weaker (λ m. m.from ≤ length g.log) (λ m. (begun_at (length g.log) p m).from ≤ length g.log) (λ m h. go m (m.pid.0 == p.0) h) g.members a)
  where
    go : (m : Member) (b : Bool) → m.from ≤ length g.log → (cond b (record m { from = length g.log }) m).from ≤ length g.log
    go m true h = omega arith
    go m false h = h
