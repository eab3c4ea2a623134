-- who is a member after the changes of a group's record, and with which user id
use Rattle.std.proofs.Common.{◌≡◌, ◌==◌, ◌≤◌, ◌-◌, ◌+◌, min, drop, take, take_all, get_or, ℕ, zero, suc, Bool, true, false, cond, not, List, [], ◌∷◌, ◌++◌, length, refl, sym, ap, ◌∙◌, arith, Option, None, Some}
use Rattle.std.specs.Prelude.{map, filter, is_some}
use Rattle.std.specs.Option.{option_map}
use Rattle.std.specs.List.{list_any}
use Rattle.std.proofs.lemmas.Bool.{le-ltb}
use Rattle.list_laws.specs.Keyed.{at}
use Rattle.list_laws.proofs.Finding.{at-map, same_number}
use Rattle.unix_names.specs.declared.Pid.{Pid}
use Rattle.group_record.specs.declared.member.Member.{Member}
use Rattle.group_record.specs.declared.group.Group.{Group}
use Rattle.group_record.specs.Members.{member_number, member_of, has_member, uid_of, least_of, is_behind, lowered, begun_at}
use Rattle.group_record.specs.Groups.{joined, left, cut, settled}

-- ---- leaving
-- who left is no member
pub absent-left : (p : Pid) (ms : List Member) → member_of (filter (λ m. not (m.pid.0 == p.0)) ms) p ≡ None
absent-left p [] = refl
absent-left p (m ∷ ms) = step (m.pid.0 == p.0) refl (absent-left p ms)
  where
    step : (b : Bool) → (m.pid.0 == p.0) ≡ b → at member_number p.0 (filter (λ m. not (m.pid.0 == p.0)) ms) ≡ None → at member_number p.0 (cond (not b) (m ∷ filter (λ m. not (m.pid.0 == p.0)) ms) (filter (λ m. not (m.pid.0 == p.0)) ms)) ≡ None
    step true e h = h
    step false e h = rw e h

pub member_of-left_own : (g : Group) (p : Pid) → member_of (left g p).members p ≡ None
member_of-left_own g p = absent-left p g.members

-- ---- changes of members that keep their pids and user ids
pub uid_of-kept : (f : Member → Member) → ((m : Member) → member_number (f m) ≡ member_number m) → ((m : Member) → (f m).uid ≡ m.uid) → (ms : List Member) (q : Pid) → uid_of (map f ms) q ≡ uid_of ms q
uid_of-kept f p u ms q = ap (option_map (λ (m : Member). m.uid)) (at-map member_number member_number f p q.0 ms) ∙ go (at member_number q.0 ms)
  where
    go : (o : Option Member) → option_map (λ (m : Member). m.uid) (option_map f o) ≡ option_map (λ (m : Member). m.uid) o
    go None = refl
    go (Some m) = ap Some (u m)

pub begun_at-number : (from : ℕ) (p : Pid) (m : Member) → member_number (begun_at from p m) ≡ member_number m
begun_at-number from p m = go (m.pid.0 == p.0)
  where
    go : (b : Bool) → member_number (cond b (record m { from = from }) m) ≡ member_number m
    go true = refl
    go false = refl

pub begun_at-uid : (from : ℕ) (p : Pid) (m : Member) → (begun_at from p m).uid ≡ m.uid
begun_at-uid from p m = go (m.pid.0 == p.0)
  where
    go : (b : Bool) → (cond b (record m { from = from }) m).uid ≡ m.uid
    go true = refl
    go false = refl

-- ---- settling beside leaving and joining
-- who leaves may have been settled first
pub left-settled : (g : Group) (p : Pid) → left (settled g p) p ≡ left g p
left-settled g p = ap (λ ms. record g { members = ms }) (go g.members)
  where
    step : (m : Member) (b : Bool) → (m.pid.0 == p.0) ≡ b → (rest more : List Member) → rest ≡ more →
        cond (not ((cond b (record m { from = length g.log }) m).pid.0 == p.0)) (cond b (record m { from = length g.log }) m ∷ rest) rest ≡ cond (not (m.pid.0 == p.0)) (m ∷ more) more
    step m true e rest more same = ap (λ (c : Bool). cond (not c) ((record m { from = length g.log }) ∷ rest) rest) e ∙ same ∙ sym (ap (λ (c : Bool). cond (not c) (m ∷ more) more) e)
    step m false e rest more same = ap (λ l. cond (not (m.pid.0 == p.0)) (m ∷ l) l) same

    go : (ms : List Member) → filter (λ m. not (m.pid.0 == p.0)) (map (begun_at (length g.log) p) ms) ≡ filter (λ m. not (m.pid.0 == p.0)) ms
    go [] = refl
    go (m ∷ ms) = step m (m.pid.0 == p.0) refl (filter (λ m. not (m.pid.0 == p.0)) (map (begun_at (length g.log) p) ms)) (filter (λ m. not (m.pid.0 == p.0)) ms) (go ms)

-- who has just joined has nothing to settle
pub settled-joined : (g : Group) (p : Pid) (uid : ℕ) → has_member g.members p ≡ false → settled (joined g p uid) p ≡ joined g p uid
settled-joined g p uid absent = ap (λ ms. record (joined g p uid) { members = ms }) (go g.members absent)
  where
    new : Member
    new = record { pid = p; from = length g.log; uid = uid }

    last : begun_at (length g.log) p (record { pid = p; from = length g.log; uid = uid }) ≡ record { pid = p; from = length g.log; uid = uid }
    last = ap (λ (b : Bool). cond b (record { pid = p; from = length g.log; uid = uid }) (record { pid = p; from = length g.log; uid = uid })) (same_number p.0)

    step : (m : Member) (ms : List Member) (b : Bool) → (m.pid.0 == p.0) ≡ b → is_some (cond b (Some m) (member_of ms p)) ≡ false →
        (has_member ms p ≡ false → map (begun_at (length g.log) p) (ms ++ new ∷ []) ≡ ms ++ new ∷ []) → map (begun_at (length g.log) p) ((m ∷ ms) ++ new ∷ []) ≡ (m ∷ ms) ++ new ∷ []
    step m ms true e h rest = cc
    step m ms false e h rest = ap (λ (b : Bool). cond b (record m { from = length g.log }) m ∷ map (begun_at (length g.log) p) (ms ++ new ∷ [])) e ∙ ap (λ l. m ∷ l) (rest h)

    go : (ms : List Member) → has_member ms p ≡ false → map (begun_at (length g.log) p) (ms ++ new ∷ []) ≡ ms ++ new ∷ []
    go [] h = ap (λ (m : Member). m ∷ []) last
    go (m ∷ ms) h = step m ms (m.pid.0 == p.0) refl h (go ms)

-- ---- cutting
lowered-none : (m : Member) → lowered 0 m ≡ m
lowered-none m = let z : m.from - 0 ≡ m.from = omega arith in ap (λ (n : ℕ). record m { from = n }) z

all-lowered-none : (ms : List Member) → map (lowered 0) ms ≡ ms
all-lowered-none [] = refl
all-lowered-none (m ∷ ms) = ap (λ (x : Member). x ∷ map (lowered 0) ms) (lowered-none m) ∙ ap (λ (xs : List Member). m ∷ xs) (all-lowered-none ms)

-- where nothing is cut nothing changes
pub cut-none : (g : Group) → g ≡ cut 0 g
cut-none g = sym (ap (λ (ms : List Member). record g { members = ms; log = drop 0 g.log }) (all-lowered-none g.members))

-- ---- the least
pub least_of-zero : (ms : List Member) → least_of 0 ms ≡ 0
least_of-zero [] = refl
least_of-zero (m ∷ ms) = let z : min 0 m.from ≡ 0 = omega arith in ap (λ n. least_of n ms) z ∙ least_of-zero ms

-- one member less at the end, and the least is no greater than where it began
least_of-one : (n : ℕ) (ms : List Member) (k j : ℕ) (d : Member) → j ≡ k + 1 → j ≤ length ms → least_of (min n (get_or ms k d).from) (take k ms) ≡ least_of n (take j ms)
least_of-one n ms k zero d e within = absurd (omega arith)
least_of-one n [] k (suc j) d e within = absurd (omega arith)
least_of-one n (m ∷ ms) zero (suc zero) d e within = refl
least_of-one n (m ∷ ms) zero (suc (suc j)) d e within = absurd (omega arith)
least_of-one n (m ∷ ms) (suc k) (suc j) d e within =
    let x : ℕ = (get_or ms k d).from in
    let swap : min (min n x) m.from ≡ min (min n m.from) x = omega arith in
    ap (λ i. least_of i (take k ms)) swap ∙ least_of-one (min n m.from) ms k j d (omega arith) (omega arith)

-- the last four at once
pub least_of-four : (n a b c e : ℕ) (ms : List Member) (d : Member) → 4 ≤ length ms → a ≡ min n (get_or ms (length ms - 1) d).from → b ≡ min a (get_or ms (length ms - 2) d).from → c ≡ min b (get_or ms (length ms - 3) d).from → e ≡ min c (get_or ms (length ms - 4) d).from →
    least_of e (take (length ms - 4) ms) ≡ least_of n ms
least_of-four n a b c e ms d four ia ib ic ie =
    ap (λ i. least_of i (take (length ms - 4) ms)) ie ∙ least_of-one c ms (length ms - 4) (length ms - 3) d (omega arith) (omega arith)
    ∙ ap (λ i. least_of i (take (length ms - 3) ms)) ic ∙ least_of-one b ms (length ms - 3) (length ms - 2) d (omega arith) (omega arith)
    ∙ ap (λ i. least_of i (take (length ms - 2) ms)) ib ∙ least_of-one a ms (length ms - 2) (length ms - 1) d (omega arith) (omega arith)
    ∙ ap (λ i. least_of i (take (length ms - 1) ms)) ia ∙ least_of-one n ms (length ms - 1) (length ms) d (omega arith) (omega arith)
    ∙ ap (least_of n) (take_all (length ms) ms (omega arith))

-- ---- who is behind
-- nobody in an empty log
pub none_behind : (ms : List Member) → list_any (is_behind 0) ms ≡ false
none_behind [] = refl
none_behind (m ∷ ms) = rw (le-ltb m.from (0 - m.from) (omega arith)) (none_behind ms)
