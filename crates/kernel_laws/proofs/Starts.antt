-- the starts of a valid world have pids of their own
use Rattle.std.proofs.Common.{◌≡◌, ◌≢◌, ◌==◌, ◌<◌, ◌≤◌, ◌+◌, ◌*◌, ◌++◌, ℕ, Bool, true, false, cond, List, [], ◌∷◌, length, take, refl, sym, ap, ◌∙◌, subst, arith, None, Some, append_assoc, length-append, zero-add}
use Rattle.std.specs.Prelude.{slice_get, count_by}
use Rattle.std.proofs.lemmas.Bool.{ne_eqb}
use Rattle.std.proofs.lemmas.List.{take-append-le, take_all}
use Rattle.std.proofs.lemmas.List.Sums.{count_by-le-length, sum_by-append}
use Rattle.unix_calls.specs.declared.Start.{Start}
use Rattle.unix_calls.specs.declared.World.{World}
use Rattle.unix_names.specs.declared.NodeId.{NodeId}
use Rattle.unix_calls.specs.Valid.{starts_at, IsStart, IsValid}
use Rattle.list_laws.specs.Keyed.{at, Distinct}
use Rattle.list_laws.proofs.Finding.{distinct-append, same_number}

-- the key of a start
abbrev pub start_number : Start → ℕ
start_number start = start.pid.0

-- the pid of a start is neither the system process's nor nobody's
abbrev pub IsOwnPid : Start → Type 0
IsOwnPid start = (start.pid.0 ≢ 1) × (start.pid.0 ≢ 999999)

abbrev pub AreOwnPids : List Start → Type 0
AreOwnPids [] = Unit {0}
AreOwnPids (start ∷ starts) = IsOwnPid start × AreOwnPids starts

-- each start has a pid of its own
pub record HaveOwnPids (starts : List Start) : Type 0 where
  pub differ : Distinct start_number starts
  pub allowed : AreOwnPids starts

-- ---- lists in two parts
slice_middle : (xs : List Start) (x : Start) (ys : List Start) → slice_get (xs ++ x ∷ ys) (length xs) ≡ Some x
slice_middle [] x ys = refl
slice_middle (z ∷ xs) x ys = slice_middle xs x ys

take_front : (xs ys : List Start) → take (length xs) (xs ++ ys) ≡ xs
take_front xs ys = take-append-le (length xs) xs ys (omega arith) ∙ take_all (length xs) xs (omega arith)

append_none : (xs : List Start) → xs ++ [] ≡ xs
append_none [] = refl
append_none (x ∷ xs) = ap (λ l. x ∷ l) (append_none xs)

start_at : (world : World) (earlier : List Start) (start : Start) (later : List Start) → IsValid world → world.starts ≡ earlier ++ start ∷ later → IsStart world earlier start
start_at world earlier start later valid e =
    subst (λ l. IsStart world l start) (ap (take (length earlier)) e ∙ take_front earlier (start ∷ later))
    (valid.starts (length earlier) start (ap (λ l. slice_get l (length earlier)) e ∙ slice_middle earlier start later))

-- ---- the pids of a node's starts come one after another
-- the pids of these starts are among those that their nodes have given out
abbrev AreNumbered : List Start → List Start → Type 0
AreNumbered all [] = Unit {0}
AreNumbered all (start ∷ starts) = (1000000 * start.node.0 + 2 ≤ start.pid.0) × (start.pid.0 < 1000000 * start.node.0 + 2 + starts_at start.node all) × AreNumbered all starts

more_starts : (node : NodeId) (all : List Start) (start : Start) → starts_at node (all ++ start ∷ []) ≡ starts_at node all + cond (start.node.0 == node.0) 1 0
more_starts node all start =
    sum_by-append (λ (s : Start). cond (s.node.0 == node.0) 1 0) all (start ∷ [])
    ∙ ap (λ n. starts_at node all + n) (zero-add (cond (start.node.0 == node.0) 1 0))

still_numbered : (all : List Start) (start : Start) (starts : List Start) → AreNumbered all starts → AreNumbered (all ++ start ∷ []) starts
still_numbered all start [] n = tt
still_numbered all start (x ∷ starts) n = (n.0, step (n.1) (more_starts x.node all start), still_numbered all start starts n.2)
  where
    step : x.pid.0 < 1000000 * x.node.0 + 2 + starts_at x.node all → starts_at x.node (all ++ start ∷ []) ≡ starts_at x.node all + cond (start.node.0 == x.node.0) 1 0 → x.pid.0 < 1000000 * x.node.0 + 2 + starts_at x.node (all ++ start ∷ [])
    step less e = omega arith

numbered_append : (all starts : List Start) (start : Start) → AreNumbered all starts → 1000000 * start.node.0 + 2 ≤ start.pid.0 → start.pid.0 < 1000000 * start.node.0 + 2 + starts_at start.node all → AreNumbered all (starts ++ start ∷ [])
numbered_append all [] start n low high = (low, high, tt)
numbered_append all (x ∷ starts) start n low high = (n.0, n.1, numbered_append all starts start n.2 low high)

differ_at : (a b : ℕ) (x : Bool) → (a == b) ≡ x → (x ≡ true → ⊥) → x ≡ false
differ_at a b true e n = absurd (n refl)
differ_at a b false e n = refl

-- the next pid is none of theirs
next_absent : (all starts : List Start) (node : NodeId) → length all ≤ 64 → AreNumbered all starts → at start_number (1000000 * node.0 + 2 + starts_at node all) starts ≡ None
next_absent all [] node few n = refl
next_absent all (x ∷ starts) node few n =
    let q = 1000000 * node.0 + 2 + starts_at node all in
    let differs : (x.pid.0 == q) ≡ false = ne_eqb x.pid.0 q (apart (count_by-le-length (λ s. s.node.0 == x.node.0) all) (count_by-le-length (λ s. s.node.0 == node.0) all) n.0 n.1) in
    ap (λ b. cond b (Some x) (at start_number q starts)) differs ∙ next_absent all starts node few n.2
  where
    same_node : x.node.0 ≡ node.0 → starts_at x.node all ≡ starts_at node all
    same_node e = ap (λ k. count_by (λ s. s.node.0 == k) all) e

    apart : starts_at x.node all ≤ length all → starts_at node all ≤ length all → 1000000 * x.node.0 + 2 ≤ x.pid.0 → x.pid.0 < 1000000 * x.node.0 + 2 + starts_at x.node all → x.pid.0 ≡ 1000000 * node.0 + 2 + starts_at node all → ⊥
    apart a b low high e =
        let near : x.node.0 ≡ node.0 = omega arith in
        let same = same_node near in
        absurd (omega arith)

all_numbered : (world : World) (earlier later : List Start) → IsValid world → world.starts ≡ earlier ++ later → Distinct start_number earlier → AreNumbered earlier earlier →
    Distinct start_number (earlier ++ later) × AreNumbered (earlier ++ later) (earlier ++ later)
all_numbered world earlier [] valid e d n = let same = sym (append_none earlier) in (subst (Distinct start_number) same d, subst (λ l. AreNumbered l l) same n)
all_numbered world earlier (start ∷ later) valid e d n =
    let is = start_at world earlier start later valid e in
    let few : length earlier ≤ 64 = short (ap length e) (length-append earlier (start ∷ later)) in
    let absent : at start_number start.pid.0 earlier ≡ None = subst (λ k. at start_number k earlier ≡ None) (sym is.pid) (next_absent earlier earlier start.node few n) in
    let one : (start.node.0 == start.node.0) ≡ true = same_number start.node.0 in
    let more : starts_at start.node (earlier ++ start ∷ []) ≡ starts_at start.node earlier + 1 = more_starts start.node earlier start ∙ ap (λ b. starts_at start.node earlier + cond b 1 0) one in
    let assoc : (earlier ++ start ∷ []) ++ later ≡ earlier ++ start ∷ later = append_assoc earlier (start ∷ []) later in
    subst (λ l. Distinct start_number l × AreNumbered l l) assoc
    (all_numbered world (earlier ++ start ∷ []) later valid (e ∙ sym assoc) (distinct-append start_number earlier start absent d)
    (numbered_append (earlier ++ start ∷ []) earlier start (still_numbered earlier start earlier n) (low is.pid) (high is.pid more)))
  where
    short : length world.starts ≡ length (earlier ++ start ∷ later) → length (earlier ++ start ∷ later) ≡ length earlier + length (start ∷ later) → length earlier ≤ 64
    short a b = let most = valid.limits.starts in omega arith

    low : start.pid.0 ≡ 1000000 * start.node.0 + 2 + starts_at start.node earlier → 1000000 * start.node.0 + 2 ≤ start.pid.0
    low a = omega arith

    high : start.pid.0 ≡ 1000000 * start.node.0 + 2 + starts_at start.node earlier → starts_at start.node (earlier ++ start ∷ []) ≡ starts_at start.node earlier + 1 → start.pid.0 < 1000000 * start.node.0 + 2 + starts_at start.node (earlier ++ start ∷ [])
    high a b = omega arith

own_pids : (all starts : List Start) → length all ≤ 64 → AreNumbered all starts → AreOwnPids starts
own_pids all [] few n = tt
own_pids all (x ∷ starts) few n = (own (count_by-le-length (λ s. s.node.0 == x.node.0) all) n.0 n.1, own_pids all starts few n.2)
  where
    own : starts_at x.node all ≤ length all → 1000000 * x.node.0 + 2 ≤ x.pid.0 → x.pid.0 < 1000000 * x.node.0 + 2 + starts_at x.node all → IsOwnPid x
    own a low high = (λ e. absurd (omega arith), λ e. absurd (omega arith))

pub valid_pids : (world : World) → IsValid world → HaveOwnPids world.starts
valid_pids world valid =
    let all = all_numbered world [] world.starts valid refl tt tt in
    record { differ = all.0; allowed = own_pids world.starts world.starts valid.limits.starts all.1 }
