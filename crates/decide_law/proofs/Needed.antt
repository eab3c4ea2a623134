-- what is needed stands in order, each name once, and is exactly what lacks
use Rattle.std.proofs.Common.{◌≡◌, ◌==◌, ◌&&◌, ◌||◌, ◌≤◌, ℕ, Bool, true, false, cond, not, List, [], ◌∷◌, refl, sym, ap, ◌∙◌, subst, arith, if◌then◌else◌}
use Rattle.std.proofs.lemmas.Bool.{eqb-true, ltb-false}
use Rattle.unix_names.specs.declared.Pid.{Pid}
use Rattle.unix_names.specs.declared.Name.{Name}
use Rattle.unix_names.specs.declared.Name.TheVariants.{V, G}
use Rattle.unix_names.specs.Names.{IsBefore, is_before}
use Rattle.unix_names.proofs.NameLaws.{IsBefore-trans}
use Rattle.record_bag.specs.declared.bag.Bag.{Bag}
use Rattle.record_bag.specs.Bags.{is_held}
use Rattle.record_bag.specs.Names.{AllAfter, AreRising}
use Rattle.decide_law.specs.Footprints.{lacking, with_name, in_order, needed, is_none}
use Rattle.decide_law.specs.Answer.{is_name, listed, IsRight}
use Rattle.decide_law.specs.Law.{next, IsStep}
use Rattle.decide_law.specs.Effects.{Effect, decided_by, left_by, done_by}
use Rattle.record_bag.specs.declared.vector.Site.{Site}
use Rattle.record_bag.specs.declared.vector.Outcome.TheVariants as outcome
use Rattle.record_bag.specs.Decisions.{Answered, answered}
use Rattle.process_table.specs.declared.Row.{Row}
use Rattle.unix_calls.specs.declared.Job.{Job}
use Rattle.vproc_record.specs.declared.Vproc.{Vproc}

-- ---- the order
pub before : (n m : Name) → is_before n m ≡ true → IsBefore n m
before n m e = e

-- two of which neither comes first are one
neither : (n m k : Name) → is_before n m ≡ false → is_before m n ≡ false → is_name k n ≡ is_name k m
neither (V p) (V q) (V x) a b = let s : p.0 ≡ q.0 = same (ltb-false _ _ a) (ltb-false _ _ b) in ap (λ (i : ℕ). x.0 == i) s
  where
    same : q.0 ≤ p.0 → p.0 ≤ q.0 → p.0 ≡ q.0
    same h i = omega arith
neither (V p) (V q) (G x) a b = refl
neither (V p) (G g) k a b = cc
neither (G g) (V q) k a b = cc
neither (G g) (G h) (V x) a b = refl
neither (G g) (G h) (G x) a b = let s : g.0 ≡ h.0 = same (ltb-false _ _ a) (ltb-false _ _ b) in ap (λ (i : ℕ). x.0 == i) s
  where
    same : h.0 ≤ g.0 → g.0 ≤ h.0 → g.0 ≡ h.0
    same i j = omega arith

after_all : (n m : Name) (ms : List Name) → IsBefore n m → AllAfter m ms → AllAfter n ms
after_all n m [] b a = tt
after_all n m (k ∷ ms) b a = (IsBefore-trans n m k b a.0, after_all n m ms b a.1)

after_by : (k n m : Name) (ms : List Name) (a b : Bool) → IsBefore k n → IsBefore k m × AllAfter k ms → AllAfter k (with_name n ms) → AllAfter k (if a then n ∷ m ∷ ms else (if b then m ∷ with_name n ms else m ∷ ms))
after_by k n m ms true b h r rest = (h, r)
after_by k n m ms false true h r rest = (r.0, rest)
after_by k n m ms false false h r rest = r

after_with : (k n : Name) (ms : List Name) → IsBefore k n → AllAfter k ms → AllAfter k (with_name n ms)
after_with k n [] h a = (h, tt)
after_with k n (m ∷ ms) h a = after_by k n m ms (is_before n m) (is_before m n) h a (after_with k n ms h a.1)

rising_by : (n m : Name) (ms : List Name) (a b : Bool) → is_before n m ≡ a → is_before m n ≡ b → AllAfter m ms × AreRising ms → AreRising (with_name n ms) → AreRising (if a then n ∷ m ∷ ms else (if b then m ∷ with_name n ms else m ∷ ms))
rising_by n m ms true b ea eb r rest = ((before n m ea, after_all n m ms (before n m ea) r.0), r)
rising_by n m ms false true ea eb r rest = (after_with m n ms (before m n eb) r.0, rest)
rising_by n m ms false false ea eb r rest = r

pub rising_with : (n : Name) (ms : List Name) → AreRising ms → AreRising (with_name n ms)
rising_with n [] r = (tt, tt)
rising_with n (m ∷ ms) r = rising_by n m ms (is_before n m) (is_before m n) refl refl r (rising_with n ms r.1)

pub rising_in_order : (ns : List Name) → AreRising (in_order ns)
rising_in_order [] = tt
rising_in_order (n ∷ ns) = rising_with n (in_order ns) (rising_in_order ns)

-- ---- which names
swap : (a b c : Bool) → (a || (b || c)) ≡ (b || (a || c))
swap true true c = refl
swap true false c = refl
swap false true c = refl
swap false false c = refl

listed_by : (k n m : Name) (ms : List Name) (a b : Bool) → is_before n m ≡ a → is_before m n ≡ b → listed k (with_name n ms) ≡ (is_name k n || listed k ms) →
    listed k (if a then n ∷ m ∷ ms else (if b then m ∷ with_name n ms else m ∷ ms)) ≡ (is_name k n || (is_name k m || listed k ms))
listed_by k n m ms true b ea eb rest = refl
listed_by k n m ms false true ea eb rest = ap (λ x. is_name k m || x) rest ∙ swap (is_name k m) (is_name k n) (listed k ms)
listed_by k n m ms false false ea eb rest = twice (is_name k m) (listed k ms) ∙ ap (λ x. x || (is_name k m || listed k ms)) (sym (neither n m k ea eb))
  where
    twice : (a b : Bool) → (a || b) ≡ (a || (a || b))
    twice true b = refl
    twice false b = refl

pub listed_with : (k n : Name) (ms : List Name) → listed k (with_name n ms) ≡ (is_name k n || listed k ms)
listed_with k n [] = refl
listed_with k n (m ∷ ms) = listed_by k n m ms (is_before n m) (is_before m n) refl refl (listed_with k n ms)

pub listed_in_order : (k : Name) (ns : List Name) → listed k (in_order ns) ≡ listed k ns
listed_in_order k [] = refl
listed_in_order k (n ∷ ns) = listed_with k n (in_order ns) ∙ ap (λ x. is_name k n || x) (listed_in_order k ns)

-- a name that is held lacks nowhere
pub held_name : (bag : Bag) (k n : Name) → is_name k n ≡ true → is_held bag k ≡ is_held bag n
held_name bag (V p) (V q) e = ap (λ (i : ℕ). is_held bag (V (record { 0 = i }))) (eqb-true _ _ e)
held_name bag (V p) (G g) e = cc
held_name bag (G g) (V q) e = cc
held_name bag (G g) (G h) e = ap (λ (i : ℕ). is_held bag (G (record { 0 = i }))) (eqb-true _ _ e)

lacking_step : (k n : Name) (l : List Name) (rest : Bool) (same held mine : Bool) → is_name k n ≡ same → (same ≡ true → mine ≡ held) → listed k l ≡ (rest && not mine) → listed k (cond (not held) (n ∷ l) l) ≡ ((same || rest) && not mine)
lacking_step k n l rest true true mine e h r = r ∙ ap (λ b. rest && not b) (h refl) ∙ last rest ∙ sym (ap (λ b. true && not b) (h refl))
  where
    last : (x : Bool) → (x && false) ≡ false
    last true = refl
    last false = refl
lacking_step k n l rest true false mine e h r = ap (λ b. b || listed k l) e ∙ sym (ap not (h refl))
lacking_step k n l rest false true mine e h r = r
lacking_step k n l rest false false mine e h r = ap (λ b. b || listed k l) e ∙ r

-- exactly the names of the footprint that are not held
pub listed_lacking : (bag : Bag) (k : Name) (ns : List Name) → listed k (lacking bag ns) ≡ (listed k ns && not (is_held bag k))
listed_lacking bag k [] = refl
listed_lacking bag k (n ∷ ns) = lacking_step k n (lacking bag ns) (listed k ns) (is_name k n) (is_held bag n) (is_held bag k) refl (λ e. held_name bag k n e) (listed_lacking bag k ns)

pub listed_needed : (bag : Bag) (k : Name) (ns : List Name) → listed k (needed bag ns) ≡ (listed k ns && not (is_held bag k))
listed_needed bag k ns = listed_in_order k (lacking bag ns) ∙ listed_lacking bag k ns

-- ---- answers
none_empty : (ns : List Name) → is_none ns ≡ true → ns ≡ []
none_empty [] e = refl
none_empty (n ∷ ns) e = cc

with_some : (n : Name) (ms : List Name) → is_none (with_name n ms) ≡ false
with_some n [] = refl
with_some n (m ∷ ms) = go (is_before n m) (is_before m n)
  where
    go : (a b : Bool) → is_none (if a then n ∷ m ∷ ms else (if b then m ∷ with_name n ms else m ∷ ms)) ≡ false
    go true b = refl
    go false true = refl
    go false false = refl

pub order_some : (ns : List Name) → is_none ns ≡ false → is_none (in_order ns) ≡ false
order_some [] e = cc
order_some (n ∷ ns) e = with_some n (in_order ns)

-- where the effect is a step once its footprint is held, the answer is right
pub on_footprint_right : (rows : List Row) (p : Pid) (job : Job) (site : Site) (bag : Bag) (footprint : List Name) (v : Vproc) (x : Effect) →
    (lacking bag footprint ≡ [] → IsStep rows (next rows x.entry) p job site bag (decided_by x) (left_by x p v.group bag)) → (b : Bool) → is_none (lacking bag footprint) ≡ b →
    (a : Answered) → a ≡ (if b then done_by p v bag x else answered (outcome.Need (needed bag footprint)) bag) → IsRight rows p job site bag footprint a.bag a.outcome
on_footprint_right rows p job site bag footprint v x step true e a is = subst (λ (y : Answered). IsRight rows p job site bag footprint y.bag y.outcome) (sym is) (step (none_empty (lacking bag footprint) e))
on_footprint_right rows p job site bag footprint v x step false e a is =
    subst (λ (y : Answered). IsRight rows p job site bag footprint y.bag y.outcome) (sym is)
    (record { some = order_some (lacking bag footprint) e; exact = λ n. listed_needed bag n footprint; rising = rising_in_order (lacking bag footprint) }, refl)
