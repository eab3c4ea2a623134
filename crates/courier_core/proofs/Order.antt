-- the order of names, and the least of some
use Rattle.std.proofs.Common.{◌≡◌, ◌<◌, ℕ, Bool, true, false, not, nat_lt, List, [], ◌∷◌, ◌++◌, length, sym, ap, ◌∙◌, subst, refl, Some, None, Option, cond, if◌then◌else◌, ◌||◌, arith}
use Rattle.std.specs.List.{list_any, last_or}
use Rattle.std.proofs.lemmas.Bool.{eq-eqb, eqb-true, ltb-true, ltb-false, le-ltb}
use Rattle.unix_names.specs.declared.Pid.{Pid}
use Rattle.unix_names.specs.declared.Name.{Name}
use Rattle.unix_names.specs.declared.Name.TheVariants.{V, G}
use Rattle.record_bag.specs.declared.Bag.{Bag}
use Rattle.record_bag.specs.Bags.{is_held}
use Rattle.unix_names.specs.Names.{is_before}
use Rattle.record_bag.specs.Names.{NoneAfter}
use Rattle.courier_core.specs.Wants.{is_name, lists, lesser, least_of, lacking, NoneBefore, IsLeast}

pub is_name-same : (n : Name) → is_name n n ≡ true
is_name-same (V p) = eq-eqb p.0 p.0 refl
is_name-same (G g) = eq-eqb g.0 g.0 refl

abbrev pid : ℕ → Pid
pid k = record { 0 = k }

pub is_name-true : (m n : Name) → is_name m n ≡ true → m ≡ n
is_name-true (V p) (V q) e = ap (λ k. V (pid k)) (eqb-true p.0 q.0 e)
is_name-true (V p) (G h) e = cc
is_name-true (G g) (V q) e = cc
is_name-true (G g) (G h) e = ap (λ k. G (pid k)) (eqb-true g.0 h.0 e)

pub before-itself : (n : Name) → is_before n n ≡ false
before-itself (V p) = le-ltb p.0 p.0 (omega arith)
before-itself (G g) = le-ltb g.0 g.0 (omega arith)

not_lt-trans : (a b c : ℕ) → nat_lt a b ≡ false → nat_lt b c ≡ false → nat_lt a c ≡ false
not_lt-trans a b c ab bc =
    let ba = ltb-false a b ab in
    let cb = ltb-false b c bc in
    le-ltb a c (omega arith)

-- who is not before b, which is not before c, is not before c
pub not_before-trans : (a b c : Name) → is_before a b ≡ false → is_before b c ≡ false → is_before a c ≡ false
not_before-trans (V p) (V q) (V r) ab bc = not_lt-trans p.0 q.0 r.0 ab bc
not_before-trans (V p) (V q) (G r) ab bc = cc
not_before-trans (V p) (G q) c ab bc = cc
not_before-trans (G p) (V q) (V r) ab bc = refl
not_before-trans (G p) (V q) (G r) ab bc = cc
not_before-trans (G p) (G q) (V r) ab bc = refl
not_before-trans (G p) (G q) (G r) ab bc = not_lt-trans p.0 q.0 r.0 ab bc

lt-not_gt : (a b : ℕ) → nat_lt a b ≡ true → nat_lt b a ≡ false
lt-not_gt a b e = let lt = ltb-true a b e in le-ltb b a (omega arith)

-- of two names one is not before the other
pub before-not_after : (a b : Name) → is_before a b ≡ true → is_before b a ≡ false
before-not_after (V p) (V q) e = lt-not_gt p.0 q.0 e
before-not_after (V p) (G q) e = refl
before-not_after (G p) (V q) e = cc
before-not_after (G p) (G q) e = lt-not_gt p.0 q.0 e

-- what the least name so far says of the names that follow
record IsLeastFrom (best n : Name) (names : List Name) : Type 0 where
  among : lists (best ∷ names) n ≡ true
  above : is_before best n ≡ false
  first : NoneBefore n names

or-later : (a b c : Bool) → (b || c) ≡ true → (a || (b || c)) ≡ true
or-later true b c e = refl
or-later false b c e = e

or-skip : (a b c : Bool) → (a || c) ≡ true → (a || (b || c)) ≡ true
or-skip true b c e = refl
or-skip false true c e = refl
or-skip false false c e = e

least-from : (best n : Name) (names : List Name) → least_of (Some best) names ≡ Some n → IsLeastFrom best n names
least-from best n [] e =
    let same : best ≡ n = cc in
    subst (λ m. IsLeastFrom best m []) same (record { among = rw (is_name-same best) refl; above = before-itself best; first = tt })
least-from best n (m ∷ ms) e = least-step best n m ms (is_before m best) refl (least-from m n ms) (least-from best n ms) e
  where
    least-step : (best n m : Name) (ms : List Name) (b : Bool) → is_before m best ≡ b →
        (least_of (Some m) ms ≡ Some n → IsLeastFrom m n ms) → (least_of (Some best) ms ≡ Some n → IsLeastFrom best n ms) →
        least_of (Some (if b then m else best)) ms ≡ Some n → IsLeastFrom best n (m ∷ ms)
    least-step best n m ms true less new old e =
        let h = new e in
        record { among = or-later (is_name best n) (is_name m n) (lists ms n) h.among; above = not_before-trans best m n (before-not_after m best less) h.above; first = (h.above, h.first) }
    least-step best n m ms false less new old e =
        let h = old e in
        record { among = or-skip (is_name best n) (is_name m n) (lists ms n) h.among; above = h.above; first = (not_before-trans m best n less h.above, h.first) }

-- the least of names is one of them, and none comes before it
pub IsLeast-least_of : (n : Name) (names : List Name) → least_of None names ≡ Some n → IsLeast n names
IsLeast-least_of n [] e = cc
IsLeast-least_of n (m ∷ ms) e = let h = least-from m n ms e in record { among = h.among; first = (h.above, h.first) }

some-least : (best : Name) (names : List Name) → least_of (Some best) names ≡ None → ⊥
some-least best [] e = cc
some-least best (m ∷ ms) e = some-least (lesser (Some best) m) ms e

-- some names have a least one
pub none-least : (names : List Name) → 0 < length names → least_of None names ≡ None → ⊥
none-least [] lt e = absurd (omega arith)
none-least (m ∷ ms) lt e = some-least m ms e

fold-least : (best : Option Name) (xs ys : List Name) → least_of best (xs ++ ys) ≡ least_of (least_of best xs) ys
fold-least best [] ys = refl
fold-least best (x ∷ xs) ys = fold-least (Some (lesser best x)) xs ys

lacking-append : (bag : Bag) (xs ys : List Name) → lacking bag (xs ++ ys) ≡ lacking bag xs ++ lacking bag ys
lacking-append bag [] ys = refl
lacking-append bag (x ∷ xs) ys = lacking-step bag x xs ys (not (is_held bag x)) (lacking-append bag xs ys)
  where
    lacking-step : (bag : Bag) (x : Name) (xs ys : List Name) (b : Bool) → lacking bag (xs ++ ys) ≡ lacking bag xs ++ lacking bag ys →
        cond b (x ∷ lacking bag (xs ++ ys)) (lacking bag (xs ++ ys)) ≡ cond b (x ∷ lacking bag xs) (lacking bag xs) ++ lacking bag ys
    lacking-step bag x xs ys true rest = ap (λ zs. x ∷ zs) rest
    lacking-step bag x xs ys false rest = rest

-- the least lacking name of two lists
pub least_of-append : (bag : Bag) (xs ys : List Name) → least_of None (lacking bag (xs ++ ys)) ≡ least_of (least_of None (lacking bag xs)) (lacking bag ys)
least_of-append bag xs ys = ap (least_of None) (lacking-append bag xs ys) ∙ fold-least None (lacking bag xs) (lacking bag ys)

-- the least lacking name, found in two steps
pub next-in_steps : (bag : Bag) (wants slice need : List Name) (wanted next : Option Name) → slice ≡ wants → wanted ≡ least_of None (lacking bag slice) → next ≡ least_of wanted (lacking bag need) →
    least_of None (lacking bag (wants ++ need)) ≡ next
next-in_steps bag wants slice need wanted next same first second =
    least_of-append bag wants need ∙ (ap (λ xs. least_of (least_of None (lacking bag xs)) (lacking bag need)) (sym same) ∙ (ap (λ best. least_of best (lacking bag need)) (sym first) ∙ sym second))

any-last : (p : Name → Bool) (x m : Name) (xs : List Name) → last_or (Some x) xs ≡ Some m → p m ≡ true → (p x || list_any p xs) ≡ true
any-last p x m [] e h = let s : x ≡ m = cc in rw (s, h) refl
any-last p x m (y ∷ ys) e h = or-later (p x) (p y) (list_any p ys) (any-last p y m ys e h)

or-none : (a b : Bool) → a ≡ false → b ≡ false → (a || b) ≡ false
or-none true b e f = cc
or-none false b e f = f

none-before : (n m : Name) (names : List Name) → is_before n m ≡ false → NoneAfter m names → list_any (λ x. is_before n x) names ≡ false
none-before n m [] less none = refl
none-before n m (x ∷ xs) less none = or-none (is_before n x) (list_any (λ y. is_before n y) xs) (not_before-trans n m x less none.0) (none-before n m xs less none.1)

-- a name is below one of those above which m stands, exactly if it is below m
pub any-greatest : (n m : Name) (names : List Name) → last_or None names ≡ Some m → NoneAfter m names → list_any (λ x. is_before n x) names ≡ is_before n m
any-greatest n m [] last none = cc
any-greatest n m (x ∷ xs) last none = any-by n m x xs (is_before n m) refl last none
  where
    any-by : (n m x : Name) (xs : List Name) (b : Bool) → is_before n m ≡ b → last_or (Some x) xs ≡ Some m → NoneAfter m (x ∷ xs) → list_any (λ y. is_before n y) (x ∷ xs) ≡ b
    any-by n m x xs true e last none = any-last (λ y. is_before n y) x m xs last e
    any-by n m x xs false e last none = none-before n m (x ∷ xs) e none

some-last : (x : Name) (xs : List Name) → last_or (Some x) xs ≡ None → ⊥
some-last x [] e = cc
some-last x (y ∷ ys) e = some-last y ys e

-- without names none is below one
pub any-nothing : (n : Name) (names : List Name) → last_or None names ≡ None → list_any (λ x. is_before n x) names ≡ false
any-nothing n [] e = refl
any-nothing n (x ∷ xs) e = absurd (some-last x xs e)
