-- lists that names are added to
use Rattle.std.proofs.Common.{◌≡◌, ◌<◌, ◌≤◌, Bool, true, false, not, List, [], ◌∷◌, ◌++◌, length, sym, ap, ◌∙◌, subst, refl, Some, cond, if◌then◌else◌, ◌||◌, arith, length-append}
use Rattle.unix_names.specs.declared.Name.{Name}
use Rattle.record_bag.specs.declared.Bag.{Bag}
use Rattle.record_bag.specs.Bags.{is_held, held_names}
use Rattle.courier_core.specs.declared.courier.Courier.{Courier}
use Rattle.courier_core.specs.Wants.{is_name, lists, lacking, added, all_added}
use Rattle.courier_core.specs.Couriers.{asked, next_want, must_restart, HoldsWhatIsBelow}
use Rattle.courier_core.proofs.Order.{is_name-true, IsLeast-least_of}

true-false : true ≡ false → ⊥
true-false e = cc

longer-by : (names : List Name) (n : Name) (b : Bool) → length names ≤ length (if b then names else names ++ n ∷ [])
longer-by names n true = omega arith
longer-by names n false = rw (length-append names (n ∷ [])) (omega arith)

-- no name goes
longer-all : (names more : List Name) → length names ≤ length (all_added names more)
longer-all names [] = omega arith
longer-all names (m ∷ ms) =
    let first = longer-by names m (lists names m) in
    let rest = longer-all (added names m) ms in
    omega arith

grows-by : (names : List Name) (n : Name) (ms : List Name) (b : Bool) → b ≡ false → length names < length (all_added (if b then names else names ++ n ∷ []) ms)
grows-by names n ms true e = cc
grows-by names n ms false e =
    let first = length-append names (n ∷ []) in
    let rest = longer-all (names ++ n ∷ []) ms in
    omega arith

-- a name that does not stand there yet comes
pub grows-all : (names more : List Name) (n : Name) → lists more n ≡ true → lists names n ≡ false → length names < length (all_added names more)
grows-all names [] n there lacks = cc
grows-all names (m ∷ ms) n there lacks = grows-step names m ms n (is_name m n) refl (lists names m) refl there lacks (grows-all names ms n)
  where
    grows-step : (names : List Name) (m : Name) (ms : List Name) (n : Name) (b : Bool) → is_name m n ≡ b → (c : Bool) → lists names m ≡ c → (b || lists ms n) ≡ true → lists names n ≡ false →
        (lists ms n ≡ true → lists names n ≡ false → length names < length (all_added names ms)) → length names < length (all_added (if c then names else names ++ m ∷ []) ms)
    grows-step names m ms n b same false known there lacks rest = grows-by names m ms false refl
    grows-step names m ms n true same true known there lacks rest = let s : m ≡ n = is_name-true m n same in absurd (true-false (sym known ∙ (ap (λ x. lists names x) s ∙ lacks)))
    grows-step names m ms n false same true known there lacks rest = rest there lacks

-- what a bag lacks of a list stands in the list
pub lists-lacking : (bag : Bag) (names : List Name) (n : Name) → lists (lacking bag names) n ≡ true → (lists names n ≡ true) × (is_held bag n ≡ false)
lists-lacking bag [] n there = cc
lists-lacking bag (m ∷ ms) n there = lacking-by bag m ms n (is_held bag m) refl (is_name m n) refl there (lists-lacking bag ms n)
  where
    lacking-by : (bag : Bag) (m : Name) (ms : List Name) (n : Name) (h : Bool) → is_held bag m ≡ h → (b : Bool) → is_name m n ≡ b →
        lists (cond (not h) (m ∷ lacking bag ms) (lacking bag ms)) n ≡ true → (lists (lacking bag ms) n ≡ true → (lists ms n ≡ true) × (is_held bag n ≡ false)) →
        ((b || lists ms n) ≡ true) × (is_held bag n ≡ false)
    lacking-by bag m ms n false held true same there rest = (refl, subst (λ x. is_held bag x ≡ false) (is_name-true m n same) held)
    lacking-by bag m ms n false held false same there rest = rest (ap (λ b. b || lists (lacking bag ms) n) (sym same) ∙ there)
    lacking-by bag m ms n true held true same there rest = (refl, (rest there).1)
    lacking-by bag m ms n true held false same there rest = rest there

pub lists-append : (xs ys : List Name) (n : Name) → lists (xs ++ ys) n ≡ (lists xs n || lists ys n)
lists-append [] ys n = refl
lists-append (x ∷ xs) ys n = append-by (is_name x n) (lists (xs ++ ys) n) (lists xs n) (lists ys n) (lists-append xs ys n)
  where
    append-by : (a b c d : Bool) → b ≡ (c || d) → (a || b) ≡ ((a || c) || d)
    append-by true b c d e = refl
    append-by false b c d e = e

-- a restart adds a name
pub grows-restart : (c : Courier) (need : List Name) → HoldsWhatIsBelow c → (n : Name) → next_want c need ≡ Some n → must_restart c n ≡ true → length c.wants < length (all_added c.wants (need ++ held_names c.bag))
grows-restart c need kept n next below =
    let least = IsLeast-least_of n (lacking c.bag (asked c need)) next in
    let there = lists-lacking c.bag (asked c need) n least.among in
    restart-by c need n (lists c.wants n) refl (lists need n) refl (sym (lists-append c.wants need n) ∙ there.0) there.1 kept below
  where
    restart-by : (c : Courier) (need : List Name) (n : Name) (w : Bool) → lists c.wants n ≡ w → (b : Bool) → lists need n ≡ b → (lists c.wants n || lists need n) ≡ true → is_held c.bag n ≡ false → HoldsWhatIsBelow c →
        must_restart c n ≡ true → length c.wants < length (all_added c.wants (need ++ held_names c.bag))
    restart-by c need n true wanted b needed there lacks kept below = absurd (true-false (sym (kept n wanted below) ∙ lacks))
    restart-by c need n false wanted true needed there lacks kept below = grows-all c.wants (need ++ held_names c.bag) n (lists-append need (held_names c.bag) n ∙ ap (λ b. b || lists (held_names c.bag) n) needed) wanted
    restart-by c need n false wanted false needed there lacks kept below = let no_name : false ≡ true = sym (ap (λ b. b || lists need n) wanted ∙ needed) ∙ there in absurd (true-false (sym no_name))
