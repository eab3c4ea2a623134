-- what a courier keeps as it goes on, and how near it comes to its end
use Rattle.std.proofs.Common.{◌≡◌, ◌≢◌, ◌⊎◌, inl, inr, ◌<◌, ◌≤◌, ◌+◌, ◌*◌, ◌||◌, ℕ, zero, suc, Bool, true, false, cond, not, List, [], ◌∷◌, ◌++◌, length, refl, sym, ap, ◌∙◌, subst, arith, Option, None, Some}
use Rattle.std.specs.Prelude.{filter}
use Rattle.std.specs.List.{list_any}
use Rattle.unix_names.specs.declared.Name.{Name}
use Rattle.record_bag.specs.declared.Held.{Held}
use Rattle.record_bag.specs.declared.Bag.{Bag}
use Rattle.unix_names.specs.Names.{is_before}
use Rattle.record_bag.specs.Bags.{is_held, with_held, held_names}
use Rattle.record_bag.proofs.HeldLaws.{is_held-more, any-held_put}
use Rattle.courier_core.specs.declared.courier.Courier.{Courier}
use Rattle.courier_core.specs.Wants.{is_name, lists, lacking, added, all_added, NoneBefore}
use Rattle.courier_core.specs.Couriers.{asked, next_want, must_restart, HoldsWhatIsBelow}
use Rattle.courier_core.proofs.Order.{is_name-true, is_name-same, IsLeast-least_of}
use Rattle.courier_core.proofs.Lists.{lists-lacking, lists-append}

-- ---- lists of names
or_cases : (a b : Bool) → (a || b) ≡ true → (a ≡ true) ⊎ (b ≡ true)
or_cases true b h = inl refl
or_cases false b h = inr h

or_left : (a b : Bool) → a ≡ true → (a || b) ≡ true
or_left true b h = refl
or_left false b h = cc

or_right : (a b : Bool) → b ≡ true → (a || b) ≡ true
or_right true b h = refl
or_right false b h = h

pub lists-left : (xs ys : List Name) (n : Name) → lists xs n ≡ true → lists (xs ++ ys) n ≡ true
lists-left xs ys n e = lists-append xs ys n ∙ or_left (lists xs n) (lists ys n) e

pub lists-right : (xs ys : List Name) (n : Name) → lists ys n ≡ true → lists (xs ++ ys) n ≡ true
lists-right xs ys n e = lists-append xs ys n ∙ or_right (lists xs n) (lists ys n) e

pub lists-either : (xs ys : List Name) (n : Name) → lists (xs ++ ys) n ≡ true → (lists xs n ≡ true) ⊎ (lists ys n ≡ true)
lists-either xs ys n e = or_cases (lists xs n) (lists ys n) (sym (lists-append xs ys n) ∙ e)

-- a name that was listed stays so
pub all_added-old : (names more : List Name) (n : Name) → lists names n ≡ true → lists (all_added names more) n ≡ true
all_added-old names [] n e = e
all_added-old names (m ∷ ms) n e = all_added-old (added names m) ms n (go (lists names m))
  where
    go : (b : Bool) → lists (cond b names (names ++ m ∷ [])) n ≡ true
    go true = e
    go false = lists-left names (m ∷ []) n e

-- each name that was added is listed
pub all_added-new : (names more : List Name) (n : Name) → lists more n ≡ true → lists (all_added names more) n ≡ true
all_added-new names [] n e = cc
all_added-new names (m ∷ ms) n e = go (is_name m n) refl e (all_added-new (added names m) ms n)
  where
    there : (b : Bool) → lists names m ≡ b → is_name m n ≡ true → lists (cond b names (names ++ m ∷ [])) n ≡ true
    there true h same = ap (lists names) (sym (is_name-true m n same)) ∙ h
    there false h same = lists-right names (m ∷ []) n (or_left (is_name m n) false same)

    go : (b : Bool) → is_name m n ≡ b → (b || lists ms n) ≡ true → (lists ms n ≡ true → lists (all_added (added names m) ms) n ≡ true) → lists (all_added (added names m) ms) n ≡ true
    go true same e rest = all_added-old (added names m) ms n (there (lists names m) refl same)
    go false same e rest = rest e

-- and no other
pub all_added-from : (names more : List Name) (n : Name) → lists (all_added names more) n ≡ true → (lists names n ≡ true) ⊎ (lists more n ≡ true)
all_added-from names [] n e = inl e
all_added-from names (m ∷ ms) n e = elim (all_added-from (added names m) ms n e) [
  | inl a ↦ go (lists names m) a
  | inr b ↦ inr (or_right (is_name m n) (lists ms n) b)
]
  where
    last : (is_name m n || false) ≡ true → (lists names n ≡ true) ⊎ ((is_name m n || lists ms n) ≡ true)
    last h = elim (or_cases (is_name m n) false h) [ inl a ↦ inr (or_left (is_name m n) (lists ms n) a) | inr b ↦ absurd (cc b) ]

    go : (b : Bool) → lists (cond b names (names ++ m ∷ [])) n ≡ true → (lists names n ≡ true) ⊎ ((is_name m n || lists ms n) ≡ true)
    go true h = inl h
    go false h = elim (lists-either names (m ∷ []) n h) [ inl a ↦ inl a | inr b ↦ last b ]

-- two names are one or not
pub name_cases : (n m : Name) → (n ≡ m) ⊎ (n ≢ m)
name_cases n m = go (is_name n m) refl
  where
    go : (b : Bool) → is_name n m ≡ b → (n ≡ m) ⊎ (n ≢ m)
    go true e = inl (is_name-true n m e)
    go false e = inr (λ same. let f : true ≡ false = sym (is_name-same m) ∙ (sym (ap (λ x. is_name x m) same) ∙ e) in cc)

-- ---- the next want
-- the next want is wanted or needed, and lacking
pub record IsNext (c : Courier) (need : List Name) (x : Name) : Type 0 where
  pub among : lists (asked c need) x ≡ true
  pub lacks : is_held c.bag x ≡ false
  pub first : NoneBefore x (lacking c.bag (asked c need))

pub next-is : (c : Courier) (need : List Name) (x : Name) → next_want c need ≡ Some x → IsNext c need x
next-is c need x e =
    let least = IsLeast-least_of x (lacking c.bag (asked c need)) e in
    let there = lists-lacking c.bag (asked c need) x least.among in
    record { among = there.0; lacks = there.1; first = least.first }

none_before-at : (x n : Name) (names : List Name) → NoneBefore x names → lists names n ≡ true → is_before n x ≡ false
none_before-at x n [] none e = cc
none_before-at x n (m ∷ ms) none e = go (is_name m n) refl e (none_before-at x n ms none.1)
  where
    go : (b : Bool) → is_name m n ≡ b → (b || lists ms n) ≡ true → (lists ms n ≡ true → is_before n x ≡ false) → is_before n x ≡ false
    go true same e rest = ap (λ y. is_before y x) (sym (is_name-true m n same)) ∙ none.0
    go false same e rest = rest e

lacking-lists : (bag : Bag) (names : List Name) (n : Name) → lists names n ≡ true → is_held bag n ≡ false → lists (lacking bag names) n ≡ true
lacking-lists bag [] n e lacks = cc
lacking-lists bag (m ∷ ms) n e lacks = go (is_held bag m) refl (is_name m n) refl e (λ t. lacking-lists bag ms n t lacks)
  where
    go : (h : Bool) → is_held bag m ≡ h → (b : Bool) → is_name m n ≡ b → (b || lists ms n) ≡ true → (lists ms n ≡ true → lists (lacking bag ms) n ≡ true) →
        lists (cond (not h) (m ∷ lacking bag ms) (lacking bag ms)) n ≡ true
    go true held true same e rest = let f : true ≡ false = sym held ∙ (ap (is_held bag) (is_name-true m n same) ∙ lacks) in cc
    go true held false same e rest = rest e
    go false held true same e rest = or_left (is_name m n) (lists (lacking bag ms) n) same
    go false held false same e rest = or_right (is_name m n) (lists (lacking bag ms) n) (rest e)

-- who takes its next want still holds what is wanted below a held name
pub taking-keeps : (c : Courier) (need : List Name) (x : Name) (h : Held) → HoldsWhatIsBelow c → next_want c need ≡ Some x → HoldsWhatIsBelow (record c { bag = with_held c.bag x h })
taking-keeps c need x h below next n wanted again = go (is_held c.bag n) refl
  where
    more : is_held c.bag n ≡ true → is_held (with_held c.bag x h) n ≡ true
    more has = is_held-more c.bag n x h (name_cases n x) has

    go : (b : Bool) → is_held c.bag n ≡ b → is_held (with_held c.bag x h) n ≡ true
    go true has = more has
    go false lacks = elim (any-held_put (λ m. is_before n m) c.bag x h again) [
      | inl a ↦ more (below n wanted a)
      | inr b ↦
          let is = next-is c need x next in
          let not : is_before n x ≡ false = none_before-at x n (lacking c.bag (asked c need)) is.first (lacking-lists c.bag (asked c need) n (lists-left c.wants need n wanted) lacks) in
          let f : true ≡ false = sym b ∙ not in
          cc
    ]

-- who begins anew holds nothing, so nothing below
pub nothing-below : (c : Courier) → held_names c.bag ≡ [] → HoldsWhatIsBelow c
nothing-below c none n wanted again = let f : false ≡ true = sym (ap (λ ns. list_any (λ m. is_before n m) ns) none) ∙ again in cc

-- a name that is lacking below a held one is not wanted yet
pub fresh-wanted : (c : Courier) (x : Name) → HoldsWhatIsBelow c → is_held c.bag x ≡ false → must_restart c x ≡ true → lists c.wants x ≡ false
fresh-wanted c x below lacks again = go (lists c.wants x) refl
  where
    go : (b : Bool) → lists c.wants x ≡ b → lists c.wants x ≡ false
    go true wanted = let f : true ≡ false = sym (below x wanted again) ∙ lacks in cc
    go false wanted = wanted

-- ---- how many names a test leaves out
pub left_of : (Name → Bool) → List Name → ℕ
left_of f xs = length (filter (λ n. not (f n)) xs)

pub left-most : (f : Name → Bool) (xs : List Name) → left_of f xs ≤ length xs
unfolding left_of
left-most f [] = omega arith
left-most f (x ∷ xs) = go (f x) (left-most f xs)
  where
    go : (a : Bool) → length (filter (λ n. not (f n)) xs) ≤ length xs → length (cond (not a) (x ∷ filter (λ n. not (f n)) xs) (filter (λ n. not (f n)) xs)) ≤ suc (length xs)
    go true h = omega arith
    go false h = omega arith

pub left-less : (f g : Name → Bool) → ((n : Name) → f n ≡ true → g n ≡ true) → (xs : List Name) → left_of g xs ≤ left_of f xs
unfolding left_of
left-less f g more [] = omega arith
left-less f g more (x ∷ xs) = go (f x) refl (g x) refl (left-less f g more xs)
  where
    go : (a : Bool) → f x ≡ a → (b : Bool) → g x ≡ b → length (filter (λ n. not (g n)) xs) ≤ length (filter (λ n. not (f n)) xs) →
        length (cond (not b) (x ∷ filter (λ n. not (g n)) xs) (filter (λ n. not (g n)) xs)) ≤ length (cond (not a) (x ∷ filter (λ n. not (f n)) xs) (filter (λ n. not (f n)) xs))
    go true fx true gx h = h
    go true fx false gx h = let e : false ≡ true = sym gx ∙ more x fx in cc
    go false fx true gx h = omega arith
    go false fx false gx h = omega arith

-- a test that passes one listed name more leaves out less
pub left-fewer : (f g : Name → Bool) → ((n : Name) → f n ≡ true → g n ≡ true) → (xs : List Name) (x : Name) → lists xs x ≡ true → f x ≡ false → g x ≡ true → left_of g xs < left_of f xs
unfolding left_of
left-fewer f g more [] x there fx gx = cc
left-fewer f g more (y ∷ ys) x there fx gx = go (is_name y x) refl (f y) refl (g y) refl there (λ t. left-fewer f g more ys x t fx gx) (left-less f g more ys)
  where
    go : (c : Bool) → is_name y x ≡ c → (a : Bool) → f y ≡ a → (b : Bool) → g y ≡ b → (c || lists ys x) ≡ true →
        (lists ys x ≡ true → length (filter (λ n. not (g n)) ys) < length (filter (λ n. not (f n)) ys)) → length (filter (λ n. not (g n)) ys) ≤ length (filter (λ n. not (f n)) ys) →
        length (cond (not b) (y ∷ filter (λ n. not (g n)) ys) (filter (λ n. not (g n)) ys)) < length (cond (not a) (y ∷ filter (λ n. not (f n)) ys) (filter (λ n. not (f n)) ys))
    go true same true fy b gy t rest le = let e : true ≡ false = sym fy ∙ ap f (is_name-true y x same) ∙ fx in cc
    go true same false fy true gy t rest le = omega arith
    go true same false fy false gy t rest le = let e : false ≡ true = sym gy ∙ ap g (is_name-true y x same) ∙ gx in cc
    go false same true fy true gy t rest le = rest t
    go false same true fy false gy t rest le = let e : false ≡ true = sym gy ∙ more y fy in cc
    go false same false fy true gy t rest le = let h = rest t in omega arith
    go false same false fy false gy t rest le = let h = rest t in omega arith
