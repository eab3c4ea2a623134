-- filters, maps and tests of lists, one after another
use Rattle.std.proofs.Common.{◌≡◌, ◌&&◌, ◌||◌, Bool, true, false, cond, List, [], ◌∷◌, length, suc, refl, ap, ◌∙◌, Option, None, Some}
use Rattle.std.specs.Prelude.{map, filter}
use Rattle.std.specs.List.{list_any}
use Rattle.std.specs.Option.{option_map}

-- ---- tests
pub and_true : (b : Bool) → (b && true) ≡ b
and_true true = refl
and_true false = refl

pub and_false : (b : Bool) → (b && false) ≡ false
and_false true = refl
and_false false = refl

pub or_false : (b : Bool) → (b || false) ≡ b
or_false true = refl
or_false false = refl

pub or_true : (b : Bool) → (b || true) ≡ true
or_true true = refl
or_true false = refl

-- a fact of a choice, from the fact of both
pub cond_keeps : {X Y : Type 0} (view : X → Y) (b : Bool) (x y : X) → view x ≡ view y → view (cond b x y) ≡ view y
cond_keeps view true x y e = e
cond_keeps view false x y e = refl

-- ---- filters
filter_map_step : {X Y : Type 0} (f : X → Y) (x : X) (b : Bool) (l : List Y) (m : List X) → l ≡ map f m → cond b (f x ∷ l) l ≡ map f (cond b (x ∷ m) m)
filter_map_step f x true l m e = ap (λ z. f x ∷ z) e
filter_map_step f x false l m e = e

-- a filter of a map is a map of a filter
pub filter-map : {X Y : Type 0} (test : Y → Bool) (f : X → Y) (xs : List X) → filter test (map f xs) ≡ map f (filter (λ x. test (f x)) xs)
filter-map test f [] = refl
filter-map test f (x ∷ xs) = filter_map_step f x (test (f x)) _ _ (filter-map test f xs)

filter_filter_step : {X : Type 0} (t : X → Bool) (x : X) (a b : Bool) (l m : List X) → t x ≡ b → filter t l ≡ m → filter t (cond a (x ∷ l) l) ≡ cond (a && b) (x ∷ m) m
filter_filter_step t x true true l m e h = rw (e, h)
filter_filter_step t x true false l m e h = rw (e, h)
filter_filter_step t x false b l m e h = h

-- two filters are one
pub filter-filter : {X : Type 0} (t s : X → Bool) (xs : List X) → filter t (filter s xs) ≡ filter (λ x. s x && t x) xs
filter-filter t s [] = refl
filter-filter t s (x ∷ xs) = filter_filter_step t x (s x) (t x) _ _ refl (filter-filter t s xs)

-- a filter that nothing passes
pub filter-none : {X : Type 0} (xs : List X) → filter (λ x. false) xs ≡ []
filter-none [] = refl
filter-none (x ∷ xs) = filter-none xs

-- a filter that all pass
pub filter-all : {X : Type 0} (xs : List X) → filter (λ x. true) xs ≡ xs
filter-all [] = refl
filter-all (x ∷ xs) = ap (λ z. x ∷ z) (filter-all xs)

-- ---- maps
pub map-map : {X Y Z : Type 0} (g : Y → Z) (f : X → Y) (xs : List X) → map g (map f xs) ≡ map (λ x. g (f x)) xs
map-map g f [] = refl
map-map g f (x ∷ xs) = ap (λ z. g (f x) ∷ z) (map-map g f xs)

pub map-id : {X : Type 0} (xs : List X) → map (λ x. x) xs ≡ xs
map-id [] = refl
map-id (x ∷ xs) = ap (λ z. x ∷ z) (map-id xs)

pub map_same : {X Y : Type 0} (f g : X → Y) → ((x : X) → f x ≡ g x) → (xs : List X) → map f xs ≡ map g xs
map_same f g same [] = refl
map_same f g same (x ∷ xs) = rw (same x, map_same f g same xs)

pub length-map : {X Y : Type 0} (f : X → Y) (xs : List X) → length (map f xs) ≡ length xs
length-map f [] = refl
length-map f (x ∷ xs) = ap (λ n. suc n) (length-map f xs)

-- how many pass after a map
pub length-filter-map : {X Y : Type 0} (test : Y → Bool) (f : X → Y) (xs : List X) → length (filter test (map f xs)) ≡ length (filter (λ x. test (f x)) xs)
length-filter-map test f xs = ap length (filter-map test f xs) ∙ length-map f (filter (λ x. test (f x)) xs)

-- a view of what passes, after a map that keeps test and view
views_step : {X Y : Type 0} (view : X → Y) (x y : X) (b : Bool) (l m : List X) → view x ≡ view y → map view l ≡ map view m → map view (cond b (x ∷ l) l) ≡ map view (cond b (y ∷ m) m)
views_step view x y true l m e h = rw (e, h)
views_step view x y false l m e h = h

pub views-map : {X Y : Type 0} (view : X → Y) (test : X → Bool) (f : X → X) → ((x : X) → test (f x) ≡ test x) → ((x : X) → view (f x) ≡ view x) → (xs : List X) →
    map view (filter test (map f xs)) ≡ map view (filter test xs)
views-map view test f same keeps [] = refl
views-map view test f same keeps (x ∷ xs) = rw (same x) (views_step view (f x) x (test x) _ _ (keeps x) (views-map view test f same keeps xs))

-- ---- whether any passes
pub any-map : {X Y : Type 0} (test : Y → Bool) (f : X → Y) (xs : List X) → list_any test (map f xs) ≡ list_any (λ x. test (f x)) xs
any-map test f [] = refl
any-map test f (x ∷ xs) = ap (λ b. test (f x) || b) (any-map test f xs)

any_filter_step : {X : Type 0} (t : X → Bool) (x : X) (a : Bool) (l : List X) (b : Bool) → list_any t l ≡ b → list_any t (cond a (x ∷ l) l) ≡ ((a && t x) || b)
any_filter_step t x true l b e = ap (λ c. t x || c) e
any_filter_step t x false l b e = e

pub any-filter : {X : Type 0} (t s : X → Bool) (xs : List X) → list_any t (filter s xs) ≡ list_any (λ x. s x && t x) xs
any-filter t s [] = refl
any-filter t s (x ∷ xs) = any_filter_step t x (s x) (filter s xs) _ (any-filter t s xs)

pub any_none : {X : Type 0} (xs : List X) → list_any (λ x. false) xs ≡ false
any_none [] = refl
any_none (x ∷ xs) = any_none xs

-- ---- options
pub some_same : {X : Type 0} (x y : X) → Some x ≡ Some y → x ≡ y
some_same x y e = cc

-- what a mapped option holds
pub mapped_some : {X Y : Type 0} (f : X → Y) (o : Option X) (y : Y) → option_map f o ≡ Some y → (x : X) × (o ≡ Some x) × (y ≡ f x)
mapped_some f None y e = cc
mapped_some f (Some x) y e = (x, refl, cc)

pub mapped_none : {X Y : Type 0} (f : X → Y) (o : Option X) → option_map f o ≡ None → o ≡ None
mapped_none f None e = refl
mapped_none f (Some x) e = cc

pub option_map-map : {X Y Z : Type 0} (g : Y → Z) (f : X → Y) (o : Option X) → option_map g (option_map f o) ≡ option_map (λ x. g (f x)) o
option_map-map g f None = refl
option_map-map g f (Some x) = refl
