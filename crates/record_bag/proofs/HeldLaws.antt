-- which names are held
use Rattle.std.proofs.Common.{◌≡◌, ◌≢◌, ◌⊎◌, inl, inr, ◌||◌, Bool, true, false, List, [], ◌∷◌, ◌++◌, map, sym, ap, ◌∙◌, refl, Option, Some, None}
use Rattle.std.specs.Prelude.{is_some}
use Rattle.std.specs.List.{list_any}
use Rattle.std.specs.Option.{option_map}
use Rattle.unix_names.specs.declared.Name.{Name}
use Rattle.unix_names.specs.declared.Name.TheVariants as name
use Rattle.ordered_table.specs.Entries.{value_at, pids_of}
use Rattle.ordered_table.proofs.AbsentLaws.{any-put}
use Rattle.record_bag.specs.declared.held.Held.{Held}
use Rattle.record_bag.specs.declared.held.Held.TheVariants as held
use Rattle.record_bag.specs.declared.bag.Bag.{Bag}
use Rattle.record_bag.specs.Kinds.{of_kind, vproc_of, group_of}
use Rattle.record_bag.specs.Bags.{is_held, held_at, with_held, held_names}
use Rattle.record_bag.proofs.BagLaws.{held_at-put, held_at-put_other}

some-mapped : {A B : Type 0} (f : A → B) (o : Option A) → is_some o ≡ is_some (option_map f o)
some-mapped f None = refl
some-mapped f (Some x) = refl

-- a name is held where something is held under it
pub is_held-some : (bag : Bag) (n : Name) → is_held bag n ≡ is_some (held_at bag n)
is_held-some bag (name.V p) = some-mapped held.V (value_at bag.vprocs p)
is_held-some bag (name.G g) = some-mapped held.G (value_at bag.groups g)

-- what was put is held
pub is_held-put : (bag : Bag) (n : Name) (h : Held) → is_held (with_held bag n h) n ≡ true
is_held-put bag n h = is_held-some (with_held bag n h) n ∙ ap is_some (held_at-put bag n h)

-- and so is what was held
pub is_held-more : (bag : Bag) (n m : Name) (h : Held) → (n ≡ m) ⊎ (n ≢ m) → is_held bag n ≡ true → is_held (with_held bag m h) n ≡ true
is_held-more bag n m h (inl same) has = ap (is_held (with_held bag m h)) same ∙ is_held-put bag m h
is_held-more bag n m h (inr ne) has = is_held-some (with_held bag m h) n ∙ (ap is_some (held_at-put_other bag m n h ne) ∙ (sym (is_held-some bag n) ∙ has))

any-mapped : {A B : Type 0} (f : B → Bool) (g : A → B) (xs : List A) → list_any f (map g xs) ≡ list_any (λ x. f (g x)) xs
any-mapped f g [] = refl
any-mapped f g (x ∷ xs) = ap (λ b. f (g x) || b) (any-mapped f g xs)

or-again : (a b c : Bool) → (a || (b || c)) ≡ ((a || b) || c)
or-again true b c = refl
or-again false b c = refl

any-append : {A : Type 0} (f : A → Bool) (xs ys : List A) → list_any f (xs ++ ys) ≡ (list_any f xs || list_any f ys)
any-append f [] ys = refl
any-append f (x ∷ xs) ys = ap (λ b. f x || b) (any-append f xs ys) ∙ or-again (f x) (list_any f xs) (list_any f ys)

any-names : (f : Name → Bool) (bag : Bag) → list_any f (held_names bag) ≡ (list_any (λ p. f (name.V p)) (pids_of bag.vprocs) || list_any (λ g. f (name.G g)) (pids_of bag.groups))
any-names f bag =
    any-append f (map name.V (pids_of bag.vprocs)) (map name.G (pids_of bag.groups))
    ∙ (ap (λ b. b || list_any f (map name.G (pids_of bag.groups))) (any-mapped f name.V (pids_of bag.vprocs))
    ∙ ap (λ b. list_any (λ p. f (name.V p)) (pids_of bag.vprocs) || b) (any-mapped f name.G (pids_of bag.groups)))

or_cases : (a b : Bool) → (a || b) ≡ true → (a ≡ true) ⊎ (b ≡ true)
or_cases true b h = inl refl
or_cases false b h = inr h

or_left : (a b : Bool) → a ≡ true → (a || b) ≡ true
or_left true b h = refl
or_left false b h = cc

or_right : (a b : Bool) → b ≡ true → (a || b) ≡ true
or_right true b h = refl
or_right false b h = h

-- what holds of some held name after a put, held of one before or holds of the name that was put
pub any-held_put : (f : Name → Bool) (bag : Bag) (n : Name) (h : Held) → list_any f (held_names (with_held bag n h)) ≡ true → (list_any f (held_names bag) ≡ true) ⊎ (f n ≡ true)
any-held_put f bag (name.V p) h e = elim (or_cases (list_any (λ q. f (name.V q)) (pids_of (with_held bag (name.V p) h).vprocs)) (list_any (λ g. f (name.G g)) (pids_of bag.groups)) (sym (any-names f (with_held bag (name.V p) h)) ∙ e)) [
  | inl a ↦ elim (any-put (λ q. f (name.V q)) bag.vprocs p (vproc_of h) a) [
    | inl i ↦ inl (any-names f bag ∙ or_left (list_any (λ q. f (name.V q)) (pids_of bag.vprocs)) (list_any (λ g. f (name.G g)) (pids_of bag.groups)) i)
    | inr j ↦ inr j
  ]
  | inr b ↦ inl (any-names f bag ∙ or_right (list_any (λ q. f (name.V q)) (pids_of bag.vprocs)) (list_any (λ g. f (name.G g)) (pids_of bag.groups)) b)
]
any-held_put f bag (name.G p) h e = elim (or_cases (list_any (λ q. f (name.V q)) (pids_of bag.vprocs)) (list_any (λ g. f (name.G g)) (pids_of (with_held bag (name.G p) h).groups)) (sym (any-names f (with_held bag (name.G p) h)) ∙ e)) [
  | inl a ↦ inl (any-names f bag ∙ or_left (list_any (λ q. f (name.V q)) (pids_of bag.vprocs)) (list_any (λ g. f (name.G g)) (pids_of bag.groups)) a)
  | inr b ↦ elim (any-put (λ g. f (name.G g)) bag.groups p (group_of h) b) [
    | inl i ↦ inl (any-names f bag ∙ or_right (list_any (λ q. f (name.V q)) (pids_of bag.vprocs)) (list_any (λ g. f (name.G g)) (pids_of bag.groups)) i)
    | inr j ↦ inr j
  ]
]

-- a record of the other kind counts as absent once and for all
pub with_held-kind : (bag : Bag) (n : Name) (h : Held) → with_held bag n (of_kind n h) ≡ with_held bag n h
with_held-kind bag (name.V p) h = refl
with_held-kind bag (name.G g) h = refl
