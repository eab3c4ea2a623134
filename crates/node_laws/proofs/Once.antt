-- lists in which no name stands twice
use Rattle.std.proofs.Common.{◌≡◌, ◌∙◌, ◌||◌, Bool, true, false, cond, List, [], ◌∷◌, ◌++◌, refl, sym, ap}
use Rattle.unix_names.specs.declared.Name.{Name}
use Rattle.courier_core.specs.Wants.{is_name, lists, added, all_added}
use Rattle.courier_core.proofs.Order.{is_name-true, is_name-same}
use Rattle.courier_core.proofs.Lists.{lists-append}
use Rattle.node_laws.specs.Couriers.{AreOnce}

neither : (a b : Bool) → (a || b) ≡ false → (a ≡ false) × (b ≡ false)
neither true b e = cc
neither false b e = (refl, e)

other_way : (n m : Name) → is_name m n ≡ false → is_name n m ≡ false
other_way n m e = go (is_name n m) refl
  where
    go : (b : Bool) → is_name n m ≡ b → is_name n m ≡ false
    go true same = let f : true ≡ false = sym (is_name-same n) ∙ (ap (λ k. is_name k n) (is_name-true n m same) ∙ e) in cc
    go false same = same

-- a name more that is not listed
once-last : (names : List Name) (n : Name) → AreOnce names → lists names n ≡ false → AreOnce (names ++ n ∷ [])
once-last [] n once lacks = (refl, tt)
once-last (m ∷ ms) n once lacks =
    let apart = neither (is_name m n) (lists ms n) lacks in
    (lists-append ms (n ∷ []) m ∙ (ap (λ b. b || (is_name n m || false)) once.0 ∙ ap (λ b. b || false) (other_way n m apart.0)), once-last ms n once.1 apart.1)

once-added : (names : List Name) (n : Name) → AreOnce names → AreOnce (added names n)
once-added names n once = go (lists names n) refl
  where
    go : (b : Bool) → lists names n ≡ b → AreOnce (cond b names (names ++ n ∷ []))
    go true e = once
    go false e = once-last names n once e

-- names that are added each once
pub once-all : (names more : List Name) → AreOnce names → AreOnce (all_added names more)
once-all names [] once = once
once-all names (m ∷ ms) once = once-all (added names m) ms (once-added names m once)
