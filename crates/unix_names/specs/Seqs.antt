use Rattle.std.specs.Prelude.{◌≡◌, List, ◌++◌, length, take, drop}
use Rattle.std.specs.List.{AllZip}

-- each item is a clone of the other list's, and the lists are equal where a clone is the same value
abbrev pub IsClone : {T : Type 0} → (T → T → Type 0) → List T → List T → Type 0
IsClone {T} R xs ys = AllZip R xs ys × (((x y : T) → R x y → y ≡ x) → ys ≡ xs)

-- a list with others written over its items, as many as there are
abbrev pub overwritten : {T : Type 0} → List T → List T → List T
overwritten xs ws = take (length xs) (ws ++ drop (length ws) xs)
