-- lists whose keys rise, as of entries by process id and of rows by pid
use Rattle.std.specs.Prelude.{ℕ, zero, suc, ◌<◌, nat_lt, List, [], ◌∷◌, if◌then◌else◌}

-- every key is above n
abbrev pub AllAboveBy : {T : Type 0} → (T → ℕ) → ℕ → List T → Type 0
AllAboveBy key n [] = Unit {0}
AllAboveBy key n (x ∷ xs) = (n < key x) × AllAboveBy key n xs

-- the keys rise strictly
abbrev pub IsRisingBy : {T : Type 0} → (T → ℕ) → List T → Type 0
IsRisingBy key [] = Unit {0}
IsRisingBy key (x ∷ xs) = AllAboveBy key (key x) xs × IsRisingBy key xs

-- how many of the first elements have a lesser key
abbrev pub place_by : {T : Type 0} → (T → ℕ) → List T → ℕ → ℕ
place_by key [] n = zero
place_by key (x ∷ xs) n = if nat_lt (key x) n then suc (place_by key xs n) else zero
