-- what is given of some bytes, and what is left of them
use Rattle.std.proofs.Common.{◌≡◌, ℕ, ◌+◌, ◌-◌, ◌<◌, ◌≤◌, min, List, [], ◌++◌, length, take, drop, refl, sym, ◌∙◌, ap, arith, Result, Ok, Err, length-take-le, take-append-drop}
use Rattle.std.specs.Prelude.{OnErr}
use Rattle.std.proofs.lemmas.List.{drop-drop, drop_all}
use Rattle.std.proofs.lemmas.Grind.{common_steps}

-- the front of a buffer and the bytes after it are the bytes that there were
pub given-rest : (front rest bytes : List ℕ) (at n : ℕ) → front ≡ take n (drop at bytes) → n ≤ length bytes - at
    → drop at bytes ≡ take n (front ++ rest) ++ drop (at + n) bytes
given-rest front rest bytes at n e h =
    let whole = take-append-drop n (drop at bytes) in
    let past = drop-drop n at bytes in
    let size : length front ≡ n = rw e (grind (arith, common_steps)) in
    let same : take n (front ++ rest) ≡ front = grind (arith, common_steps) in
    cc

-- where nothing fits, nothing was left
pub none-left : (bytes : List ℕ) (at n size : ℕ) → n ≡ min size (length bytes - at) → n ≡ 0 → 0 < size → drop (at + n) bytes ≡ []
none-left bytes at n size e none some = drop_all (at + n) bytes (omega arith)

-- what holds anyway holds at an error
pub on_err : {T E P : Type 0} (r : Result T E) → P → OnErr r P
on_err (Ok x) p = tt
on_err (Err e) p = p
