-- what taking a child out leaves
use Rattle.std.proofs.Common.{◌≡◌, ◌==◌, ◌||◌, ◌≤◌, ℕ, not, Bool, true, false, cond, List, [], ◌∷◌, length, refl, ap, arith}
use Rattle.std.specs.List.{list_any}
use Rattle.unix_names.specs.declared.Pid.{Pid}
use Rattle.vproc_record.specs.Lists.{without}

-- no more are left than there were
pub without-fits : (p : Pid) (pids : List Pid) (n : ℕ) → length pids ≤ n → length (without p pids) ≤ n
without-fits p [] n fits = fits
without-fits p (q ∷ pids) n fits = step (not (q.0 == p.0)) (without-fits p pids)
  where
    step : (b : Bool) → ((m : ℕ) → length pids ≤ m → length (without p pids) ≤ m) → length (cond b (q ∷ without p pids) (without p pids)) ≤ n
    step true rest = let less = rest (length pids) (omega arith) in omega arith
    step false rest = rest _ (omega arith)

others_false : (a b : Bool) → (a || b) ≡ false → b ≡ false
others_false true b e = cc
others_false false b e = e

-- what is not listed takes nothing out
pub without-absent : (p : Pid) (pids : List Pid) → list_any (λ q. q.0 == p.0) pids ≡ false → without p pids ≡ pids
without-absent p [] e = refl
without-absent p (q ∷ pids) e = step (q.0 == p.0) e (without-absent p pids (others_false (q.0 == p.0) _ e))
  where
    step : (b : Bool) → (b || list_any (λ x. x.0 == p.0) pids) ≡ false → without p pids ≡ pids → cond (not b) (q ∷ without p pids) (without p pids) ≡ q ∷ pids
    step true h same = cc
    step false h same = ap (λ l. q ∷ l) same
