-- how many of the numbers below another are at a node
use Rattle.std.proofs.Common.{◌≡◌, ◌⊎◌, inl, inr, ℕ, zero, suc, ◌+◌, ◌*◌, ◌/◌, ◌%◌, ◌<◌, ◌≤◌, nat_lt, false, cond, ◌==◌, refl, sym, ap, ◌∙◌, arith, mod-lt, div-add-mod', add-mul, one-mul, eq-or-lt_of_le, ⊎_elim}
use native.Mathlib.Nat.{div-eq_of_lt-le}
use Rattle.std.proofs.lemmas.List.Sums.{sum_by_push}
use Rattle.std.proofs.lemmas.Bool.{lt-ltb, ne_eqb, eq-eqb}
use Rattle.std.proofs.lemmas.Bool.Decides.{nat_tests}
use Rattle.unix_calls.specs.declared.Start.{Start}
use Rattle.unix_calls.specs.Valid.{starts_at}
use Rattle.load_laws.specs.Worlds.{firsts, start}

-- j is q rounds of n and r more
abbrev Is : ℕ → ℕ → ℕ → ℕ → Type 0
Is n j q r = (q * n + r ≡ j) × (r < n)

next-within : (n j q r : ℕ) → Is n j q r → r + 1 < n → Is n (suc j) q (r + 1)
next-within n j q r h lt = let e = h.0 in (omega arith, lt)

next-round : (n j q r : ℕ) → Is n j q r → r + 1 ≡ n → Is n (suc j) (q + 1) 0
next-round n j q r h e = let is = h.0 in let sum = add-mul q 1 n in let one = one-mul n in (omega arith, omega arith)

-- the rounds and the rest are the quotient and the remainder
divided : (n j q r : ℕ) → Is n j q r → (j / n ≡ q) × (j % n ≡ r)
divided n j q r h =
    let is = h.0 in
    let less = h.1 in
    let sum = add-mul q 1 n in
    let one = one-mul n in
    let quotient : j / n ≡ q = div-eq_of_lt-le {k = q} n {m = j} (omega arith) (omega arith) in
    let whole = div-add-mod' j n in
    let same : j / n * n ≡ q * n = ap (λ k. k * n) quotient in
    (quotient, omega arith)

itself : (n j : ℕ) → 1 ≤ n → Is n j (j / n) (j % n)
itself n j some = (div-add-mod' j n, mod-lt j some)

-- one more, where m is below the rest
abbrev passed : ℕ → ℕ → ℕ
passed m r = cond (nat_lt m r) 1 0

abbrev met : ℕ → ℕ → ℕ
met r m = cond (r == m) 1 0

order : (m r : ℕ) → (m < r) ⊎ ((m ≡ r) ⊎ (r < m))
order m r = ⊎_elim (λ le. ⊎_elim (λ e. inr (inl e)) (λ lt. inl lt) (eq-or-lt_of_le le)) (λ gt. inr (inr gt)) (total m r)
  where
    total : (m r : ℕ) → (m ≤ r) ⊎ (r < m)
    total zero r = inl (omega arith)
    total (suc m) zero = inr (omega arith)
    total (suc m) (suc r) = ⊎_elim (λ le. inl (omega arith)) (λ lt. inr (omega arith)) (total m r)

not-less : (m r : ℕ) → r ≤ m → nat_lt m r ≡ false
not-less m r le = grind (arith, nat_tests)

count-within : (m r : ℕ) → passed m r + met r m ≡ passed m (r + 1)
count-within m r = go (order m r)
  where
    go : (m < r) ⊎ ((m ≡ r) ⊎ (r < m)) → passed m r + met r m ≡ passed m (r + 1)
    go (inl lt) = rw (lt-ltb m r lt, ne_eqb r m (λ e. omega arith), lt-ltb m (r + 1) (omega arith)) refl
    go (inr (inl e)) = rw (not-less m r (omega arith), eq-eqb r m (sym e), lt-ltb m (r + 1) (omega arith)) refl
    go (inr (inr gt)) = rw (not-less m r (omega arith), ne_eqb r m (λ e. omega arith), not-less m (r + 1) (omega arith)) refl

module _ (n workers m : ℕ) (some : 1 ≤ n) (below : m < n) where
  abbrev count : ℕ → ℕ
  count j = starts_at (record { 0 = m }) (firsts (start n workers) j)

  count-more : (j : ℕ) → count (suc j) ≡ count j + met (j % n) m
  count-more j = sum_by_push (λ (s : Start). cond (s.node.0 == m) 1 0) (firsts (start n workers) j) (start n workers j)

  counted : (j q r : ℕ) → Is n j q r → count j ≡ q + passed m r → (q' r' : ℕ) → Is n (suc j) q' r' → q + (passed m r + met r m) ≡ q' + passed m r' → count (suc j) ≡ suc j / n + passed m (suc j % n)
  counted j q r h e q' r' h' same =
      let d = divided n j q r h in
      let d' = divided n (suc j) q' r' h' in
      count-more j
      ∙ ap (λ k. k + met (j % n) m) e
      ∙ ap (λ k. q + passed m r + met k m) d.1
      ∙ omega arith
      ∙ same
      ∙ ap (λ k. k + passed m r') (sym d'.0)
      ∙ ap (λ k. suc j / n + passed m k) (sym d'.1)

  round-met : (r : ℕ) → r + 1 ≡ n → passed m r + met r m ≡ 1
  round-met r e = count-within m r ∙ rw (lt-ltb m (r + 1) (omega arith)) refl

  step : (j : ℕ) → (j % n + 1 ≡ n) ⊎ (j % n + 1 < n) → count j ≡ j / n + passed m (j % n) → count (suc j) ≡ suc j / n + passed m (suc j % n)
  step j (inl e) h =
      let met' = round-met (j % n) e in
      let none : passed m 0 ≡ 0 = rw (not-less m 0 (omega arith)) refl in
      counted j (j / n) (j % n) (itself n j some) h (j / n + 1) 0 (next-round n j (j / n) (j % n) (itself n j some) e) (omega arith)
  step j (inr lt) h =
      let within = count-within m (j % n) in
      counted j (j / n) (j % n) (itself n j some) h (j / n) (j % n + 1) (next-within n j (j / n) (j % n) (itself n j some) lt) (omega arith)

  rounds : (j : ℕ) → count j ≡ j / n + passed m (j % n)
  rounds zero =
      let zeros = divided n 0 0 0 (omega arith, omega arith) in
      sym (ap (λ k. k + passed m (0 % n)) zeros.0 ∙ ap (λ k. 0 + passed m k) zeros.1 ∙ rw (not-less m 0 (omega arith)) refl)
  rounds (suc j) = let less = mod-lt j some in step j (eq-or-lt_of_le (omega arith)) (rounds j)

-- at the node of the j-th start there have been as many as there were rounds
pub starts-before : (n workers j : ℕ) → 1 ≤ n → starts_at (record { 0 = j % n }) (firsts (start n workers) j) ≡ j / n
starts-before n workers j some =
    rounds n workers (j % n) some (mod-lt j some) j ∙ ap (λ b. j / n + cond b 1 0) (not-less (j % n) (j % n) (omega arith)) ∙ omega arith
