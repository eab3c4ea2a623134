-- the merge law and the causal law of the tokens
use Rattle.std.proofs.Common.{◌≡◌, ℕ, zero, suc, ◌+◌, ◌<◌, ◌≤◌, ◌⊎◌, inl, inr, ⊎_elim, List, [], ◌∷◌, ◌++◌, length, Option, Some, None, refl, ap, sym, ◌∙◌, subst, arith}
use mathlib.Core.Option.{some, none, some-injective, some-ne-none}
use lib.ListN.{get_elem?}
use Rattle.token_laws.specs.declared.Move.{Move}
use Rattle.token_laws.specs.declared.Move.TheVariants.{Give, Take}
use Rattle.token_laws.specs.Tokens.{node_of, gives, takes, sum_of, lawful, lawful_from}
use Rattle.pasts.specs.Pasts.{steps_of, Knows, Stands, union, IsPast, HasAll, IsLawfulPast, MergeLaw, CausalLaw}
use Rattle.past_lists.proofs.Seen.{union_left, union_right, union_cases, get_lt, same_place}

abbrev pub w : (Move → ℕ) → Option Move → ℕ
w f None = 0
w f (Some x) = f x

-- the weight of what is known among the first j places
abbrev pub upto : (Move → ℕ) → ℕ → List (Option Move) → ℕ
upto f zero a = 0
upto f (suc j) [] = 0
upto f (suc j) (o ∷ a) = w f o + upto f j a

abbrev pub whole : List Move → List (Option Move)
whole [] = []
whole (x ∷ xs) = Some x ∷ whole xs

pub knows_whole : (log : List Move) (j : ℕ) (x : Move) → Stands log j x → Knows (whole log) j x
knows_whole [] j x e = absurd (some-ne-none x (sym e))
knows_whole (y ∷ log) zero x e = ap (λ (z : Move). some (Some z)) (some-injective y x e)
knows_whole (y ∷ log) (suc j) x e = knows_whole log j x e

pub stands_whole : (log : List Move) (j : ℕ) (x : Move) → Knows (whole log) j x → Stands log j x
stands_whole [] j x e = absurd (some-ne-none (Some x) (sym e))
stands_whole (y ∷ log) zero x e = let s : y ≡ x = cc e in ap (λ (z : Move). some z) s
stands_whole (y ∷ log) (suc j) x e = stands_whole log j x e

pub steps_whole : (log : List Move) → steps_of (whole log) ≡ log
steps_whole [] = refl
steps_whole (x ∷ log) = ap (λ (l : List Move). x ∷ l) (steps_whole log)

-- who knows more counts more
pub mono : (f : Move → ℕ) (j : ℕ) (a b : List (Option Move)) → ((i : ℕ) (x : Move) → i < j → Knows a i x → (f x ≡ 0) ⊎ Knows b i x) → upto f j a ≤ upto f j b
mono f zero a b h = omega arith
mono f (suc j) [] b h = omega arith
mono f (suc j) (None ∷ a) [] h = let r = mono f j a [] (λ i x lt k. h (suc i) x (omega arith) k) in let z = upto_nil f j in omega arith
  where
    upto_nil : (f : Move → ℕ) (j : ℕ) → upto f j [] ≡ 0
    upto_nil f zero = refl
    upto_nil f (suc j) = refl
mono f (suc j) (Some x ∷ a) [] h = ⊎_elim (λ z. let r = mono f j a [] (λ i y lt k. h (suc i) y (omega arith) k) in let n = upto_nil f j in omega arith) (λ k. absurd (some-ne-none (Some x) (sym k))) (h zero x (omega arith) refl)
  where
    upto_nil : (f : Move → ℕ) (j : ℕ) → upto f j [] ≡ 0
    upto_nil f zero = refl
    upto_nil f (suc j) = refl
mono f (suc j) (None ∷ a) (c ∷ b) h = let r = mono f j a b (λ i x lt k. h (suc i) x (omega arith) k) in omega arith
mono f (suc j) (Some x ∷ a) (c ∷ b) h = let r = mono f j a b (λ i y lt k. h (suc i) y (omega arith) k) in
    ⊎_elim (λ z. omega arith) (λ k. let e = ap (w f) (some-injective c (Some x) k) in omega arith) (h zero x (omega arith) refl)

-- lawful by places
abbrev pub ByPlaces : ℕ → ℕ → List (Option Move) → Type 0
ByPlaces g t a = (j : ℕ) → Knows a j Take → t + upto takes j a < g + upto gives j a

pub by_places : (g t : ℕ) (a : List (Option Move)) → lawful_from g t (steps_of a) → ByPlaces g t a
by_places g t [] l j k = absurd (some-ne-none (Some Take) (sym k))
by_places g t (None ∷ a) l zero k = absurd (cc k)
by_places g t (Some Give ∷ a) l zero k = absurd (cc k)
by_places g t (Some Take ∷ a) l zero k = let h = l.0 in omega arith
by_places g t (None ∷ a) l (suc j) k = let h = by_places g t a l j k in omega arith
by_places g t (Some Give ∷ a) l (suc j) k = let h = by_places (g + 1) t a l j k in omega arith
by_places g t (Some Take ∷ a) l (suc j) k = let h = by_places g (t + 1) a l.1 j k in omega arith

pub of_places : (g t : ℕ) (a : List (Option Move)) → ByPlaces g t a → lawful_from g t (steps_of a)
of_places g t [] h = tt
of_places g t (None ∷ a) h = of_places g t a (λ j k. let e = h (suc j) k in omega arith)
of_places g t (Some Give ∷ a) h = of_places (g + 1) t a (λ j k. let e = h (suc j) k in omega arith)
of_places g t (Some Take ∷ a) h = (let e = h zero refl in omega arith, of_places g (t + 1) a (λ j k. let e = h (suc j) k in omega arith))

take_or : (x : Move) → (takes x ≡ 0) ⊎ (node_of x ≡ 1)
take_or Give = inl refl
take_or Take = inr refl

-- a past that knows a take knows as many gives before it as it had, and all takes before it
pub before_take : (log : List Move) (p u : List (Option Move)) (j : ℕ) → IsLawfulPast node_of lawful log p → ((i : ℕ) (x : Move) → Knows p i x → Knows u i x) → ((i : ℕ) (x : Move) → Knows u i x → Stands log i x) → Knows p j Take → upto takes j u < upto gives j u
before_take log p u j past wide part k =
    let own = by_places 0 0 p past.lawful_here j k in
    let g = mono gives j p u (λ i x lt n. inr (wide i x n)) in
    let t = mono takes j u p (λ i x lt n. ⊎_elim (λ z. inl z) (λ is. inr (past.past.closed i j x Take lt (part i x n) k is)) (take_or x)) in omega arith

pub merge : MergeLaw node_of lawful
merge log p q legal P Q =
    let part : (i : ℕ) (x : Move) → Knows (union p q) i x → Stands log i x = λ i x k. ⊎_elim (λ h. P.past.part i x h) (λ h. Q.past.part i x h) (union_cases p q i x k) in
    let right : (i : ℕ) (x : Move) → Knows q i x → Knows (union p q) i x = λ i x k. ⊎_elim (λ h. h) (λ r. union_left p q i x (subst (λ (y : Move). Knows p i y) (same_place log i r.0 x (P.past.part i r.0 r.1) (Q.past.part i x k)) r.1)) (union_right p q i x k) in
    of_places 0 0 (union p q) (λ j k. ⊎_elim (λ h. let e = before_take log p (union p q) j P (λ i x n. union_left p q i x n) part h in omega arith) (λ h. let e = before_take log q (union p q) j Q right part h in omega arith) (union_cases p q j Take k))

pub snoc_gives : (g t : ℕ) (xs : List Move) → lawful_from g t xs → lawful_from g t (xs ++ Give ∷ [])
snoc_gives g t [] l = tt
snoc_gives g t (Give ∷ xs) l = snoc_gives (g + 1) t xs l
snoc_gives g t (Take ∷ xs) l = (l.0, snoc_gives g (t + 1) xs l.1)

pub snoc_takes : (g t : ℕ) (xs : List Move) → lawful_from g t xs → t + sum_of takes xs < g + sum_of gives xs → lawful_from g t (xs ++ Take ∷ [])
snoc_takes g t [] l h = (omega arith, tt)
snoc_takes g t (Give ∷ xs) l h = snoc_takes (g + 1) t xs l (omega arith)
snoc_takes g t (Take ∷ xs) l h = (l.0, snoc_takes g (t + 1) xs l.1 (omega arith))

pub takes_snoc : (g t : ℕ) (xs : List Move) → lawful_from g t (xs ++ Take ∷ []) → t + sum_of takes xs < g + sum_of gives xs
takes_snoc g t [] l = let a = l.0 in omega arith
takes_snoc g t (Give ∷ xs) l = let a = takes_snoc (g + 1) t xs l in omega arith
takes_snoc g t (Take ∷ xs) l = let a = takes_snoc g (t + 1) xs l.1 in omega arith

pub sum_upto : (f : Move → ℕ) (n : ℕ) (a : List (Option Move)) → length a ≤ n → upto f n a ≡ sum_of f (steps_of a)
sum_upto f zero [] h = refl
sum_upto f (suc n) [] h = refl
sum_upto f zero (o ∷ a) h = absurd (omega arith)
sum_upto f (suc n) (None ∷ a) h = let r = sum_upto f n a (omega arith) in omega arith
sum_upto f (suc n) (Some x ∷ a) h = let r = sum_upto f n a (omega arith) in omega arith

pub whole_length : (log : List Move) → length (whole log) ≡ length log
whole_length [] = refl
whole_length (x ∷ log) = ap suc (whole_length log)

pub causal : CausalLaw node_of lawful
causal log p Give legal P all ok = snoc_gives 0 0 log legal
causal log p Take legal P all ok =
    let n = length log in
    let a = takes_snoc 0 0 (steps_of p) ok in
    let gp = sum_upto gives n p P.past.short in
    let tp = sum_upto takes n p P.past.short in
    let len = whole_length log in
    let gl = sum_upto gives n (whole log) (omega arith) ∙ ap (sum_of gives) (steps_whole log) in
    let tl = sum_upto takes n (whole log) (omega arith) ∙ ap (sum_of takes) (steps_whole log) in
    let g = mono gives n p (whole log) (λ i x lt k. inr (knows_whole log i x (P.past.part i x k))) in
    let t = mono takes n (whole log) p (λ i x lt k. ⊎_elim (λ z. inl z) (λ is. inr (all i x (stands_whole log i x k) is)) (take_or x)) in
    snoc_takes 0 0 log legal (omega arith)
