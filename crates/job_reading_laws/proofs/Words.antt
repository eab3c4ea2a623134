-- Words of job files, and what they are read as.
use Rattle.std.proofs.Common.{◌≡◌, ◌⊎◌, inl, inr, ◌<◌, ◌≤◌, ◌+◌, ℕ, zero, suc, Bool, true, false, cond, not, ◌==◌, ◌&&◌, List, [], ◌∷◌, ◌++◌, length, length-append, take, drop, get_or, refl, sym, ap, ◌∙◌, subst, arith, Option, None, Some, Result, Ok, Err, nat_le, nat_lt, ltb, position, bytes_eq, Contains, slice_get}
use Rattle.std.specs.List.{position_or_len, list_all}
use Rattle.std.specs.Str.Parse.{digits_value}
use Rattle.std.proofs.lemmas.Bool.{cases_Bool, ltb-true, ltb-false, lt-ltb, le-ltb, leb-true, leb-false, eqb-true, ne_eqb, and_parts}
use Rattle.std.proofs.lemmas.Option.{cond_some, slice_get-get_or, get_or_from_slice_get, slice_get_within}
use Rattle.std.proofs.lemmas.List.{take_at, drop_at, get_or-take, length-take-le}
use Rattle.std.proofs.lemmas.List.Elements.{All-push}
use Rattle.std.proofs.lemmas.List.Quantifiers.{position-Some}
use Rattle.std.proofs.lemmas.List.Sums.{split_at_first, position_or_len_is, fails_before_first, passes_at_first}
use Rattle.std.proofs.lemmas.Slice.Eq.{bytes_eq-Decides}
use Rattle.byte_ends.specs.Text.{IsNumber}
use Rattle.script_words.specs.declared.Kind.TheVariants as kind
use Rattle.script_words.specs.Words.{Word, Row, is_digit, is_number, has_name_form, is_reserved}
use Rattle.script_words.specs.Words as word
use Rattle.script_words.specs.declared.limits.TheConstants.{LONGEST_NAME}
use Rattle.script_words.proofs.Numbers.{is_number-decides}
use Rattle.script_laws.specs.Grammar.{IsName, IsFor, IsCalled, AreNames}
use Rattle.script_laws.proofs.Reading.{name_read, number_read}
use Rattle.fault_laws.proofs.Words.{not_both, form_known, form_passes}
use Rattle.job_plans.specs.declared.Stage.{Stage}
use Rattle.job_plans.specs.Files.{IsStage}
use Rattle.job_files.specs.declared.faults.JobKind.{JobKind}
use Rattle.job_files.specs.declared.faults.JobKind.TheVariants.{BadNumber, NoSuchNode, LongName, UnknownWord}
use Rattle.job_files.specs.MethodReading.{◌>>=◌, as_number, number_in, status, node, stage_cut, at_sign, stage, as_name, name, number_of}
use Rattle.job_reading_laws.specs.Grammar.{SpellsStage}
use Rattle.job_reading_laws.specs.Faults.{IsNoName, IsStatus, AreNoHalves, IsNoStage}
use Rattle.fault_laws.proofs.Tells.{Tells, tells_ok, tells_err, tells_choice, tells_weaker}
use Rattle.job_reading_laws.proofs.Results.{tells_next}

-- ---- numbers
no_length : (w : Word) → IsNumber w → length w ≡ 0 → ⊥
no_length w n e = omega (arith, n.some, e)

pub number_told : (w : Word) → Tells (number_in w) (λ n. IsFor w n) (λ k. (k ≡ BadNumber) × ¬ IsNumber w)
unfolding word.number
number_told w = go (length w == 0) refl (is_number w) refl
  where
    go : (b : Bool) → (length w == 0) ≡ b → (c : Bool) → is_number w ≡ c
        → Tells (as_number (cond b (Err kind.UnknownWord) (cond c (Ok (digits_value 10 w)) (Err kind.BadNumber)))) (λ n. IsFor w n) (λ k. (k ≡ BadNumber) × ¬ IsNumber w)
    go true e c f = tells_err BadNumber _ _ (refl, λ n. no_length w n (eqb-true (length w) 0 e))
    go false e true f = tells_ok (digits_value 10 w) _ _ ((is_number-decides w).0 f, refl)
    go false e false f = tells_err BadNumber _ _ (refl, λ n. not_both (is_number w) ((is_number-decides w).1 n) f)

pub status_told : (w : Word) → Tells (status w) (λ e. IsFor w e × (e < 256)) (λ k. (k ≡ BadNumber) × ¬ IsStatus w)
status_told w =
    tells_next (number_in w) _ (λ n. IsFor w n) (λ k. (k ≡ BadNumber) × ¬ IsNumber w) _ _ (number_told w)
    (λ n _ f. tells_choice (ltb n 256) _ _ _ _ (λ e. tells_ok n _ _ (f, ltb-true n 256 e)) (λ e. tells_err BadNumber _ _ (refl, λ s. let l = ltb-false n 256 e in let m = s.1 in let same = f.1 in omega (arith, l, m, same))))
    (λ k h. (h.0, λ s. h.1 s.0))

pub node_told : (nodes : ℕ) (w : Word) → Tells (node nodes w) (λ k. IsFor w k × (k < nodes)) (λ k. ((k ≡ BadNumber) × ¬ IsNumber w) ⊎ ((k ≡ NoSuchNode) × IsNumber w × (nodes ≤ digits_value 10 w)))
node_told nodes w =
    tells_next (number_in w) _ (λ n. IsFor w n) (λ k. (k ≡ BadNumber) × ¬ IsNumber w) _ _ (number_told w)
    (λ n _ f. tells_choice (ltb n nodes) _ _ _ _ (λ e. tells_ok n _ _ (f, ltb-true n nodes e)) (λ e. tells_err NoSuchNode _ _ (inr (refl, f.0, let l = ltb-false n nodes e in let same = f.1 in omega (arith, l, same)))))
    (λ k h. inl h)

pub number_is : (w : Word) (n : ℕ) → IsFor w n → number_in w ≡ Ok n
number_is w n f = ap as_number (number_read w n f)

pub number_bad : (w : Word) → ¬ IsNumber w → number_in w ≡ Err BadNumber
number_bad w bad = go (number_in w) refl (number_told w)
  where
    go : (r : Result ℕ JobKind) → number_in w ≡ r → Tells r (λ n. IsFor w n) (λ k. (k ≡ BadNumber) × ¬ IsNumber w) → number_in w ≡ Err BadNumber
    go (Ok n) e t = absurd (bad (t.ok n refl).0)
    go (Err k) e t = e ∙ ap (λ x. Err x) (t.err k refl).0

-- ---- the first place that passes
abbrev pub is_at : ℕ → Bool
is_at b = b == 64

pub first_place : {X : Type 0} (p : X → Bool) (xs ys : List X) (y : X) → ((k : ℕ) → k < length xs → p (get_or (xs ++ y ∷ ys) k y) ≡ false) → p y ≡ true → position p (xs ++ y ∷ ys) ≡ Some (length xs)
first_place p xs ys y none here =
    let many = length-append xs (y ∷ ys) in
    let there : length xs < length (xs ++ y ∷ ys) = omega (arith, many) in
    let is : position_or_len p (xs ++ y ∷ ys) ≡ length xs = position_or_len_is p (xs ++ y ∷ ys) (length xs) y (omega (arith, there)) none (λ l. ap p (at_seam xs ys y) ∙ here) in
    rw (is, lt-ltb (length xs) (length (xs ++ y ∷ ys)) there) refl
  where
    at_seam : {X : Type 0} (xs ys : List X) (y : X) → get_or (xs ++ y ∷ ys) (length xs) y ≡ y
    at_seam [] ys y = refl
    at_seam (x ∷ xs) ys y = at_seam xs ys y

pub no_place : {X : Type 0} (p : X → Bool) (xs : List X) (d : X) → position p xs ≡ None → (k : ℕ) → k < length xs → p (get_or xs k d) ≡ false
no_place p xs d e k l = go (ltb (position_or_len p xs) (length xs)) refl e
  where
    go : (b : Bool) → ltb (position_or_len p xs) (length xs) ≡ b → cond b (Some (position_or_len p xs)) None ≡ None → p (get_or xs k d) ≡ false
    go true e h = cc
    go false e h = fails_before_first p xs k d (let m = ltb-false (position_or_len p xs) (length xs) e in omega (arith, m, l))

pub none_there : {X : Type 0} (p : X → Bool) (xs : List X) (d : X) → ((k : ℕ) → k < length xs → p (get_or xs k d) ≡ false) → position p xs ≡ None
none_there p xs d none =
    let is : position_or_len p xs ≡ length xs = position_or_len_is p xs (length xs) d (omega arith) none (λ l. let no : ⊥ = omega (arith, l) in absurd no) in
    rw (is, le-ltb (length xs) (length xs) (omega arith)) refl

-- ---- stages
digit_at_sign : (b : ℕ) → is_digit b ≡ true → is_at b ≡ false
digit_at_sign b e = let p = and_parts (nat_le 48 b) (nat_le b 57) e in let m = leb-true b 57 p.1 in ne_eqb b 64 (λ h. omega (arith, m, h))

all_digits : (w : Word) (k d : ℕ) → list_all is_digit w ≡ true → k < length w → is_digit (get_or w k d) ≡ true
all_digits [] k d e l = let no : ⊥ = omega (arith, l) in absurd no
all_digits (b ∷ w) zero d e l = (and_parts (is_digit b) (list_all is_digit w) e).0
all_digits (b ∷ w) (suc k) d e l = all_digits w k d (and_parts (is_digit b) (list_all is_digit w) e).1 (omega (arith, l))

digits_in : (w : Word) → IsNumber w → list_all is_digit w ≡ true
unfolding is_number
digits_in w n =
    let a = and_parts (nat_lt 0 (length w) && nat_le (length w) 10 && list_all is_digit w) (nat_lt (digits_value 10 w) 4294967296) ((is_number-decides w).1 n) in
    (and_parts (nat_lt 0 (length w) && nat_le (length w) 10) (list_all is_digit w) a.0).1

left_of : (xs ys : Word) (y k d : ℕ) → k < length xs → get_or (xs ++ y ∷ ys) k d ≡ get_or xs k d
left_of [] ys y k d l = let no : ⊥ = omega (arith, l) in absurd no
left_of (x ∷ xs) ys y zero d l = refl
left_of (x ∷ xs) ys y (suc k) d l = left_of xs ys y k d (omega (arith, l))

-- no number has an `@`
number_free : (w : Word) → IsNumber w → ¬ Contains w 64
number_free w n c =
    let digit = all_digits w c.0 64 (digits_in w n) c.1 in
    let no : is_at (get_or w c.0 64) ≡ false = digit_at_sign (get_or w c.0 64) digit in
    not_both (is_at (get_or w c.0 64)) (ap is_at c.2) no

-- a word is cut at its first `@`
pub cut_at : (s n : Word) → ¬ Contains s 64 → at_sign (s ++ 64 ∷ n) ≡ Some (length s)
cut_at s n free = first_place is_at s n 64 (λ k l. ap is_at (left_of s n 64 k 64 l) ∙ other k l) refl
  where
    other : (k : ℕ) → k < length s → is_at (get_or s k 64) ≡ false
    other k l = ne_eqb (get_or s k 64) 64 (λ e. free (k, l, e))

pub cut_is : (nodes : ℕ) (s n : Word) → ¬ Contains s 64 → stage nodes (s ++ 64 ∷ n) ≡ (status s >>= λ e. (node nodes n >>= λ k. Ok (record { status = e; node = record { 0 = k } })))
cut_is nodes s n free =
    let w : Word = s ++ 64 ∷ n in
    let front : take (length s) w ≡ s = take_at s (64 ∷ n) (length s) refl in
    let back : drop (length s + 1) w ≡ n = behind s n in
    ap (stage_cut nodes w) (cut_at s n free) ∙ rw (front, back) refl
  where
    behind : (s n : Word) → drop (length s + 1) (s ++ 64 ∷ n) ≡ n
    behind s n = ap (drop (length s + 1)) (sym (together s n)) ∙ drop_at (s ++ 64 ∷ []) n (length s + 1) (length-append s (64 ∷ []))
      where
        together : (s n : Word) → (s ++ 64 ∷ []) ++ n ≡ s ++ 64 ∷ n
        together [] n = refl
        together (b ∷ s) n = ap (λ (x : Word). b ∷ x) (together s n)

halves_told : (nodes : ℕ) (s n : Word) → Tells (status s >>= λ e. (node nodes n >>= λ k. Ok (record { status = e; node = record { 0 = k } }))) (λ stage. IsFor s stage.status × IsFor n stage.node.0 × IsStage nodes stage) (AreNoHalves nodes s n)
halves_told nodes s n =
    tells_next (status s) _ (λ e. IsFor s e × (e < 256)) (λ k. (k ≡ BadNumber) × ¬ IsStatus s) _ _ (status_told s)
    (λ e _ f. tells_next (node nodes n) _ (λ k. IsFor n k × (k < nodes)) (λ k. ((k ≡ BadNumber) × ¬ IsNumber n) ⊎ ((k ≡ NoSuchNode) × IsNumber n × (nodes ≤ digits_value 10 n))) _ _ (node_told nodes n)
    (λ k _ g. tells_ok _ _ _ (f.0, g.0, (f.1, g.1)))
    (λ k h. behind e f k h))
    (λ k h. inl h)
  where
    behind : (e : ℕ) → IsFor s e × (e < 256) → (k : JobKind) → ((k ≡ BadNumber) × ¬ IsNumber n) ⊎ ((k ≡ NoSuchNode) × IsNumber n × (nodes ≤ digits_value 10 n)) → AreNoHalves nodes s n k
    behind e f k h =
        let small : digits_value 10 s < 256 = let a = f.0.1 in let b = f.1 in omega (arith, a, b) in
        elim h [ inl x ↦ inr (inl (x.0, (f.0.0, small), x.1)) | inr x ↦ inr (inr (x.0, (f.0.0, small), x.1, x.2)) ]

-- what stands before the first `@` and behind it
parted : (w : Word) (i : ℕ) → at_sign w ≡ Some i → (front back : Word) × (w ≡ front ++ 64 ∷ back) × (¬ Contains front 64)
parted w i e = (take (position_or_len is_at w) w, drop (position_or_len is_at w + 1) w, whole, free)
  where
    within : position_or_len is_at w < length w
    within = ltb-true (position_or_len is_at w) (length w) (cond_some (ltb (position_or_len is_at w) (length w)) (position_or_len is_at w) i e).0

    whole : w ≡ take (position_or_len is_at w) w ++ 64 ∷ drop (position_or_len is_at w + 1) w
    whole = split_at_first is_at w 64 within ∙ ap (λ b. take (position_or_len is_at w) w ++ b ∷ drop (position_or_len is_at w + 1) w) (eqb-true _ 64 (passes_at_first is_at w 64 within))

    shorter : (k : ℕ) → k < length (take (position_or_len is_at w) w) → k < position_or_len is_at w
    shorter k l = let many = length-take-le (position_or_len is_at w) w (omega (arith, within)) in omega (arith, l, many)

    free : ¬ Contains (take (position_or_len is_at w) w) 64
    free c = not_both (is_at (get_or w c.0 64)) (ap is_at (sym (get_or-take (position_or_len is_at w) w c.0 64 (shorter c.0 c.1)) ∙ c.2)) (fails_before_first is_at w c.0 64 (shorter c.0 c.1))

pub stage_told : (nodes : ℕ) (w : Word) → Tells (stage nodes w) (λ s. SpellsStage w s × IsStage nodes s) (IsNoStage nodes w)
stage_told nodes w = go (at_sign w) refl
  where
    go : (o : Option ℕ) → at_sign w ≡ o → Tells (stage nodes w) (λ s. SpellsStage w s × IsStage nodes s) (IsNoStage nodes w)
    go None e = subst (λ (r : Result Stage JobKind). Tells r (λ s. SpellsStage w s × IsStage nodes s) (IsNoStage nodes w)) (sym (ap (stage_cut nodes w) e))
        (tells_err UnknownWord _ _ (inl (refl, λ c. not_both (is_at (get_or w c.0 64)) (ap is_at c.2) (no_place is_at w 64 e c.0 c.1))))
    go (Some i) e =
        let p = parted w i e in
        subst (λ (r : Result Stage JobKind). Tells r (λ s. SpellsStage w s × IsStage nodes s) (IsNoStage nodes w)) (sym (ap (stage nodes) p.2 ∙ cut_is nodes p.0 p.1 p.3))
        (tells_weaker _ _ _ _ _ (halves_told nodes p.0 p.1) (λ s h. ((p.0, p.1, p.2, h.0, h.1), h.2)) (λ k h. inr (p.0, p.1, p.2, p.3, h)))

pub stage_is : (nodes : ℕ) (w : Word) (s : Stage) → SpellsStage w s → IsStage nodes s → stage nodes w ≡ Ok s
stage_is nodes w s h is =
    ap (stage nodes) h.2 ∙ cut_is nodes h.0 h.1 (number_free h.0 h.3.0)
    ∙ rw (number_is h.0 s.status h.3, lt-ltb s.status 256 is.0, number_is h.1 s.node.0 h.4, lt-ltb s.node.0 nodes is.1) refl

-- ---- names
pub name_told : (w : Word) → Tells (name w) (λ u. IsName w) (IsNoName w)
unfolding word.name
name_told w = go (has_name_form w && not (is_reserved w)) refl (nat_le (length w) LONGEST_NAME) refl
  where
    go : (b : Bool) → (has_name_form w && not (is_reserved w)) ≡ b → (c : Bool) → nat_le (length w) LONGEST_NAME ≡ c
        → Tells (as_name (cond b (cond c (Ok tt) (Err kind.LongName)) (Err kind.UnknownWord))) (λ u. IsName w) (IsNoName w)
    go true e true f = tells_ok tt _ _ (record { form = form_known w e; few = leb-true (length w) LONGEST_NAME f })
    go true e false f = tells_err LongName _ _ (inr (refl, form_known w e, leb-false (length w) LONGEST_NAME f))
    go false e c f = tells_err UnknownWord _ _ (inl (refl, λ n. not_both _ (form_passes w n) e))

pub name_is : (w : Word) → IsName w → name w ≡ Ok tt
name_is w n = ap as_name (name_read w n)

-- ---- the numbers of names
same_word : (a b : Word) → bytes_eq a b ≡ true → a ≡ b
same_word a b e = (bytes_eq-Decides a b).0 e

pub called : (names : List Word) (w : Word) (j : ℕ) → number_of names w ≡ Some j → IsCalled names w j
called names w j e =
    let there = position-Some (λ n. bytes_eq n w) names j [] e in
    slice_get-get_or names j [] there.0 ∙ ap Some (same_word (get_or names j []) w there.1)

pub uncalled : (names : List Word) (w : Word) → number_of names w ≡ None → ¬ Contains names w
uncalled names w e c = not_both (bytes_eq (get_or names c.0 w) w) ((bytes_eq-Decides (get_or names c.0 w) w).1 c.2) (no_place (λ n. bytes_eq n w) names w e c.0 c.1)

pub no_number : (names : List Word) (w : Word) → ¬ Contains names w → number_of names w ≡ None
no_number names w free = none_there (λ n. bytes_eq n w) names w other
  where
    other : (k : ℕ) → k < length names → bytes_eq (get_or names k w) w ≡ false
    other k l = elim (cases_Bool (bytes_eq (get_or names k w) w)) [ inl e ↦ absurd (free (k, l, same_word (get_or names k w) w e)) | inr e ↦ e ]

pub contained : (names : List Word) (w : Word) (j : ℕ) → IsCalled names w j → Contains names w
contained names w j e = let l = slice_get_within names j w e in (j, l, get_or_from_slice_get names j w w e)

-- the number of a name, where no name stands twice
pub number_called : (names : List Word) (w : Word) (j : ℕ) → AreNames names → IsCalled names w j → number_of names w ≡ Some j
number_called names w j are c =
    let l = slice_get_within names j w c in
    let here : get_or names j w ≡ w = get_or_from_slice_get names j w w c in
    let is : position_or_len (λ n. bytes_eq n w) names ≡ j = position_or_len_is (λ n. bytes_eq n w) names j w (omega (arith, l)) earlier (λ _. (bytes_eq-Decides (get_or names j w) w).1 here) in
    rw (is, lt-ltb j (length names) l) refl
  where
    earlier : (k : ℕ) → k < j → bytes_eq (get_or names k w) w ≡ false
    earlier k l = elim (cases_Bool (bytes_eq (get_or names k w) w)) [ inl e ↦ absurd (twice k l e) | inr e ↦ e ]
      where
        twice : (k : ℕ) → k < j → bytes_eq (get_or names k w) w ≡ true → ⊥
        twice k l e =
            let within = slice_get_within names j w c in
            let there : IsCalled names w k = slice_get-get_or names k w (omega (arith, l, within)) ∙ ap Some (same_word (get_or names k w) w e) in
            let same = are.1 w k j there c in
            omega (arith, same, l)

-- one name more
pub names_push : (names : List Word) (w : Word) → AreNames names → IsName w → ¬ Contains names w → AreNames (names ++ w ∷ [])
names_push names w are named free = (All-push IsName names w are.0 named, one)
  where
    place : (v : Word) (a : ℕ) → IsCalled (names ++ w ∷ []) v a → (IsCalled names v a) ⊎ ((a ≡ length names) × (v ≡ w))
    place v a e = go names a e
      where
        go : (xs : List Word) (i : ℕ) → slice_get (xs ++ w ∷ []) i ≡ Some v → (slice_get xs i ≡ Some v) ⊎ ((i ≡ length xs) × (v ≡ w))
        go [] zero h = let same : w ≡ v = cc in inr (refl, sym same)
        go [] (suc i) h = cc
        go (x ∷ xs) zero h = inl h
        go (x ∷ xs) (suc i) h = elim (go xs i h) [ inl k ↦ inl k | inr k ↦ inr (ap suc k.0, k.1) ]

    one : (v : Word) (a b : ℕ) → IsCalled (names ++ w ∷ []) v a → IsCalled (names ++ w ∷ []) v b → a ≡ b
    one v a b e f = go (place v a e) (place v b f)
      where
        go : (IsCalled names v a) ⊎ ((a ≡ length names) × (v ≡ w)) → (IsCalled names v b) ⊎ ((b ≡ length names) × (v ≡ w)) → a ≡ b
        go (inl x) (inl y) = are.1 v a b x y
        go (inl x) (inr y) = absurd (free (contained names w a (subst (λ (u : Word). IsCalled names u a) y.1 x)))
        go (inr x) (inl y) = absurd (free (contained names w b (subst (λ (u : Word). IsCalled names u b) x.1 y)))
        go (inr x) (inr y) = x.0 ∙ sym y.0
