-- The stages of a file and their first stages, split between two lines.
use Rattle.std.proofs.Common.{◌≡◌, ◌⊎◌, inl, inr, ◌<◌, ◌≤◌, ◌+◌, ℕ, List, [], ◌∷◌, ◌++◌, length, refl, sym, ap, ◌∙◌, arith, append_assoc, length-append, Option, None, Some, slice_get}
use Rattle.std.specs.Prelude.{map}
use Rattle.job_plans.specs.declared.Stage.{Stage}
use Rattle.job_plans.specs.declared.Job.{Job}
use Rattle.job_plans.specs.declared.JobLine.{JobLine}
use Rattle.job_plans.specs.declared.JobFile.{JobFile}
use Rattle.job_plans.specs.Plans.{stages_started, all_stages, firsts_from, number_or, status_in, stages_in_all, plan_of}
use Rattle.job_laws.proofs.Lists.{get_append, get_left, get_right, get_same, only_same}

length_same : {X : Type 0} (xs : List X) (n : ℕ) → length (map (λ x. n) xs) ≡ length xs
length_same [] n = refl
length_same (x ∷ xs) n = omega (arith, length_same xs n)

-- each stage has a first one
pub firsts_length : (jobs : List Job) (n : ℕ) (lines : List JobLine) → length (firsts_from jobs n lines) ≡ length (all_stages jobs lines)
firsts_length jobs n [] = refl
firsts_length jobs n (line ∷ lines) =
    let here = stages_started jobs line in
    length-append (map (λ s. n) here) (firsts_from jobs (n + length here) lines)
    ∙ ap (λ k. k + length (firsts_from jobs (n + length here) lines)) (length_same here n)
    ∙ ap (λ k. length here + k) (firsts_length jobs (n + length here) lines)
    ∙ sym (length-append here (all_stages jobs lines))

-- the first stage of a stage is not behind it, and not before the lines that start it
pub firsts_within : (jobs : List Job) (n : ℕ) (lines : List JobLine) (i x : ℕ) → slice_get (firsts_from jobs n lines) i ≡ Some x → (n ≤ x) × (x ≤ n + i)
firsts_within jobs n [] i x e = cc
firsts_within jobs n (line ∷ lines) i x e = go (λ k h. firsts_within jobs (n + length here) lines k x h) (get_append (map (λ s. n) here) (firsts_from jobs (n + length here) lines) i x e)
  where
    here : List Stage
    here = stages_started jobs line

    go : ((k : ℕ) → slice_get (firsts_from jobs (n + length here) lines) k ≡ Some x → (n + length here ≤ x) × (x ≤ n + length here + k)) → ((i < length (map (λ s. n) here)) × (slice_get (map (λ s. n) here) i ≡ Some x)) ⊎ ((k : ℕ) × (i ≡ length (map (λ s. n) here) + k) × (slice_get (firsts_from jobs (n + length here) lines) k ≡ Some x)) → (n ≤ x) × (x ≤ n + i)
    go more (inl h) = let e = only_same here n i x h.1 in (omega (arith, e), omega (arith, e))
    go more (inr h) =
        let r = more h.0 h.2 in
        let e = h.1 ∙ ap (λ k. k + h.0) (length_same here n) in
        (omega (arith, r.0), omega (arith, r.1, e))

-- behind some lines: what was started before, and what the other lines start
pub record Stands (file : JobFile) (n : ℕ) (rest : List JobLine) : Type 0 where
  pub front : List ℕ
  pub firsts : firsts_from file.jobs 0 file.lines ≡ front ++ firsts_from file.jobs n rest
  pub front_is : length front ≡ n
  pub ahead : List Stage
  pub stages : stages_in_all file ≡ ahead ++ all_stages file.jobs rest
  pub ahead_is : length ahead ≡ n

pub stands_first : (file : JobFile) → Stands file 0 file.lines
stands_first file = record { front = []; firsts = refl; front_is = refl; ahead = []; stages = refl; ahead_is = refl }

pub stands_next : (file : JobFile) (n : ℕ) (line : JobLine) (rest : List JobLine) → Stands file n (line ∷ rest) → Stands file (n + length (stages_started file.jobs line)) rest
stands_next file n line rest s =
    let here = stages_started file.jobs line in record {
      front = s.front ++ map (λ s. n) here;
      firsts = s.firsts ∙ sym (append_assoc s.front (map (λ s. n) here) (firsts_from file.jobs (n + length here) rest));
      front_is = length-append s.front (map (λ s. n) here) ∙ ap (λ k. k + length (map (λ s. n) here)) s.front_is ∙ ap (λ k. n + k) (length_same here n);
      ahead = s.ahead ++ here;
      stages = s.stages ∙ sym (append_assoc s.ahead here (all_stages file.jobs rest));
      ahead_is = length-append s.ahead here ∙ ap (λ k. k + length here) s.ahead_is;
    }

module _ (file : JobFile) (n : ℕ) (line : JobLine) (rest : List JobLine) (s : Stands file n (line ∷ rest)) where
  abbrev here : List Stage
  here = stages_started file.jobs line

  pub count_more : n + length here ≤ (plan_of file).count
  count_more =
      let e = ap length s.stages ∙ length-append s.ahead (here ++ all_stages file.jobs rest) ∙ ap (λ k. k + length (here ++ all_stages file.jobs rest)) s.ahead_is in
      let f = length-append here (all_stages file.jobs rest) in
      omega (arith, e, f)

  -- the stages that the line starts
  pub first_here : (i : ℕ) → i < length here → (plan_of file).first (n + i) ≡ n
  first_here i l =
      let place : length s.front + i ≡ n + i = ap (λ k. k + i) s.front_is in
      let short : i < length (map (λ s. n) here) = omega (arith, l, length_same here n) in
      ap (number_or (n + i)) (ap (λ (fs : List ℕ). slice_get fs (n + i)) s.firsts
      ∙ ap (slice_get (s.front ++ firsts_from file.jobs n (line ∷ rest))) (sym place)
      ∙ get_right s.front (firsts_from file.jobs n (line ∷ rest)) i
      ∙ get_left (map (λ s. n) here) (firsts_from file.jobs (n + length here) rest) i short
      ∙ get_same here n i l)

  pub status_here : (i : ℕ) (stage : Stage) → slice_get here i ≡ Some stage → i < length here → (slice_get (stages_in_all file) (n + i) ≡ Some stage) × ((plan_of file).status (n + i) ≡ stage.status)
  status_here i stage e l =
      let place : length s.ahead + i ≡ n + i = ap (λ k. k + i) s.ahead_is in
      let found : slice_get (stages_in_all file) (n + i) ≡ Some stage = ap (λ (fs : List Stage). slice_get fs (n + i)) s.stages
      ∙ ap (slice_get (s.ahead ++ all_stages file.jobs (line ∷ rest))) (sym place)
      ∙ get_right s.ahead (all_stages file.jobs (line ∷ rest)) i
      ∙ get_left here (all_stages file.jobs rest) i l
      ∙ e in
      (found, ap status_in found)

-- the first stage of any stage is not behind it
pub first_below : (file : JobFile) (u : ℕ) → (plan_of file).first u ≤ u
first_below file u = go (slice_get (firsts_from file.jobs 0 file.lines) u) refl
  where
    go : (o : Option ℕ) → slice_get (firsts_from file.jobs 0 file.lines) u ≡ o → number_or u o ≤ u
    go None e = omega arith
    go (Some x) e = omega (arith, (firsts_within file.jobs 0 file.lines u x e).1)

-- the first stage of a stage that is not forked yet is not forked yet
pub first_behind : (file : JobFile) (n : ℕ) (rest : List JobLine) → Stands file n rest → (u : ℕ) → n ≤ u → n ≤ (plan_of file).first u
first_behind file n rest s u l = go (slice_get (firsts_from file.jobs 0 file.lines) u) refl
  where
    part : (x : ℕ) → ((u < length s.front) × (slice_get s.front u ≡ Some x)) ⊎ ((k : ℕ) × (u ≡ length s.front + k) × (slice_get (firsts_from file.jobs n rest) k ≡ Some x)) → n ≤ x
    part x (inl h) = let no : ⊥ = omega (arith, l, h.0, s.front_is) in absurd no
    part x (inr h) = (firsts_within file.jobs n rest h.0 x h.2).0

    go : (o : Option ℕ) → slice_get (firsts_from file.jobs 0 file.lines) u ≡ o → n ≤ number_or u o
    go None e = l
    go (Some x) e = part x (get_append s.front (firsts_from file.jobs n rest) u x (ap (λ (fs : List ℕ). slice_get fs u) (sym s.firsts) ∙ e))
