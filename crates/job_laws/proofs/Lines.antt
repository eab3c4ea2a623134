-- Where the stages of a job file stand between two of its lines, and what a line makes of them.
use Rattle.std.proofs.Common.{◌≡◌, ◌≢◌, ◌==◌, ◌⊎◌, inl, inr, ◌<◌, ◌≤◌, ◌+◌, ℕ, Bool, true, false, cond, List, length, refl, sym, ap, ◌∙◌, subst, arith}
use Rattle.std.proofs.lemmas.Bool.{eqb-true, eq-eqb, cases_order}
use Rattle.unix_names.specs.declared.Signal.{Signal}
use Rattle.unix_names.specs.declared.Signal.TheVariants as signal
use Rattle.job_plans.specs.declared.JobLine.{JobLine}
use Rattle.job_plans.specs.declared.JobFile.{JobFile}
use Rattle.job_plans.specs.Acts.{Send}
use Rattle.job_plans.specs.declared.Phase.{Phase}
use Rattle.job_plans.specs.declared.Phase.TheVariants.{Idle, Background, Done}
use Rattle.job_plans.specs.Files.{put_at, stages_of}
use Rattle.job_plans.specs.Plans.{Plan, plan_of, first_of, first_from}
use Rattle.job_laws.specs.Orders.{Mark, Absent, Reaped, Marks, sent_mark, is_held, IsWhole, after_act, IsGoing, IsLoosed}
use Rattle.job_laws.proofs.Shell.{put_same, put_other, cases_same}

-- a number is in an interval, or out of it
abbrev pub IsIn : ℕ → ℕ → ℕ → Type 0
IsIn first size u = (first ≤ u) × (u < first + size)

abbrev pub IsOut : ℕ → ℕ → ℕ → Type 0
IsOut first size u = (u < first) ⊎ (first + size ≤ u)

pub in_or_out : (first size u : ℕ) → IsIn first size u ⊎ IsOut first size u
in_or_out first size u = go (cases_order u first) (cases_order u (first + size))
  where
    go : ((u ≡ first) ⊎ ((u < first) ⊎ (first < u))) → ((u ≡ first + size) ⊎ ((u < first + size) ⊎ (first + size < u))) → IsIn first size u ⊎ IsOut first size u
    go (inr (inl l)) d = inr (inl l)
    go c (inl e) = inr (inr (omega (arith, e)))
    go c (inr (inr g)) = inr (inr (omega (arith, g)))
    go (inl e) (inr (inl l)) = inl (omega (arith, e), l)
    go (inr (inr g)) (inr (inl l)) = inl (omega (arith, g), l)

pub not_both : (first size u : ℕ) → IsIn first size u → IsOut first size u → ⊥
not_both first size u i (inl l) = omega (arith, i.0, l)
not_both first size u i (inr l) = omega (arith, i.1, l)

-- the mark of a stage whose job is so far
abbrev pub IsMarked : Phase → Mark → Type 0
IsMarked Idle m = ⊥
IsMarked Background m = IsGoing m
IsMarked Done m = m ≡ Reaped

marked_loosed : (phase : Phase) (m : Mark) → IsMarked phase m → IsLoosed m
marked_loosed Idle m h = absurd h
marked_loosed Background m h = inl h
marked_loosed Done m h = inr h

marked_held : (phase : Phase) (m : Mark) → IsMarked phase m → is_held m ≡ true → phase ≡ Background
marked_held Idle m h k = absurd h
marked_held Background m h k = refl
marked_held Done m h k = let no : false ≡ true = sym (ap is_held h) ∙ k in cc

going_held : (m : Mark) → IsGoing m → is_held m ≡ true
going_held m h = ap is_held h.1

module _ (file : JobFile) where
  abbrev pub plan : Plan
  plan = plan_of file

  abbrev pub first : ℕ → ℕ
  first j = first_of file j

  abbrev pub size : ℕ → ℕ
  size j = length (stages_of file.jobs j)

  -- the stages of a job are those with its first stage, all forked already
  pub record IsBlock (n j : ℕ) : Type 0 where
    pub some : 1 ≤ size j
    pub below : first j + size j ≤ n
    pub own : (u : ℕ) → IsIn (first j) (size j) u → plan.first u ≡ first j
    pub only : (u : ℕ) → plan.first u ≡ first j → IsIn (first j) (size j) u

  -- behind some lines, where so many stages were forked
  pub record Between (phase : ℕ → Phase) (n : ℕ) (rest : List JobLine) (marks : Marks) : Type 0 where
    pub fresh : (j : ℕ) → phase j ≡ Idle → first j ≡ first_from file.jobs n rest j
    pub few : n ≤ plan.count
    pub absent : (u : ℕ) → n ≤ u → marks u ≡ Absent
    pub loosed : (u : ℕ) → u < n → IsLoosed (marks u)
    pub block : (j : ℕ) → phase j ≡ Background → IsBlock n j
    pub going : (j : ℕ) → phase j ≡ Background → (u : ℕ) → IsIn (first j) (size j) u → IsGoing (marks u)
    pub held : (u : ℕ) → is_held (marks u) ≡ true → (j : ℕ) × (phase j ≡ Background) × IsIn (first j) (size j) u
    pub apart : (i j : ℕ) → phase i ≡ Background → phase j ≡ Background → first i ≡ first j → i ≡ j

  -- a first stage is held as long as a stage of its job
  pub whole : (phase : ℕ → Phase) (n : ℕ) (rest : List JobLine) (marks : Marks) → Between phase n rest marks → IsWhole plan marks
  whole phase n rest marks b = λ u h.
      let k = b.held u h in
      let block = b.block k.0 k.1 in
      let e = block.own u k.2 in
      subst (λ x. is_held (marks x) ≡ true) (sym e) (going_held (marks (first k.0)) (b.going k.0 k.1 (first k.0) (omega arith, omega (arith, block.some))))

  -- a line changes the stages of one job alone, which may be forked by it
  module _ (phase : ℕ → Phase) (n n' : ℕ) (rest rest' : List JobLine) (marks marks' : Marks) (j : ℕ) (now : Phase)
      (b : Between phase n rest marks) (block : IsBlock n' j) (more : n ≤ n') (most : n' ≤ plan.count)
      (inside : (u : ℕ) → IsIn (first j) (size j) u → IsMarked now (marks' u))
      (outside : (u : ℕ) → IsOut (first j) (size j) u → marks' u ≡ marks u)
      (forked : (u : ℕ) → n ≤ u → u < n' → IsIn (first j) (size j) u)
      (others : (i : ℕ) → i ≢ j → phase i ≡ Background → first i ≢ first j)
      (fresh : (i : ℕ) → i ≢ j → phase i ≡ Idle → first i ≡ first_from file.jobs n' rest' i)
      (idle : now ≢ Idle) where
    abbrev after : ℕ → Phase
    after = put_at j now phase

    was : (i : ℕ) (p : Phase) → i ≢ j → after i ≡ p → phase i ≡ p
    was i p ne e = sym (put_other j i now phase ne) ∙ e

    is_now : (i : ℕ) (p : Phase) → i ≡ j → after i ≡ p → now ≡ p
    is_now i p same e = sym (put_same j now phase) ∙ sym (ap after same) ∙ e

    apart_out : (i u : ℕ) → i ≢ j → phase i ≡ Background → IsIn (first i) (size i) u → IsOut (first j) (size j) u
    apart_out i u ne e k = go (in_or_out (first j) (size j) u)
      where
        go : IsIn (first j) (size j) u ⊎ IsOut (first j) (size j) u → IsOut (first j) (size j) u
        go (inl m) = absurd (others i ne e (sym ((b.block i e).own u k) ∙ block.own u m))
        go (inr o) = o

    pub changed : Between after n' rest' marks'
    changed = record {
      fresh = λ i e. is_fresh i e (cases_same i j);
      few = most;
      absent = λ u l. is_absent u l (in_or_out (first j) (size j) u);
      loosed = λ u l. is_loosed u l (in_or_out (first j) (size j) u);
      block = λ i e. is_block i e (cases_same i j);
      going = λ i e u k. is_going i e u k (cases_same i j);
      held = λ u h. is_held_by u h (in_or_out (first j) (size j) u);
      apart = λ i k e f same. are_one i k e f same (cases_same i j) (cases_same k j);
    }
      where
        is_fresh : (i : ℕ) → after i ≡ Idle → (i ≡ j) ⊎ (i ≢ j) → first i ≡ first_from file.jobs n' rest' i
        is_fresh i e (inl same) = absurd (idle (is_now i Idle same e))
        is_fresh i e (inr ne) = fresh i ne (was i Idle ne e)

        is_absent : (u : ℕ) → n' ≤ u → IsIn (first j) (size j) u ⊎ IsOut (first j) (size j) u → marks' u ≡ Absent
        is_absent u l (inl k) = let no : ⊥ = omega (arith, l, k.1, block.below) in absurd no
        is_absent u l (inr o) = outside u o ∙ b.absent u (omega (arith, l, more))

        is_loosed : (u : ℕ) → u < n' → IsIn (first j) (size j) u ⊎ IsOut (first j) (size j) u → IsLoosed (marks' u)
        is_loosed u l (inl k) = marked_loosed now (marks' u) (inside u k)
        is_loosed u l (inr o) = subst IsLoosed (sym (outside u o)) (b.loosed u (old (cases_order u n)))
          where
            old : ((u ≡ n) ⊎ ((u < n) ⊎ (n < u))) → u < n
            old (inr (inl m)) = m
            old (inl m) = absurd (not_both (first j) (size j) u (forked u (omega (arith, m)) l) o)
            old (inr (inr m)) = absurd (not_both (first j) (size j) u (forked u (omega (arith, m)) l) o)

        is_block : (i : ℕ) → after i ≡ Background → (i ≡ j) ⊎ (i ≢ j) → IsBlock n' i
        is_block i e (inl same) = subst (IsBlock n') (sym same) block
        is_block i e (inr ne) = let old = b.block i (was i Background ne e) in record { some = old.some; below = omega (arith, old.below, more); own = old.own; only = old.only }

        is_going : (i : ℕ) → after i ≡ Background → (u : ℕ) → IsIn (first i) (size i) u → (i ≡ j) ⊎ (i ≢ j) → IsGoing (marks' u)
        is_going i e u k (inl same) = subst (λ (p : Phase). IsMarked p (marks' u)) (is_now i Background same e) (inside u (subst (λ x. IsIn (first x) (size x) u) same k))
        is_going i e u k (inr ne) = let old = was i Background ne e in subst IsGoing (sym (outside u (apart_out i u ne old k))) (b.going i old u k)

        is_held_by : (u : ℕ) → is_held (marks' u) ≡ true → IsIn (first j) (size j) u ⊎ IsOut (first j) (size j) u → (i : ℕ) × (after i ≡ Background) × IsIn (first i) (size i) u
        is_held_by u h (inl k) = (j, put_same j now phase ∙ marked_held now (marks' u) (inside u k) h, k)
        is_held_by u h (inr o) =
            let old = b.held u (ap is_held (sym (outside u o)) ∙ h) in
            let ne : old.0 ≢ j = λ e. not_both (first j) (size j) u (subst (λ x. IsIn (first x) (size x) u) e old.2) o in
            (old.0, put_other j old.0 now phase ne ∙ old.1, old.2)

        are_one : (i k : ℕ) → after i ≡ Background → after k ≡ Background → first i ≡ first k → (i ≡ j) ⊎ (i ≢ j) → (k ≡ j) ⊎ (k ≢ j) → i ≡ k
        are_one i k e f same (inl a) (inl c) = a ∙ sym c
        are_one i k e f same (inl a) (inr c) = absurd (others k c (was k Background c f) (sym same ∙ ap first a))
        are_one i k e f same (inr a) (inl c) = absurd (others i a (was i Background a e) (same ∙ ap first c))
        are_one i k e f same (inr a) (inr c) = b.apart i k (was i Background a e) (was k Background c f) same

  -- ---- a signal to the stages of a job
  signalled : (s : Signal) (f u : ℕ) (marks : Marks) → plan.first u ≡ f → after_act plan.first (Send f s) marks u ≡ sent_mark s (marks u)
  signalled s f u marks e = go (plan.first u == f) (eq-eqb (plan.first u) f e)
    where
      go : (c : Bool) → c ≡ true → cond c (sent_mark s (marks u)) (marks u) ≡ sent_mark s (marks u)
      go true h = refl
      go false h = cc

  unsignalled : (s : Signal) (f u : ℕ) (marks : Marks) → plan.first u ≢ f → after_act plan.first (Send f s) marks u ≡ marks u
  unsignalled s f u marks ne = go (plan.first u == f) refl
    where
      go : (c : Bool) → (plan.first u == f) ≡ c → cond c (sent_mark s (marks u)) (marks u) ≡ marks u
      go true h = absurd (ne (eqb-true _ _ h))
      go false h = refl

  module _ (n j : ℕ) (marks : Marks) (block : IsBlock n j) (s : Signal) where
    abbrev sent : Marks
    sent = after_act plan.first (Send (first j) s) marks

    pub sent_in : (u : ℕ) → IsIn (first j) (size j) u → sent u ≡ sent_mark s (marks u)
    sent_in u k = signalled s (first j) u marks (block.own u k)

    pub sent_out : (u : ℕ) → IsOut (first j) (size j) u → sent u ≡ marks u
    sent_out u o = unsignalled s (first j) u marks (λ e. not_both (first j) (size j) u (block.only u e) o)

-- one of the three signals that the shell sends to stages that go
abbrev pub IsUsual : Signal → Type 0
IsUsual s = (s ≡ signal.Stop) ⊎ ((s ≡ signal.Cont) ⊎ (s ≡ signal.Term))

-- a stage that goes goes on
pub still_going : (s : Signal) (m : Mark) → IsUsual s → IsGoing m → IsGoing (sent_mark s m)
still_going s m (inl e) h = subst (λ (t : Signal). IsGoing (sent_mark t m)) (sym e) (subst (λ (k : Mark). IsGoing (sent_mark signal.Stop k)) (sym h.1) (h.0, refl))
still_going s m (inr (inl e)) h = subst (λ (t : Signal). IsGoing (sent_mark t m)) (sym e) (subst (λ (k : Mark). IsGoing (sent_mark signal.Cont k)) (sym h.1) (h.0, refl))
still_going s m (inr (inr e)) h = subst (λ (t : Signal). IsGoing (sent_mark t m)) (sym e) (subst (λ (k : Mark). IsGoing (sent_mark signal.Term k)) (sym h.1) (true, refl))
