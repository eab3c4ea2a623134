-- Blocks of a shell's steps: what they ask, and what marks they leave.
use Rattle.std.proofs.Common.{◌≡◌, ◌≢◌, ◌⊎◌, inl, inr, ◌<◌, ◌≤◌, ◌+◌, ℕ, true, List, [], ◌∷◌, ◌++◌, length, refl, sym, ap, ◌∙◌, subst, arith}
use Rattle.job_plans.specs.declared.Stage.{Stage}
use Rattle.job_plans.specs.Acts.{Act}
use Rattle.job_plans.specs.Files.{put_at}
use Rattle.job_plans.specs.Plans.{Plan, begun, joined, reaped}
use Rattle.job_laws.specs.Orders.{Absent, Born, Seen, Member, Reaped, Marks, is_held, IsWhole, after_act, marks_after, MayAct, IsOrderly, IsGoing}
use Rattle.job_laws.proofs.Shell.{put_same, put_other, cases_same, not_absent}

-- each step may be done where it stands
abbrev pub AreDone : Plan → List Act → Marks → Type 0
AreDone plan [] marks = Unit {0}
AreDone plan (a ∷ acts) marks = MayAct plan marks a × AreDone plan acts (after_act plan.first a marks)

pub orderly_append : (plan : Plan) (xs ys : List Act) (marks : Marks) → AreDone plan xs marks → IsOrderly plan ys (marks_after plan xs marks) → IsOrderly plan (xs ++ ys) marks
orderly_append plan [] ys marks d o = o
orderly_append plan (a ∷ xs) ys marks d o = (d.0, orderly_append plan xs ys (after_act plan.first a marks) d.1 o)

pub done_append : (plan : Plan) (xs ys : List Act) (marks : Marks) → AreDone plan xs marks → AreDone plan ys (marks_after plan xs marks) → AreDone plan (xs ++ ys) marks
done_append plan [] ys marks d e = e
done_append plan (a ∷ xs) ys marks d e = (d.0, done_append plan xs ys (after_act plan.first a marks) d.1 e)

pub marks_append : (plan : Plan) (xs ys : List Act) (marks : Marks) → marks_after plan (xs ++ ys) marks ≡ marks_after plan ys (marks_after plan xs marks)
marks_append plan [] ys marks = refl
marks_append plan (a ∷ xs) ys marks = marks_append plan xs ys (after_act plan.first a marks)

-- ---- waits for stages that were let go
pub reaps_done : (plan : Plan) (stages : List Stage) (v : ℕ) (marks : Marks) → ((u : ℕ) → v ≤ u → u < v + length stages → IsGoing (marks u)) → AreDone plan (reaped v stages) marks
reaps_done plan [] v marks h = tt
reaps_done plan (s ∷ stages) v marks h = (
  h v (omega arith) (omega arith),
  reaps_done plan stages (v + 1) (put_at v Reaped marks) (λ u l b. subst IsGoing (sym (put_other v u Reaped marks (omega (arith, l)))) (h u (omega (arith, l)) (omega (arith, b)))),
)

pub reaps_out : (plan : Plan) (stages : List Stage) (v : ℕ) (marks : Marks) (u : ℕ) → (u < v) ⊎ (v + length stages ≤ u) → marks_after plan (reaped v stages) marks u ≡ marks u
reaps_out plan [] v marks u o = refl
reaps_out plan (s ∷ stages) v marks u (inl l) = reaps_out plan stages (v + 1) (put_at v Reaped marks) u (inl (omega (arith, l))) ∙ put_other v u Reaped marks (omega (arith, l))
reaps_out plan (s ∷ stages) v marks u (inr l) = reaps_out plan stages (v + 1) (put_at v Reaped marks) u (inr (omega (arith, l))) ∙ put_other v u Reaped marks (omega (arith, l))

pub reaps_in : (plan : Plan) (stages : List Stage) (v : ℕ) (marks : Marks) (u : ℕ) → v ≤ u → u < v + length stages → marks_after plan (reaped v stages) marks u ≡ Reaped
reaps_in plan [] v marks u l b = let no : ⊥ = omega (arith, l, b) in absurd no
reaps_in plan (s ∷ stages) v marks u l b = go (cases_same u v) (λ ne. reaps_in plan stages (v + 1) (put_at v Reaped marks) u (omega (arith, l, ne)) (omega (arith, b)))
  where
    go : (u ≡ v) ⊎ (u ≢ v) → (u ≢ v → marks_after plan (reaped (v + 1) stages) (put_at v Reaped marks) u ≡ Reaped) → marks_after plan (reaped (v + 1) stages) (put_at v Reaped marks) u ≡ Reaped
    go (inl e) more = reaps_out plan stages (v + 1) (put_at v Reaped marks) u (inl (omega (arith, e))) ∙ ap (put_at v Reaped marks) e ∙ put_same v Reaped marks
    go (inr ne) more = more ne

-- ---- stages that were seen stopped get their group
pub joins_done : (plan : Plan) (f : ℕ) (stages : List Stage) (v : ℕ) (marks : Marks) → plan.first f ≡ f → ((v ≡ f) ⊎ (marks f ≡ Member)) → f ≤ v → ((u : ℕ) → v ≤ u → u < v + length stages → (marks u ≡ Seen) × (f ≡ plan.first u)) → AreDone plan (joined f v stages) marks
joins_done plan f [] v marks own m le h = tt
joins_done plan f (s ∷ stages) v marks own m le h =
    let k = h v (omega arith) (omega arith) in (
      (k.0, k.1, first_in m),
      joins_done plan f stages (v + 1) (put_at v Member marks) own (inr (then_member m (cases_same f v))) (omega (arith, le))
          (λ u l b. let k = h u (omega (arith, l)) (omega (arith, b)) in (put_other v u Member marks (omega (arith, l)) ∙ k.0, k.1)),
    )
  where
    first_in : (v ≡ f) ⊎ (marks f ≡ Member) → (v ≡ f) ⊎ ((marks f ≡ Member) × (plan.first f ≡ f))
    first_in (inl e) = inl e
    first_in (inr e) = inr (e, own)

    then_member : (v ≡ f) ⊎ (marks f ≡ Member) → (f ≡ v) ⊎ (f ≢ v) → put_at v Member marks f ≡ Member
    then_member m (inl e) = ap (put_at v Member marks) e ∙ put_same v Member marks
    then_member (inl e) (inr ne) = absurd (ne (sym e))
    then_member (inr e) (inr ne) = put_other v f Member marks ne ∙ e

pub joins_out : (plan : Plan) (f : ℕ) (stages : List Stage) (v : ℕ) (marks : Marks) (u : ℕ) → (u < v) ⊎ (v + length stages ≤ u) → marks_after plan (joined f v stages) marks u ≡ marks u
joins_out plan f [] v marks u o = refl
joins_out plan f (s ∷ stages) v marks u (inl l) = joins_out plan f stages (v + 1) (put_at v Member marks) u (inl (omega (arith, l))) ∙ put_other v u Member marks (omega (arith, l))
joins_out plan f (s ∷ stages) v marks u (inr l) = joins_out plan f stages (v + 1) (put_at v Member marks) u (inr (omega (arith, l))) ∙ put_other v u Member marks (omega (arith, l))

pub joins_in : (plan : Plan) (f : ℕ) (stages : List Stage) (v : ℕ) (marks : Marks) (u : ℕ) → v ≤ u → u < v + length stages → marks_after plan (joined f v stages) marks u ≡ Member
joins_in plan f [] v marks u l b = let no : ⊥ = omega (arith, l, b) in absurd no
joins_in plan f (s ∷ stages) v marks u l b = go (cases_same u v) (λ ne. joins_in plan f stages (v + 1) (put_at v Member marks) u (omega (arith, l, ne)) (omega (arith, b)))
  where
    go : (u ≡ v) ⊎ (u ≢ v) → (u ≢ v → marks_after plan (joined f (v + 1) stages) (put_at v Member marks) u ≡ Member) → marks_after plan (joined f (v + 1) stages) (put_at v Member marks) u ≡ Member
    go (inl e) more = joins_out plan f stages (v + 1) (put_at v Member marks) u (inl (omega (arith, e))) ∙ ap (put_at v Member marks) e ∙ put_same v Member marks
    go (inr ne) more = more ne

-- ---- the stages of a job are forked, and seen stopped
abbrev both : ℕ → Marks → Marks
both v marks = put_at v Seen (put_at v Born marks)

both_same : (v : ℕ) (marks : Marks) → both v marks v ≡ Seen
both_same v marks = put_same v Seen (put_at v Born marks)

both_other : (v u : ℕ) (marks : Marks) → u ≢ v → both v marks u ≡ marks u
both_other v u marks ne = put_other v u Seen (put_at v Born marks) ne ∙ put_other v u Born marks ne

-- the next v-th stage may be forked, for a job whose first stage is f
pub record IsReady (plan : Plan) (f v : ℕ) (marks : Marks) : Type 0 where
  pub earlier : (u : ℕ) → u < v → marks u ≢ Absent
  pub later : (u : ℕ) → v ≤ u → marks u ≡ Absent
  pub whole : IsWhole plan marks
  pub own : (v ≡ f) ⊎ (is_held (marks f) ≡ true)

ready_next : (plan : Plan) (f v : ℕ) (marks : Marks) → plan.first v ≡ f → IsReady plan f v marks → IsReady plan f (v + 1) (both v marks)
ready_next plan f v marks is r = record {
  earlier = λ u l. there u l (cases_same u v);
  later = λ u l. both_other v u marks (omega (arith, l)) ∙ r.later u (omega (arith, l));
  whole = λ u h. whole u h (cases_same u v);
  own = inr (held_first r.own (cases_same f v));
}
  where
    seen_held : (u : ℕ) → u ≡ v → is_held (both v marks u) ≡ true
    seen_held u e = ap is_held (ap (both v marks) e ∙ both_same v marks)

    there : (u : ℕ) → u < v + 1 → (u ≡ v) ⊎ (u ≢ v) → both v marks u ≢ Absent
    there u l (inl e) = not_absent (both v marks u) (seen_held u e)
    there u l (inr ne) = λ a. r.earlier u (omega (arith, l, ne)) (sym (both_other v u marks ne) ∙ a)

    still : (u : ℕ) → is_held (marks u) ≡ true → is_held (both v marks u) ≡ true
    still u h = go (cases_same u v)
      where
        go : (u ≡ v) ⊎ (u ≢ v) → is_held (both v marks u) ≡ true
        go (inl e) = seen_held u e
        go (inr ne) = ap is_held (both_other v u marks ne) ∙ h

    held_first : (v ≡ f) ⊎ (is_held (marks f) ≡ true) → (f ≡ v) ⊎ (f ≢ v) → is_held (both v marks f) ≡ true
    held_first o (inl e) = seen_held f e
    held_first (inl e) (inr ne) = absurd (ne (sym e))
    held_first (inr h) (inr ne) = still f h

    whole : (u : ℕ) → is_held (both v marks u) ≡ true → (u ≡ v) ⊎ (u ≢ v) → is_held (both v marks (plan.first u)) ≡ true
    whole u h (inl e) = subst (λ x. is_held (both v marks x) ≡ true) (sym (ap plan.first e ∙ is)) (held_first r.own (cases_same f v))
    whole u h (inr ne) = still (plan.first u) (r.whole u (ap is_held (sym (both_other v u marks ne)) ∙ h))

pub begins_done : (plan : Plan) (es : List ℕ) (f : ℕ) (stages : List Stage) (v : ℕ) (marks : Marks) → v + length stages ≤ plan.count → ((u : ℕ) → v ≤ u → u < v + length stages → plan.first u ≡ f) → IsReady plan f v marks → AreDone plan (begun es v stages) marks
begins_done plan es f [] v marks few firsts r = tt
begins_done plan es f (s ∷ stages) v marks few firsts r =
    let is = firsts v (omega arith) (omega arith) in (
      record { below = omega (arith, few); earlier = r.earlier; later = r.later; whole = r.whole; own_first = own is r.own },
      (put_same v Born marks, begins_done plan es f stages (v + 1) (both v marks) (omega (arith, few)) (λ u l b. firsts u (omega (arith, l)) (omega (arith, b))) (ready_next plan f v marks is r)),
    )
  where
    own : plan.first v ≡ f → (v ≡ f) ⊎ (is_held (marks f) ≡ true) → (plan.first v ≡ v) ⊎ (is_held (marks (plan.first v)) ≡ true)
    own is (inl e) = inl (is ∙ sym e)
    own is (inr h) = inr (subst (λ x. is_held (marks x) ≡ true) (sym is) h)

pub begins_ready : (plan : Plan) (es : List ℕ) (f : ℕ) (stages : List Stage) (v : ℕ) (marks : Marks) → ((u : ℕ) → v ≤ u → u < v + length stages → plan.first u ≡ f) → IsReady plan f v marks → IsReady plan f (v + length stages) (marks_after plan (begun es v stages) marks)
begins_ready plan es f [] v marks firsts r = subst (λ n. IsReady plan f n marks) (omega arith) r
begins_ready plan es f (s ∷ stages) v marks firsts r =
    let more = begins_ready plan es f stages (v + 1) (both v marks) (λ u l b. firsts u (omega (arith, l)) (omega (arith, b))) (ready_next plan f v marks (firsts v (omega arith) (omega arith)) r) in
    subst (λ n. IsReady plan f n (marks_after plan (begun es (v + 1) stages) (both v marks))) (omega arith) more

pub begins_out : (plan : Plan) (es : List ℕ) (stages : List Stage) (v : ℕ) (marks : Marks) (u : ℕ) → (u < v) ⊎ (v + length stages ≤ u) → marks_after plan (begun es v stages) marks u ≡ marks u
begins_out plan es [] v marks u o = refl
begins_out plan es (s ∷ stages) v marks u (inl l) = begins_out plan es stages (v + 1) (both v marks) u (inl (omega (arith, l))) ∙ both_other v u marks (omega (arith, l))
begins_out plan es (s ∷ stages) v marks u (inr l) = begins_out plan es stages (v + 1) (both v marks) u (inr (omega (arith, l))) ∙ both_other v u marks (omega (arith, l))

pub begins_in : (plan : Plan) (es : List ℕ) (stages : List Stage) (v : ℕ) (marks : Marks) (u : ℕ) → v ≤ u → u < v + length stages → marks_after plan (begun es v stages) marks u ≡ Seen
begins_in plan es [] v marks u l b = let no : ⊥ = omega (arith, l, b) in absurd no
begins_in plan es (s ∷ stages) v marks u l b = go (cases_same u v) (λ ne. begins_in plan es stages (v + 1) (both v marks) u (omega (arith, l, ne)) (omega (arith, b)))
  where
    go : (u ≡ v) ⊎ (u ≢ v) → (u ≢ v → marks_after plan (begun es (v + 1) stages) (both v marks) u ≡ Seen) → marks_after plan (begun es (v + 1) stages) (both v marks) u ≡ Seen
    go (inl e) more = begins_out plan es stages (v + 1) (both v marks) u (inl (omega (arith, e))) ∙ ap (both v marks) e ∙ both_same v marks
    go (inr ne) more = more ne
