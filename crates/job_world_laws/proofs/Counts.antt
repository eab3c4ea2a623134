-- The stages of an orderly plan are forked in the order of their numbers, and no step names another.
use Rattle.std.proofs.Common.{◌≡◌, ◌≢◌, ◌==◌, ◌⊎◌, inl, inr, ◌<◌, ◌≤◌, ◌+◌, ℕ, Bool, true, false, cond, List, [], ◌∷◌, ◌++◌, map, refl, sym, ap, ◌∙◌, subst, arith, ltb, All, filter_map}
use Rattle.std.proofs.lemmas.Bool.{ltb-true, lt-ltb, le-ltb, cases_order}
use Rattle.std.proofs.lemmas.List.Elements.{All-nil, All-cons}
use Rattle.unix_names.specs.declared.Signal.{Signal}
use Rattle.unix_names.specs.declared.Signal.TheVariants.{Cont, Term}
use Rattle.script_laws.specs.Writable.{assigned, AreInOrder}
use Rattle.job_plans.specs.Acts.{Act, Begin, Await, Join, Send, Reap, statement_of}
use Rattle.job_plans.specs.Files.{put_at}
use Rattle.job_plans.specs.Plans.{Plan}
use Rattle.job_laws.specs.Orders.{Mark, Absent, Born, Seen, Member, Going, Reaped, Marks, none_yet, sent_mark, after_act, MayBegin, IsLoosed, IsOrderly}
use Rattle.job_laws.proofs.Shell.{put_same, put_other, cases_same}

-- the stages that a step names are below a number
abbrev pub IsBelow : ℕ → Act → Type 0
IsBelow n (Begin v script node) = v < n
IsBelow n (Await v) = v < n
IsBelow n (Join v f) = (v < n) × (f < n)
IsBelow n (Send f s) = f < n
IsBelow n (Reap v) = v < n

-- forked already
abbrev is_there : Mark → Bool
is_there Absent = false
is_there _ = true

-- so many stages are forked
abbrev AreForked : Marks → ℕ → Type 0
AreForked marks n = (u : ℕ) → is_there (marks u) ≡ ltb u n

sent_there : (s : Signal) (m : Mark) → is_there (sent_mark s m) ≡ is_there m
sent_there Cont Member = refl
sent_there Term (Going b) = refl
sent_there s m = refl

put_there : (v u : ℕ) (m : Mark) (marks : Marks) → is_there m ≡ true → is_there (marks v) ≡ true → is_there (put_at v m marks u) ≡ is_there (marks u)
put_there v u m marks e was = go (cases_same u v)
  where
    go : (u ≡ v) ⊎ (u ≢ v) → is_there (put_at v m marks u) ≡ is_there (marks u)
    go (inl same) = ap (λ x. is_there (put_at v m marks x)) same ∙ ap is_there (put_same v m marks) ∙ e ∙ sym was ∙ sym (ap (λ x. is_there (marks x)) same)
    go (inr ne) = ap is_there (put_other v u m marks ne)

module _ (plan : Plan) where
  abbrev Forked : List Act → List ℕ
  Forked acts = filter_map assigned (map statement_of acts)

  -- what is known of the steps behind those by which n stages are forked
  record AreCounted (n : ℕ) (acts : List Act) : Type 0 where
    below : All (IsBelow plan.count) acts
    order : AreInOrder n (Forked acts ++ plan.count ∷ []) (plan.count + 1)

  module _ (n : ℕ) (marks : Marks) (f : AreForked marks n) (few : n ≤ plan.count) where
    there_below : (v : ℕ) → is_there (marks v) ≡ true → v < plan.count
    there_below v e = let l = ltb-true v n (sym (f v) ∙ e) in omega (arith, l, few)

    is_last : n < plan.count → is_there (marks n) ≡ true → ⊥
    is_last l e = let k = ltb-true n n (sym (f n) ∙ e) in omega (arith, k)

    loosed_there : (m : Mark) → IsLoosed m → is_there m ≡ true
    loosed_there m (inl h) = ap is_there h.1
    loosed_there m (inr h) = ap is_there h

    all_forked : ((u : ℕ) → u < plan.count → IsLoosed (marks u)) → plan.count ≡ n
    all_forked ends = go (cases_order n plan.count)
      where
        go : ((n ≡ plan.count) ⊎ ((n < plan.count) ⊎ (plan.count < n))) → plan.count ≡ n
        go (inl e) = sym e
        go (inr (inl l)) = absurd (is_last l (loosed_there (marks n) (ends n l)))
        go (inr (inr g)) = omega (arith, g, few)

    -- the next stage that is forked is the n-th
    next_is : (v : ℕ) → MayBegin plan marks v → v ≡ n
    next_is v may = go (cases_order v n)
      where
        go : ((v ≡ n) ⊎ ((v < n) ⊎ (n < v))) → v ≡ n
        go (inl e) = e
        go (inr (inl l)) = let no : true ≡ false = sym (lt-ltb v n l) ∙ sym (f v) ∙ ap is_there (may.later v (omega arith)) in cc
        go (inr (inr g)) = absurd (may.earlier n g (absent (marks n) (f n ∙ le-ltb n n (omega arith))))
          where
            absent : (m : Mark) → is_there m ≡ false → m ≡ Absent
            absent Absent e = refl
            absent Born e = cc
            absent Seen e = cc
            absent Member e = cc
            absent (Going b) e = cc
            absent Reaped e = cc

    one_more : (v : ℕ) → v ≡ n → AreForked (put_at v Born marks) (n + 1)
    one_more v is u = go (cases_same u v)
      where
        further : (u ≢ n) → ltb u n ≡ ltb u (n + 1)
        further ne = elim (cases_order u n) [
          | inl e ↦ absurd (ne e)
          | inr d ↦ elim d [ inl l ↦ lt-ltb u n l ∙ sym (lt-ltb u (n + 1) (omega (arith, l))) | inr g ↦ le-ltb u n (omega (arith, g)) ∙ sym (le-ltb u (n + 1) (omega (arith, g))) ]
        ]

        go : (u ≡ v) ⊎ (u ≢ v) → is_there (put_at v Born marks u) ≡ ltb u (n + 1)
        go (inl e) = ap (λ x. is_there (put_at v Born marks x)) e ∙ ap is_there (put_same v Born marks) ∙ sym (lt-ltb u (n + 1) (omega (arith, e, is)))
        go (inr ne) = ap is_there (put_other v u Born marks ne) ∙ f u ∙ further (λ e. ne (e ∙ sym is))

    moved : (v : ℕ) (m : Mark) → is_there m ≡ true → is_there (marks v) ≡ true → AreForked (put_at v m marks) n
    moved v m e was u = put_there v u m marks e was ∙ f u

    sent : (g : ℕ) (s : Signal) → AreForked (after_act plan.first (Send g s) marks) n
    sent g s u = go (plan.first u == g)
      where
        go : (b : Bool) → is_there (cond b (sent_mark s (marks u)) (marks u)) ≡ ltb u n
        go true = sent_there s (marks u) ∙ f u
        go false = f u

  behind : (n : ℕ) (a : Act) (acts : List Act) → IsBelow plan.count a → Forked (a ∷ acts) ≡ Forked acts → AreCounted n acts → AreCounted n (a ∷ acts)
  behind n a acts b same c = record {
    below = All-cons (IsBelow plan.count) a acts b c.below;
    order = subst (λ (vs : List ℕ). AreInOrder n (vs ++ plan.count ∷ []) (plan.count + 1)) (sym same) c.order;
  }

  walk : (acts : List Act) (n : ℕ) (marks : Marks) → AreForked marks n → n ≤ plan.count → IsOrderly plan acts marks → AreCounted n acts
  walk [] n marks f few ends =
      let e = all_forked n marks f few ends in
      record { below = All-nil (IsBelow plan.count); order = inr (e, ap (λ k. k + 1) (sym e)) }
  walk (Begin v script node ∷ acts) n marks f few o =
      let is = next_is n marks f few v o.0 in
      let below : v < plan.count = o.0.below in
      let rest = walk acts (n + 1) (put_at v Born marks) (one_more n marks f few v is) (omega (arith, is, below)) o.1 in
      record { below = All-cons (IsBelow plan.count) (Begin v script node) acts below rest.below; order = inr (is, rest.order) }
  walk (Await v ∷ acts) n marks f few o =
      let there = ap is_there o.0 in
      behind n (Await v) acts (there_below n marks f few v there) refl (walk acts n (put_at v Seen marks) (moved n marks f few v Seen refl there) few o.1)
  walk (Join v g ∷ acts) n marks f few o =
      let there = ap is_there o.0.0 in
      behind n (Join v g) acts (there_below n marks f few v there, group o.0.2) refl (walk acts n (put_at v Member marks) (moved n marks f few v Member refl there) few o.1)
    where
      group : (v ≡ g) ⊎ ((marks g ≡ Member) × (plan.first g ≡ g)) → g < plan.count
      group (inl e) = subst (λ u. u < plan.count) e (there_below n marks f few v (ap is_there o.0.0))
      group (inr h) = there_below n marks f few g (ap is_there h.0)
  walk (Send g s ∷ acts) n marks f few o = behind n (Send g s) acts o.0.0 refl (walk acts n (after_act plan.first (Send g s) marks) (sent n marks f few g s) few o.1)
  walk (Reap v ∷ acts) n marks f few o =
      let there = ap is_there o.0.1 in
      behind n (Reap v) acts (there_below n marks f few v there) refl (walk acts n (put_at v Reaped marks) (moved n marks f few v Reaped refl there) few o.1)

  counted : IsOrderly plan plan.acts none_yet → AreCounted 0 plan.acts
  counted o = walk plan.acts 0 none_yet (λ u. sym (le-ltb u 0 (omega arith))) (omega arith) o

  -- no step names a stage that is not one of the plan's
  pub all_below : IsOrderly plan plan.acts none_yet → All (IsBelow plan.count) plan.acts
  all_below o = (counted o).below

  -- the variables of the forks come in order, and then the shell's
  pub in_order : IsOrderly plan plan.acts none_yet → AreInOrder 0 (Forked plan.acts ++ plan.count ∷ []) (plan.count + 1)
  in_order o = (counted o).order
