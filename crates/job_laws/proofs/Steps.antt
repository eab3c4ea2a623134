-- What each line of a job file asks is met where it stands, and what it makes of the stages.
use Rattle.std.proofs.Common.{◌≡◌, ◌≢◌, ◌⊎◌, inl, inr, ◌<◌, ◌≤◌, ◌+◌, ◌-◌, ℕ, Bool, true, false, cond, List, [], ◌∷◌, ◌++◌, length, refl, sym, ap, ◌∙◌, subst, arith}
use Rattle.unix_names.specs.declared.Signal.{Signal}
use Rattle.unix_names.specs.declared.Signal.TheVariants as signal
use Rattle.job_plans.specs.declared.JobLine.{JobLine}
use Rattle.job_plans.specs.declared.JobFile.{JobFile}
use Rattle.job_plans.specs.Acts.{Act, Send}
use Rattle.job_plans.specs.declared.Phase.{Phase}
use Rattle.job_plans.specs.declared.Phase.TheVariants.{Idle, Background, Done}
use Rattle.job_plans.specs.Files.{put_at, stages_of}
use Rattle.job_plans.specs.Plans.{statuses, first_from, stages_started, starts, begun, joined, reaped, started}
use Rattle.job_laws.specs.Orders.{Absent, Member, Going, Marks, sent_mark, is_held, IsWhole, MayAct, after_act, marks_after, IsGoing, IsLoosed}
use Rattle.job_laws.proofs.Shell.{put_same, put_other, cases_same}
use Rattle.job_laws.proofs.Blocks.{AreDone, done_append, marks_append, IsReady, begins_done, begins_out, begins_in, joins_done, joins_out, joins_in, reaps_done, reaps_out, reaps_in}
use Rattle.job_laws.proofs.Firsts.{Stands, stands_next, count_more, first_here, first_below, first_behind}
use Rattle.job_laws.proofs.Lines.{IsIn, IsOut, in_or_out, plan, first, size, IsBlock, Between, whole, changed, sent_in, sent_out, IsUsual, still_going}

chosen : {X : Type 0} (b : Bool) (x y : X) → b ≡ true → cond b x y ≡ x
chosen true x y e = refl
chosen false x y e = cc

passed : {X : Type 0} (b : Bool) (x y : X) → b ≡ false → cond b x y ≡ y
passed false x y e = refl
passed true x y e = cc

not_idle : (p q : Phase) → p ≡ Background → q ≡ Idle → p ≢ q
not_idle p q e f same = let no : Background ≡ Idle = sym e ∙ same ∙ f in cc

module _ (file : JobFile) where
  abbrev pub es : List ℕ
  es = statuses file

  abbrev pub acts_for : ℕ → List Act
  acts_for j = started es (first file j) (stages_of file.jobs j)

  -- ---- a line that starts a job
  module _ (phase : ℕ → Phase) (n : ℕ) (line : JobLine) (rest : List JobLine) (marks : Marks) (j : ℕ) (b : Between file phase n (line ∷ rest) marks) (s : Stands file n (line ∷ rest))
      (is : stages_started file.jobs line ≡ stages_of file.jobs j) (idle : phase j ≡ Idle) (own : starts j line ≡ true) (foreign : (i : ℕ) → i ≢ j → starts i line ≡ false) (some : 1 ≤ size file j) where
    abbrev pub later : ℕ
    later = n + length (stages_started file.jobs line)

    abbrev pub f : ℕ
    f = first file j

    pub is_next : f ≡ n
    is_next = b.fresh j idle ∙ chosen (starts j line) n (first_from file.jobs later rest j) own

    later_is : later ≡ f + size file j
    later_is = omega (arith, ap length is, is_next)

    is_own : (u : ℕ) → IsIn f (size file j) u → (plan file).first u ≡ f
    is_own u k =
        let place : n + (u - n) ≡ u = omega (arith, k.0, is_next) in
        subst (λ x. (plan file).first x ≡ n) place (first_here file n line rest s (u - n) (omega (arith, k.0, k.1, is_next, later_is))) ∙ sym is_next

    is_only : (u : ℕ) → (plan file).first u ≡ f → IsIn f (size file j) u
    is_only u e = go (in_or_out f (size file j) u)
      where
        go : IsIn f (size file j) u ⊎ IsOut f (size file j) u → IsIn f (size file j) u
        go (inl k) = k
        go (inr (inl l)) = let no : ⊥ = omega (arith, l, e, first_below file u) in absurd no
        go (inr (inr l)) = let h = first_behind file later rest (stands_next file n line rest s) u (omega (arith, l, later_is)) in let no : ⊥ = omega (arith, h, e, later_is, some) in absurd no

    pub block : IsBlock file later j
    block = record { some = some; below = omega (arith, later_is); own = is_own; only = is_only }

    few : later ≤ (plan file).count
    few = count_more file n line rest s

    owned : (u : ℕ) → f ≤ u → u < f + length (stages_of file.jobs j) → (plan file).first u ≡ f
    owned u l m = is_own u (l, m)

    abbrev pub forked : Marks
    forked = marks_after (plan file) (begun es f (stages_of file.jobs j)) marks

    abbrev pub grouped : Marks
    grouped = marks_after (plan file) (joined f f (stages_of file.jobs j)) forked

    abbrev pub let_go : Marks
    let_go = after_act (plan file).first (Send f signal.Cont) grouped

    grouped_in : (u : ℕ) → IsIn f (size file j) u → grouped u ≡ Member
    grouped_in u k = joins_in (plan file) f (stages_of file.jobs j) f forked u k.0 k.1

    grouped_out : (u : ℕ) → IsOut f (size file j) u → grouped u ≡ marks u
    grouped_out u o = joins_out (plan file) f (stages_of file.jobs j) f forked u o ∙ begins_out (plan file) es (stages_of file.jobs j) f marks u o

    here : IsIn f (size file j) f
    here = (omega arith, omega (arith, some))

    grouped_whole : IsWhole (plan file) grouped
    grouped_whole u h = go (in_or_out f (size file j) u)
      where
        still : (x : ℕ) → is_held (marks x) ≡ true → IsIn f (size file j) x ⊎ IsOut f (size file j) x → is_held (grouped x) ≡ true
        still x h (inl k) = ap is_held (grouped_in x k)
        still x h (inr o) = ap is_held (grouped_out x o) ∙ h

        go : IsIn f (size file j) u ⊎ IsOut f (size file j) u → is_held (grouped ((plan file).first u)) ≡ true
        go (inl k) = ap is_held (ap grouped (is_own u k) ∙ grouped_in f here)
        go (inr o) = still ((plan file).first u) (whole file phase n (line ∷ rest) marks b u (ap is_held (sym (grouped_out u o)) ∙ h)) (in_or_out f (size file j) ((plan file).first u))

    ready : IsReady (plan file) f f marks
    ready = record {
      earlier = λ u l. there u (b.loosed u (omega (arith, l, is_next)));
      later = λ u l. b.absent u (omega (arith, l, is_next));
      whole = whole file phase n (line ∷ rest) marks b;
      own = inl refl;
    }
      where
        there : (u : ℕ) → IsLoosed (marks u) → marks u ≢ Absent
        there u (inl h) e = let no = sym h.1 ∙ e in cc
        there u (inr h) e = let no = sym h ∙ e in cc

    may_send : MayAct (plan file) grouped (Send f signal.Cont)
    may_send = (omega (arith, few, later_is, some), is_own f here, grouped_whole, inl (refl, λ u l e. grouped_in u (is_only u e)))

    abbrev pub steps : List Act
    steps = acts_for j

    pub start_done : AreDone (plan file) steps marks
    start_done =
        done_append (plan file) (begun es f (stages_of file.jobs j)) (joined f f (stages_of file.jobs j) ++ Send f signal.Cont ∷ []) marks
        (begins_done (plan file) es f (stages_of file.jobs j) f marks (omega (arith, few, later_is)) owned ready)
        (done_append (plan file) (joined f f (stages_of file.jobs j)) (Send f signal.Cont ∷ []) forked
        (joins_done (plan file) f (stages_of file.jobs j) f forked (is_own f here) (inl refl) (omega arith) (λ u l m. (begins_in (plan file) es (stages_of file.jobs j) f marks u l m, sym (owned u l m))))
        (may_send, tt))

    pub started_is : marks_after (plan file) steps marks ≡ let_go
    started_is =
        marks_append (plan file) (begun es f (stages_of file.jobs j)) (joined f f (stages_of file.jobs j) ++ Send f signal.Cont ∷ []) marks
        ∙ marks_append (plan file) (joined f f (stages_of file.jobs j)) (Send f signal.Cont ∷ []) forked

    start_in : (u : ℕ) → IsIn f (size file j) u → let_go u ≡ Going false
    start_in u k = sent_in file later j grouped block signal.Cont u k ∙ ap (sent_mark signal.Cont) (grouped_in u k)

    start_out : (u : ℕ) → IsOut f (size file j) u → let_go u ≡ marks u
    start_out u o = sent_out file later j grouped block signal.Cont u o ∙ grouped_out u o

    is_forked : (u : ℕ) → n ≤ u → u < later → IsIn f (size file j) u
    is_forked u l m = (omega (arith, l, is_next), omega (arith, m, later_is))

    differ : (i : ℕ) → i ≢ j → phase i ≡ Background → first file i ≢ f
    differ i ne e same = let k = b.block i e in omega (arith, k.below, k.some, same, is_next)

    fresh : (i : ℕ) → i ≢ j → phase i ≡ Idle → first file i ≡ first_from file.jobs later rest i
    fresh i ne e = b.fresh i e ∙ passed (starts i line) n (first_from file.jobs later rest i) (foreign i ne)

    pub after_start : Between file (put_at j Background phase) later rest let_go
    after_start = changed file phase n later (line ∷ rest) rest marks let_go j Background b block (omega arith) few
        (λ u k. (false, start_in u k)) start_out is_forked differ fresh (λ e. cc)

    abbrev pub all_reaped : Marks
    all_reaped = marks_after (plan file) (reaped f (stages_of file.jobs j)) let_go

    pub waits_done : AreDone (plan file) (reaped f (stages_of file.jobs j)) let_go
    waits_done = reaps_done (plan file) (stages_of file.jobs j) f let_go (λ u l m. (false, start_in u (l, m)))

    pub after_run : Between file (put_at j Done phase) later rest all_reaped
    after_run = changed file phase n later (line ∷ rest) rest marks all_reaped j Done b block (omega arith) few
        (λ u k. reaps_in (plan file) (stages_of file.jobs j) f let_go u k.0 k.1) (λ u o. reaps_out (plan file) (stages_of file.jobs j) f let_go u o ∙ start_out u o) is_forked differ fresh (λ e. cc)

  -- ---- lines for a job in the background
  module _ (phase : ℕ → Phase) (n : ℕ) (rest : List JobLine) (marks : Marks) (j : ℕ) (b : Between file phase n rest marks) (back : phase j ≡ Background) where
    abbrev pub g : ℕ
    g = first file j

    alone : (i : ℕ) → i ≢ j → phase i ≡ Background → first file i ≢ g
    alone i ne e same = ne (b.apart i j e back same)

    now_here : IsIn g (size file j) g
    now_here = (omega arith, omega (arith, (b.block j back).some))

    none_forked : (u : ℕ) → n ≤ u → u < n → IsIn g (size file j) u
    none_forked u l m = let no : ⊥ = omega (arith, l, m) in absurd no

    pub signal_done : (s : Signal) → IsUsual s → MayAct (plan file) marks (Send g s)
    signal_done s usual =
        let k = b.block j back in (
          omega (arith, k.below, k.some, b.few),
          k.own g now_here,
          whole file phase n rest marks b,
          inr (usual, λ u l e. b.going j back u (k.only u e)),
        )

    same_phase : put_at j Background phase ≡ phase
    same_phase = λ i u. at u (cases_same u j) i
      where
        at : (u : ℕ) → (u ≡ j) ⊎ (u ≢ j) → put_at j Background phase u ≡ phase u
        at u (inl e) = ap (put_at j Background phase) e ∙ put_same j Background phase ∙ sym back ∙ sym (ap phase e)
        at u (inr ne) = put_other j u Background phase ne

    pub after_signal : (s : Signal) → IsUsual s → Between file phase n rest (after_act (plan file).first (Send g s) marks)
    after_signal s usual =
        let k = b.block j back in
        let marks' = after_act (plan file).first (Send g s) marks in
        subst (λ (p : ℕ → Phase). Between file p n rest marks') same_phase
        (changed file phase n n rest rest marks marks' j Background b k (omega arith) b.few
        (λ u m. subst IsGoing (sym (sent_in file n j marks k s u m)) (still_going s (marks u) usual (b.going j back u m))) (λ u o. sent_out file n j marks k s u o) none_forked alone (λ i ne e. b.fresh i e) (λ e. cc))

    pub reap_done : AreDone (plan file) (reaped g (stages_of file.jobs j)) marks
    reap_done = reaps_done (plan file) (stages_of file.jobs j) g marks (λ u l m. b.going j back u (l, m))

    pub after_reap : Between file (put_at j Done phase) n rest (marks_after (plan file) (reaped g (stages_of file.jobs j)) marks)
    after_reap =
        changed file phase n n rest rest marks (marks_after (plan file) (reaped g (stages_of file.jobs j)) marks) j Done b (b.block j back) (omega arith) b.few
        (λ u k. reaps_in (plan file) (stages_of file.jobs j) g marks u k.0 k.1) (λ u o. reaps_out (plan file) (stages_of file.jobs j) g marks u o) none_forked alone (λ i ne e. b.fresh i e) (λ e. cc)

  -- behind a line that starts nothing
  pub moved_on : (phase : ℕ → Phase) (n : ℕ) (line : JobLine) (rest : List JobLine) (marks : Marks) → stages_started file.jobs line ≡ [] → ((i : ℕ) → starts i line ≡ false)
      → Between file phase n (line ∷ rest) marks → Between file phase (n + length (stages_started file.jobs line)) rest marks
  moved_on phase n line rest marks none foreign b =
      let same : n ≡ n + length (stages_started file.jobs line) = omega (arith, ap length none) in
      subst (λ k. Between file phase k rest marks) same (record {
        fresh = λ i e. b.fresh i e ∙ passed (starts i line) n (first_from file.jobs (n + length (stages_started file.jobs line)) rest i) (foreign i) ∙ ap (λ k. first_from file.jobs k rest i) (sym same);
        few = b.few;
        absent = b.absent;
        loosed = b.loosed;
        block = b.block;
        going = b.going;
        held = b.held;
        apart = b.apart;
      })
