-- what a history has told: the forks, the places where a job stood together, and the reports
use Rattle.std.proofs.Common.{◌≡◌, ◌≢◌, ◌==◌, ◌⊎◌, inl, inr, ◌<◌, ◌≤◌, ℕ, zero, suc, pos, Bool, true, false, cond, List, [], ◌∷◌, ◌++◌, length, refl, sym, ap, ◌∙◌, subst, arith, Some, slice_get, append_assoc, append-nil}
use Rattle.std.specs.Prelude.{filter, fold}
use Rattle.std.proofs.lemmas.Bool.{cases_lt, eq-eqb, eqb-true}
use Rattle.std.proofs.lemmas.List.Sums.{fold-append}
use Rattle.unix_names.specs.declared.NodeId.{NodeId}
use Rattle.unix_names.specs.declared.Signal.{Signal}
use Rattle.unix_names.specs.declared.Signal.TheVariants.{Cont, Term}
use Rattle.unix_names.specs.declared.WaitStatus.{WaitStatus}
use Rattle.unix_names.specs.declared.WaitStatus.TheVariants as status
use Rattle.unix_calls.specs.declared.Call.TheVariants as calls
use Rattle.unix_calls.specs.declared.Reply.TheVariants.{Number, Child}
use Rattle.unix_calls.specs.declared.Entry.{Entry}
use Rattle.unix_calls.specs.declared.Entry.TheVariants.{Called}
use Rattle.unix_calls.specs.declared.World.{World}
use Rattle.list_laws.proofs.Filters.{some_same}
use Rattle.job_plans.specs.Acts.{Act, Begin, Send, Reap}
use Rattle.job_laws.specs.Orders.{Mark, Absent, Born, Seen, Member, Going, Reaped, Marks, sent_mark, after_act, IsLoosed}
use Rattle.job_plans.specs.Files.{put_at}
use Rattle.job_plans.specs.Plans.{Plan}
use Rattle.job_laws.specs.Forks.{shell, pid, with_fork, forks, stage_in}
use Rattle.job_laws.specs.Reports.{Report, is_end_status, report_for, reported, reports_from, reports, reports_of}
use Rattle.job_laws.specs.Means.{AreTogether, IsEndAsked}
use Rattle.job_laws.proofs.Family.{not_same}
use Rattle.job_laws.proofs.Core.{IsItsEnd}
use Rattle.job_laws.proofs.Shell.{put_same, put_other, cases_same}
use Rattle.job_laws.proofs.ShellSteps.{length_more, got_plain, is_plain, IsQuietEntry}

-- ---- forks
abbrev pub told_pids : (ℕ → ℕ) → ℕ → List ℕ
told_pids p zero = []
told_pids p (suc n) = p n ∷ told_pids p n

told_length : (p : ℕ → ℕ) (n : ℕ) → length (told_pids p n) ≡ n
told_length p zero = refl
told_length p (suc n) = ap suc (told_length p n)

told_same : (p r : ℕ → ℕ) (n : ℕ) → ((u : ℕ) → u < n → p u ≡ r u) → told_pids p n ≡ told_pids r n
told_same p r zero h = refl
told_same p r (suc n) h = ap (λ x. x ∷ told_pids p n) (h n (omega arith)) ∙ ap (λ l. r n ∷ l) (told_same p r n (λ u l. h u (omega (arith, l))))

-- a stage whose pid no later one has is found by it
pub stage_told : (p : ℕ → ℕ) (n v : ℕ) → v < n → ((u : ℕ) → v < u → u < n → p v ≢ p u) → stage_in (told_pids p n) (p v) ≡ Some v
stage_told p zero v l far = let no : ⊥ = omega (arith, l) in absurd no
stage_told p (suc n) v l far = go (λ below. stage_told p n v below (λ u a b. far u a (omega (arith, b)))) (cases_lt v n)
  where
    go : (v < n → stage_in (told_pids p n) (p v) ≡ Some v) → (v < n) ⊎ (n ≤ v) → stage_in (told_pids p (suc n)) (p v) ≡ Some v
    go rest (inl below) = ap (λ b. cond b (Some (length (told_pids p n))) (stage_in (told_pids p n) (p v))) (not_same (p n) (p v) (λ e. far n below (omega arith) (sym e))) ∙ rest below
    go rest (inr past) = let is : n ≡ v = omega (arith, past, l) in ap (λ b. cond b (Some (length (told_pids p n))) (stage_in (told_pids p n) (p v))) (eq-eqb (p n) (p v) (ap p is)) ∙ ap Some (told_length p n ∙ is)

-- what is found has the pid
pub stage_found : (p : ℕ → ℕ) (n q v : ℕ) → stage_in (told_pids p n) q ≡ Some v → (v < n) × (p v ≡ q)
stage_found p zero q v e = cc
stage_found p (suc n) q v e = go (λ h. stage_found p n q v h) (p n == q) refl e
  where
    go : (stage_in (told_pids p n) q ≡ Some v → (v < n) × (p v ≡ q)) → (b : Bool) → (p n == q) ≡ b → cond b (Some (length (told_pids p n))) (stage_in (told_pids p n) q) ≡ Some v → (v < suc n) × (p v ≡ q)
    go rest true is e = let l : length (told_pids p n) ≡ v = cc in let v_is : n ≡ v = sym (told_length p n) ∙ l in (omega (arith, v_is), ap p (sym v_is) ∙ eqb-true _ _ is)
    go rest false is e = let f = rest e in (let l = f.0 in omega (arith, l), f.1)

pub forks_more : (before : List Entry) (entry : Entry) → forks (before ++ entry ∷ []) ≡ with_fork (forks before) entry
forks_more before entry = fold-append with_fork [] before (entry ∷ [])

-- ---- reports
reports_on : (told : List ℕ) (before : List Entry) (entry : Entry) → reports_from told (before ++ entry ∷ []) ≡ reports_from told before ++ reported (fold with_fork told before) entry
reports_on told [] entry = append-nil (reported told entry)
reports_on told (x ∷ before) entry = ap (λ l. reported told x ++ l) (reports_on (with_fork told x) before entry) ∙ sym (append_assoc (reported told x) (reports_from (with_fork told x) before) (reported (fold with_fork (with_fork told x) before) entry))

filter_both : (t : Report → Bool) (xs ys : List Report) → filter t (xs ++ ys) ≡ filter t xs ++ filter t ys
filter_both t [] ys = refl
filter_both t (x ∷ xs) ys = go (filter_both t xs ys) (t x)
  where
    go : filter t (xs ++ ys) ≡ filter t xs ++ filter t ys → (b : Bool) → cond b (x ∷ filter t (xs ++ ys)) (filter t (xs ++ ys)) ≡ cond b (x ∷ filter t xs) (filter t xs) ++ filter t ys
    go rest true = ap (λ l. x ∷ l) rest
    go rest false = rest

pub reports_more : (v : ℕ) (before : List Entry) (entry : Entry) → reports_of v (before ++ entry ∷ []) ≡ reports_of v before ++ filter (λ r. r.stage == v) (reported (forks before) entry)
reports_more v before entry = ap (filter (λ r. r.stage == v)) (reports_on [] before entry) ∙ filter_both (λ r. r.stage == v) (reports before) (reported (forks before) entry)

-- it reports no end
abbrev pub IsSilent : Entry → Type 0
IsSilent entry = (forks : List ℕ) → reported forks entry ≡ []

pub reports_quiet : (v : ℕ) (before : List Entry) (entry : Entry) → IsSilent entry → reports_of v (before ++ entry ∷ []) ≡ reports_of v before
reports_quiet v before entry quiet = reports_more v before entry ∙ ap (λ l. reports_of v before ++ filter (λ r. r.stage == v) l) (quiet (forks before)) ∙ append-nil (reports_of v before)

abbrev pub is_loosed : Mark → Bool
is_loosed (Going b) = true
is_loosed Reaped = true
is_loosed _ = false

loosed : (m : Mark) → IsLoosed m → is_loosed m ≡ true
loosed m (inl (b, e)) = ap is_loosed e
loosed m (inr e) = ap is_loosed e

not_loosed : (m : Mark) → is_loosed m ≡ false → IsLoosed m → ⊥
not_loosed m e l = let is = loosed m l in cc

its_end : (b : Bool) (e : ℕ) (w : WaitStatus) → IsItsEnd b e w → is_end_status w ≡ true
its_end b e w (inl i) = ap is_end_status i
its_end b e w (inr i) = ap is_end_status i.0

module _ (world : World) (plan : Plan) where
  abbrev pub Together : List Entry → ℕ → Type 0
  Together before f = (early rest : List Entry) × (before ≡ early ++ rest) × AreTogether world plan early f

  abbrev pub HasReport : List Entry → ℕ → ℕ → Type 0
  HasReport before v k = (w : WaitStatus) × (reports_of v before ≡ record { stage = v; status = w } ∷ []) × ((w ≡ status.Exited (plan.status v)) ⊎ ((w ≡ status.Killed Term) × IsEndAsked world plan (plan.first v) k))

  pub record Tale (marks : Marks) (p : ℕ → ℕ) (n : ℕ) (done : List Act) (before : List Entry) : Type 0 where
    pub told : forks before ≡ told_pids p n
    pub together : (v : ℕ) → v < n → IsLoosed (marks v) → Together before (plan.first v)
    pub reported : (k v : ℕ) → k < length done → slice_get plan.acts k ≡ Some (Reap v) → HasReport before v k
    pub unreported : (v : ℕ) → marks v ≢ Reaped → reports_of v before ≡ []
    pub asked : (v : ℕ) → marks v ≡ Going true → IsEndAsked world plan (plan.first v) (length done)

  pub together_more : (before : List Entry) (entry : Entry) (f : ℕ) → Together before f → Together (before ++ entry ∷ []) f
  together_more before entry f (early, rest, is, t) = (early, rest ++ entry ∷ [], ap (λ l. l ++ entry ∷ []) is ∙ append_assoc early rest (entry ∷ []), t)

  pub report_quiet : (before : List Entry) (entry : Entry) (v k : ℕ) → IsSilent entry → HasReport before v k → HasReport (before ++ entry ∷ []) v k
  report_quiet before entry v k quiet (w, is, end) = (w, reports_quiet v before entry quiet ∙ is, end)

  asked_more : (f k l : ℕ) → k ≤ l → IsEndAsked world plan f k → IsEndAsked world plan f l
  asked_more f k l le (i, below, is) = (i, omega (arith, le, below), is)

  -- nothing is told by an entry that is quiet
  pub tale_quiet : (marks : Marks) (p : ℕ → ℕ) (n : ℕ) (done : List Act) (before : List Entry) (entry : Entry) → IsQuietEntry entry → Tale marks p n done before → Tale marks p n done (before ++ entry ∷ [])
  tale_quiet marks p n done before entry quiet tale = record {
    told = forks_more before entry ∙ quiet.0 (forks before) ∙ tale.told;
    together = λ v l is. together_more before entry (plan.first v) (tale.together v l is);
    reported = λ k v l is. report_quiet before entry v k quiet.1 (tale.reported k v l is);
    unreported = λ v ne. reports_quiet v before entry quiet.1 ∙ tale.unreported v ne;
    asked = tale.asked;
  }

  module _ (marks : Marks) (p : ℕ → ℕ) (n : ℕ) (done : List Act) (before : List Entry) (tale : Tale marks p n done before) where
    -- the places of reports up to the next step
    later_reports : (a : Act) (rest : List Act) (before' : List Entry) → plan.acts ≡ done ++ a ∷ rest → ((k v : ℕ) → k < length done → slice_get plan.acts k ≡ Some (Reap v) → HasReport before' v k) →
        ((v : ℕ) → a ≡ Reap v → HasReport before' v (length done)) → (k v : ℕ) → k < length (done ++ a ∷ []) → slice_get plan.acts k ≡ Some (Reap v) → HasReport before' v k
    later_reports a rest before' split old new k v l is = go (cases_lt k (length done))
      where
        go : (k < length done) ⊎ (length done ≤ k) → HasReport before' v k
        go (inl below) = old k v below is
        go (inr past) =
            let more = length_more done a in
            let k_is : length done ≡ k = omega (arith, past, l, more) in
            let got : slice_get plan.acts k ≡ Some a = ap (λ acts. slice_get acts k) split ∙ ap (slice_get (done ++ a ∷ rest)) (sym k_is) ∙ got_plain done a rest in
            let a_is : a ≡ Reap v = some_same a (Reap v) (sym got ∙ is) in
            subst (HasReport before' v) k_is (new v a_is)

    done_more : (a : Act) → length done ≤ length (done ++ a ∷ [])
    done_more a = let more = length_more done a in omega (arith, more)

    -- ---- a fork
    pub tale_begins : (v script : ℕ) (node : NodeId) (rest : List Act) (k : ℕ) → plan.acts ≡ done ++ Begin v script node ∷ rest → n ≡ v → marks v ≡ Absent →
        Tale (put_at v Born marks) (put_at v k p) (suc n) (done ++ Begin v script node ∷ []) (before ++ Called shell calls.Fork (Number k) ∷ [])
    tale_begins v script node rest k split n_is absent =
        let entry = Called shell calls.Fork (Number k) in
        record {
          told = forks_more before entry ∙ ap (λ l. k ∷ l) tale.told ∙ ap (λ l. k ∷ l) (told_same p (put_at v k p) n (λ u l. sym (put_other v u k p (omega (arith, l, n_is))))) ∙ ap (λ x. x ∷ told_pids (put_at v k p) n) (sym (ap (put_at v k p) n_is ∙ put_same v k p));
          together = λ u l is. go u l is (cases_same u v);
          reported = later_reports (Begin v script node) rest (before ++ entry ∷ []) split (λ j u l is. report_quiet before entry u j (λ forks. refl) (tale.reported j u l is)) (λ u e. cc);
          unreported = λ u ne. reports_quiet u before entry (λ forks. refl) ∙ tale.unreported u (un u ne (cases_same u v));
          asked = λ u is. ask u is (cases_same u v);
        }
      where
        go : (u : ℕ) → u < suc n → IsLoosed (put_at v Born marks u) → (u ≡ v) ⊎ (u ≢ v) → Together (before ++ Called shell calls.Fork (Number k) ∷ []) (plan.first u)
        go u l is (inl e) = absurd (not_loosed (put_at v Born marks u) (ap is_loosed (ap (put_at v Born marks) e ∙ put_same v Born marks)) is)
        go u l is (inr ne) = together_more before (Called shell calls.Fork (Number k)) (plan.first u) (tale.together u (omega (arith, l, ne, n_is)) (subst IsLoosed (put_other v u Born marks ne) is))

        un : (u : ℕ) → put_at v Born marks u ≢ Reaped → (u ≡ v) ⊎ (u ≢ v) → marks u ≢ Reaped
        un u ne (inl e) = λ is. let no : Absent ≡ Reaped = sym absent ∙ ap marks (sym e) ∙ is in cc
        un u ne (inr d) = λ is. ne (put_other v u Born marks d ∙ is)

        ask : (u : ℕ) → put_at v Born marks u ≡ Going true → (u ≡ v) ⊎ (u ≢ v) → IsEndAsked world plan (plan.first u) (length (done ++ Begin v script node ∷ []))
        ask u is (inl e) = let no : Born ≡ Going true = sym (put_same v Born marks) ∙ ap (put_at v Born marks) (sym e) ∙ is in cc
        ask u is (inr ne) = asked_more (plan.first u) (length done) (length (done ++ Begin v script node ∷ [])) (done_more (Begin v script node)) (tale.asked u (sym (put_other v u Born marks ne) ∙ is))

    -- ---- a step that changes one stage's mark to one that is not let go
    pub tale_puts : (v : ℕ) (m : Mark) (a : Act) (rest : List Act) (entry : Entry) → plan.acts ≡ done ++ a ∷ rest → is_plain a ≡ true → IsQuietEntry entry → is_loosed m ≡ false → is_loosed (marks v) ≡ false →
        Tale (put_at v m marks) p n (done ++ a ∷ []) (before ++ entry ∷ [])
    tale_puts v m a rest entry split plain quiet fixed was = record {
      told = forks_more before entry ∙ quiet.0 (forks before) ∙ tale.told;
      together = λ u l is. go u l is (cases_same u v);
      reported = later_reports a rest (before ++ entry ∷ []) split (λ j u l is. report_quiet before entry u j quiet.1 (tale.reported j u l is)) (λ u e. let no : is_plain (Reap u) ≡ true = ap is_plain (sym e) ∙ plain in cc);
      unreported = λ u ne. reports_quiet u before entry quiet.1 ∙ tale.unreported u (un u ne (cases_same u v));
      asked = λ u is. ask u is (cases_same u v);
    }
      where
        go : (u : ℕ) → u < n → IsLoosed (put_at v m marks u) → (u ≡ v) ⊎ (u ≢ v) → Together (before ++ entry ∷ []) (plan.first u)
        go u l is (inl e) = absurd (not_loosed (put_at v m marks u) (ap is_loosed (ap (put_at v m marks) e ∙ put_same v m marks) ∙ fixed) is)
        go u l is (inr ne) = together_more before entry (plan.first u) (tale.together u l (subst IsLoosed (put_other v u m marks ne) is))

        un : (u : ℕ) → put_at v m marks u ≢ Reaped → (u ≡ v) ⊎ (u ≢ v) → marks u ≢ Reaped
        un u ne (inl e) = λ is. not_loosed (marks u) (ap (λ u. is_loosed (marks u)) e ∙ was) (inr is)
        un u ne (inr d) = λ is. ne (put_other v u m marks d ∙ is)

        ask : (u : ℕ) → put_at v m marks u ≡ Going true → (u ≡ v) ⊎ (u ≢ v) → IsEndAsked world plan (plan.first u) (length (done ++ a ∷ []))
        ask u is (inl e) = absurd (not_loosed (put_at v m marks u) (ap is_loosed (ap (put_at v m marks) e ∙ put_same v m marks) ∙ fixed) (inl (true, is)))
        ask u is (inr ne) = asked_more (plan.first u) (length done) (length (done ++ a ∷ [])) (done_more a) (tale.asked u (sym (put_other v u m marks ne) ∙ is))

    -- ---- a signal to a job
    pub tale_sends : (f : ℕ) (s : Signal) (rest : List Act) (entry : Entry) → plan.acts ≡ done ++ Send f s ∷ rest → IsQuietEntry entry →
        ((u : ℕ) → u < n → plan.first u ≡ f → marks u ≡ Member → AreTogether world plan before f) → Tale (after_act plan.first (Send f s) marks) p n (done ++ Send f s ∷ []) (before ++ entry ∷ [])
    tale_sends f s rest entry split quiet stood = record {
      told = forks_more before entry ∙ quiet.0 (forks before) ∙ tale.told;
      together = λ u l is. go u l (cases_same (plan.first u) f) is;
      reported = later_reports (Send f s) rest (before ++ entry ∷ []) split (λ j u l is. report_quiet before entry u j quiet.1 (tale.reported j u l is)) (λ u e. cc);
      unreported = λ u ne. reports_quiet u before entry quiet.1 ∙ tale.unreported u (λ is. ne (reaped_stays (plan.first u == f) (marks u) is));
      asked = λ u is. ask u is (cases_same (plan.first u) f);
    }
      where
        reaped_stays : (b : Bool) (m : Mark) → m ≡ Reaped → cond b (sent_mark s m) m ≡ Reaped
        reaped_stays false m e = e
        reaped_stays true m e = ap (sent_mark s) e ∙ some s
          where
            some : (s : Signal) → sent_mark s Reaped ≡ Reaped
            some Cont = refl
            some Term = refl
            some _ = refl

        out : (u : ℕ) → plan.first u ≢ f → after_act plan.first (Send f s) marks u ≡ marks u
        out u ne = ap (λ b. cond b (sent_mark s (marks u)) (marks u)) (not_same (plan.first u) f ne)

        inside : (u : ℕ) → plan.first u ≡ f → after_act plan.first (Send f s) marks u ≡ sent_mark s (marks u)
        inside u is = ap (λ b. cond b (sent_mark s (marks u)) (marks u)) (eq-eqb (plan.first u) f is)

        old : (u : ℕ) → u < n → IsLoosed (marks u) → Together (before ++ entry ∷ []) (plan.first u)
        old u l is = together_more before entry (plan.first u) (tale.together u l is)

        was : (u : ℕ) → u < n → plan.first u ≡ f → (m : Mark) → marks u ≡ m → is_loosed (sent_mark s m) ≡ true → Together (before ++ entry ∷ []) (plan.first u)
        was u l is (Going b) e h = old u l (inl (b, e))
        was u l is Reaped e h = old u l (inr e)
        was u l is Member e h = (before, entry ∷ [], refl, subst (AreTogether world plan before) (sym is) (stood u l is e))
        was u l is Absent e h = let no : is_loosed (sent_mark s Absent) ≡ false = nope s in cc
          where
            nope : (s : Signal) → is_loosed (sent_mark s Absent) ≡ false
            nope Cont = refl
            nope Term = refl
            nope _ = refl
        was u l is Born e h = let no : is_loosed (sent_mark s Born) ≡ false = nope s in cc
          where
            nope : (s : Signal) → is_loosed (sent_mark s Born) ≡ false
            nope Cont = refl
            nope Term = refl
            nope _ = refl
        was u l is Seen e h = let no : is_loosed (sent_mark s Seen) ≡ false = nope s in cc
          where
            nope : (s : Signal) → is_loosed (sent_mark s Seen) ≡ false
            nope Cont = refl
            nope Term = refl
            nope _ = refl

        go : (u : ℕ) → u < n → (plan.first u ≡ f) ⊎ (plan.first u ≢ f) → IsLoosed (after_act plan.first (Send f s) marks u) → Together (before ++ entry ∷ []) (plan.first u)
        go u l (inl is) h = was u l is (marks u) refl (ap is_loosed (sym (inside u is)) ∙ loosed (after_act plan.first (Send f s) marks u) h)
        go u l (inr ne) h = old u l (subst IsLoosed (out u ne) h)

        more : IsEndAsked world plan f (length done) → IsEndAsked world plan f (length (done ++ Send f s ∷ []))
        more = asked_more f (length done) (length (done ++ Send f s ∷ [])) (done_more (Send f s))

        asks_now : (s : Signal) (m : Mark) → sent_mark s m ≡ Going true → (m ≡ Going true) ⊎ (s ≡ Term)
        asks_now Term m e = inr refl
        asks_now Cont Member e = cc
        asks_now Cont Absent e = cc
        asks_now Cont Born e = cc
        asks_now Cont Seen e = cc
        asks_now Cont (Going b) e = inl e
        asks_now Cont Reaped e = cc
        asks_now _ m e = inl e

        ask : (u : ℕ) → after_act plan.first (Send f s) marks u ≡ Going true → (plan.first u ≡ f) ⊎ (plan.first u ≢ f) → IsEndAsked world plan (plan.first u) (length (done ++ Send f s ∷ []))
        ask u is (inr ne) = asked_more (plan.first u) (length done) (length (done ++ Send f s ∷ [])) (done_more (Send f s)) (tale.asked u (sym (out u ne) ∙ is))
        ask u is (inl e) = elim (asks_now s (marks u) (sym (inside u e) ∙ is)) [
          | inl g ↦ asked_more (plan.first u) (length done) (length (done ++ Send f s ∷ [])) (done_more (Send f s)) (tale.asked u g)
          | inr t ↦ (
            length done,
            (let more = length_more done (Send f s) in omega (arith, more)),
            ap (λ acts. slice_get acts (length done)) split ∙ got_plain done (Send f s) rest ∙ ap (λ g. Some (Send g s)) (sym e) ∙ ap (λ t. Some (Send (plan.first u) t)) t,
          )
        ]

    -- ---- a report of an end
    pub tale_reaps : (v : ℕ) (rest : List Act) (w : WaitStatus) (b : Bool) → plan.acts ≡ done ++ Reap v ∷ rest → v < n → marks v ≡ Going b → IsItsEnd b (plan.status v) w → stage_in (forks before) (p v) ≡ Some v →
        Tale (put_at v Reaped marks) p n (done ++ Reap v ∷ []) (before ++ Called shell (calls.Waitpid (pos (p v)) false false) (Child (pid (p v)) w) ∷ [])
    tale_reaps v rest w b split below going end known = record {
      told = forks_more before (Called shell (calls.Waitpid (pos (p v)) false false) (Child (pid (p v)) w)) ∙ tale.told;
      together = λ u l is. go u l is (cases_same u v);
      reported = later_reports (Reap v) rest (before ++ Called shell (calls.Waitpid (pos (p v)) false false) (Child (pid (p v)) w) ∷ []) split (λ j u l is. old j u (tale.reported j u l is) (cases_same u v)) (λ u e. new u e);
      unreported = λ u ne. un u ne (cases_same u v);
      asked = λ u is. ask u is (cases_same u v);
    }
      where
        told_one : reported (forks before) (Called shell (calls.Waitpid (pos (p v)) false false) (Child (pid (p v)) w)) ≡ record { stage = v; status = w } ∷ []
        told_one = ap (λ o. report_for o w) known ∙ ap (λ b. cond b (record { stage = v; status = w } ∷ []) []) (its_end b (plan.status v) w end)

        go : (u : ℕ) → u < n → IsLoosed (put_at v Reaped marks u) → (u ≡ v) ⊎ (u ≢ v) → Together (before ++ Called shell (calls.Waitpid (pos (p v)) false false) (Child (pid (p v)) w) ∷ []) (plan.first u)
        go u l is (inl e) = together_more before (Called shell (calls.Waitpid (pos (p v)) false false) (Child (pid (p v)) w)) (plan.first u) (tale.together u l (inl (b, ap marks e ∙ going)))
        go u l is (inr ne) = together_more before (Called shell (calls.Waitpid (pos (p v)) false false) (Child (pid (p v)) w)) (plan.first u) (tale.together u l (subst IsLoosed (put_other v u Reaped marks ne) is))

        reports_other : (u : ℕ) → u ≢ v → reports_of u (before ++ Called shell (calls.Waitpid (pos (p v)) false false) (Child (pid (p v)) w) ∷ []) ≡ reports_of u before
        reports_other u ne = reports_more u before (Called shell (calls.Waitpid (pos (p v)) false false) (Child (pid (p v)) w)) ∙ ap (λ l. reports_of u before ++ filter (λ r. r.stage == u) l) told_one
            ∙ ap (λ c. reports_of u before ++ cond c (record { stage = v; status = w } ∷ []) []) (not_same v u (λ e. ne (sym e))) ∙ append-nil (reports_of u before)

        not_reaped : marks v ≢ Reaped
        not_reaped is = let no : Going b ≡ Reaped = sym going ∙ is in cc

        reports_own : reports_of v (before ++ Called shell (calls.Waitpid (pos (p v)) false false) (Child (pid (p v)) w) ∷ []) ≡ record { stage = v; status = w } ∷ []
        reports_own = reports_more v before (Called shell (calls.Waitpid (pos (p v)) false false) (Child (pid (p v)) w)) ∙ ap (λ l. reports_of v before ++ filter (λ r. r.stage == v) l) told_one
            ∙ ap (λ c. reports_of v before ++ cond c (record { stage = v; status = w } ∷ []) []) (eq-eqb v v refl) ∙ ap (λ l. l ++ record { stage = v; status = w } ∷ []) (tale.unreported v not_reaped)

        old : (j u : ℕ) → HasReport before u j → (u ≡ v) ⊎ (u ≢ v) → HasReport (before ++ Called shell (calls.Waitpid (pos (p v)) false false) (Child (pid (p v)) w) ∷ []) u j
        old j u (x, is, f) (inl e) = let none : reports_of u before ≡ [] = ap (λ u. reports_of u before) e ∙ tale.unreported v not_reaped in cc
        old j u (x, is, f) (inr ne) = (x, reports_other u ne ∙ is, f)

        final : IsItsEnd b (plan.status v) w → (w ≡ status.Exited (plan.status v)) ⊎ ((w ≡ status.Killed Term) × IsEndAsked world plan (plan.first v) (length done))
        final (inl i) = inl i
        final (inr i) = inr (i.0, tale.asked v (going ∙ ap Going i.1))

        new : (u : ℕ) → Reap v ≡ Reap u → HasReport (before ++ Called shell (calls.Waitpid (pos (p v)) false false) (Child (pid (p v)) w) ∷ []) u (length done)
        new u e = let is : v ≡ u = cc in subst (λ u. HasReport (before ++ Called shell (calls.Waitpid (pos (p v)) false false) (Child (pid (p v)) w) ∷ []) u (length done)) is (w, reports_own, final end)

        un : (u : ℕ) → put_at v Reaped marks u ≢ Reaped → (u ≡ v) ⊎ (u ≢ v) → reports_of u (before ++ Called shell (calls.Waitpid (pos (p v)) false false) (Child (pid (p v)) w) ∷ []) ≡ []
        un u ne (inl e) = absurd (ne (ap (put_at v Reaped marks) e ∙ put_same v Reaped marks))
        un u ne (inr d) = reports_other u d ∙ tale.unreported u (λ is. ne (put_other v u Reaped marks d ∙ is))

        ask : (u : ℕ) → put_at v Reaped marks u ≡ Going true → (u ≡ v) ⊎ (u ≢ v) → IsEndAsked world plan (plan.first u) (length (done ++ Reap v ∷ []))
        ask u is (inl e) = let no : Reaped ≡ Going true = sym (put_same v Reaped marks) ∙ ap (put_at v Reaped marks) (sym e) ∙ is in cc
        ask u is (inr ne) = asked_more (plan.first u) (length done) (length (done ++ Reap v ∷ [])) (done_more (Reap v)) (tale.asked u (sym (put_other v u Reaped marks ne) ∙ is))
