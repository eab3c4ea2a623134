-- the shell's signals to a job's group
use Rattle.std.proofs.Common.{◌≡◌, ◌≢◌, ◌==◌, ◌&&◌, ◌⊎◌, inl, inr, ◌<◌, ◌≤◌, ℕ, pos, neg_ℤ, Bool, true, false, cond, List, refl, sym, ap, ◌∙◌, subst, arith, Some}
use Rattle.std.specs.Prelude.{map, if◌then◌else◌}
use Rattle.std.specs.Option.{option_map}
use Rattle.std.proofs.lemmas.Bool.{eq-eqb}
use Rattle.unix_names.specs.declared.Pid.{Pid}
use Rattle.unix_names.specs.declared.Signal.{Signal}
use Rattle.unix_names.specs.declared.Signal.TheVariants.{Stop, Cont, Term}
use Rattle.unix_names.specs.declared.Life.TheVariants as life
use Rattle.unix_names.specs.declared.WaitStatus.{WaitStatus}
use Rattle.unix_names.specs.Signals.{number_of}
use Rattle.unix_names.specs.States.{is_living}
use Rattle.unix_names.proofs.SignalLaws.{signal_of-number_of}
use Rattle.unix_calls.specs.declared.Call.TheVariants.{Kill}
use Rattle.unix_calls.specs.declared.Reply.{Reply}
use Rattle.unix_calls.specs.declared.Reply.TheVariants.{Fine}
use Rattle.unix_calls.specs.declared.Entry.TheVariants.{Called}
use Rattle.unix_calls.specs.declared.Target.TheVariants.{InGroup}
use Rattle.unix_calls.specs.declared.World.{World}
use Rattle.signal_state.specs.Sig.{generated}
use Rattle.process_table.specs.declared.Row.{Row}
use Rattle.process_table.specs.Rows.{row_of, in_group, child_count}
use Rattle.kernel_rules.specs.Kill.{kill_refusal}
use Rattle.kernel_rules.specs.Calls.{allows}
use Rattle.kernel_rules.specs.Replies.{is_first, is_fine}
use Rattle.kernel_model.specs.Sound.{IsSound}
use Rattle.kernel_model.specs.Step.{after}
use Rattle.proc_image.specs.Follows.{Running}
use Rattle.list_laws.proofs.Finding.{same_number}
use Rattle.list_laws.proofs.Filters.{and_false, and_true, mapped_some}
use Rattle.kernel_laws.specs.Effects.{killed_once}
use Rattle.kernel_laws.proofs.Own.{kill_once}
use Rattle.kernel_laws.proofs.Rows.{row_map, row_here}
use Rattle.job_laws.specs.Orders.{Mark, Absent, Born, Seen, Member, Going, Reaped, Marks, is_held, sent_mark, after_act, IsWhole, IsSendable}
use Rattle.job_plans.specs.Acts.{Send}
use Rattle.job_plans.specs.Plans.{Plan}
use Rattle.job_laws.specs.Forks.{shell, pid}
use Rattle.job_laws.proofs.Family.{shell_row, IsChild, not_same}
use Rattle.job_laws.proofs.Core.{IsHalted, IsLoose, IsItsEnd, IsLetGo, lives, over, IsStageAs, HasStage, Core, group_at}
use Rattle.job_laws.proofs.Signals.{loose_halted, loose_stop, loose_cont, loose_term}
use Rattle.job_laws.proofs.Lookups.{target_group, kill_allowed, fine_is, sendable}
use Rattle.job_laws.proofs.Kept.{one_stage, held_below}
use Rattle.job_laws.proofs.Shell.{core_after, cases_same}

-- the row of a living member gets the signal, an ended one stays
abbrev pub hit : Signal → Row → Row
hit s r = if is_living r.life then record r { sig = generated r.sig s } else r

-- a stage that may be signalled so
abbrev pub IsTold : Signal → Mark → Type 0
IsTold s m = ((s ≡ Cont) × (m ≡ Member)) ⊎ ((b : Bool) × (m ≡ Going b) × ((s ≡ Stop) ⊎ ((s ≡ Cont) ⊎ (s ≡ Term))))

pub told_as : (plan : Plan) (marks : Marks) (f : ℕ) (s : Signal) → IsSendable plan marks f s → (u : ℕ) → u < plan.count → plan.first u ≡ f → IsTold s (marks u)
told_as plan marks f s (inl all) u l is = inl (all.0, all.1 u l is)
told_as plan marks f s (inr all) u l is = let g = all.1 u l is in inr (g.0, g.1, all.0)

pub told_held : (s : Signal) (m : Mark) → IsTold s m → is_held m ≡ true
told_held s m (inl (i, j)) = ap is_held j
told_held s m (inr (b, i, j)) = ap is_held i

pub told_group : (s : Signal) (m : Mark) (g : ℕ) → IsTold s m → group_at m g ≡ pid g
told_group s m g (inl (i, j)) = ap (λ m. group_at m g) j
told_group s m g (inr (b, i, j)) = ap (λ m. group_at m g) i

pub told_group_then : (s : Signal) (m : Mark) (g : ℕ) → IsTold s m → group_at (sent_mark s m) g ≡ pid g
told_group_then s m g (inl (i, j)) = ap (λ m. group_at (sent_mark s m) g) j ∙ ap (λ s. group_at (sent_mark s Member) g) i
told_group_then s m g (inr (b, i, j)) = ap (λ m. group_at (sent_mark s m) g) i ∙ go j
  where
    go : (s ≡ Stop) ⊎ ((s ≡ Cont) ⊎ (s ≡ Term)) → group_at (sent_mark s (Going b)) g ≡ pid g
    go (inl t) = ap (λ s. group_at (sent_mark s (Going b)) g) t
    go (inr (inl t)) = ap (λ s. group_at (sent_mark s (Going b)) g) t
    go (inr (inr t)) = ap (λ s. group_at (sent_mark s (Going b)) g) t

pub sent_held : (s : Signal) (m : Mark) → is_held (sent_mark s m) ≡ is_held m
sent_held Cont Member = refl
sent_held Cont Absent = refl
sent_held Cont Born = refl
sent_held Cont Seen = refl
sent_held Cont (Going b) = refl
sent_held Cont Reaped = refl
sent_held Term (Going b) = refl
sent_held Term Absent = refl
sent_held Term Born = refl
sent_held Term Seen = refl
sent_held Term Member = refl
sent_held Term Reaped = refl
sent_held s m = refl

hit_living : (s : Signal) (r : Row) → is_living r.life ≡ true → hit s r ≡ record r { sig = generated r.sig s }
hit_living s r a = ap (λ (b : Bool). cond b (record r { sig = generated r.sig s }) r) a

hit_ended : (s : Signal) (r : Row) → is_living r.life ≡ false → hit s r ≡ r
hit_ended s r a = ap (λ (b : Bool). cond b (record r { sig = generated r.sig s }) r) a

module _ (e k : ℕ) (r : Row) where
  living_hit : (b : Bool) (s : Signal) → (k ≡ 1) ⊎ (k ≡ 2) → is_living r.life ≡ true → IsLoose b (generated r.sig s) → IsStageAs (Going b) e k (hit s r)
  living_hit b s p a loose = subst (λ x. IsLetGo b e k x) (sym (hit_living s r a)) (lives p a loose)

  over_hit : (b : Bool) (s : Signal) (w : WaitStatus) → r.life ≡ life.Ended w → IsItsEnd b e w → IsStageAs (Going b) e k (hit s r)
  over_hit b s w l is = subst (λ x. IsLetGo b e k x) (sym (hit_ended s r (ap is_living l))) (over w l is)

  pub told_state : (s : Signal) (m : Mark) → IsTold s m → IsStageAs m e k r → IsStageAs (sent_mark s m) e k (hit s r)
  told_state s m (inl (i, j)) state =
      let h : IsHalted k r = subst (λ m. IsStageAs m e k r) j state in
      subst (λ t. IsStageAs (sent_mark t m) e k (hit t r)) (sym i) (subst (λ n. IsStageAs (sent_mark Cont n) e k (hit Cont r)) (sym j)
      (living_hit false Cont (inl h.at) (ap is_living h.life) (loose_cont false r.sig (subst (IsLoose false) (sym h.sig) loose_halted))))
  told_state s m (inr (b, i, j)) state = subst (λ n. IsStageAs (sent_mark s n) e k (hit s r)) (sym i) (go (subst (λ n. IsStageAs n e k r) i state) j)
    where
      go : IsLetGo b e k r → (s ≡ Stop) ⊎ ((s ≡ Cont) ⊎ (s ≡ Term)) → IsStageAs (sent_mark s (Going b)) e k (hit s r)
      go (lives p a loose) (inl t) = subst (λ t. IsStageAs (sent_mark t (Going b)) e k (hit t r)) (sym t) (living_hit b Stop p a (loose_stop b r.sig loose))
      go (lives p a loose) (inr (inl t)) = subst (λ t. IsStageAs (sent_mark t (Going b)) e k (hit t r)) (sym t) (living_hit b Cont p a (loose_cont b r.sig loose))
      go (lives p a loose) (inr (inr t)) = subst (λ t. IsStageAs (sent_mark t (Going b)) e k (hit t r)) (sym t) (living_hit true Term p a (loose_term b r.sig loose))
      go (over w l is) (inl t) = subst (λ t. IsStageAs (sent_mark t (Going b)) e k (hit t r)) (sym t) (over_hit b Stop w l is)
      go (over w l is) (inr (inl t)) = subst (λ t. IsStageAs (sent_mark t (Going b)) e k (hit t r)) (sym t) (over_hit b Cont w l is)
      go (over w l is) (inr (inr t)) = subst (λ t. IsStageAs (sent_mark t (Going b)) e k (hit t r)) (sym t) (over_hit true Term w l (elim is [ inl x ↦ inl x | inr x ↦ inr (x.0, refl) ]))

-- the group of a mark is the shell's or the job's
group_cases : (m : Mark) (g : ℕ) → (group_at m g ≡ shell) ⊎ (group_at m g ≡ pid g)
group_cases Member g = inr refl
group_cases (Going b) g = inr refl
group_cases Absent g = inl refl
group_cases Born g = inl refl
group_cases Seen g = inl refl
group_cases Reaped g = inl refl

module _ (world : World) (plan : Plan) (marks : Marks) (p : ℕ → ℕ) (n : ℕ) (rows : List Row) (running : Running) (sound : IsSound rows) (core : Core world plan marks p n rows running)
    (f : ℕ) (s : Signal) (in_range : f < plan.count) (own : plan.first f ≡ f) (whole : IsWhole plan marks) (may : IsSendable plan marks f s) (few_forked : n ≤ plan.count) where
  held_first : is_held (marks f) ≡ true
  held_first = told_held s (marks f) (told_as plan marks f s may f in_range own)

  low : 2 < p f
  low = core.numbers f (held_below world plan marks p n rows running sound core f held_first)

  -- whose group it is
  pub member_of : (u : ℕ) → (held : is_held (marks u) ≡ true) → plan.first u ≡ f → (core.held u held).row.group ≡ pid (p f)
  member_of u held is =
      let below = held_below world plan marks p n rows running sound core u held in
      (core.held u held).group ∙ told_group s (marks u) (p (plan.first u)) (told_as plan marks f s may u (omega (arith, below, few_forked)) is) ∙ ap (λ v. pid (p v)) is

  pub stranger_of : (u : ℕ) → (held : is_held (marks u) ≡ true) → plan.first u ≢ f → in_group (pid (p f)) (core.held u held).row ≡ false
  stranger_of u held ne = not_same _ (p f) (λ e. go (group_cases (marks u) (p (plan.first u))) (ap (λ q. q.0) (sym (core.held u held).group) ∙ e))
    where
      go : (group_at (marks u) (p (plan.first u)) ≡ shell) ⊎ (group_at (marks u) (p (plan.first u)) ≡ pid (p (plan.first u))) → (group_at (marks u) (p (plan.first u))).0 ≡ p f → ⊥
      go (inl is) e = let two : 2 ≡ p f = ap (λ q. q.0) (sym is) ∙ e in omega (arith, two, low)
      go (inr is) e = ne (one_stage world plan marks p n rows running sound core (plan.first u) f (whole u held) held_first (ap (λ q. q.0) (sym is) ∙ e))

  shell_not : in_group (pid (p f)) shell_row ≡ false
  shell_not = not_same 2 (p f) (omega (arith, low))

  -- the kill is allowed
  pub send_fine : (reply : Reply) → allows rows shell_row (Kill (neg_ℤ (pos (p f))) (number_of s)) reply ≡ true → reply ≡ Fine
  send_fine reply e =
      let h = core.held f held_first in
      let named : in_group (pid (p f)) h.row ≡ true = ap (λ q. q.0 == p f) (member_of f held_first own) ∙ same_number (p f) in
      let none = ap (λ t. kill_refusal rows shell_row t (number_of s)) (target_group (p f) (omega (arith, low)))
      ∙ kill_allowed rows shell_row h.row (InGroup (pid (p f))) (number_of s) refl (sendable s) refl (row_here rows (pid (p f)) h.row h.there) named in
      fine_is reply (ap (λ o. is_first o reply (is_fine reply)) (sym none) ∙ e)

  abbrev pub sent_rows : List Row
  sent_rows = after rows (Called shell (Kill (neg_ℤ (pos (p f))) (number_of s)) Fine)

  send_is : (q : Pid) → row_of sent_rows q ≡ option_map (killed_once shell_row (InGroup (pid (p f))) (number_of s) s) (row_of rows q)
  send_is q = ap (λ t. row_of t q) (kill_once rows shell shell_row (neg_ℤ (pos (p f))) (number_of s) s core.shell_there (signal_of-number_of s)
      ∙ ap (λ t. map (killed_once shell_row t (number_of s) s) rows) (target_group (p f) (omega (arith, low))))
      ∙ row_map rows (killed_once shell_row (InGroup (pid (p f))) (number_of s) s) same_pid q
    where
      same_pid : (c : Row) → (killed_once shell_row (InGroup (pid (p f))) (number_of s) s c).pid ≡ c.pid
      same_pid c = go (is_living c.life && (in_group (pid (p f)) c && true))
        where
          go : (b : Bool) → (cond b (record c { sig = generated c.sig s }) c).pid ≡ c.pid
          go true = refl
          go false = refl

  once_member : (c : Row) → in_group (pid (p f)) c ≡ true → killed_once shell_row (InGroup (pid (p f))) (number_of s) s c ≡ hit s c
  once_member c m = ap (λ b. cond (is_living c.life && (b && true)) (record c { sig = generated c.sig s }) c) m ∙ ap (λ b. cond b (record c { sig = generated c.sig s }) c) (and_true (is_living c.life))

  once_stranger : (c : Row) → in_group (pid (p f)) c ≡ false → killed_once shell_row (InGroup (pid (p f))) (number_of s) s c ≡ c
  once_stranger c m = ap (λ b. cond (is_living c.life && (b && true)) (record c { sig = generated c.sig s }) c) m ∙ ap (λ b. cond b (record c { sig = generated c.sig s }) c) (and_false (is_living c.life))

  abbrev marks_then : Marks
  marks_then = after_act plan.first (Send f s) marks

  mark_in : (u : ℕ) → plan.first u ≡ f → marks_then u ≡ sent_mark s (marks u)
  mark_in u is = ap (λ b. cond b (sent_mark s (marks u)) (marks u)) (eq-eqb (plan.first u) f is)

  mark_out : (u : ℕ) → plan.first u ≢ f → marks_then u ≡ marks u
  mark_out u ne = ap (λ b. cond b (sent_mark s (marks u)) (marks u)) (not_same (plan.first u) f ne)

  held_same : (u : ℕ) → is_held (marks_then u) ≡ is_held (marks u)
  held_same u = go (plan.first u == f)
    where
      go : (b : Bool) → is_held (cond b (sent_mark s (marks u)) (marks u)) ≡ is_held (marks u)
      go true = sent_held s (marks u)
      go false = refl

  absent_same : (b : Bool) (m : Mark) → m ≡ Absent → cond b (sent_mark s m) m ≡ Absent
  absent_same true m e = ap (sent_mark s) e ∙ none s
    where
      none : (s : Signal) → sent_mark s Absent ≡ Absent
      none Cont = refl
      none Term = refl
      none _ = refl
  absent_same false m e = e

  present_same : (b : Bool) (m : Mark) → m ≢ Absent → cond b (sent_mark s m) m ≢ Absent
  present_same false m ne = ne
  present_same true m ne = some s m ne
    where
      some : (s : Signal) (m : Mark) → m ≢ Absent → sent_mark s m ≢ Absent
      some Cont Member ne = λ e. cc
      some Term (Going b) ne = λ e. cc
      some Cont Absent ne = ne
      some Cont Born ne = ne
      some Cont Seen ne = ne
      some Cont (Going b) ne = ne
      some Cont Reaped ne = ne
      some Term Absent ne = ne
      some Term Born ne = ne
      some Term Seen ne = ne
      some Term Member ne = ne
      some Term Reaped ne = ne
      some s m ne = ne

  pub core_send : (running' : Running) → ((x : ℕ) → x ≢ 2 → running' x ≡ running x) → child_count sent_rows shell ≤ child_count rows shell → Core world plan marks_then p n sent_rows running'
  core_send running' others few = core_after world plan marks p n rows running sound core marks_then sent_rows running'
      (send_is shell ∙ ap (option_map (killed_once shell_row (InGroup (pid (p f))) (number_of s) s)) core.shell_there ∙ ap Some (once_stranger shell_row shell_not))
      (λ u h. sym (held_same u) ∙ h) (λ u h. stands u (sym (held_same u) ∙ h) (cases_same (plan.first u) f)) known
      (λ u e. absent_same (plan.first u == f) (marks u) e) (λ u e. present_same (plan.first u == f) (marks u) e) few
    where
      stands : (u : ℕ) → is_held (marks u) ≡ true → (plan.first u ≡ f) ⊎ (plan.first u ≢ f) → HasStage world (p u) (marks_then u) (plan.status u) (group_at (marks_then u) (p (plan.first u))) sent_rows running'
      stands u held (inl is) =
          let h = core.held u held in
          let below = held_below world plan marks p n rows running sound core u held in
          let range : u < plan.count = omega (arith, below, few_forked) in
          let low_u = core.numbers u below in
          let told = told_as plan marks f s may u range is in
          let inside : in_group (pid (p f)) h.row ≡ true = ap (λ q. q.0 == p f) (member_of u held is) ∙ same_number (p f) in
          subst (λ m. HasStage world (p u) m (plan.status u) (group_at m (p (plan.first u))) sent_rows running') (sym (mark_in u is)) (record {
            row = hit s h.row;
            there = send_is (pid (p u)) ∙ ap (option_map (killed_once shell_row (InGroup (pid (p f))) (number_of s) s)) h.there ∙ ap Some (once_member h.row inside);
            child = hit_child h.row h.child (is_living h.row.life);
            group = hit_group h.row (is_living h.row.life) ∙ h.group ∙ told_group s (marks u) (p (plan.first u)) told ∙ sym (told_group_then s (marks u) (p (plan.first u)) told);
            at = h.at;
            runs = others (p u) (omega (arith, low_u)) ∙ h.runs;
            script = h.script;
            state = told_state (plan.status u) h.at.position h.row s (marks u) told h.state;
          })
        where
          hit_group : (r : Row) (b : Bool) → (cond b (record r { sig = generated r.sig s }) r).group ≡ r.group
          hit_group r true = refl
          hit_group r false = refl

          hit_child : (r : Row) → IsChild r → (b : Bool) → IsChild (cond b (record r { sig = generated r.sig s }) r)
          hit_child r k true = record { parent = k.parent; session = k.session; uid = k.uid; execed = k.execed; other = k.other }
          hit_child r k false = k
      stands u held (inr ne) =
          let h = core.held u held in
          let below = held_below world plan marks p n rows running sound core u held in
          let low_u = core.numbers u below in
          subst (λ m. HasStage world (p u) m (plan.status u) (group_at m (p (plan.first u))) sent_rows running') (sym (mark_out u ne)) (record {
            row = h.row;
            there = send_is (pid (p u)) ∙ ap (option_map (killed_once shell_row (InGroup (pid (p f))) (number_of s) s)) h.there ∙ ap Some (once_stranger h.row (stranger_of u held ne));
            child = h.child;
            group = h.group;
            at = h.at;
            runs = others (p u) (omega (arith, low_u)) ∙ h.runs;
            script = h.script;
            state = h.state;
          })

      known : (q : Pid) (r : Row) → row_of sent_rows q ≡ Some r → (q.0 ≡ 2) ⊎ ((u : ℕ) × (is_held (marks_then u) ≡ true) × (p u ≡ q.0))
      known q r e =
          let m = mapped_some (killed_once shell_row (InGroup (pid (p f))) (number_of s) s) (row_of rows q) r (sym (send_is q) ∙ e) in
          elim (core.nobody q m.0 m.1) [ inl two ↦ inl two | inr k ↦ inr (k.0, held_same k.0 ∙ k.1, k.2) ]
