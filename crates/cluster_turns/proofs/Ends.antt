-- a courier comes to an end: it leaves, waits or is done after finitely many questions
use Rattle.std.proofs.Common.{◌≡◌, ◌⊎◌, inl, inr, ◌<◌, ◌≤◌, ◌==◌, ◌||◌, ℕ, zero, suc, Bool, true, false, cond, not, List, [], ◌∷◌, ◌++◌, length, refl, sym, ap, ◌∙◌, subst, arith, Option, None, Some}
use Rattle.std.specs.Prelude.{filter, is_some}
use Rattle.std.proofs.lemmas.Bool.{eq-eqb, or_left}
use Rattle.unix_names.specs.declared.Pid.{Pid}
use Rattle.unix_names.specs.declared.Name.{Name}
use Rattle.unix_names.specs.declared.Name.TheVariants as name
use Rattle.unix_names.specs.Names.{home, pid_of}
use Rattle.unix_calls.specs.declared.Call.{Call}
use Rattle.unix_calls.specs.declared.Call.TheVariants as calls
use Rattle.unix_calls.specs.declared.Job.{Job}
use Rattle.unix_calls.specs.declared.Job.TheVariants.{Ask as AskJob, Look, Push}
use Rattle.unix_calls.specs.declared.World.{World}
use Rattle.unix_calls.specs.Valid.{IsValid}
use Rattle.list_laws.proofs.Filters.{some_same}
use Rattle.proc_image.specs.Follows.{Running, first_running, after_entries}
use Rattle.record_bag.specs.declared.Held.{Held}
use Rattle.record_bag.specs.declared.Bag.{Bag}
use Rattle.record_bag.specs.declared.vector.Outcome.{Outcome}
use Rattle.record_bag.specs.declared.vector.Outcome.TheVariants.{Done, Need, Away}
use Rattle.record_bag.specs.Bags.{is_held, with_held, held_names}
use Rattle.record_bag.proofs.BagLaws.{held_at-put}
use Rattle.record_table.specs.declared.slot.Slot.{Slot}
use Rattle.record_table.specs.declared.slot.Slot.TheVariants.{Home, Out}
use Rattle.record_table.specs.declared.slot.Line.{Line}
use Rattle.record_table.specs.Slots.{slot_at}
use Rattle.courier_core.specs.declared.courier.Courier.{Courier}
use Rattle.courier_core.specs.declared.courier.Message.TheVariants as message
use Rattle.courier_core.specs.Wants.{is_name, lists, lacking, all_added}
use Rattle.courier_core.specs.Couriers.{asked as wanted_or, next_want, must_restart}
use Rattle.courier_core.proofs.Order.{is_name-true, IsLeast-least_of}
use Rattle.courier_core.proofs.Keeping.{lists-left, lists-right, lists-either, all_added-old, all_added-new}
use Rattle.courier_core.proofs.Lists.{lists-lacking}
use Rattle.unix_names.specs.Names.{is_before}
use Rattle.process_table.specs.declared.Row.{Row}
use Rattle.process_table.specs.Rows.{row_of}
use Rattle.node_state.specs.declared.State.{State}
use Rattle.node_state.specs.Wires.{posted}
use Rattle.node_core.specs.Advance.{empty_bag, Ask, is_stepped, Advanced, asked, site_of, wanted_at, wanted, restarted, needed_least, needed, stepped_by, stepped, goes_on, advanced}
use Rattle.node_core.specs.declared.step.Step.{Step}
use Rattle.node_core.specs.declared.step.Step.TheVariants.{Again, Over}
use Rattle.cluster_state.specs.Cluster.{Cluster}
use Rattle.cluster_contents.specs.Placement.{Places, Contents, Below}
use Rattle.decide_law.specs.Needs.{size, IsOfCall, IsOfJob, IsOfRow, IsNamed, OfJob, OfRow, Itself as NamesItself}
use Rattle.decide_law.specs.Vector.{IsAnswer, IsVector}
use Rattle.cluster_moves.proofs.Returns.{held_more, is_held_some}
use Rattle.kernel_model.specs.Legal.{after_all}
use Rattle.unix_calls.specs.declared.Entry.{Entry as Line_}
use Rattle.cluster_contents.proofs.NamesKept.{NamesKept}
use Rattle.cluster_turns.proofs.Advances.{InTurn, StepIs, asks, stepped_is}
use Rattle.cluster_turns.proofs.Asked.{told_at, names_held, any_listed}

-- ---- what is left of a list
abbrev left : (Name → Bool) → List Name → ℕ
left f xs = length (filter (λ n. not (f n)) xs)

left_less : (f g : Name → Bool) → ((n : Name) → f n ≡ true → g n ≡ true) → (xs : List Name) → left g xs ≤ left f xs
left_less f g more [] = omega arith
left_less f g more (x ∷ xs) = go (f x) refl (g x) refl (left_less f g more xs)
  where
    go : (a : Bool) → f x ≡ a → (b : Bool) → g x ≡ b → left g xs ≤ left f xs → length (cond (not b) (x ∷ filter (λ n. not (g n)) xs) (filter (λ n. not (g n)) xs)) ≤ length (cond (not a) (x ∷ filter (λ n. not (f n)) xs) (filter (λ n. not (f n)) xs))
    go true fx true gx h = h
    go true fx false gx h = let e : false ≡ true = sym gx ∙ more x fx in cc
    go false fx true gx h = omega arith
    go false fx false gx h = omega arith

left_fewer : (f g : Name → Bool) → ((n : Name) → f n ≡ true → g n ≡ true) → (xs : List Name) (x : Name) → lists xs x ≡ true → f x ≡ false → g x ≡ true → left g xs < left f xs
left_fewer f g more [] x there fx gx = cc
left_fewer f g more (y ∷ ys) x there fx gx = go (is_name y x) refl (f y) refl (g y) refl there (λ t. left_fewer f g more ys x t fx gx) (left_less f g more ys)
  where
    go : (c : Bool) → is_name y x ≡ c → (a : Bool) → f y ≡ a → (b : Bool) → g y ≡ b → (c || lists ys x) ≡ true → (lists ys x ≡ true → left g ys < left f ys) → left g ys ≤ left f ys →
        length (cond (not b) (y ∷ filter (λ n. not (g n)) ys) (filter (λ n. not (g n)) ys)) < length (cond (not a) (y ∷ filter (λ n. not (f n)) ys) (filter (λ n. not (f n)) ys))
    go true same true fy b gy t rest le = let e : true ≡ false = sym fy ∙ ap f (is_name-true y x same) ∙ fx in cc
    go true same false fy true gy t rest le = omega arith
    go true same false fy false gy t rest le = let e : false ≡ true = sym gy ∙ ap g (is_name-true y x same) ∙ gx in cc
    go false same true fy true gy t rest le = rest t
    go false same true fy false gy t rest le = let e : false ≡ true = sym gy ∙ more y fy in cc
    go false same false fy true gy t rest le = let h = rest t in omega arith
    go false same false fy false gy t rest le = let h = rest t in omega arith

-- ---- the names that a question may ask for
abbrev both : ℕ → List Name
both n = name.V (record { 0 = n }) ∷ name.G (record { 0 = n }) ∷ []

abbrev of_call : Call → List Name
of_call (calls.Getpgid t) = both t
of_call (calls.Getsid t) = both t
of_call (calls.Waitpid sel stopped continued) = both (size sel)
of_call (calls.Kill target sig) = both (size target)
of_call (calls.Setpgid t q) = both t ++ both (size q)
of_call _ = []

abbrev of_job : Job → List Name
of_job (AskJob call at) = of_call call
of_job Look = []
of_job (Push node) = []

abbrev of_row : Row → List Name
of_row r = both r.pid.0 ++ both r.parent.0 ++ both r.group.0 ++ both r.session.0

abbrev of_rows : List Row → List Name
of_rows [] = []
of_rows (r ∷ rs) = of_row r ++ of_rows rs

-- all of them
all_names : List Row → Pid → Job → List Name
all_names rows p job = both p.0 ++ of_job job ++ of_rows rows

in_both : (n : Name) (m : ℕ) → pid_of n ≡ m → lists (both m) n ≡ true
in_both (name.V q) m e = or_left (m == q.0) false (eq-eqb m q.0 (sym e))
in_both (name.G q) m e = or_left (m == q.0) false (eq-eqb m q.0 (sym e))

in_call : (call : Call) (n : Name) → IsOfCall call (pid_of n) → lists (of_call call) n ≡ true
in_call (calls.Getpgid t) n e = in_both n t e
in_call (calls.Getsid t) n e = in_both n t e
in_call (calls.Waitpid sel stopped continued) n e = in_both n (size sel) e
in_call (calls.Kill target sig) n e = in_both n (size target) e
in_call (calls.Setpgid t q) n (inl e) = lists-left (both t) (both (size q)) n (in_both n t e)
in_call (calls.Setpgid t q) n (inr e) = lists-right (both t) (both (size q)) n (in_both n (size q) e)
in_call calls.Getpid n e = absurd e
in_call calls.Getppid n e = absurd e
in_call calls.Fork n e = absurd e
in_call calls.Exec n e = absurd e
in_call (calls.Exit status) n e = absurd e
in_call calls.Setsid n e = absurd e
in_call (calls.Action sig act) n e = absurd e
in_call (calls.Mask set) n e = absurd e
in_call calls.Pending n e = absurd e
in_call calls.Migrate n e = absurd e

in_job : (job : Job) (n : Name) → IsOfJob job (pid_of n) → lists (of_job job) n ≡ true
in_job (AskJob call at) n e = in_call call n e
in_job Look n e = absurd e
in_job (Push node) n e = absurd e

in_row : (r : Row) (n : Name) → IsOfRow r (pid_of n) → lists (of_row r) n ≡ true
in_row r n (inl e) = lists-left (both r.pid.0) (both r.parent.0 ++ both r.group.0 ++ both r.session.0) n (in_both n r.pid.0 e)
in_row r n (inr (inl e)) = lists-right (both r.pid.0) (both r.parent.0 ++ both r.group.0 ++ both r.session.0) n (lists-left (both r.parent.0) (both r.group.0 ++ both r.session.0) n (in_both n r.parent.0 e))
in_row r n (inr (inr (inl e))) =
    lists-right (both r.pid.0) (both r.parent.0 ++ both r.group.0 ++ both r.session.0) n (lists-right (both r.parent.0) (both r.group.0 ++ both r.session.0) n (lists-left (both r.group.0) (both r.session.0) n (in_both n r.group.0 e)))
in_row r n (inr (inr (inr e))) =
    lists-right (both r.pid.0) (both r.parent.0 ++ both r.group.0 ++ both r.session.0) n (lists-right (both r.parent.0) (both r.group.0 ++ both r.session.0) n (lists-right (both r.group.0) (both r.session.0) n (in_both n r.session.0 e)))

in_rows : (rows : List Row) (q : Pid) (r : Row) (n : Name) → row_of rows q ≡ Some r → IsOfRow r (pid_of n) → lists (of_rows rows) n ≡ true
in_rows [] q r n e is = cc
in_rows (x ∷ xs) q r n e is = go (x.pid.0 == q.0) e (λ t. in_rows xs q r n t is)
  where
    go : (b : Bool) → cond b (Some x) (row_of xs q) ≡ Some r → (row_of xs q ≡ Some r → lists (of_rows xs) n ≡ true) → lists (of_row x ++ of_rows xs) n ≡ true
    go true e rest = lists-left (of_row x) (of_rows xs) n (in_row x n (subst (λ y. IsOfRow y (pid_of n)) (sym (some_same x r e)) is))
    go false e rest = lists-right (of_row x) (of_rows xs) n (rest e)

in_all : (rows : List Row) (p : Pid) (job : Job) (n : Name) → IsNamed rows p job (pid_of n) → lists (all_names rows p job) n ≡ true
unfolding all_names
in_all rows p job n (NamesItself e) = lists-left (both p.0) (of_job job ++ of_rows rows) n (in_both n p.0 e)
in_all rows p job n (OfJob e) = lists-right (both p.0) (of_job job ++ of_rows rows) n (lists-left (of_job job) (of_rows rows) n (in_job job n e))
in_all rows p job n (OfRow q r there e) = lists-right (both p.0) (of_job job ++ of_rows rows) n (lists-right (of_job job) (of_rows rows) n (in_rows rows q r n there e))

-- ---- a courier that goes on is nearer to its end
pub record Takes (U : List Name) (c c' : Courier) : Type 0 where
  wants : c'.wants ≡ c.wants
  keeps : (n : Name) → is_held c.bag n ≡ true → is_held c'.bag n ≡ true
  one : Name
  among : lists (c.wants ++ U) one ≡ true
  lacked : is_held c.bag one ≡ false
  has : is_held c'.bag one ≡ true

pub record Learns (U : List Name) (c c' : Courier) : Type 0 where
  keeps : (n : Name) → lists c.wants n ≡ true → lists c'.wants n ≡ true
  one : Name
  among : lists U one ≡ true
  lacked : lists c.wants one ≡ false
  has : lists c'.wants one ≡ true

pub record Nearer (U : List Name) (c c' : Courier) : Type 0 where
  pub pid : c'.image.pid ≡ c.image.pid
  pub job : c'.job ≡ c.job
  pub near : Takes U c c' ⊎ Learns U c c'

abbrev pub NearerBy : List Name → Courier → Step → Type 0
NearerBy U c (Again c') = Nearer U c c'
NearerBy U c (Over e) = Unit {0}

module _ (world : World) (s : State) (c : Courier) (names U : List Name) (told : (n : Name) → lists names n ≡ true → lists U n ≡ true) (below : Below c) (held : (n : Name) → lists (held_names c.bag) n ≡ true → is_held c.bag n ≡ true) where
  wanted_near : (x : Name) → lists (c.wants ++ names) x ≡ true → is_held c.bag x ≡ false → NearerBy U c (wanted s c x).step
  wanted_near x among lacks = go (home x s.nodes == s.id)
    where
      in_U : (lists c.wants x ≡ true) ⊎ (lists names x ≡ true) → lists (c.wants ++ U) x ≡ true
      in_U (inl a) = lists-left c.wants U x a
      in_U (inr b) = lists-right c.wants U x (told x b)

      here : (a : Slot Held (Line Courier)) → NearerBy U c (wanted_at s c x a).step
      here (Home h) = record {
        pid = refl;
        job = refl;
        near = inl (record {
          wants = refl;
          keeps = λ n e. held_more c.bag x h n e;
          one = x;
          among = in_U (lists-either c.wants names x among);
          lacked = lacks;
          has = is_held_some (with_held c.bag x h) x ∙ ap is_some (held_at-put c.bag x h);
        });
      }
      here (Out line) = tt

      go : (b : Bool) → NearerBy U c (cond b (wanted_at s c x (slot_at s.slots x)) (is_stepped (posted s (home x s.nodes) (message.Ride c)) (Over None))).step
      go true = here (slot_at s.slots x)
      go false = tt

  restarted_near : (x : Name) → lists (c.wants ++ names) x ≡ true → is_held c.bag x ≡ false → must_restart c x ≡ true → NearerBy U c (restarted s c names).step
  restarted_near x among lacks again = record { pid = refl; job = refl; near = inr (by (lists c.wants x) refl (lists-either c.wants names x among)) }
    where
      by : (b : Bool) → lists c.wants x ≡ b → (lists c.wants x ≡ true) ⊎ (lists names x ≡ true) → Learns U c (record c { wants = all_added c.wants (names ++ held_names c.bag); bag = empty_bag })
      by true wanted t =
          let m = any_listed (λ n. is_before x n) (held_names c.bag) again in
          let f : true ≡ false = sym (below x m.0 wanted (held m.0 m.1) m.2) ∙ lacks in
          cc
      by false wanted (inl t) = let f : true ≡ false = sym t ∙ wanted in cc
      by false wanted (inr t) = record {
        keeps = λ n e. all_added-old c.wants (names ++ held_names c.bag) n e;
        one = x;
        among = told x t;
        lacked = wanted;
        has = all_added-new c.wants (names ++ held_names c.bag) x (lists-left names (held_names c.bag) x t);
      }

  needed_near : NearerBy U c (needed s c names).step
  needed_near = go (next_want c names) refl
    where
      at : (x : Name) → next_want c names ≡ Some x → (b : Bool) → must_restart c x ≡ b → NearerBy U c (cond b (restarted s c names) (wanted s c x)).step
      at x e true f =
          let there = lists-lacking c.bag (wanted_or c names) x (IsLeast-least_of x (lacking c.bag (wanted_or c names)) e).among in
          restarted_near x there.0 there.1 f
      at x e false f =
          let there = lists-lacking c.bag (wanted_or c names) x (IsLeast-least_of x (lacking c.bag (wanted_or c names)) e).among in
          wanted_near x there.0 there.1

      go : (o : Option Name) → next_want c names ≡ o → NearerBy U c (needed_least s c names o).step
      go None e = tt
      go (Some x) e = at x e (must_restart c x) refl

-- ---- the end
module _ (world : World) (C : Cluster) (k : ℕ) (valid : IsValid world) (ask : Ask) (vector : IsVector world.nodes ask) (inside : k < world.nodes) (names_kept : NamesKept) (m : ℕ) (room : m < 999999) (rows : List Row) (running : Running) (history : List Line_) (table_is : after_all world history ≡ rows) (far_is : after_entries world (first_running world) history ≡ running) (W : Contents) where
  step_near : (L : Places) (s : State) (c : Courier) → InTurn world C k m rows running history W L s c → NearerBy (all_names rows c.image.pid c.job) c (stepped world ask s c).step
  step_near L s c t =
      let a = asks world C k valid ask vector inside names_kept m room rows running history table_is far_is W L s c t in
      go (asked ask s c).outcome (asked ask s c).bag (vector.answers rows c.image.pid c.job c.image.own c.bag (site_of s) a)
    where
      go : (o : Outcome) (b : Bag) → IsAnswer world.nodes rows c.image.pid c.job (site_of s) c.bag b o → NearerBy (all_names rows c.image.pid c.job) c (stepped_by world s c o b).step
      go (Done d) b is = tt
      go (Need names) b is =
          subst (λ x. NearerBy (all_names rows c.image.pid c.job) c (needed s (record c { bag = x }) names).step) (sym is.1)
          (needed_near world s c names (all_names rows c.image.pid c.job) (λ n e. in_all rows c.image.pid c.job n (told_at rows c.image.pid c.job names is.0.told n e)) t.fits.below (λ n e. names_held c.bag t.fits.bag.vprocs t.fits.bag.groups n e))
      go (Away to) b is = tt

  abbrev pub Ends : State → Courier → Type 0
  Ends s c = (n : ℕ) × (a : Advanced) × (advanced world ask n s c ≡ Some a)

  -- so many names are still to be learnt
  abbrev EndsFrom : List Name → ℕ → Type 0
  EndsFrom U a = (L : Places) (s : State) (c : Courier) → InTurn world C k m rows running history W L s c → all_names rows c.image.pid c.job ≡ U → left (lists c.wants) U ≤ a → Ends s c

  -- so many of the wanted names are still to be taken
  abbrev EndsBy : List Name → ℕ → ℕ → Type 0
  EndsBy U a b = (L : Places) (s : State) (c : Courier) → InTurn world C k m rows running history W L s c → all_names rows c.image.pid c.job ≡ U → left (lists c.wants) U ≤ a → left (is_held c.bag) (c.wants ++ U) ≤ b → Ends s c

  same_names : (U : List Name) (c c' : Courier) → Nearer U c c' → all_names rows c.image.pid c.job ≡ U → all_names rows c'.image.pid c'.job ≡ U
  same_names U c c' near is = ap (λ p. all_names rows p c'.job) near.pid ∙ ap (all_names rows c.image.pid) near.job ∙ is

  one_more : (s : State) (c c' : Courier) (s' : State) → (stepped world ask s c).state ≡ s' → (stepped world ask s c).step ≡ Again c' → Ends s' c' → Ends s c
  one_more s c c' s' state step (n, a, e) = (suc n, a, ap (goes_on (advanced world ask n) (stepped world ask s c).state) step ∙ ap (λ x. advanced world ask n x c') state ∙ e)

  at_step : (U : List Name) (a b : ℕ) → ((a' : ℕ) → a' < a → EndsFrom U a') → ((b' : ℕ) → b' < b → EndsBy U a b') → EndsBy U a b
  at_step U a b outer inner L s c t is few less =
      go (stepped world ask s c).step refl (stepped_is world C k valid ask vector inside names_kept m room rows running history table_is far_is W L s c t) (subst (λ V. NearerBy V c (stepped world ask s c).step) is (step_near L s c t))
    where
      on : (c' : Courier) (L' : Places) → (stepped world ask s c).step ≡ Again c' → InTurn world C k m rows running history W L' (stepped world ask s c).state c' → Nearer U c c' → Takes U c c' ⊎ Learns U c c' → Ends s c
      on c' L' same t' near (inl x) =
          let fewer = left_fewer (is_held c.bag) (is_held c'.bag) x.keeps (c.wants ++ U) x.one x.among x.lacked x.has in
          let now : left (is_held c'.bag) (c'.wants ++ U) < b = subst (λ ws. left (is_held c'.bag) (ws ++ U) < b) (sym x.wants) (omega (arith, fewer, less)) in
          let wants_few : left (lists c'.wants) U ≤ a = subst (λ ws. left (lists ws) U ≤ a) (sym x.wants) few in
          one_more s c c' (stepped world ask s c).state refl same
          (inner (left (is_held c'.bag) (c'.wants ++ U)) now L' (stepped world ask s c).state c' t' (same_names U c c' near is) wants_few (omega arith))
      on c' L' same t' near (inr x) =
          let fewer = left_fewer (lists c.wants) (lists c'.wants) x.keeps U x.one x.among x.lacked x.has in
          one_more s c c' (stepped world ask s c).state refl same
          (outer (left (lists c'.wants) U) (omega (arith, fewer, few)) L' (stepped world ask s c).state c' t' (same_names U c c' near is) (omega arith))

      go : (step : Step) → (stepped world ask s c).step ≡ step → StepIs world C k m rows running history W (stepped world ask s c).state step → NearerBy U c step → Ends s c
      go (Over e) same r near = (1, record { state = (stepped world ask s c).state; entry = e }, ap (goes_on (advanced world ask zero) (stepped world ask s c).state) same)
      go (Again c') same r near = on c' r.0 same r.1 near near.near

  -- by the number of names to be taken
  ends_upto : (U : List Name) (a : ℕ) → ((a' : ℕ) → a' < a → EndsFrom U a') → (n b : ℕ) → b < n → EndsBy U a b
  ends_upto U a outer zero b lt = absurd (omega (arith, lt))
  ends_upto U a outer (suc n) b lt = at_step U a b outer (below_b (ends_upto U a outer n))
    where
      below_b : ((b' : ℕ) → b' < n → EndsBy U a b') → (b' : ℕ) → b' < b → EndsBy U a b'
      below_b rest b' less = rest b' (omega (arith, less, lt))

  -- by the number of names to be learnt
  ends_learning : (U : List Name) (n a : ℕ) → a < n → EndsFrom U a
  ends_learning U zero a lt = absurd (omega (arith, lt))
  ends_learning U (suc n) a lt = with_rest (ends_learning U n)
    where
      with_rest : ((a' : ℕ) → a' < n → EndsFrom U a') → EndsFrom U a
      with_rest rest L s c t is few =
          ends_upto U a (λ a' less. rest a' (omega (arith, less, lt))) (suc (left (is_held c.bag) (c.wants ++ U))) (left (is_held c.bag) (c.wants ++ U)) (omega arith) L s c t is few (omega arith)

  -- a courier in its turn comes to an end
  pub comes_to_end : (L : Places) (s : State) (c : Courier) → InTurn world C k m rows running history W L s c → Ends s c
  comes_to_end L s c t = ends_learning (all_names rows c.image.pid c.job) (suc (left (lists c.wants) (all_names rows c.image.pid c.job))) (left (lists c.wants) (all_names rows c.image.pid c.job)) (omega arith) L s c t refl (omega arith)
