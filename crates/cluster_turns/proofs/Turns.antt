-- each turn of a node keeps what stands
use Rattle.std.proofs.Common.{◌≡◌, ◌≢◌, ◌⊎◌, inl, inr, ◌<◌, ℕ, zero, suc, Bool, true, false, cond, List, [], ◌∷◌, ◌++◌, refl, sym, ap, ◌∙◌, subst, Option, None, Some}
use Rattle.std.specs.Option.{option_map}
use Rattle.unix_names.specs.declared.NodeId.{NodeId}
use Rattle.unix_names.specs.Names.{is_before}
use Rattle.proc_image.specs.Images.{IsFit}
use Rattle.record_bag.specs.Bags.{held_names}
use Rattle.courier_core.specs.Couriers.{HoldsWhatIsBelow}
use Rattle.node_core.specs.Turns.{arriving}
use Rattle.node_core.specs.Conditions.{AsksFit, FitsOn, CanSetOut}
use Rattle.decide_law.specs.Vector.{Fits}
use Rattle.cluster_turns.proofs.Advances.{me, asks, InTurn, Outcome_is, StepIs, stepped_is}
use Rattle.cluster_turns.proofs.Asked.{names_held, any_listed}
use Rattle.unix_names.specs.declared.Pid.{Pid}
use Rattle.unix_names.specs.declared.Name.{Name}
use Rattle.unix_names.specs.declared.Name.TheVariants as name
use Rattle.unix_calls.specs.declared.Entry.{Entry}
use Rattle.unix_names.specs.Names.{home}
use Rattle.unix_calls.specs.declared.Job.{Job}
use Rattle.unix_calls.specs.declared.Job.TheVariants.{Push as PushJob}
use Rattle.unix_calls.specs.declared.Phase.{Phase}
use Rattle.unix_calls.specs.declared.Phase.TheVariants as phases
use Rattle.list_laws.proofs.Filters.{some_same}
use Rattle.unix_calls.specs.declared.World.{World}
use Rattle.unix_calls.specs.Valid.{IsValid}
use Rattle.proc_image.specs.declared.image.Image.{Image}
use Rattle.proc_image.specs.Follows.{Running, first_running, after_entries}
use Rattle.proc_image.specs.Images.{next_job}
use Rattle.record_bag.specs.Bags.{is_held, held_at}
use Rattle.courier_core.specs.declared.courier.Courier.{Courier}
use Rattle.courier_core.specs.declared.courier.Message.{Message}
use Rattle.courier_core.specs.declared.courier.Message.TheVariants as message
use Rattle.process_table.specs.declared.Row.{Row}
use Rattle.node_state.specs.declared.State.{State}
use Rattle.node_state.specs.declared.Waiting.{Waiting}
use Rattle.node_state.specs.declared.Waiting.TheVariants as waiting
use Rattle.node_state.specs.Returns.{laid, nudged_here}
use Rattle.node_state.specs.Places.{placed, poked}
use Rattle.node_core.specs.Advance.{Ask, Advanced, empty_bag, stepped, goes_on, advanced}
use Rattle.node_core.specs.declared.step.Step.{Step}
use Rattle.node_core.specs.declared.step.Step.TheVariants.{Again, Over}
use Rattle.cluster_state.specs.Cluster.{Cluster}
use Rattle.node_core.specs.Turns.{courier_with, courier_of, Departure, first_of, moved_with, going, pushed, led, came}
use Rattle.node_state.specs.Ready.{is_stopped_phase as is_stopped_image, first_movable, without_movable}
use Rattle.cluster_contents.specs.Placement.{Where, Ready, Wire, In, Hand, AtHome, Nowhere, Sane, Token, Proc, Rec, Places, moved, View, view, Contents, CourierItem, ImageItem, Bare, ImageFits, JobFits, CourierFits}
use Rattle.decide_law.specs.Law.{is_stopped_phase}
use Rattle.cluster_moves.specs.Benches.{items_at, slots_at}
use Rattle.decide_law.specs.Vector.{IsVector}
use Rattle.cluster_contents.specs.Standing.{Standing, Knows}
use Rattle.cluster_moves.proofs.Things.{moved-same, moved-other, tok_cases, there}
use Rattle.cluster_moves.proofs.Store.{ready_takes}
use Rattle.cluster_moves.proofs.Moves.{None_gone, lost_kept, sane_proc, hand_out, Keeps, All, But, keeps_inside, Bench, courier_on, pick_up, slots_still, poked_keeps, placed_keeps}
use Rattle.cluster_moves.proofs.Returns.{laid_keeps, nudged_here_keeps}
use Rattle.cluster_endings.proofs.Finish.{Absent}
use Rattle.cluster_contents.proofs.NamesKept.{NamesKept}
use Rattle.kernel_model.specs.Legal.{after_all}
use Rattle.cluster_watch.specs.Watched.{WatchesAt, Rests, ImageWatched}
use Rattle.cluster_watch.proofs.Watching.{Fine, Marks, if_rests, watch_less}
use Rattle.cluster_watch.proofs.WatchMoves.{watch_unqueue, OrTold, took_nudge, took_poke}
use Rattle.cluster_watch.proofs.WatchReturns.{laid_watch, placed_watch}
use Rattle.cluster_endings.proofs.WatchFinish.{alive}

module _ (world : World) (valid : IsValid world) (ask : Ask) (vector : IsVector world.nodes ask) (names_kept : NamesKept) (m : ℕ) (room : m < 999999) (rows : List Row) (running : Running) (history : List Entry) (table_is : after_all world history ≡ rows) (far_is : after_entries world (first_running world) history ≡ running) where
  -- ---- a courier until it leaves, waits or is done
  module _ (C : Cluster) (k : ℕ) (inside : k < world.nodes) where
    advanced_is : (n : ℕ) (W : Contents) (L : Places) (s : State) (c : Courier) (a : Advanced) → InTurn world C k m rows running history W L s c → advanced world ask n s c ≡ Some a → Outcome_is world C k m rows running history W.serials a.entry a.state
    advanced_is zero W L s c a t e = cc
    advanced_is (suc n) W L s c a t e = go (stepped world ask s c).step (stepped_is world C k valid ask vector inside names_kept m room rows running history table_is far_is W L s c t) (advanced_is n W) e
      where
        go : (step : Step) → StepIs world C k m rows running history W (stepped world ask s c).state step →
            ((L : Places) (s : State) (c : Courier) (a : Advanced) → InTurn world C k m rows running history W L s c → advanced world ask n s c ≡ Some a → Outcome_is world C k m rows running history W.serials a.entry a.state) →
            goes_on (advanced world ask n) (stepped world ask s c).state step ≡ Some a → Outcome_is world C k m rows running history W.serials a.entry a.state
        go (Again c') is rest e = rest is.0 (stepped world ask s c).state c' a is.1 e
        go (Over entry) is rest e = let same : record { state = (stepped world ask s c).state; entry = entry } ≡ a = cc in subst (λ (x : Advanced). Outcome_is world C k m rows running history W.serials x.entry x.state) same is

    -- ---- what comes out of a container
    none_held : (n : Name) → held_at empty_bag n ≡ None
    none_held (name.V q) = refl
    none_held (name.G q) = refl

    -- what is placed in the cluster, with one thing in hand
    pub record Picked (H : Token → Type 0) (P : Pid → Type 0) (W : Contents) (L : Places) (s : State) : Type 0 where
      pub bench : Bench world C k W L s
      pub standing : Standing world rows running W
      pub missing : Absent W L
      pub knows : Knows world m rows W L
      -- only such things are in hand
      pub hands : (u : Token) → L u ≡ Hand → H u
      pub present : (q : Pid) (x : View) → W.proc q ≡ Some x → L (Proc q) ≢ Nowhere
      pub sane : Sane L
      pub watch : WatchesAt world C k W P s

    empty_held : (n : Name) → is_held empty_bag n ≡ true → ⊥
    empty_held (name.V q) e = cc
    empty_held (name.G q) e = cc

    image_turn : (W : Contents) (L : Places) (s : State) (i : Image) (job : Job) → Picked (λ u. u ≡ Proc i.pid) (Rests world history) W L s → L (Proc i.pid) ≡ Hand → ImageFits W i → Bare W L i.pid → JobFits world i job → InTurn world C k m rows running history W L s (courier_with i job)
    image_turn W L s i job p hand fit bare wants = record {
      bench = p.bench;
      hand = hand;
      fits = record { image = fit; job = wants; bag = record { holds = λ n. none_held n ∙ sym (bare n); vprocs = tt; groups = tt }; wants = λ n e. cc; below = λ w q e held less. absurd (empty_held q held) };
      standing = p.standing;
      missing = p.missing;
      knows = p.knows;
      only = p.hands;
      present = p.present;
      sane = p.sane;
      watch = p.watch;
    }

    courier_turn : (W : Contents) (L : Places) (s : State) (c : Courier) → Picked (λ u. u ≡ Proc c.image.pid) (Rests world history) W L s → L (Proc c.image.pid) ≡ Hand → CourierFits world W L c → InTurn world C k m rows running history W L s c
    courier_turn W L s c p hand fit = record { bench = p.bench; hand = hand; fits = fit; standing = p.standing; missing = p.missing; knows = p.knows; only = p.hands; present = p.present; sane = p.sane; watch = p.watch }

    -- a process that was in a container is in hand
    picked_missing : (W : Contents) (L : Places) (q : Pid) (X : Where) → Absent W L → L (Proc q) ≡ In X → Absent W (moved L (Proc q) Hand)
    picked_missing W L q X missing at r none = let w = missing r none in ((keeps_inside L q X Hand tt at).nowhere r tt w.0, w.1)

    picked_knows : (W : Contents) (L : Places) (q : Pid) → Knows world m rows W L → Knows world m rows W (moved L (Proc q) Hand)
    picked_knows W L q k = record { table = k.table; procs = k.procs; short_table = k.short_table; short_procs = k.short_procs; no_row = k.no_row; at_home = k.at_home; least = k.least; few = k.few; short = k.short }

    picked_hands : (L : Places) (t : Token) → ((u : Token) → L u ≡ Hand → None_gone u) → (u : Token) → moved L t Hand u ≡ Hand → u ≡ t
    picked_hands L t idle u e = go (tok_cases t u)
      where
        go : (t ≡ u) ⊎ (t ≢ u) → u ≡ t
        go (inl same) = sym same
        go (inr ne) = absurd (idle u (sym (moved-other L t Hand u ne) ∙ e))

    -- ---- the ready queue
    from_queue : (W : Contents) (L : Places) (s : State) (bs : List Waiting) (w : Waiting) (cs : List Waiting) → Picked None_gone (Rests world history) W L s → s.ready ≡ bs ++ w ∷ cs →
        (job : Image → Job) → ((i : Image) → w ≡ waiting.Image i → JobFits world i (job i)) → (c : Courier) → ((i : Image) → w ≡ waiting.Image i → c ≡ courier_with i (job i)) → ((x : Courier) → w ≡ waiting.Courier x → c ≡ x) →
        (M : Places) × InTurn world C k m rows running history W M (record s { ready = bs ++ cs }) c
    from_queue W L s bs (waiting.Image i) cs p is job fits c image_is courier_is =
        let s' : State = record s { ready = bs ++ cs } in
        let adds = ready_takes world C k s bs (waiting.Image i) cs is in
        let f = there world W L (items_at world.nodes C k s) (items_at world.nodes C k s') (slots_at world.nodes C k s) (Ready k) (ImageItem i) p.bench.matches (adds (Ready k)) in
        let b = pick_up world C k W L s s' (Ready k) (ImageItem i) i.pid p.bench refl f.0 adds (slots_still world C k W L s s' p.bench refl) refl refl refl in (
          moved L (Proc i.pid) Hand,
          subst (InTurn world C k m rows running history W (moved L (Proc i.pid) Hand) s') (sym (image_is i refl))
              (image_turn W (moved L (Proc i.pid) Hand) s' i (job i) (record { bench = b; standing = p.standing; missing = picked_missing W L i.pid (Ready k) p.missing f.0; knows = picked_knows W L i.pid p.knows; hands = picked_hands L (Proc i.pid) p.hands; present = λ q x is e. p.present q x is (lost_kept L (Proc i.pid) Hand (Proc q) (λ y. cc) e).0; sane = sane_proc L i.pid Hand tt p.sane; watch = watch_unqueue world C k W (Rests world history) s bs (waiting.Image i) cs is p.watch }) (moved-same L (Proc i.pid) Hand) f.1 f.2 (fits i refl)),
        )
    from_queue W L s bs (waiting.Courier x) cs p is job fits c image_is courier_is =
        let s' : State = record s { ready = bs ++ cs } in
        let adds = ready_takes world C k s bs (waiting.Courier x) cs is in
        let f = there world W L (items_at world.nodes C k s) (items_at world.nodes C k s') (slots_at world.nodes C k s) (Ready k) (CourierItem x) p.bench.matches (adds (Ready k)) in
        let b = pick_up world C k W L s s' (Ready k) (CourierItem x) x.image.pid p.bench refl f.0 adds (slots_still world C k W L s s' p.bench refl) refl refl refl in (
          moved L (Proc x.image.pid) Hand,
          subst (InTurn world C k m rows running history W (moved L (Proc x.image.pid) Hand) s') (sym (courier_is x refl))
              (courier_turn W (moved L (Proc x.image.pid) Hand) s' x (record { bench = b; standing = p.standing; missing = picked_missing W L x.image.pid (Ready k) p.missing f.0; knows = picked_knows W L x.image.pid p.knows; hands = picked_hands L (Proc x.image.pid) p.hands; present = λ q y is e. p.present q y is (lost_kept L (Proc x.image.pid) Hand (Proc q) (λ z. cc) e).0; sane = sane_proc L x.image.pid Hand tt p.sane; watch = watch_unqueue world C k W (Rests world history) s bs (waiting.Courier x) cs is p.watch })
              (moved-same L (Proc x.image.pid) Hand) (courier_on world C k W L x.image.pid Hand x f.1)),
        )

    -- who sets out, if anybody does, has its turn, and the node without it is as it is to be
    abbrev pub SetsOut : Contents → Option Departure → Type 0
    SetsOut W None = Unit {0}
    SetsOut W (Some d) = (M : Places) × InTurn world C k m rows running history W M d.state d.courier

    pub going_sets : (W : Contents) (L : Places) (s : State) → Picked None_gone (Rests world history) W L s → SetsOut W (going world s)
    going_sets W L s p = go s.ready refl
      where
        go : (ws : List Waiting) → s.ready ≡ ws → SetsOut W (first_of world s ws)
        go [] is = tt
        go (w ∷ ws) is = from_queue W L s [] w ws p is (next_job world) (λ i same. inl refl) (courier_of world w) (λ i same. ap (courier_of world) same) (λ x same. ap (courier_of world) same)

    -- the first image that is not stopped stands between the others
    record IsFirst (ws : List Waiting) (i : Image) (rest : List Waiting) : Type 0 where
      before : List Waiting
      after : List Waiting
      is : ws ≡ before ++ waiting.Image i ∷ after
      left : rest ≡ before ++ after
      free : is_stopped_image i.phase ≡ false

    further : (w : Waiting) (ws : List Waiting) (i : Image) (rest : List Waiting) → IsFirst ws i rest → IsFirst (w ∷ ws) i (w ∷ rest)
    further w ws i rest f = record { before = w ∷ f.before; after = f.after; is = ap (λ l. w ∷ l) f.is; left = ap (λ l. w ∷ l) f.left; free = f.free }

    first_is : (ws : List Waiting) (i : Image) → first_movable ws ≡ Some i → IsFirst ws i (without_movable ws)
    first_is [] i e = cc
    first_is (waiting.Courier c ∷ ws) i e = further (waiting.Courier c) ws i (without_movable ws) (first_is ws i e)
    first_is (waiting.Image x ∷ ws) i e = go (is_stopped_image x.phase) refl e (first_is ws i)
      where
        go : (b : Bool) → is_stopped_image x.phase ≡ b → cond b (first_movable ws) (Some x) ≡ Some i → (first_movable ws ≡ Some i → IsFirst ws i (without_movable ws)) → IsFirst (waiting.Image x ∷ ws) i (cond b (waiting.Image x ∷ without_movable ws) ws)
        go true t e rest = further (waiting.Image x) ws i (without_movable ws) (rest e)
        go false t e rest =
            let same : x ≡ i = some_same x i e in
            record { before = []; after = ws; is = ap (λ (y : Image). waiting.Image y ∷ ws) same; left = refl; free = ap (λ (y : Image). is_stopped_image y.phase) (sym same) ∙ t }

    not_stopped : (i : Image) → is_stopped_image i.phase ≡ false → is_stopped_phase i.phase ≡ false
    not_stopped i e = go i.phase e
      where
        go : (ph : Phase) → is_stopped_image ph ≡ false → is_stopped_phase ph ≡ false
        go phases.Stopped e = e
        go phases.Ready e = refl
        go phases.Asleep e = refl
        go phases.Gone e = refl

    image_same : (i x : Image) → waiting.Image i ≡ waiting.Image x → i ≡ x
    image_same i x e = cc

    pub pushed_sets : (to : NodeId) (W : Contents) (L : Places) (s : State) → to.0 < world.nodes → Picked None_gone (Rests world history) W L s → SetsOut W (pushed s to)
    pushed_sets to W L s node p = go (first_movable s.ready) refl
      where
        go : (o : Option Image) → first_movable s.ready ≡ o → SetsOut W (option_map (moved_with s to) o)
        go None is = tt
        go (Some image) is =
            let first = first_is s.ready image is in
            let c = courier_with image (PushJob to) in
            let t = from_queue W L s first.before (waiting.Image image) first.after p first.is (λ i. PushJob to)
            (λ i same. inr (to, refl, not_stopped i (ap (λ (x : Image). is_stopped_image x.phase) (sym (image_same image i same)) ∙ first.free), node)) c (λ i same. ap (λ x. courier_with x (PushJob to)) (image_same image i same)) (λ x same. cc) in
            (t.0, subst (λ l. InTurn world C k m rows running history W t.0 (record s { ready = l }) c) (sym first.left) t.1)

    -- what comes of a turn
    pub led_is : (n : ℕ) (W : Contents) (o : Option Departure) (a : Advanced) → SetsOut W o → led world ask n o ≡ Some a → Outcome_is world C k m rows running history W.serials a.entry a.state
    led_is n W None a t e = cc
    led_is n W (Some d) a t e = advanced_is n W t.0 d.state d.courier a t.1 e

    -- ---- what a turn asks of its caller
    -- each question of a courier in its turn fits
    asks_fit : (n : ℕ) (W : Contents) (L : Places) (s : State) (c : Courier) → InTurn world C k m rows running history W L s c → AsksFit (λ pid job own bag site. Fits pid job own bag site) world ask n s c
    asks_fit zero W L s c t = tt
    asks_fit (suc n) W L s c t = (
      record { nodes = world.nodes; rows = rows; asks = asks world C k valid ask vector inside names_kept m room rows running history table_is far_is W L s c t },
      go (stepped world ask s c).step (stepped_is world C k valid ask vector inside names_kept m room rows running history table_is far_is W L s c t) (asks_fit n W),
    )
      where
        go : (step : Step) → StepIs world C k m rows running history W (stepped world ask s c).state step → ((L : Places) (s : State) (c : Courier) → InTurn world C k m rows running history W L s c → AsksFit (λ pid job own bag site. Fits pid job own bag site) world ask n s c) →
            FitsOn (AsksFit (λ pid job own bag site. Fits pid job own bag site) world ask n) (stepped world ask s c).state step
        go (Again c') is rest = rest is.0 (stepped world ask s c).state c' is.1
        go (Over entry) is rest = tt

    image_fit : (W : Contents) (L : Places) (s : State) (c : Courier) → InTurn world C k m rows running history W L s c → IsFit world c.image
    image_fit W L s c t =
        let mine = me world C k valid ask vector inside names_kept m room rows running history table_is far_is W L s c t in
        record { script = mine.script; vars = mine.vars }

    holds_below : (W : Contents) (L : Places) (c : Courier) → CourierFits world W L c → HoldsWhatIsBelow c
    holds_below W L c f n wanted above =
        let m = any_listed (λ x. is_before n x) (held_names c.bag) above in
        f.below n m.0 wanted (names_held c.bag f.bag.vprocs f.bag.groups m.0 m.1) m.2

    pub can_set_out : (W : Contents) (o : Option Departure) → SetsOut W o → CanSetOut (λ pid job own bag site. Fits pid job own bag site) world ask o
    can_set_out W None t = tt
    can_set_out W (Some d) t = record { valid = valid; kept = record { image = image_fit W t.0 d.state d.courier t.1; below = holds_below W t.0 d.courier t.1.fits }; asks = λ n. asks_fit n W t.0 d.state d.courier t.1 }

    -- ---- a turn that decides nothing
    later : (W : Contents) (L M : Places) (s : State) → Standing world rows running W → Knows world m rows W L → Bench world C k W M s → Absent W M → ((n : Name) → L (Rec n) ≡ AtHome → M (Rec n) ≡ AtHome) → ((u : Token) → M u ≢ Hand) → ((q : Pid) (x : View) → W.proc q ≡ Some x → M (Proc q) ≢ Nowhere) → Sane M → WatchesAt world C k W (Rests world history) s → Outcome_is world C k m rows running history W.serials None s
    later W L M s standing k b missing homes idle present sane watch = record {
      entry_is = tt;
      contents = W;
      elsewhere = λ j ne. refl;
      places = M;
      between = record { bench = b; standing = standing; missing = missing; knows = record { table = k.table; procs = k.procs; short_table = k.short_table; short_procs = k.short_procs; no_row = k.no_row; at_home = λ n u. homes n (k.at_home n u); least = k.least; few = k.few; short = k.short }; idle = idle; present = present; sane = sane; watch = watch };
    }

    kept_missing : (W : Contents) (P : Pid → Type 0) (L M : Places) → Keeps P L M → ((q : Pid) → W.proc q ≡ None → P q) → Absent W L → Absent W M
    kept_missing W P L M k all missing q none = let w = missing q none in (k.nowhere q (all q none) w.0, λ n. k.bags q (all q none) (inr w.0) n (W.what n) ∙ w.1 n)

    -- ---- what a message does, once it is off its wire
    abbrev pub Arrived : Contents → Places → State → Message → Type 0
    Arrived W L s (message.Ride c) = (L (Proc c.image.pid) ≡ Hand) × CourierFits world W L c
    Arrived W L s (message.Put n h) = (L (Rec n) ≡ Hand) × (W.what n ≡ h) × (home n world.nodes ≡ k)
    Arrived W L s (message.Back i) = (L (Proc i.pid) ≡ Hand) × ImageFits W i × Bare W L i.pid × ImageWatched W (Fine world C k W (OrTold world C k W (Rests world history) (message.Back i)) s) (Marks world C k s) i (Wire k k)
    Arrived W L s (message.Nudge p) = Unit {0}
    Arrived W L s (message.Poke p) = Unit {0}

    -- what is then in hand
    abbrev pub Held_by : Message → Token → Type 0
    Held_by (message.Ride c) u = u ≡ Proc c.image.pid
    Held_by (message.Put n h) u = u ≡ Rec n
    Held_by (message.Back i) u = u ≡ Proc i.pid
    Held_by (message.Nudge p) u = ⊥
    Held_by (message.Poke p) u = ⊥

    -- a message that is no news told nobody
    untold : (W : Contents) (s : State) (msg : Message) → ((q : Pid) → message.Nudge q ≡ msg → ⊥) → ((q : Pid) → message.Poke q ≡ msg → ⊥) → WatchesAt world C k W (OrTold world C k W (Rests world history) msg) s → WatchesAt world C k W (Rests world history) s
    untold W s msg no_nudge no_poke w = watch_less world C k W (OrTold world C k W (Rests world history) msg) (Rests world history) s w (λ q h. elim h [ inl a ↦ inl a | inr (inl n) ↦ absurd (no_nudge q n.0) | inr (inr n) ↦ absurd (no_poke q n.0) ])

    no_nudge_back : (i : Image) (q : Pid) → message.Nudge q ≡ message.Back i → ⊥
    no_nudge_back i q e = cc

    no_poke_back : (i : Image) (q : Pid) → message.Poke q ≡ message.Back i → ⊥
    no_poke_back i q e = cc

    still_watched : (W : Contents) (s : State) (i : Image) → ImageWatched W (Fine world C k W (OrTold world C k W (Rests world history) (message.Back i)) s) (Marks world C k s) i (Wire k k) → ImageWatched W (Fine world C k W (Rests world history) s) (Marks world C k s) i (Wire k k)
    still_watched W s i w = (
      w.0,
      if_rests i.phase (Fine world C k W (OrTold world C k W (Rests world history) (message.Back i)) s i.pid ⊎ (Marks world C k s k i.pid ≡ true)) (Fine world C k W (Rests world history) s i.pid ⊎ (Marks world C k s k i.pid ≡ true))
          (λ h. elim h [ inl (inl (inl a)) ↦ inl (inl a) | inl (inl (inr (inl n))) ↦ absurd (no_nudge_back i i.pid n.0) | inl (inl (inr (inr n))) ↦ absurd (no_poke_back i i.pid n.0) | inl (inr f) ↦ inl (inr f) | inr m ↦ inr m ]) w.1,
    )

    -- who rides in, if anybody does
    pub arriving_sets : (W : Contents) (L : Places) (s : State) (msg : Message) → Picked (Held_by msg) (OrTold world C k W (Rests world history) msg) W L s → Arrived W L s msg → SetsOut W (arriving s msg)
    arriving_sets W L s (message.Ride c) p r = (L, courier_turn W L s c (record { bench = p.bench; standing = p.standing; missing = p.missing; knows = p.knows; hands = p.hands; present = p.present; sane = p.sane; watch = untold W s (message.Ride c) (λ q e. cc) (λ q e. cc) p.watch }) r.0 r.1)
    arriving_sets W L s (message.Put x h) p r = tt
    arriving_sets W L s (message.Back i) p r = tt
    arriving_sets W L s (message.Nudge q) p r = tt
    arriving_sets W L s (message.Poke q) p r = tt

    pub came_is : (n : ℕ) (W : Contents) (L : Places) (s : State) (msg : Message) (a : Advanced) → Picked (Held_by msg) (OrTold world C k W (Rests world history) msg) W L s → Arrived W L s msg → came world ask n s msg ≡ Some a → Outcome_is world C k m rows running history W.serials a.entry a.state
    came_is n W L s (message.Ride c) a p r e = advanced_is n W L s c a (courier_turn W L s c (record { bench = p.bench; standing = p.standing; missing = p.missing; knows = p.knows; hands = p.hands; present = p.present; sane = p.sane; watch = untold W s (message.Ride c) (λ q e. cc) (λ q e. cc) p.watch }) r.0 r.1) e
    came_is n W L s (message.Put x h) a p r e =
        let f = laid_keeps world C k W L s x h p.bench r.0 r.1 r.2 in
        let same : record { state = laid s x h; entry = None } ≡ a = cc in
        subst (λ (y : Advanced). Outcome_is world C k m rows running history W.serials y.entry y.state) same (later W L f.places (laid s x h) p.standing p.knows f.bench (kept_missing W All L f.places f.keeps (λ q o. tt) p.missing) f.keeps.homes (λ u e. let h = f.hands u e in h.1 (p.hands u h.0)) (λ q x is e. p.present q x is (f.lost (Proc q) e)) (f.keeps.sane p.sane)
        (laid_watch world C k W L s x h (Rests world history) p.bench r.0 r.1 r.2 (alive world rows running W p.standing) (untold W s (message.Put x h) (λ q e. cc) (λ q e. cc) p.watch)))
    came_is n W L s (message.Back i) a p r e =
        let f = placed_keeps world C k W L s i p.bench (hand_out L (Proc i.pid) r.0) r.1 r.2 in
        let same : record { state = placed s i; entry = None } ≡ a = cc in
        subst (λ (y : Advanced). Outcome_is world C k m rows running history W.serials y.entry y.state) same
        (later W L f.places (placed s i) p.standing p.knows f.bench (kept_missing W (But i.pid) L f.places f.keeps (λ q none s. let eq : q ≡ i.pid = ap (λ (j : ℕ). record { 0 = j }) s in let x : None ≡ Some (view i) = sym none ∙ ap W.proc eq ∙ r.1 in cc) p.missing) f.keeps.homes (λ u e. let h = f.hands u e in h.1 (p.hands u h.0)) (λ q x is e. p.present q x is (f.lost (Proc q) e)) (f.keeps.sane p.sane)
        (placed_watch world C k W L s i (Rests world history) p.bench r.0 (still_watched W s i r.3) (untold W s (message.Back i) (λ q e. cc) (λ q e. cc) p.watch)))
    came_is n W L s (message.Nudge q) a p r e =
        let f = nudged_here_keeps world C k W L s q p.bench in
        let same : record { state = nudged_here s q; entry = None } ≡ a = cc in
        subst (λ (y : Advanced). Outcome_is world C k m rows running history W.serials y.entry y.state) same (later W L f.places (nudged_here s q) p.standing p.knows f.bench (kept_missing W All L f.places f.keeps (λ q o. tt) p.missing) f.keeps.homes (λ u e. p.hands u (f.hands u e).0) (λ q x is e. p.present q x is (f.lost (Proc q) e)) (f.keeps.sane p.sane)
        (took_nudge world C k W L s q (Rests world history) p.bench (alive world rows running W p.standing) p.watch))
    came_is n W L s (message.Poke q) a p r e =
        let f = poked_keeps world C k W L s q p.bench in
        let same : record { state = poked s q; entry = None } ≡ a = cc in
        subst (λ (y : Advanced). Outcome_is world C k m rows running history W.serials y.entry y.state) same (later W L f.places (poked s q) p.standing p.knows f.bench (kept_missing W All L f.places f.keeps (λ q o. tt) p.missing) f.keeps.homes (λ u e. p.hands u (f.hands u e).0) (λ q x is e. p.present q x is (f.lost (Proc q) e)) (f.keeps.sane p.sane)
        (took_poke world C k W L s q (Rests world history) p.bench p.watch))
