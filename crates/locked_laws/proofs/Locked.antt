-- what a locked node keeps when it learns and when it makes a turn
use Rattle.std.proofs.Common.{◌≡◌, ◌<◌, ◌≤◌, ℕ, zero, slice_index, List, [], ◌∷◌, length, map, refl, sym, ap, ◌∙◌, arith, Option, Some}
use mathlib.Core.Option.{some, some-injective, some-ne-none}
use lib.ListN.{get_elem?}
use Rattle.std.specs.Option.{option_map}
use Rattle.std.proofs.lemmas.List.{length-map}
use Rattle.unix_calls.specs.declared.Entry.{Entry}
use Rattle.unix_calls.specs.declared.Turn.{Turn}
use Rattle.unix_calls.specs.declared.Turn.TheVariants.{Go, Push, Take}
use Rattle.unix_calls.specs.declared.World.{World}
use Rattle.pasts.specs.Pasts.{steps_of, Stands, union, IsPast, HasAll, IsLawfulPast}
use Rattle.past_lists.specs.Own.{count, own_of}
use Rattle.past_lists.proofs.Seen.{union_left}
use Rattle.past_lists.proofs.Own.{own_same, own_count, own_whole}
use Rattle.node_state.specs.declared.State.{State}
use Rattle.node_state.specs.declared.Sent.{Sent}
use Rattle.node_state.specs.Wires.{one_taken}
use Rattle.node_core.specs.Advance.{Ask, Advanced}
use Rattle.node_core.specs.First.{first_state}
use Rattle.node_core.specs.Turns.{led, going, pushed, came}
use Rattle.cluster_state.specs.Cluster.{Cluster, first_cluster, turned_at, with_wire, took}
use Rattle.cluster_state.specs.Possible.{node_of, Ran, Possible}
use Rattle.turn_laws.proofs.Steps.{ran_one}
use Rattle.past_laws.specs.Laws.{takes}
use Rattle.past_laws.proofs.Pasts.{stays_true, true_past}
use Rattle.locked_laws.specs.declared.PlacedTurn.{PlacedTurn}
use Rattle.locked_laws.specs.Locked.{step_of, IsNode, IsLetter, MayTurn, NodesKeep}
use Rattle.locked_laws.proofs.Places.{Part, left_within, right_within, left_all}
use Rattle.locked_laws.proofs.Counting.{counts_fit}
use Rattle.locked_laws.proofs.Turning.{may_turn}

first_there : (w : List Sent) (m : Sent) → get_elem? w zero ≡ some m → (ms : List Sent) × (w ≡ m ∷ ms)
first_there [] m e = absurd (some-ne-none m (sym e))
first_there (x ∷ w) m e = (w, ap (λ (y : Sent). y ∷ w) (some-injective x m e))

module _ (world : World) (ask : Ask) where
  -- ---- who learns
  -- before its first turn a node knows nothing
  pub node_first : (k : ℕ) → IsNode world ask [] k (first_state world k) []
  node_first k = record { cluster = first_cluster world; lines = []; ran = (refl, refl); state = refl; own = refl; told = λ i t e. absurd (some-ne-none t (sym e)) }

  -- who learns more turns of others keeps its state and its list
  pub node_learns : (log : List Turn) (p q : Part) (k : ℕ) (s : State) (list : List PlacedTurn) → IsLawfulPast node_of (Possible world ask) log p → IsLawfulPast node_of (Possible world ask) log q → Possible world ask (steps_of (union p q)) → HasAll node_of log p k →
      IsNode world ask p k s list → IsNode world ask (union p q) k s list
  node_learns log p q k s list P Q both all is =
      let stays = stays_true world ask (first_cluster world) (union p q) p is.cluster both.cluster is.lines both.entries (left_within log p q P.past Q.past) is.ran both.ran in
      let whole = left_all log p q P.past Q.past k all in
      record {
        cluster = both.cluster;
        lines = both.entries;
        ran = both.ran;
        state = sym (stays.states k whole) ∙ is.state;
        own = is.own ∙ sym (own_same node_of k 0 (union p q) p (λ j x n h. whole j x h n) (λ j x n h. union_left p q j x h));
        told = λ i t e. stays.entry_is t.place t.line (is.told i t e);
      }

  -- the number of the next message that a node expects of another
  pub expects : (seen : Part) (k from : ℕ) (s : State) (list : List PlacedTurn) → from < world.nodes → IsNode world ask seen k s list → slice_index s.taken from ≡ takes from k (steps_of seen)
  expects seen k from s list there is = ap (λ (t : State). slice_index t.taken from) (sym is.state) ∙ counts_fit world ask from k (steps_of seen) is.cluster is.lines is.ran there

  -- a letter whose message its reader has not taken stays true with what the reader knows
  pub letter_read : (log : List Turn) (p q : Part) (i k n : ℕ) (m : Sent) (s : State) (list : List PlacedTurn) → i < world.nodes → k < world.nodes → IsLawfulPast node_of (Possible world ask) log p → IsLawfulPast node_of (Possible world ask) log q → Possible world ask (steps_of (union p q)) →
      IsNode world ask (union p q) k s list → slice_index s.taken i ≤ n → IsLetter world ask q i k n m → IsLetter world ask (union p q) i k n m
  letter_read log p q i k n m s list in_i in_k P Q both is le letter =
      let stays = stays_true world ask (first_cluster world) (union p q) q letter.cluster both.cluster letter.lines both.entries (right_within log p q P.past Q.past) letter.ran both.ran in
      let h = expects (union p q) k i s list in_i is in
      record { cluster = both.cluster; lines = both.entries; ran = both.ran; flies = stays.messages i k n m letter.flies (omega arith) }

  -- ---- who makes a turn
  -- the first of the ready queue sets out
  pub node_goes : (seen : Part) (k : ℕ) (s : State) (list : List PlacedTurn) (n : ℕ) (a : Advanced) → k < world.nodes → IsNode world ask seen k s list → led world ask n (going world s) ≡ Some a → MayTurn world ask seen k s list (Go k) a
  node_goes seen k s list n a inside is e =
      may_turn world ask seen k s list (Go k) a (turned_at is.cluster k a) is refl
      (record { inside = inside; questions = n; is = ap (option_map (turned_at is.cluster k)) (ap (λ (t : State). led world ask n (going world t)) is.state ∙ e) }) refl is.cluster inside refl

  -- the first that a push can move sets out to another node
  pub node_pushes : (seen : Part) (k to : ℕ) (s : State) (list : List PlacedTurn) (n : ℕ) (a : Advanced) → k < world.nodes → to < world.nodes → IsNode world ask seen k s list → led world ask n (pushed s (record { 0 = to })) ≡ Some a → MayTurn world ask seen k s list (Push k to) a
  node_pushes seen k to s list n a inside there is e =
      may_turn world ask seen k s list (Push k to) a (turned_at is.cluster k a) is refl
      (record { inside = (inside, there); questions = n; is = ap (option_map (turned_at is.cluster k)) (ap (λ (t : State). led world ask n (pushed t (record { 0 = to }))) is.state ∙ e) }) refl is.cluster inside refl

  -- the letter that a node expects is the first of its wire
  pub letter_first : (seen : Part) (k from : ℕ) (s : State) (list : List PlacedTurn) (m : Sent) → from < world.nodes → (is : IsNode world ask seen k s list) → IsLetter world ask seen from k (slice_index s.taken from) m → (ms : List Sent) × (is.cluster.wires from k ≡ m ∷ ms)
  letter_first seen k from s list m there is letter =
      let same = (ran_one world ask (first_cluster world) letter.cluster is.cluster (steps_of seen) letter.lines is.lines letter.ran is.ran).0 in
      let f = letter.flies in
      let zero_place : f.place ≡ 0 = (let h = f.is_number in let g = expects seen k from s list there is in omega arith) in
      first_there ((is.cluster).wires from k) m (ap (λ (C : Cluster). get_elem? (C.wires from k) zero) (sym same) ∙ (ap (λ (p : ℕ). get_elem? ((letter.cluster).wires from k) p) (sym zero_place) ∙ f.there))

  -- it is taken
  pub node_takes : (seen : Part) (k from : ℕ) (s : State) (list : List PlacedTurn) (n : ℕ) (m : Sent) (a : Advanced) → k < world.nodes → from < world.nodes → IsNode world ask seen k s list → IsLetter world ask seen from k (slice_index s.taken from) m →
      came world ask n (one_taken s from) m.message ≡ Some a → MayTurn world ask seen k s list (Take k from) a
  node_takes seen k from s list n m a inside there is letter e =
      let w = letter_first seen k from s list m there is letter in
      let C = with_wire is.cluster from k w.0 in
      may_turn world ask seen k s list (Take k from) a (turned_at C k a) is refl
      (record { inside = (inside, there); questions = n; is = ap (took world ask n is.cluster k from) w.1 ∙ ap (option_map (turned_at C k)) (ap (λ (t : State). came world ask n (one_taken t from) m.message) is.state ∙ e) }) refl C inside refl

  -- ---- what a node's state and list are
  -- a node that knows all its turns has the state, the turns and the lines that the whole list gives it
  pub node_ends : (log : List Turn) (p : Part) (k : ℕ) (s : State) (list : List PlacedTurn) (C : Cluster) (lines : List (Option Entry)) → IsPast node_of log p → HasAll node_of log p k → Ran world ask (first_cluster world) log C lines → IsNode world ask p k s list →
      (C.nodes k ≡ s) × (map step_of list ≡ own_of node_of k 0 log) × ((i : ℕ) (t : PlacedTurn) → get_elem? list i ≡ some t → Stands lines t.place t.line)
  node_ends log p k s list C lines P all a is =
      let true_here = true_past world ask (first_cluster world) log p is.cluster C is.lines lines P is.ran a in
      (sym (true_here.states k all) ∙ is.state, is.own ∙ own_whole node_of k log p P all, λ i t e. true_here.entry_is t.place t.line (is.told i t e))

  -- a node's list is as long as the node has turns
  pub node_room : (seen : Part) (k most : ℕ) (s : State) (list : List PlacedTurn) → IsNode world ask seen k s list → length list < most → count node_of k (steps_of seen) < most
  node_room seen k most s list is lt =
      let a = own_count node_of k 0 seen in
      let b = ap (λ (l : List (ℕ × Turn)). length l) is.own in
      let c = length-map list step_of in
      omega arith

  pub nodes_keep : NodesKeep world ask
  nodes_keep = record {
    first = node_first;
    learns = node_learns;
    reads = letter_read;
    goes = node_goes;
    pushes = node_pushes;
    takes = node_takes;
    ends = node_ends;
    room = node_room;
  }
