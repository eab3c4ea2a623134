-- orders that were played, and what of them stands in the log
use Rattle.std.proofs.Common.{◌≡◌, ◌↔◌, IsTrue, not, ◌+◌, ◌<◌, ℕ, take, get_or, zero, suc, Bool, true, false, cond, List, [], ◌∷◌, ◌++◌, length, replicate, refl, sym, ap, ◌∙◌, subst, arith, Option, None, Some, append_assoc, append-nil, length-append}
use Rattle.std.specs.Option.{is_some}
use Rattle.std.proofs.Math.Seq.{take-suc}
use Rattle.unix_calls.specs.declared.Entry.{Entry}
use Rattle.unix_calls.specs.declared.Turn.{Turn}
use Rattle.unix_calls.specs.declared.Turn.TheVariants.{Go, Push, Take, Auto}
use Rattle.unix_calls.specs.declared.World.{World}
use Rattle.node_core.specs.Advance.{Ask}
use Rattle.cluster_state.specs.Cluster.{Cluster, Turned, first_cluster}
use Rattle.cluster_state.specs.Possible.{Does, somes, history_of}
use Rattle.cluster_state.specs.Run.{is_offered, Order, This, ByRule, orders, numbers_from, first_offered, all_turns, chosen, Makes, Plays, Run}
use Rattle.cluster_state.specs.Quiet.{IsQuiet}
use Rattle.turn_laws.proofs.Playing.{does_offered, plays_join, rule_ends, quiet_ends}
use Rattle.cluster_core.specs.declared.cluster.Place.{Place}
use Rattle.cluster_core.specs.declared.playing.Log.{Log}
use Rattle.cluster_core.specs.MethodShows.{Shown, Shows, IsMade}
use Rattle.cluster_core.specs.MethodReached.{IsNoted, PlaysOn}
use Rattle.cluster_core.specs.Played.{numbers_of, IsRunOf}

-- ---- lists of lines
history_join : (xs ys : List (Option Entry)) → history_of (xs ++ ys) ≡ history_of xs ++ history_of ys
history_join [] ys = refl
history_join (None ∷ xs) ys = history_join xs ys
history_join (Some e ∷ xs) ys = ap (λ (l : List Entry). e ∷ l) (history_join xs ys)

numbers_join : (n : ℕ) (xs ys : List (Option Entry)) → numbers_of n (xs ++ ys) ≡ numbers_of n xs ++ numbers_of (n + length xs) ys
numbers_join n [] ys = let z : n ≡ n + 0 = omega arith in ap (λ (k : ℕ). numbers_of k ys) z
numbers_join n (None ∷ xs) ys = let z : suc n + length xs ≡ n + suc (length xs) = omega arith in numbers_join (suc n) xs ys ∙ ap (λ (k : ℕ). numbers_of (suc n) xs ++ numbers_of k ys) z
numbers_join n (Some e ∷ xs) ys = let z : suc n + length xs ≡ n + suc (length xs) = omega arith in ap (λ (l : List ℕ). n ∷ l) (numbers_join (suc n) xs ys ∙ ap (λ (k : ℕ). numbers_of (suc n) xs ++ numbers_of k ys) z)

module _ {O : Type 0} (answer : O → Ask) (world : World) where
  -- each turn that was made has its line or none
  lines_even : (ask : Ask) (C D : Cluster) (os : List Order) (made : List Turn) (lines : List (Option Entry)) → Plays world ask C os D made lines → length made ≡ length lines
  lines_even ask C D [] made lines p = ap (λ (l : List Turn). length l) p.1 ∙ sym (ap (λ (l : List (Option Entry)). length l) p.2)
  lines_even ask C D (o ∷ os) made lines p = go (chosen world.nodes C o) (λ X others more q. lines_even ask X D os others more q) p
    where
      go : (x : Option Turn) → ((X : Cluster) (others : List Turn) (more : List (Option Entry)) → Plays world ask X os D others more → length others ≡ length more) →
          Makes world ask C x (λ X others more. Plays world ask X os D others more) made lines → length made ≡ length lines
      go None rest p = rest C made lines p
      go (Some x) rest p = ap (λ (l : List Turn). length l) p.4 ∙ ap suc (rest (p.0).cluster p.2 p.3 p.6) ∙ sym (ap (λ (l : List (Option Entry)). length l) p.5)

  -- no order
  pub nothing_played : (shown : Shown O) (log : Log) (places : List (Place O)) → Shows world.nodes shown places → PlaysOn answer world shown [] log log places
  nothing_played shown log places shows = record {
    cluster = shown.cluster;
    made = [];
    lines = [];
    plays = (refl, refl, refl);
    steps = sym (append-nil log.steps.items);
    entries = sym (append-nil log.entries.items);
    numbers = sym (append-nil log.numbers.items);
    shows = shows;
  }

  -- orders after orders
  pub played_on : (shown : Shown O) (os qs : List Order) (a b c : Log) (places later : List (Place O)) → (p : PlaysOn answer world shown os a b places) → PlaysOn answer world (record shown { cluster = p.cluster }) qs b c later → PlaysOn answer world shown (os ++ qs) a c later
  played_on shown os qs a b c places later p q = record {
    cluster = q.cluster;
    made = p.made ++ q.made;
    lines = p.lines ++ q.lines;
    plays = plays_join world (answer shown.ops) shown.cluster p.cluster q.cluster os qs p.made q.made p.lines q.lines p.plays q.plays;
    steps = q.steps ∙ ap (λ (l : List Turn). l ++ q.made) p.steps ∙ append_assoc a.steps.items p.made q.made;
    entries = q.entries ∙ ap (λ (l : List Entry). l ++ history_of q.lines) p.entries ∙ append_assoc a.entries.items (history_of p.lines) (history_of q.lines)
        ∙ ap (λ (l : List Entry). a.entries.items ++ l) (sym (history_join p.lines q.lines));
    numbers = q.numbers ∙ ap (λ (l : List ℕ). l ++ numbers_of (length b.steps.items) q.lines) p.numbers ∙ append_assoc a.numbers.items (numbers_of (length a.steps.items) p.lines) (numbers_of (length b.steps.items) q.lines)
        ∙ ap (λ (l : List ℕ). a.numbers.items ++ l) (ap (λ (k : ℕ). numbers_of (length a.steps.items) p.lines ++ numbers_of k q.lines) counted ∙ sym (numbers_join (length a.steps.items) p.lines q.lines));
    shows = q.shows;
  }
    where
      counted : length b.steps.items ≡ length a.steps.items + length p.lines
      counted = ap (λ (l : List Turn). length l) p.steps ∙ length-append a.steps.items p.made ∙ ap (λ (k : ℕ). length a.steps.items + k) (lines_even (answer shown.ops) shown.cluster p.cluster os p.made p.lines p.plays)

  pub played_cluster : (shown : Shown O) (os qs : List Order) (a b c : Log) (places later : List (Place O)) (p : PlaysOn answer world shown os a b places) (q : PlaysOn answer world (record shown { cluster = p.cluster }) qs b c later) →
      (played_on shown os qs a b c places later p q).cluster ≡ q.cluster
  unfolding played_on
  played_cluster shown os qs a b c places later p q = refl

  -- the same orders, said otherwise
  abbrev pub played_as : (shown : Shown O) (os qs : List Order) (old new : Log) (places : List (Place O)) → os ≡ qs → PlaysOn answer world shown os old new places → PlaysOn answer world shown qs old new places
  played_as shown os qs old new places e p = record {
    cluster = p.cluster;
    made = p.made;
    lines = p.lines;
    plays = subst (λ (l : List Order). Plays world (answer shown.ops) shown.cluster l p.cluster p.made p.lines) e p.plays;
    steps = p.steps;
    entries = p.entries;
    numbers = p.numbers;
    shows = p.shows;
  }

  -- an order for which no turn is made
  idle_order : (shown : Shown O) (o : Order) (log : Log) (places : List (Place O)) → chosen world.nodes shown.cluster o ≡ None → Shows world.nodes shown places → PlaysOn answer world shown (o ∷ []) log log places
  idle_order shown o log places none shows =
      record {
        cluster = shown.cluster;
        made = [];
        lines = [];
        plays = subst (λ (x : Option Turn). Makes world (answer shown.ops) shown.cluster x (λ X others more. Plays world (answer shown.ops) X [] shown.cluster others more) [] []) (sym none) (refl, refl, refl);
        steps = sym (append-nil log.steps.items);
        entries = sym (append-nil log.entries.items);
        numbers = sym (append-nil log.numbers.items);
        shows = shows;
      }

  -- an order for which this turn is made
  made_order : (shown : Shown O) (o : Order) (x : Turn) (r : Turned) (old new : Log) (places : List (Place O)) → chosen world.nodes shown.cluster o ≡ Some x → Does world (answer shown.ops) shown.cluster x r → IsNoted x r.entry old new →
      Shows world.nodes (record shown { cluster = r.cluster }) places → PlaysOn answer world shown (o ∷ []) old new places
  made_order shown o x r old new places is does noted shows = record {
    cluster = r.cluster;
    made = x ∷ [];
    lines = r.entry ∷ [];
    plays = subst (λ (y : Option Turn). Makes world (answer shown.ops) shown.cluster y (λ X others more. Plays world (answer shown.ops) X [] r.cluster others more) (x ∷ []) (r.entry ∷ [])) (sym is) (r, does, [], [], refl, refl, (refl, refl, refl));
    steps = noted.steps;
    entries = noted.entries;
    numbers = noted.numbers;
    shows = shows;
  }

  -- ---- a turn that is named
  this_chosen : (C : Cluster) (x : Turn) (b : Bool) → is_offered world.nodes C x ≡ b → chosen world.nodes C (This x) ≡ cond b (Some x) None
  this_chosen C x b e = ap (λ (t : Bool). cond t (Some x) None) e

  pub not_made : (shown : Shown O) (x : Turn) (log : Log) (places : List (Place O)) → IsMade answer world x shown None places → PlaysOn answer world shown (This x ∷ []) log log places
  not_made shown x log places m = idle_order shown (This x) log places (this_chosen shown.cluster x false m.0) m.1

  pub was_made : (shown : Shown O) (x : Turn) (line : Option Entry) (old new : Log) (places : List (Place O)) → IsMade answer world x shown (Some line) places → IsNoted x line old new → PlaysOn answer world shown (This x ∷ []) old new places
  was_made shown x line old new places m noted =
      made_order shown (This x) x m.0 old new places (this_chosen shown.cluster x true (does_offered world (answer shown.ops) shown.cluster x m.0 m.1)) m.1 (subst (λ (l : Option Entry). IsNoted x l old new) (sym m.2) noted) m.3

  -- ---- a turn that the rule finds
  pub found_is_offered : (C : Cluster) (x : Turn) (xs : List Turn) → first_offered world.nodes C xs ≡ Some x → is_offered world.nodes C x ≡ true
  found_is_offered C x [] e = cc
  found_is_offered C x (y ∷ ys) e = go (is_offered world.nodes C y) refl (found_is_offered C x ys) e
    where
      go : (b : Bool) → is_offered world.nodes C y ≡ b → (first_offered world.nodes C ys ≡ Some x → is_offered world.nodes C x ≡ true) → cond b (Some y) (first_offered world.nodes C ys) ≡ Some x → is_offered world.nodes C x ≡ true
      go true is rest e = let same : y ≡ x = cc in subst (λ (z : Turn). is_offered world.nodes C z ≡ true) same is
      go false is rest e = rest e

  -- it is made as if it were named
  pub found_played : (shown : Shown O) (x : Turn) (old new : Log) (places : List (Place O)) → Some x ≡ chosen world.nodes shown.cluster ByRule → PlaysOn answer world shown (This x ∷ []) old new places → PlaysOn answer world shown (ByRule ∷ []) old new places
  found_played shown x old new places found p = record {
    cluster = p.cluster;
    made = p.made;
    lines = p.lines;
    plays = subst (λ (y : Option Turn). Makes world (answer shown.ops) shown.cluster y (λ X others more. Plays world (answer shown.ops) X [] p.cluster others more) p.made p.lines)
        (this_chosen shown.cluster x true (found_is_offered shown.cluster x (all_turns world.nodes) (sym found)) ∙ found) p.plays;
    steps = p.steps;
    entries = p.entries;
    numbers = p.numbers;
    shows = p.shows;
  }

  -- where it finds none, none is made, however many are asked for
  pub rule_ended : (shown : Shown O) (n : ℕ) (log : Log) (places : List (Place O)) → None ≡ chosen world.nodes shown.cluster ByRule → Shows world.nodes shown places → PlaysOn answer world shown (replicate n ByRule) log log places
  rule_ended shown n log places none shows =
      record {
        cluster = shown.cluster;
        made = [];
        lines = [];
        plays = go n;
        steps = sym (append-nil log.steps.items);
        entries = sym (append-nil log.entries.items);
        numbers = sym (append-nil log.numbers.items);
        shows = shows;
      }
    where
      go : (n : ℕ) → Plays world (answer shown.ops) shown.cluster (replicate n ByRule) shown.cluster [] []
      go zero = (refl, refl, refl)
      go (suc n) = subst (λ (x : Option Turn). Makes world (answer shown.ops) shown.cluster x (λ X others more. Plays world (answer shown.ops) X (replicate n ByRule) shown.cluster others more) [] []) none (go n)

-- ---- schedules
pub orders_join : (s t : List Turn) → orders (s ++ t) ≡ orders s ++ orders t
orders_join [] t = refl
orders_join (Go k ∷ s) t = ap (λ (l : List Order). This (Go k) ∷ l) (orders_join s t)
orders_join (Push k to ∷ s) t = ap (λ (l : List Order). This (Push k to) ∷ l) (orders_join s t)
orders_join (Take k from ∷ s) t = ap (λ (l : List Order). This (Take k from) ∷ l) (orders_join s t)
orders_join (Auto count ∷ s) t = ap (λ (l : List Order). replicate count ByRule ++ l) (orders_join s t) ∙ sym (append_assoc (replicate count ByRule) (orders s) (orders t))

-- ---- so many orders
pub replicate_on : (m n : ℕ) → replicate (m + n) ByRule ≡ replicate m ByRule ++ replicate n ByRule
replicate_on zero n = let z : zero + n ≡ n = omega arith in ap (λ (k : ℕ). replicate k ByRule) z
replicate_on (suc m) n = let z : suc m + n ≡ suc (m + n) = omega arith in ap (λ (k : ℕ). replicate k ByRule) z ∙ ap (λ (l : List Order). ByRule ∷ l) (replicate_on m n)

-- ---- a whole schedule
module _ {O : Type 0} (answer : O → Ask) (world : World) where
  -- one turn more of a schedule
  pub schedule_on : (shown : Shown O) (s : List Turn) (i : ℕ) (d : Turn) (a b c : Log) (places later : List (Place O)) → i < length s → (p : PlaysOn answer world shown (orders (take i s)) a b places) →
      PlaysOn answer world (record shown { cluster = p.cluster }) (orders (get_or s i d ∷ [])) b c later → PlaysOn answer world shown (orders (take (i + 1) s)) a c later
  schedule_on shown s i d a b c places later lt p q =
      let next : suc i ≡ i + 1 = omega arith in
      subst (λ (os : List Order). PlaysOn answer world shown os a c later) (sym (orders_join (take i s) (get_or s i d ∷ [])) ∙ ap orders (sym (take-suc s i d lt) ∙ ap (λ (n : ℕ). take n s) next))
      (played_on answer world shown (orders (take i s)) (orders (get_or s i d ∷ [])) a b c places later p q)

  quiet_if : (C : Cluster) (found : Option Turn) (quiet : Bool) → is_some found ≡ not quiet → found ≡ chosen world.nodes C ByRule → IsTrue quiet ↔ IsQuiet world.nodes C
  quiet_if C None true e is = ((λ t. rule_ends world.nodes C (sym is)), (λ q. refl))
  quiet_if C None false e is = cc
  quiet_if C (Some x) true e is = cc
  quiet_if C (Some x) false e is = ((λ t. cc), (λ q. absurd (some_none x (is ∙ quiet_ends world.nodes C q (numbers_from 0 world.nodes)))))
    where
      some_none : (x : Turn) → Some x ≡ None → ⊥
      some_none x f = cc

  -- a schedule that was played to its end from the beginning
  pub run_of : (ops : O) (t s : List Turn) (old log : Log) (places : List (Place O)) (p : PlaysOn answer world (record { ops = ops; cluster = first_cluster world }) (orders t) old log places) → t ≡ s →
      old.entries.items ≡ [] → old.numbers.items ≡ [] → old.steps.items ≡ [] → (quiet : Bool) (found : Option Turn) → is_some found ≡ not quiet → found ≡ chosen world.nodes p.cluster ByRule →
      IsRunOf world (answer ops) s (record { entries = log.entries; numbers = log.numbers; steps = log.steps; is_quiet = quiet })
  run_of ops t s old log places p whole entries numbers steps quiet found e is = record {
    cluster = p.cluster;
    lines = p.lines;
    run = subst (λ (made : List Turn). Run world (answer ops) s p.cluster made p.lines) (sym (p.steps ∙ ap (λ (l : List Turn). l ++ p.made) steps))
        (subst (λ (l : List Turn). Run world (answer ops) l p.cluster p.made p.lines) whole p.plays);
    entries = p.entries ∙ ap (λ (l : List Entry). l ++ history_of p.lines) entries;
    numbers = p.numbers ∙ ap (λ (l : List ℕ). l ++ numbers_of (length old.steps.items) p.lines) numbers ∙ ap (λ (l : List Turn). numbers_of (length l) p.lines) steps;
    quiet = quiet_if p.cluster found quiet e is;
  }

  pub run_cluster : (ops : O) (t s : List Turn) (old log : Log) (places : List (Place O)) (p : PlaysOn answer world (record { ops = ops; cluster = first_cluster world }) (orders t) old log places) (whole : t ≡ s)
      (entries : old.entries.items ≡ []) (numbers : old.numbers.items ≡ []) (steps : old.steps.items ≡ []) (quiet : Bool) (found : Option Turn) (e : is_some found ≡ not quiet) (is : found ≡ chosen world.nodes p.cluster ByRule) →
      (run_of ops t s old log places p whole entries numbers steps quiet found e is).cluster ≡ p.cluster
  unfolding run_of
  run_cluster ops t s old log places p whole entries numbers steps quiet found e is = refl
