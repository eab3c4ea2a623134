-- runs of schedules
use Rattle.std.proofs.Common.{◌≡◌, ◌+◌, ◌<◌, ◌&&◌, nat_lt, ℕ, zero, suc, Bool, true, false, cond, List, [], ◌∷◌, ◌++◌, map, replicate, refl, sym, ap, ◌∙◌, subst, arith, Option, None, Some, append_assoc, append-nil, lt-ltb}
use mathlib.Core.Option.{some, some-injective, some-ne-none}
use lib.ListN.{get_elem?}
use Rattle.std.specs.Option.{is_some, option_map}
use Rattle.std.proofs.lemmas.Bool.{ltb-true}
use Rattle.unix_calls.specs.declared.Entry.{Entry}
use Rattle.unix_calls.specs.declared.Turn.{Turn}
use Rattle.unix_calls.specs.declared.Turn.TheVariants.{Go, Push, Take, Auto}
use Rattle.unix_calls.specs.declared.World.{World}
use Rattle.list_laws.proofs.Filters.{mapped_some}
use Rattle.proc_image.specs.declared.image.Image.{Image}
use Rattle.unix_names.specs.declared.NodeId.{NodeId}
use Rattle.node_state.specs.Ready.{first_movable}
use Rattle.node_state.specs.declared.State.{State}
use Rattle.node_state.specs.declared.Sent.{Sent}
use Rattle.node_state.specs.declared.Waiting.{Waiting}
use Rattle.node_core.specs.Advance.{Ask, Advanced}
use Rattle.cluster_state.specs.Cluster.{Cluster, Turned, turned_at, took, turned, first_cluster}
use Rattle.node_core.specs.Turns.{first_of, moved_with, going, pushed, led}
use Rattle.cluster_state.specs.Possible.{IsInWorld, Does, Ran}
use Rattle.cluster_state.specs.Run.{has_any, is_offered, Order, This, ByRule, orders, numbers_from, turns_from, first_offered, all_turns, chosen, Makes, Plays, Run}
use Rattle.cluster_state.specs.Quiet.{IsQuiet}
use Rattle.turn_laws.proofs.Steps.{does_one, ran_join}

both_true : (a b : Bool) → a ≡ true → b ≡ true → (a && b) ≡ true
both_true true b e f = f
both_true false b e f = cc

module _ (world : World) (ask : Ask) where
  -- ---- what is possible is offered
  went_offered : (n : ℕ) (s : State) (ws : List Waiting) (a : Advanced) → led world ask n (first_of world s ws) ≡ Some a → has_any ws ≡ true
  went_offered n s [] a e = cc
  went_offered n s (w ∷ ws) a e = refl

  pushed_offered : (n : ℕ) (s : State) (to : NodeId) (o : Option Image) (a : Advanced) → led world ask n (option_map (moved_with s to) o) ≡ Some a → is_some o ≡ true
  pushed_offered n s to None a e = cc
  pushed_offered n s to (Some image) a e = refl

  took_offered : (n : ℕ) (C : Cluster) (k from : ℕ) (w : List Sent) (r : Turned) → took world ask n C k from w ≡ Some r → has_any w ≡ true
  took_offered n C k from [] r e = cc
  took_offered n C k from (m ∷ ms) r e = refl

  turned_offered : (n : ℕ) (C : Cluster) (x : Turn) (r : Turned) → IsInWorld world x → turned world ask n C x ≡ Some r → is_offered world.nodes C x ≡ true
  turned_offered n C (Go k) r inside e =
      let a = mapped_some (turned_at C k) (led world ask n (going world (C.nodes k))) r e in
      both_true _ _ (lt-ltb k world.nodes inside) (went_offered n (C.nodes k) (C.nodes k).ready a.0 a.1)
  turned_offered n C (Push k to) r inside e =
      let a = mapped_some (turned_at C k) (led world ask n (pushed (C.nodes k) (record { 0 = to }))) r e in
      both_true _ _ (lt-ltb k world.nodes inside.0) (both_true _ _ (lt-ltb to world.nodes inside.1) (pushed_offered n (C.nodes k) (record { 0 = to }) (first_movable (C.nodes k).ready) a.0 a.1))
  turned_offered n C (Take k from) r inside e = both_true _ _ (lt-ltb k world.nodes inside.0) (both_true _ _ (lt-ltb from world.nodes inside.1) (took_offered n C k from (C.wires from k) r e))
  turned_offered n C (Auto count) r inside e = absurd inside

  pub does_offered : (C : Cluster) (x : Turn) (r : Turned) → Does world ask C x r → is_offered world.nodes C x ≡ true
  does_offered C x r d = turned_offered d.questions C x r d.inside d.is

  -- ---- the turns that were made are possible, and give the same
  pub plays_ran : (C D : Cluster) (os : List Order) (made : List Turn) (es : List (Option Entry)) → Plays world ask C os D made es → Ran world ask C made D es
  plays_ran C D [] made es p = subst (λ (l : List Turn). Ran world ask C l D es) (sym p.1) (p.0, p.2)
  plays_ran C D (o ∷ os) made es p = go (chosen world.nodes C o) (λ X others more q. plays_ran X D os others more q) p
    where
      go : (x : Option Turn) → ((X : Cluster) (others : List Turn) (more : List (Option Entry)) → Plays world ask X os D others more → Ran world ask X others D more) →
          Makes world ask C x (λ X others more. Plays world ask X os D others more) made es → Ran world ask C made D es
      go None rest p = rest C made es p
      go (Some x) rest p = subst (λ (l : List Turn). Ran world ask C l D es) (sym p.4) (p.0, p.1, p.3, p.5, rest (p.0).cluster p.2 p.3 p.6)

  made : (C D : Cluster) (x : Turn) (xs : List Turn) (es : List (Option Entry)) (r : Turned) → Does world ask C x r → (more : List (Option Entry)) → es ≡ r.entry ∷ more → Plays world ask r.cluster (orders xs) D xs more →
      Makes world ask C (chosen world.nodes C (This x)) (λ X others more. Plays world ask X (orders xs) D others more) (x ∷ xs) es
  made C D x xs es r d more is p = subst (λ (b : Bool). Makes world ask C (cond b (Some x) None) (λ X others more. Plays world ask X (orders xs) D others more) (x ∷ xs) es) (sym (does_offered C x r d)) (r, d, xs, more, refl, is, p)

  -- ---- possible turns are made
  pub ran_plays : (C D : Cluster) (xs : List Turn) (es : List (Option Entry)) → Ran world ask C xs D es → Plays world ask C (orders xs) D xs es
  ran_plays C D [] es a = (a.0, refl, a.1)
  ran_plays C D (Auto count ∷ xs) es a = let d = a.1 in absurd d.inside
  ran_plays C D (Go k ∷ xs) es a = made C D (Go k) xs es a.0 a.1 a.2 a.3 (ran_plays (a.0).cluster D xs a.2 a.4)
  ran_plays C D (Push k to ∷ xs) es a = made C D (Push k to) xs es a.0 a.1 a.2 a.3 (ran_plays (a.0).cluster D xs a.2 a.4)
  ran_plays C D (Take k from ∷ xs) es a = made C D (Take k from) xs es a.0 a.1 a.2 a.3 (ran_plays (a.0).cluster D xs a.2 a.4)

  -- ---- orders after orders
  pub plays_join : (C D E : Cluster) (os qs : List Order) (made next : List Turn) (es fs : List (Option Entry)) → Plays world ask C os D made es → Plays world ask D qs E next fs → Plays world ask C (os ++ qs) E (made ++ next) (es ++ fs)
  plays_join C D E [] qs made next es fs p q = subst (λ (l : List Turn). Plays world ask C qs E (l ++ next) (es ++ fs)) (sym p.1) (subst (λ (l : List (Option Entry)). Plays world ask C qs E next (l ++ fs)) (sym p.2) (subst (λ (X : Cluster). Plays world ask X qs E next fs) p.0 q))
  plays_join C D E (o ∷ os) qs made next es fs p q = go (chosen world.nodes C o) (λ X others more r. plays_join X D E os qs others next more fs r q) p
    where
      go : (x : Option Turn) → ((X : Cluster) (others : List Turn) (more : List (Option Entry)) → Plays world ask X os D others more → Plays world ask X (os ++ qs) E (others ++ next) (more ++ fs)) →
          Makes world ask C x (λ X others more. Plays world ask X os D others more) made es → Makes world ask C x (λ X others more. Plays world ask X (os ++ qs) E others more) (made ++ next) (es ++ fs)
      go None rest p = rest C made es p
      go (Some x) rest p = (p.0, p.1, p.2 ++ next, p.3 ++ fs, ap (λ (l : List Turn). l ++ next) p.4, ap (λ (l : List (Option Entry)). l ++ fs) p.5, rest (p.0).cluster p.2 p.3 p.6)

  orders_join : (s t : List Turn) → orders (s ++ t) ≡ orders s ++ orders t
  orders_join [] t = refl
  orders_join (Go k ∷ s) t = ap (λ (l : List Order). This (Go k) ∷ l) (orders_join s t)
  orders_join (Push k to ∷ s) t = ap (λ (l : List Order). This (Push k to) ∷ l) (orders_join s t)
  orders_join (Take k from ∷ s) t = ap (λ (l : List Order). This (Take k from) ∷ l) (orders_join s t)
  orders_join (Auto count ∷ s) t = ap (λ (l : List Order). replicate count ByRule ++ l) (orders_join s t) ∙ sym (append_assoc (replicate count ByRule) (orders s) (orders t))

  -- the run of possible turns and then of turns by the rule
  pub run_on : (steps : List Turn) (count : ℕ) (C D : Cluster) (autos : List Turn) (es fs : List (Option Entry)) → Ran world ask (first_cluster world) steps C es → Plays world ask C (replicate count ByRule) D autos fs →
      Run world ask (steps ++ Auto count ∷ []) D (steps ++ autos) (es ++ fs) × Run world ask (steps ++ autos) D (steps ++ autos) (es ++ fs)
  run_on steps count C D autos es fs a p = (
    subst (λ (l : List Order). Plays world ask (first_cluster world) l D (steps ++ autos) (es ++ fs)) (ap (λ (l : List Order). orders steps ++ l) (sym (append-nil (replicate count ByRule))) ∙ sym (orders_join steps (Auto count ∷ [])))
        (plays_join (first_cluster world) C D (orders steps) (replicate count ByRule) steps autos es fs (ran_plays (first_cluster world) C steps es a) p),
    ran_plays (first_cluster world) D (steps ++ autos) (es ++ fs) (ran_join world ask (first_cluster world) C D steps autos es fs a (plays_ran C D (replicate count ByRule) autos fs p)),
  )

-- ---- where the rule finds no turn
abbrev Listed : ℕ → List ℕ → Type 0
Listed n ks = (j : ℕ) × (get_elem? ks j ≡ some n)

module _ (nodes : ℕ) (C : Cluster) where
  abbrev Nothing : List Turn → Type 0
  Nothing xs = first_offered nodes C xs ≡ None

  nothing_more : (x : Turn) (xs : List Turn) → Nothing (x ∷ xs) → (is_offered nodes C x ≡ false) × Nothing xs
  nothing_more x xs e = go (is_offered nodes C x) refl e
    where
      go : (b : Bool) → is_offered nodes C x ≡ b → cond b (Some x) (first_offered nodes C xs) ≡ None → (is_offered nodes C x ≡ false) × (first_offered nodes C xs ≡ None)
      go true is e = cc
      go false is e = (is, e)

  -- nothing can be taken at node k, and what comes after it
  nothing_taken : (k : ℕ) (fs : List ℕ) (xs : List Turn) → Nothing (map (λ from. Take k from) fs ++ xs) → ((from : ℕ) → Listed from fs → is_offered nodes C (Take k from) ≡ false) × Nothing xs
  nothing_taken k [] xs e = ((λ from l. absurd (some-ne-none from (sym l.1))), e)
  nothing_taken k (f ∷ fs) xs e = let a = nothing_more (Take k f) (map (λ from. Take k from) fs ++ xs) e in let r = nothing_taken k fs xs a.1 in ((λ from l. go a.0 r.0 from l.0 l.1), r.1)
    where
      go : is_offered nodes C (Take k f) ≡ false → ((from : ℕ) → Listed from fs → is_offered nodes C (Take k from) ≡ false) → (from j : ℕ) → get_elem? (f ∷ fs) j ≡ some from → is_offered nodes C (Take k from) ≡ false
      go a r from zero e = ap (λ (n : ℕ). is_offered nodes C (Take k n)) (sym (some-injective f from e)) ∙ a
      go a r from (suc j) e = r from (j, e)

  nothing_at : (ks : List ℕ) → Nothing (turns_from nodes ks) → (k j : ℕ) → get_elem? ks j ≡ some k → ((from : ℕ) → Listed from (numbers_from 0 nodes) → is_offered nodes C (Take k from) ≡ false) × (is_offered nodes C (Go k) ≡ false)
  nothing_at [] e k j l = absurd (some-ne-none k (sym l))
  nothing_at (i ∷ ks) e k zero l =
      let t = nothing_taken i (numbers_from 0 nodes) (Go i ∷ turns_from nodes ks) e in
      let g = nothing_more (Go i) (turns_from nodes ks) t.1 in
      subst (λ (n : ℕ). ((from : ℕ) → Listed from (numbers_from 0 nodes) → is_offered nodes C (Take n from) ≡ false) × (is_offered nodes C (Go n) ≡ false)) (some-injective i k l) (t.0, g.0)
  nothing_at (i ∷ ks) e k (suc j) l =
      let t = nothing_taken i (numbers_from 0 nodes) (Go i ∷ turns_from nodes ks) e in
      nothing_at ks (nothing_more (Go i) (turns_from nodes ks) t.1).1 k j l

  number_listed : (from n j : ℕ) → j < n → get_elem? (numbers_from from n) j ≡ some (from + j)
  number_listed from zero j lt = absurd (omega arith)
  number_listed from (suc n) zero lt = let z : from ≡ from + 0 = omega arith in ap (λ (k : ℕ). some k) z
  number_listed from (suc n) (suc j) lt = let z : suc from + j ≡ from + suc j = omega arith in number_listed (suc from) n j (omega arith) ∙ ap (λ (k : ℕ). some k) z

  listed : (k : ℕ) → k < nodes → get_elem? (numbers_from 0 nodes) k ≡ some k
  listed k lt = let z : 0 + k ≡ k = omega arith in number_listed 0 nodes k lt ∙ ap (λ (n : ℕ). some n) z

  empty_if : {A : Type 0} (xs : List A) → has_any xs ≡ false → xs ≡ []
  empty_if [] e = refl
  empty_if (x ∷ xs) e = cc

  right_false : (a b : Bool) → a ≡ true → (a && b) ≡ false → b ≡ false
  right_false true b e f = f
  right_false false b e f = cc

  pub rule_ends : Nothing (all_turns nodes) → IsQuiet nodes C
  rule_ends e = record {
    ready = λ k lt. empty_if (C.nodes k).ready (right_false (nat_lt k nodes) _ (lt-ltb k nodes lt) (nothing_at (numbers_from 0 nodes) e k k (listed k lt)).1);
    wires = λ from k lf lt. empty_if (C.wires from k) (right_false (nat_lt from nodes) _ (lt-ltb from nodes lf) (right_false (nat_lt k nodes) _ (lt-ltb k nodes lt) ((nothing_at (numbers_from 0 nodes) e k k (listed k lt)).0 from (from, listed from lf))));
  }

-- ---- a schedule has one run
module _ (world : World) (ask : Ask) where
  made_same : (x : Turn) (a b made others : List Turn) → made ≡ x ∷ a → others ≡ x ∷ b → a ≡ b → made ≡ others
  made_same x a b made others e f same = e ∙ (ap (λ (l : List Turn). x ∷ l) same ∙ sym f)

  pub plays_one : (C D E : Cluster) (os : List Order) (made others : List Turn) (es fs : List (Option Entry)) → Plays world ask C os D made es → Plays world ask C os E others fs → (D ≡ E) × (made ≡ others) × (es ≡ fs)
  plays_one C D E [] made others es fs p q = (p.0 ∙ sym q.0, p.1 ∙ sym q.1, p.2 ∙ sym q.2)
  plays_one C D E (o ∷ os) made others es fs p q = go (chosen world.nodes C o) (λ X. plays_one X D E os) p q
    where
      go : (x : Option Turn) → ((X : Cluster) (a b : List Turn) (ks ls : List (Option Entry)) → Plays world ask X os D a ks → Plays world ask X os E b ls → (D ≡ E) × (a ≡ b) × (ks ≡ ls)) →
          Makes world ask C x (λ X a ks. Plays world ask X os D a ks) made es → Makes world ask C x (λ X b ls. Plays world ask X os E b ls) others fs → (D ≡ E) × (made ≡ others) × (es ≡ fs)
      go None rest p q = rest C made others es fs p q
      go (Some x) rest p q =
          let same = does_one world ask C x p.0 q.0 p.1 q.1 in
          let r = rest (q.0).cluster p.2 q.2 p.3 q.3 (subst (λ (r : Turned). Plays world ask r.cluster os D p.2 p.3) same p.6) q.6 in
          (r.0, made_same x p.2 q.2 made others p.4 q.4 r.1, p.5 ∙ (ap (λ (t : Turned). t.entry ∷ p.3) same ∙ (ap (λ (l : List (Option Entry)). (q.0).entry ∷ l) r.2 ∙ sym q.5)))

-- ---- where it is quiet
module _ (nodes : ℕ) (C : Cluster) (quiet : IsQuiet nodes C) where
  not_both : (a b : Bool) → (a ≡ true → b ≡ false) → (a && b) ≡ false
  not_both true b e = e refl
  not_both false b e = refl

  none_first : (x : Turn) (xs : List Turn) → is_offered nodes C x ≡ false → first_offered nodes C xs ≡ None → first_offered nodes C (x ∷ xs) ≡ None
  none_first x xs e rest = ap (λ (b : Bool). cond b (Some x) (first_offered nodes C xs)) e ∙ rest

  takes_none : (k : ℕ) (froms : List ℕ) (xs : List Turn) → first_offered nodes C xs ≡ None → first_offered nodes C (map (λ from. Take k from) froms ++ xs) ≡ None
  takes_none k [] xs e = e
  takes_none k (from ∷ froms) xs e =
      none_first (Take k from) (map (λ from. Take k from) froms ++ xs)
      (not_both (nat_lt k nodes) (nat_lt from nodes && has_any (C.wires from k)) (λ a. not_both (nat_lt from nodes) (has_any (C.wires from k)) (λ b. ap has_any (quiet.wires from k (ltb-true from nodes b) (ltb-true k nodes a)))))
      (takes_none k froms xs e)

  pub quiet_ends : (ks : List ℕ) → first_offered nodes C (turns_from nodes ks) ≡ None
  quiet_ends [] = refl
  quiet_ends (k ∷ ks) =
      takes_none k (numbers_from 0 nodes) (Go k ∷ turns_from nodes ks)
      (none_first (Go k) (turns_from nodes ks) (not_both (nat_lt k nodes) (has_any (C.nodes k).ready) (λ a. ap has_any (quiet.ready k (ltb-true k nodes a)))) (quiet_ends ks))
