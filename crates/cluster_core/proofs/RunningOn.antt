-- the turns that were given and those by the rule, put together
use Rattle.std.proofs.Common.{◌≡◌, ◌<◌, not, ℕ, zero, suc, Bool, true, false, List, [], ◌∷◌, ◌++◌, replicate, refl, sym, ap, ◌∙◌, subst, Option, None, Some, append-nil}
use mathlib.Core.Option.{some, some-injective, some-ne-none}
use lib.ListN.{get_elem?}
use Rattle.std.specs.Option.{is_some}
use Rattle.unix_calls.specs.declared.Entry.{Entry}
use Rattle.unix_calls.specs.declared.Turn.{Turn}
use Rattle.unix_calls.specs.declared.Turn.TheVariants.{Go, Push, Take, Auto}
use Rattle.unix_calls.specs.declared.World.{World}
use Rattle.node_core.specs.Advance.{Ask}
use Rattle.cluster_state.specs.Cluster.{Cluster, first_cluster}
use Rattle.cluster_state.specs.Possible.{node_of, IsInWorld, Ran, Possible}
use Rattle.cluster_state.specs.Run.{Order, ByRule, orders, chosen, Run}
use Rattle.turn_laws.proofs.Playing.{plays_ran, ran_plays, plays_one}
use Rattle.cluster_core.specs.declared.cluster.Place.{Place}
use Rattle.cluster_core.specs.declared.playing.Log.{Log}
use Rattle.cluster_core.specs.declared.playing.Played.{Played}
use Rattle.cluster_core.specs.MethodShows.{Shown}
use Rattle.cluster_core.specs.MethodReached.{PlaysOn}
use Rattle.cluster_core.specs.MethodGoingOn.{AreInside, IsOver, GoesOn}
use Rattle.cluster_core.specs.Played.{IsRunOf}
use Rattle.cluster_core.specs.RunOn.{AreFew, IsFullAt, IsRunOn}
use Rattle.cluster_core.proofs.Orders.{played_on, played_cluster, played_as, orders_join, run_of, run_cluster}

inside_node : (world : World) (x : Turn) → IsInWorld world x → node_of x < world.nodes
inside_node world (Go k) inside = inside
inside_node world (Push k to) inside = inside.0
inside_node world (Take k from) inside = inside.0
inside_node world (Auto count) inside = absurd inside

-- possible turns are turns of nodes of the world
pub ran_inside : (world : World) (ask : Ask) (C D : Cluster) (turns : List Turn) (lines : List (Option Entry)) → Ran world ask C turns D lines → AreInside world.nodes turns
ran_inside world ask C D [] lines a j x e = absurd (some-ne-none x (sym e))
ran_inside world ask C D (y ∷ ys) lines a zero x e = let d = a.1 in subst (λ (z : Turn). node_of z < world.nodes) (some-injective y x e) (inside_node world y d.inside)
ran_inside world ask C D (y ∷ ys) lines a (suc j) x e = ran_inside world ask (a.0).cluster D ys a.2 a.4 j x e

module _ {O : Type 0} (answer : O → Ask) (world : World) (ops : O) where
  abbrev first_shown : Shown O
  first_shown = record { ops = ops; cluster = first_cluster world }

  -- possible turns are all made
  pub given_made : (steps : List Turn) (old log : Log) (places : List (Place O)) → Possible world (answer ops) steps → old.steps.items ≡ [] → PlaysOn answer world first_shown (orders steps) old log places → log.steps.items ≡ steps
  given_made steps old log places possible none p =
      p.steps ∙ ap (λ (l : List Turn). l ++ p.made) none
      ∙ (plays_one world (answer ops) (first_cluster world) p.cluster possible.cluster (orders steps) p.made steps p.lines possible.entries p.plays (ran_plays world (answer ops) (first_cluster world) possible.cluster steps possible.entries possible.ran)).1

  -- the turns that are made are their own run
  own_run : (schedule : List Turn) (played : Played) → IsRunOf world (answer ops) schedule played → IsRunOf world (answer ops) played.steps.items played
  own_run schedule played r = record {
    cluster = r.cluster;
    lines = r.lines;
    run = ran_plays world (answer ops) (first_cluster world) r.cluster played.steps.items r.lines (plays_ran world (answer ops) (first_cluster world) r.cluster (orders schedule) played.steps.items r.lines r.run);
    entries = r.entries;
    numbers = r.numbers;
    quiet = r.quiet;
  }

  -- what the rule finds where it is over
  record Found (C : Cluster) (quiet : Bool) : Type 0 where
    pub found : Option Turn
    pub none : is_some found ≡ not quiet
    pub is : found ≡ chosen world.nodes C ByRule

  over_found : (C : Cluster) (made : List Turn) (quiet : Bool) → IsOver world.nodes C made quiet → Found C quiet
  over_found C made true o = record { found = None; none = refl; is = sym o }
  over_found C made false o = record { found = Some o.next; none = refl; is = sym o.found }

  over_full : (C : Cluster) (made : List Turn) (quiet : Bool) → IsOver world.nodes C made quiet → quiet ≡ false → IsFullAt world.nodes C made
  over_full C made true o e = cc
  over_full C made false o e = o

  -- the orders of turns and then of so many by the rule
  orders_on : (steps : List Turn) (count : ℕ) → orders steps ++ replicate count ByRule ≡ orders (steps ++ Auto count ∷ [])
  orders_on steps count = ap (λ (l : List Order). orders steps ++ l) (sym (append-nil (replicate count ByRule))) ∙ sym (orders_join steps (Auto count ∷ []))

  pub run_on_of : (steps : List Turn) (old log last : Log) (places later : List (Place O)) (quiet : Bool) → Possible world (answer ops) steps → old.entries.items ≡ [] → old.numbers.items ≡ [] → old.steps.items ≡ [] →
      (p : PlaysOn answer world first_shown (orders steps) old log places) → GoesOn answer world (record { ops = ops; cluster = p.cluster }) quiet log last later →
      IsRunOn world (answer ops) steps (record { entries = last.entries; numbers = last.numbers; steps = last.steps; is_quiet = quiet })
  run_on_of steps old log last places later quiet possible no_entries no_numbers no_steps p goes =
      let count = goes.going.count in
      let q = played_on answer world first_shown (orders steps) (replicate count ByRule) old log last places later p goes.going.plays in
      let same = played_cluster answer world first_shown (orders steps) (replicate count ByRule) old log last places later p goes.going.plays in
      let over = subst (λ (X : Cluster). IsOver world.nodes X last.steps.items quiet) (sym same) goes.over in
      let t = steps ++ Auto count ∷ [] in
      let whole = played_as answer world first_shown (orders steps ++ replicate count ByRule) (orders t) old last later (orders_on steps count) q in
      let f = over_found q.cluster last.steps.items quiet over in
      let r = run_of answer world ops t t old last later whole refl no_entries no_numbers no_steps quiet f.found f.none f.is in
      record {
        count = count;
        by_rule = r;
        whole = own_run t _ r;
        added = goes.going.plays.made;
        begins = goes.going.plays.steps ∙ ap (λ (l : List Turn). l ++ goes.going.plays.made) (given_made steps old log places possible no_steps p);
        few = goes.going.few;
        ends = λ e. subst (λ (X : Cluster). IsFullAt world.nodes X last.steps.items) (sym (run_cluster answer world ops t t old last later whole refl no_entries no_numbers no_steps quiet f.found f.none f.is)) (over_full q.cluster last.steps.items quiet over e);
      }
