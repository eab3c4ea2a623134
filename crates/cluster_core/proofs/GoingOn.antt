-- turns by the rule, one after the other
use Rattle.std.proofs.Common.{◌≡◌, ◌+◌, ◌<◌, ◌≤◌, ◌&&◌, ℕ, Bool, true, false, cond, List, [], ◌∷◌, ◌++◌, length, replicate, refl, sym, ap, ◌∙◌, subst, arith, Option, None, Some, append-nil}
use Rattle.std.specs.Prelude.{slice_index, slice_set, nat_lt}
use Rattle.std.proofs.lemmas.Bool.{ltb-true}
use Rattle.unix_calls.specs.declared.Entry.{Entry}
use Rattle.unix_calls.specs.declared.Turn.{Turn}
use Rattle.unix_calls.specs.declared.Turn.TheVariants.{Go, Push, Take, Auto}
use Rattle.unix_calls.specs.declared.World.{World}
use Rattle.node_core.specs.Advance.{Ask}
use Rattle.node_core.specs.Conditions.{Fit}
use Rattle.cluster_state.specs.Cluster.{Cluster}
use Rattle.cluster_state.specs.Possible.{node_of}
use Rattle.cluster_state.specs.Run.{is_offered, Order, This, ByRule, all_turns, chosen, Makes, Plays}
use Rattle.cluster_core.specs.declared.cluster.Place.{Place}
use Rattle.cluster_core.specs.declared.playing.Log.{Log}
use Rattle.cluster_core.specs.MethodShows.{Shown, Shows}
use Rattle.cluster_core.specs.MethodReached.{IsReached, PlaysOn}
use Rattle.cluster_core.specs.MethodGoingOn.{IsTally, IsOver, IsGoing, GoesOn}
use Rattle.cluster_core.specs.RunOn.{turns_of, most_turns, AreFew, IsFullAt}
use Rattle.cluster_core.proofs.Reached.{reached_on}
use Rattle.cluster_core.proofs.Orders.{nothing_played, played_on, found_is_offered, found_played, replicate_on}
use Rattle.cluster_core.proofs.Counting.{tally_more, few_more}

left_true : (a b : Bool) → (a && b) ≡ true → a ≡ true
left_true true b e = refl
left_true false b e = cc

offered_inside : (nodes : ℕ) (C : Cluster) (x : Turn) → is_offered nodes C x ≡ true → node_of x < nodes
offered_inside nodes C (Go k) e = ltb-true k nodes (left_true (nat_lt k nodes) _ e)
offered_inside nodes C (Push k to) e = ltb-true k nodes (left_true (nat_lt k nodes) _ e)
offered_inside nodes C (Take k from) e = ltb-true k nodes (left_true (nat_lt k nodes) _ e)
offered_inside nodes C (Auto count) e = cc

module _ {O : Type 0} (answer : O → Ask) (world : World) where
  -- the rule finds turns of nodes of the world
  pub found_inside : (C : Cluster) (x : Turn) → Some x ≡ chosen world.nodes C ByRule → node_of x < world.nodes
  found_inside C x found = offered_inside world.nodes C x (found_is_offered answer world C x (all_turns world.nodes) (sym found))

  -- one order makes the turn that is chosen
  made_one : (ask : Ask) (C D : Cluster) (o : Order) (x : Turn) (made : List Turn) (lines : List (Option Entry)) → Some x ≡ chosen world.nodes C o → Plays world ask C (o ∷ []) D made lines → made ≡ x ∷ []
  made_one ask C D o x made lines found p =
      let m = subst (λ (y : Option Turn). Makes world ask C y (λ X others more. Plays world ask X [] D others more) made lines) (sym found) p in
      m.4 ∙ ap (λ (l : List Turn). x ∷ l) (m.6).1

  -- no turn yet
  pub going_first : (shown : Shown O) (log : Log) (places : List (Place O)) → Shows world.nodes shown places → AreFew log.steps.items → IsGoing answer world shown log log places
  going_first shown log places shows few = record { count = 0; plays = nothing_played answer world shown log places shows; few = few }

  -- places that are kept
  abbrev pub going_kept : (shown : Shown O) (old new : Log) (places later : List (Place O)) → later ≡ places → IsGoing answer world shown old new places → IsGoing answer world shown old new later
  going_kept shown old new places later e g = record {
    count = g.count;
    plays = record {
      cluster = g.plays.cluster;
      made = g.plays.made;
      lines = g.plays.lines;
      plays = g.plays.plays;
      steps = g.plays.steps;
      entries = g.plays.entries;
      numbers = g.plays.numbers;
      shows = subst (Shows world.nodes (record shown { cluster = g.plays.cluster })) (sym e) g.plays.shows;
    };
    few = g.few;
  }

  module _ (shown : Shown O) (old mid : Log) (places : List (Place O)) (made : List ℕ) (g : IsGoing answer world shown old mid places) (t : IsTally world.nodes mid.steps.items made) (x : Turn) (found : Some x ≡ chosen world.nodes g.plays.cluster ByRule) where
    pub counted_here : slice_index made (node_of x) ≡ turns_of (node_of x) mid.steps.items
    counted_here = t.count (node_of x) (found_inside g.plays.cluster x found)

    -- the turn may not be made
    pub going_full : most_turns ≤ slice_index made (node_of x) → IsFullAt world.nodes g.plays.cluster mid.steps.items
    going_full most = record { next = x; found = sym found; most = let f = g.few (node_of x) in let c = counted_here in omega (arith, most, f, c) }

    -- the turn is made
    module _ (new : Log) (later : List (Place O)) (one : PlaysOn answer world (record shown { cluster = g.plays.cluster }) (This x ∷ []) mid new later) where
      by_rule : PlaysOn answer world (record shown { cluster = g.plays.cluster }) (ByRule ∷ []) mid new later
      by_rule = found_played answer world (record shown { cluster = g.plays.cluster }) x mid new later found one

      pub steps_on : new.steps.items ≡ mid.steps.items ++ x ∷ []
      steps_on = by_rule.steps ∙ ap (λ (l : List Turn). mid.steps.items ++ l) (made_one (answer shown.ops) g.plays.cluster by_rule.cluster ByRule x by_rule.made by_rule.lines found by_rule.plays)

      pub going_on : slice_index made (node_of x) < most_turns → IsGoing answer world shown old new later
      going_on less = record {
        count = g.count + 1;
        plays = subst (λ (os : List Order). PlaysOn answer world shown os old new later) (sym (replicate_on g.count 1))
            (played_on answer world shown (replicate g.count ByRule) (ByRule ∷ []) old mid new places later g.plays by_rule);
        few = subst AreFew (sym steps_on) (few_more most_turns mid.steps.items x g.few (let c = counted_here in omega (arith, less, c)));
      }

      pub tally_on : IsTally world.nodes new.steps.items (slice_set made (node_of x) (slice_index made (node_of x) + 1))
      tally_on = subst (λ (l : List Turn). IsTally world.nodes l (slice_set made (node_of x) (slice_index made (node_of x) + 1))) (sym steps_on) (tally_more world.nodes mid.steps.items x made (found_inside g.plays.cluster x found) t)

-- where turns by the rule lead is reached
abbrev pub going_reached : {O : Type 0} {fits : O → Fit} {answer : O → Ask} {world : World} {places : List (Place O)} (at : IsReached fits answer world places) (old new : Log) (later : List (Place O)) → IsGoing answer world at.shown old new later → IsReached fits answer world later
going_reached at old new later g = reached_on at (replicate g.count ByRule) old new later g.plays
