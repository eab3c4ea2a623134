-- what is reached may go on
use Rattle.std.proofs.Common.{◌≡◌, ◌++◌, List, [], Option, refl, sym, subst}
use Rattle.unix_calls.specs.declared.Entry.{Entry}
use Rattle.unix_calls.specs.declared.Turn.{Turn}
use Rattle.unix_calls.specs.declared.World.{World}
use Rattle.unix_calls.specs.Valid.{IsValid}
use Rattle.node_core.specs.Advance.{Ask}
use Rattle.node_core.specs.Conditions.{Fit}
use Rattle.cluster_state.specs.Cluster.{first_cluster}
use Rattle.cluster_state.specs.Run.{Order}
use Rattle.turn_laws.proofs.Numbering.{numbers_fit}
use Rattle.turn_laws.proofs.Playing.{plays_ran}
use Rattle.turn_laws.proofs.Steps.{ran_join}
use Rattle.cluster_laws.specs.Runs.{IsRun}
use Rattle.cluster_laws.proofs.Simulation.{turns_can_be_made}
use Rattle.cluster_core.specs.declared.cluster.Place.{Place}
use Rattle.cluster_core.specs.declared.playing.Log.{Log}
use Rattle.cluster_core.specs.Deciding.{MayDecide}
use Rattle.cluster_core.specs.MethodShows.{Shows, CanBeMade}
use Rattle.cluster_core.specs.MethodReached.{IsReached, PlaysOn}

module _ {O : Type 0} {fits : O → Fit} {answer : O → Ask} {world : World} {places : List (Place O)} where
  pub is_run : (at : IsReached fits answer world places) → IsRun world (answer at.shown.ops) at.turns at.shown.cluster at.lines
  is_run at = record { valid = at.valid; lawful = at.decides.lawful; ran = at.ran }

  -- each turn of nodes of the world may be made
  pub can_be_made : (at : IsReached fits answer world places) → CanBeMade fits answer world at.shown
  can_be_made at = record {
    decides = at.decides;
    turns = turns_can_be_made world (answer at.shown.ops) at.turns at.shown.cluster at.lines (is_run at);
    expected = numbers_fit world (answer at.shown.ops) at.turns at.shown.cluster at.lines at.ran;
  }

  -- and where orders lead from there is reached
  abbrev pub reached_on : (at : IsReached fits answer world places) (orders : List Order) (old new : Log) (later : List (Place O)) → PlaysOn answer world at.shown orders old new later → IsReached fits answer world later
  reached_on at orders old new later p = record {
    shown = record { ops = at.shown.ops; cluster = p.cluster };
    turns = at.turns ++ p.made;
    lines = at.lines ++ p.lines;
    valid = at.valid;
    decides = at.decides;
    ran = ran_join world (answer at.shown.ops) (first_cluster world) at.shown.cluster p.cluster at.turns p.made at.lines p.lines at.ran (plays_ran world (answer at.shown.ops) at.shown.cluster p.cluster orders p.made p.lines p.plays);
    shows = p.shows;
  }

  -- places that are kept
  abbrev pub reached_kept : (at : IsReached fits answer world places) (later : List (Place O)) → later ≡ places → IsReached fits answer world later
  reached_kept at later e = record { shown = at.shown; turns = at.turns; lines = at.lines; valid = at.valid; decides = at.decides; ran = at.ran; shows = subst (Shows world.nodes at.shown) (sym e) at.shows }

-- before the first turn
abbrev pub reached_first : {O : Type 0} (fits : O → Fit) (answer : O → Ask) (world : World) (ops : O) (places : List (Place O)) → IsValid world → MayDecide world (fits ops) (answer ops) →
    Shows world.nodes (record { ops = ops; cluster = first_cluster world }) places → IsReached fits answer world places
reached_first fits answer world ops places valid decides shows = record {
  shown = record { ops = ops; cluster = first_cluster world };
  turns = [];
  lines = [];
  valid = valid;
  decides = decides;
  ran = (refl, refl);
  shows = shows;
}
