-- every run of a cluster gives a history of the one kernel
use Rattle.std.proofs.Common.{◌<◌, ℕ, List, [], Option, refl, arith}
use Rattle.unix_calls.specs.declared.Entry.{Entry}
use Rattle.unix_calls.specs.declared.Turn.{Turn}
use Rattle.unix_calls.specs.declared.World.{World}
use Rattle.unix_calls.specs.Valid.{IsValid}
use Rattle.unix_calls.specs.Calls.{IsEntry}
use Rattle.std.proofs.lemmas.List.Elements.{All-nil}
use Rattle.proc_image.specs.Follows.{first_running, after_entries}
use Rattle.kernel_model.specs.Legal.{after_all}
use Rattle.decide_law.specs.Vector.{IsVector}
use Rattle.node_state.specs.Wires.{one_taken}
use Rattle.node_core.specs.Advance.{Ask}
use Rattle.node_core.specs.Turns.{going, pushed, arriving}
use Rattle.cluster_state.specs.Cluster.{Cluster, first_cluster, with_wire}
use Rattle.cluster_state.specs.Possible.{history_of}
use Rattle.fork_laws.specs.Made.{made_from}
use Rattle.fork_laws.proofs.Budget.{made-few, little}
use Rattle.cluster_contents.proofs.NamesKept.{names_kept}
use Rattle.cluster_turns.proofs.Turns.{going_sets, pushed_sets, arriving_sets, can_set_out}
use Rattle.cluster_laws.specs.Runs.{IsRun}
use Rattle.cluster_laws.specs.Turns.{CanTurn, TurnsCanBeMade, TurnsSendToNodes}
use Rattle.cluster_laws.specs.Wires.{MessagesStayInside}
use Rattle.cluster_laws.specs.Offered.{OfferedArePossible, SchedulesRun}
use Rattle.cluster_laws.proofs.Offered.{offered_does, plays}
use Rattle.cluster_state.specs.Run.{orders}
use Rattle.cluster_laws.specs.Laws.{RunsAreLegal, RunsFollow, RunsAreWritten, RunsStand, QuietIsHome, QuietIsFinished, SerialsAreSmall}
use Rattle.cluster_stands.proofs.First.{first_contents, first_places, first_stands}
use Rattle.cluster_stands.proofs.FirstWatched.{first_watched}
use Rattle.cluster_laws.proofs.Runs.{picked, arrived, IsRight, runs_right}
use Rattle.cluster_laws.proofs.Inside.{AllInside, sends_inside, ran_inside, first_inside}
use Rattle.cluster_laws.proofs.Quiet.{all_home}
use Rattle.cluster_laws.proofs.Finished.{finished}

first_right : (world : World) (valid : IsValid world) (ask : Ask) (vector : IsVector world.nodes ask) → IsRight world valid ask vector names_kept 66 (first_cluster world) []
first_right world valid ask vector = record {
  contents = first_contents world valid;
  places = first_places world valid;
  stands = first_stands world valid;
  watched = first_watched world valid;
  legal = tt;
  follows = tt;
  written = All-nil IsEntry;
}

-- for every valid world, every lawful vector of decisions and every list of possible turns: the cluster stands for the table after its history, which is legal and follows the scripts
pub right : (world : World) (ask : Ask) (turns : List Turn) (C : Cluster) (entries : List (Option Entry)) → (r : IsRun world ask turns C entries) → IsRight world r.valid ask r.lawful names_kept (made_from 66 (history_of entries)) C (history_of entries)
right world ask turns C entries r = runs_right world r.valid ask r.lawful names_kept (little world r.valid) (first_cluster world) [] turns C entries (first_right world r.valid ask r.lawful) r.ran

pub runs_are_legal : RunsAreLegal
runs_are_legal world ask turns C entries r = (right world ask turns C entries r).legal

pub runs_follow : RunsFollow
runs_follow world ask turns C entries r = (right world ask turns C entries r).follows

pub runs_are_written : RunsAreWritten
runs_are_written world ask turns C entries r = (right world ask turns C entries r).written

pub runs_stand : RunsStand
runs_stand world ask turns C entries r = let x = right world ask turns C entries r in (made_from 66 (history_of entries), x.contents, x.places, x.stands)

pub serials_are_small : SerialsAreSmall
serials_are_small world ask turns C entries r j inside =
    let x = right world ask turns C entries r in
    let a = made-few world r.valid (history_of entries) x.follows in
    let b = x.stands.knows.few j in
    let c = x.stands.nodes.serial j inside in
    omega (arith, a, b, c)

-- ---- each next turn can be made
module _ (world : World) (valid : IsValid world) (ask : Ask) (vector : IsVector world.nodes ask) (m : ℕ) (room : m < 999999) (C : Cluster) (history : List Entry) (x : IsRight world valid ask vector names_kept m C history) where
  pub can_turn : CanTurn world ask C
  can_turn = record {
    goes = λ k inside. can_set_out world valid ask vector names_kept m room (after_all world history) (after_entries world (first_running world) history) history refl refl C k inside x.contents (going world (C.nodes k))
        (going_sets world valid ask vector names_kept m room (after_all world history) (after_entries world (first_running world) history) history refl refl C k inside x.contents x.places (C.nodes k)
        (picked world C k m (after_all world history) (after_entries world (first_running world) history) history refl refl x.contents x.places valid ask vector names_kept room inside x.stands x.watched));
    pushes = λ k to inside node. can_set_out world valid ask vector names_kept m room (after_all world history) (after_entries world (first_running world) history) history refl refl C k inside x.contents (pushed (C.nodes k) to)
        (pushed_sets world valid ask vector names_kept m room (after_all world history) (after_entries world (first_running world) history) history refl refl C k inside to x.contents x.places (C.nodes k) node
        (picked world C k m (after_all world history) (after_entries world (first_running world) history) history refl refl x.contents x.places valid ask vector names_kept room inside x.stands x.watched));
    takes = λ k from first rest inside sender is.
        let t = arrived world valid ask vector names_kept m room (after_all world history) (after_entries world (first_running world) history) history refl refl x.contents x.places C k from inside first rest x.stands x.watched is in
        can_set_out world valid ask vector names_kept m room (after_all world history) (after_entries world (first_running world) history) history refl refl (with_wire C from k rest) k inside x.contents (arriving (one_taken (C.nodes k) from) first.message)
        (arriving_sets world valid ask vector names_kept m room (after_all world history) (after_entries world (first_running world) history) history refl refl (with_wire C from k rest) k inside x.contents t.0 (one_taken (C.nodes k) from) first.message t.1 t.2);
  }

pub turns_can_be_made : TurnsCanBeMade
turns_can_be_made world ask turns C entries r =
    let x = right world ask turns C entries r in
    can_turn world r.valid ask r.lawful (made_from 66 (history_of entries)) (little world r.valid (history_of entries) x.follows) C (history_of entries) x

-- ---- where messages go
pub inside : (world : World) (ask : Ask) (turns : List Turn) (C : Cluster) (entries : List (Option Entry)) → IsRun world ask turns C entries → AllInside world.nodes C
inside world ask turns C entries r = ran_inside world r.valid ask r.lawful (little world r.valid) (first_cluster world) [] turns C entries (first_right world r.valid ask r.lawful) (first_inside world r.valid) r.ran

pub messages_stay_inside : MessagesStayInside
messages_stay_inside world ask turns C entries r = (inside world ask turns C entries r).wires

pub turns_send_to_nodes : TurnsSendToNodes
turns_send_to_nodes world ask turns C entries r =
    let x = right world ask turns C entries r in
    sends_inside world r.valid ask r.lawful (made_from 66 (history_of entries)) (little world r.valid (history_of entries) x.follows) C (history_of entries) x (inside world ask turns C entries r)

-- ---- where it is quiet
pub quiet_is_home : QuietIsHome
quiet_is_home world ask turns C entries r quiet =
    let x = right world ask turns C entries r in
    all_home world (made_from 66 (history_of entries)) (after_all world (history_of entries)) (after_entries world (first_running world) (history_of entries)) C x.contents x.places x.stands (inside world ask turns C entries r).wires quiet

pub quiet_is_finished : QuietIsFinished
quiet_is_finished world ask turns C entries r quiet =
    let x = right world ask turns C entries r in
    finished world (made_from 66 (history_of entries)) (history_of entries) C x.contents x.places x.stands (inside world ask turns C entries r).wires quiet x.watched

-- ---- what is offered can be done
pub offered_are_possible : OfferedArePossible
offered_are_possible world ask turns C entries r turn e =
    let x = right world ask turns C entries r in
    offered_does world r.valid ask r.lawful (made_from 66 (history_of entries)) (little world r.valid (history_of entries) x.follows) C (history_of entries) x turn e

pub schedules_run : SchedulesRun
schedules_run world ask valid vector schedule = plays world valid ask vector (little world valid) (orders schedule) (first_cluster world) [] (first_right world valid ask vector)
