-- what a locked node brings to the commit word
use Rattle.std.proofs.Common.{◌≡◌, ◌<◌, ℕ, List, [], refl, sym, ap, subst, Option, Some}
use Rattle.std.specs.Prelude.{slice_index}
use Rattle.unix_calls.specs.declared.Entry.{Entry}
use Rattle.unix_calls.specs.declared.Turn.{Turn}
use Rattle.unix_calls.specs.declared.Turn.TheVariants.{Go, Take}
use Rattle.unix_calls.specs.declared.World.{World}
use Rattle.unix_calls.specs.Valid.{IsValid}
use Rattle.node_state.specs.declared.State.{State}
use Rattle.node_state.specs.declared.Sent.{Sent}
use Rattle.node_state.specs.Wires.{one_taken, sent_off}
use Rattle.node_core.specs.Advance.{is_advanced}
use Rattle.node_core.specs.Conditions.{CanSetOut}
use Rattle.node_core.specs.Turns.{led, going, arriving, came}
use Rattle.node_core.specs.Views.{IsTurned}
use Rattle.cluster_laws.specs.Turns.{question_fits}
use Rattle.ops_vector.specs.Answer.{unix_answer}
use Rattle.ops_vector.proofs.Lawful.{is_vector}
use Rattle.commit_log.specs.Passes.{Known}
use Rattle.locked_laws.specs.declared.PlacedTurn.{PlacedTurn}
use Rattle.locked_laws.specs.Locked.{IsNode, IsLetter, MayTurn}
use Rattle.locked_laws.specs.MayTurn.{NodeMayTurn}
use Rattle.locked_laws.proofs.Locked.{node_goes, node_takes}
use Rattle.locked_laws.proofs.MayTurn.{node_may_turn}
use Rattle.node_workers.specs.MethodCommitting.{CanCommit}

module _ (world : World) (valid : IsValid world) (id : ℕ) (pass : Known Turn) (node_is : pass.node ≡ id) (s : State) (list : List PlacedTurn) (inside : pass.node < world.nodes) (is : IsNode world unix_answer pass.seen pass.node s list) where
  pub next_turn : NodeMayTurn world unix_answer pass.seen pass.node s
  next_turn = node_may_turn world unix_answer pass.seen pass.node s list valid (is_vector world.nodes) inside is

  pub may_go : CanSetOut question_fits world unix_answer (going world s)
  may_go = next_turn.goes

  abbrev pub go_commits : (new : State) (line : Option Entry) (sends : List Sent) (n : ℕ) → IsTurned new line sends (led world unix_answer n (going world s)) → CanCommit world pass list (Go id) (record { entry = line; sends = sends })
  go_commits new line sends n t = record {
    before = s;
    is = is;
    advanced = is_advanced (record new { out = sends }) line;
    may = subst (λ (k : ℕ). MayTurn world unix_answer pass.seen pass.node s list (Go k) (is_advanced (record new { out = sends }) line)) node_is (node_goes world unix_answer pass.seen pass.node s list n (is_advanced (record new { out = sends }) line) inside is t.0);
    own = sym node_is;
    line_is = refl;
    sends_is = refl;
    inside = next_turn.going_sends n (is_advanced (record new { out = sends }) line) t.0;
  }

  module _ (from : ℕ) (m : Sent) (from_inside : from < world.nodes) (letter : IsLetter world unix_answer pass.seen from pass.node (slice_index s.taken from) m) where
    pub may_take : CanSetOut question_fits world unix_answer (arriving (one_taken s from) m.message)
    may_take = next_turn.takes from m from_inside letter

    abbrev pub take_commits : (new : State) (line : Option Entry) (sends : List Sent) (n : ℕ) → IsTurned new line sends (came world unix_answer n (one_taken s from) m.message) → CanCommit world pass list (Take id from) (record { entry = line; sends = sends })
    take_commits new line sends n t = record {
      before = s;
      is = is;
      advanced = is_advanced (record new { out = sends }) line;
      may = subst (λ (k : ℕ). MayTurn world unix_answer pass.seen pass.node s list (Take k from) (is_advanced (record new { out = sends }) line)) node_is (node_takes world unix_answer pass.seen pass.node from s list n m (is_advanced (record new { out = sends }) line) inside from_inside is letter t.0);
      own = sym node_is;
      line_is = refl;
      sends_is = refl;
      inside = next_turn.taken_sends n from m (is_advanced (record new { out = sends }) line) from_inside letter t.0;
    }

-- between two turns nothing waits to be sent
pub rested : (new : State) (sends : List Sent) → new.out ≡ [] → sent_off (record new { out = sends }) ≡ new
rested new sends e = ap (λ (o : List Sent). record new { out = o }) (sym e)

-- the same where the code speaks of an equal world
pub may_take_at : (world there : World) → world ≡ there → IsValid world → (id : ℕ) (pass : Known Turn) → pass.node ≡ id → (s : State) (list : List PlacedTurn) → pass.node < world.nodes → IsNode world unix_answer pass.seen pass.node s list → (from : ℕ) (m : Sent) → from < world.nodes →
    IsLetter world unix_answer pass.seen from pass.node (slice_index s.taken from) m → CanSetOut question_fits there unix_answer (arriving (one_taken s from) m.message)
may_take_at world there e valid id pass node_is s list inside is from m from_inside letter =
    subst (λ (w : World). CanSetOut question_fits w unix_answer (arriving (one_taken s from) m.message)) e (may_take world valid id pass node_is s list inside is from m from_inside letter)
