-- what a node knows once it has learned the note of its next letter
use Rattle.std.proofs.Common.{◌≡◌, ◌<◌, ◌≤◌, ℕ, List, sym, ap, ◌∙◌, subst, arith, Option}
use Rattle.std.specs.Prelude.{slice_index}
use Rattle.unix_calls.specs.declared.Turn.{Turn}
use Rattle.unix_calls.specs.declared.World.{World}
use Rattle.pasts.specs.Pasts.{union, HasAll, steps_of}
use Rattle.node_state.specs.declared.State.{State}
use Rattle.node_state.specs.declared.Sent.{Sent}
use Rattle.cluster_state.specs.Possible.{node_of, Possible}
use Rattle.ops_vector.specs.Answer.{unix_answer}
use Rattle.commit_log.specs.Passes.{Known, MeetIn}
use Rattle.locked_laws.specs.declared.PlacedTurn.{PlacedTurn}
use Rattle.locked_laws.specs.Locked.{IsNode, IsLetter}
use Rattle.locked_laws.proofs.Locked.{node_learns, letter_read}

-- the node stands as before in what it knows now, and the letter's message is the next of its wire there
pub record Learned (world : World) (id : ℕ) (pass : Known Turn) (s : State) (list : List PlacedTurn) (from : ℕ) (sent : Sent) : Type 0 where
  pub node_is : pass.node ≡ id
  pub inside : pass.node < world.nodes
  pub is : IsNode world unix_answer pass.seen pass.node s list
  pub letter : IsLetter world unix_answer pass.seen from pass.node (slice_index s.taken from) sent

pub learned : (world : World) (id : ℕ) (old : Known Turn) (heard : List (Option Turn)) (new : Known Turn) (s : State) (list : List PlacedTurn) (from : ℕ) (sent : Sent) →
    old.node ≡ id → id < world.nodes → IsNode world unix_answer old.seen id s list → from < world.nodes → IsLetter world unix_answer heard from sent.to sent.number sent → sent.to ≡ id → sent.number ≡ slice_index s.taken from →
    new.node ≡ old.node → new.seen ≡ union old.seen heard → ((log : List Turn) × MeetIn node_of (Possible world unix_answer) log old heard) → Learned world id new s list from sent
learned world id old heard new s list from sent node_is inside is from_inside flies to number same both one = record {
  node_is = same ∙ node_is;
  inside = subst (λ (k : ℕ). k < world.nodes) (sym (same ∙ node_is)) inside;
  is = subst (λ (k : ℕ). IsNode world unix_answer new.seen k s list) (sym (same ∙ node_is)) (subst (λ (seen : List (Option Turn)). IsNode world unix_answer seen id s list) (sym both) kept);
  letter = subst (λ (k : ℕ). IsLetter world unix_answer new.seen from k (slice_index s.taken from) sent) (sym (same ∙ node_is))
      (subst (λ (seen : List (Option Turn)). IsLetter world unix_answer seen from id (slice_index s.taken from) sent) (sym both)
      (subst (λ (n : ℕ). IsLetter world unix_answer (union old.seen heard) from id n sent) number read));
}
  where
    kept : IsNode world unix_answer (union old.seen heard) id s list
    kept = node_learns world unix_answer one.0 old.seen heard id s list one.1.pass.past one.1.note one.1.both.lawful_here (subst (λ (k : ℕ). HasAll node_of one.0 old.seen k) node_is one.1.pass.whole) is

    read : IsLetter world unix_answer (union old.seen heard) from id sent.number sent
    read = letter_read world unix_answer one.0 old.seen heard from id sent.number sent s list from_inside inside one.1.pass.past one.1.note one.1.both.lawful_here kept
        (let n = number in omega (arith, n)) (subst (λ (k : ℕ). IsLetter world unix_answer heard from k sent.number sent) to flies)
