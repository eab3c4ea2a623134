use Rattle.std.proofs.Common.{◌≡◌, ◌+◌, ◌≤◌, ◌++◌, length, map, All}
use Rattle.std.specs.VecDeque.{deque_len, deque_capacity}
use Rattle.node_state.specs.declared.Sent.{Sent}
use Rattle.ops_vector.specs.Answer.{unix_answer}
use Rattle.locked_laws.specs.Locked.{IsLetter}
use Rattle.node_workers.specs.Views.{letter_of}
use Rattle.node_workers.proofs.committing.write_letters.Given as goal

abbrev pub invariant-loop-sent : goal.invariant-loop-sent
invariant-loop-sent g l = record {
  same : l.pass ≡ l.fn.pass;
  written : l.letters.items ++ map (letter_of l.from l.fn.pass.seen) l.rest.items ≡ l.fn.letters.items ++ map (letter_of l.from l.fn.pass.seen) l.fn.sends;
  room : deque_len l.letters + length l.rest.items ≤ deque_capacity l.letters;
  fly : All (λ (sent : Sent). IsLetter g.W.WorldName.world unix_answer l.fn.pass.seen l.from sent.to sent.number sent) l.rest.items;
}

abbrev pub decreases-loop-sent : goal.decreases-loop-sent
decreases-loop-sent g l = length l.rest.items
