use Rattle.std.proofs.Common.{◌≡◌, ℕ, List, Option, sym, ap, ◌∙◌, subst}
use Rattle.std.specs.Prelude.{slice_index_or}
use mathlib.Core.Option.{some}
use lib.ListN.{get_elem?}
use Rattle.unix_calls.specs.declared.Turn.{Turn}
use Rattle.node_state.specs.declared.Sent.{Sent}
use Rattle.ops_vector.specs.Answer.{unix_answer}
use Rattle.locked_laws.specs.Locked.{IsLetter}
use Rattle.locked_laws.proofs.Locked.{node_room}
use Rattle.node_workers.proofs.Laying.{at_place}
use Rattle.node_workers.proofs.committing.commit_turn.Goals as goal

pub commit-place-requires-clause-room : goal.commit-place-requires-clause-room
commit-place-requires-clause-room g c =
    let m = c.requires.may in
    node_room g.W.WorldName.world unix_answer c.args.pass.now.seen c.args.pass.now.node 1099511627776 m.before c.args.list.now.items m.is c.requires.room

pub write_letters-requires-clause-fly : goal.write_letters-requires-clause-fly
write_letters-requires-clause-fly g c = λ k d lt.
    let m = c.requires.may in
    let sends = c.args.out.sends in
    let sent = slice_index_or sends k d in
    let there = ap (λ (l : List Sent). get_elem? l k) m.sends_is ∙ at_place sends k d lt in
    let node : c.args.pass.now.node ≡ c.node_of-node.result = sym m.own ∙ sym c.node_of-node.ensures in
    subst (λ (n : ℕ). IsLetter g.W.WorldName.world unix_answer c.commit-place.new.pass.seen n sent.to sent.number sent) node
    (subst (λ (seen : List (Option Turn)). IsLetter g.W.WorldName.world unix_answer seen c.args.pass.now.node sent.to sent.number sent) (sym c.commit-place.ensures.seen)
    (m.may.letters c.commit-place.result c.commit-place.ensures.above k sent there (m.inside k d lt)))
