use Rattle.std.proofs.Common.{rules, ◌≡◌, ◌+◌, ◌≤◌, List, [], ◌∷◌, ◌++◌, length, sym, ap, ◌∙◌, arith}
use Rattle.node_state.specs.declared.Sent.{Sent}
use Rattle.ops_vector.specs.Answer.{unix_answer}
use Rattle.commit_log.specs.Passes.{Heard}
use Rattle.commit_log.specs.Passes.{Known}
use Rattle.unix_calls.specs.declared.Turn.{Turn}
use Rattle.locked_laws.specs.Locked.{IsLetter}
use Rattle.node_workers.specs.Views.{letter_of}
use Rattle.node_workers.proofs.Writing.{written_on, all_rest}
use Rattle.node_workers.proofs.committing.write_letters.Goals as goal

pub loop-sent-preserved : goal.loop-sent-preserved
loop-sent-preserved g c =
    let p = c.loop-sent.invariant in
    let rest = c.pop_front.new.self.items in
    let sent = c.in-Some.sent in
    let seen = c.args.pass.now.seen in
    let popped : c.loop-sent.rest.items ≡ sent ∷ rest = search rules in
    let heard : c.note-note.result.seen ≡ seen = ap (λ (h : Heard Turn). h.seen) c.note-note.ensures.note ∙ ap (λ (k : Known Turn). k.seen) p.same in
    record {
      same = c.note-note.ensures.same ∙ p.same;
      written = written_on c.loop-sent.letters.items c.push_back_reserved.new.self.items (letter_of c.args.from seen) sent c.loop-sent.rest.items rest _ _ popped (ap (λ l. letter_of c.args.from l sent) heard) c.push_back_reserved.ensures.items p.written;
      room = (let a = p.room in let b = c.push_back_reserved.ensures.len in let d = c.push_back_reserved.ensures.capacity in let e = ap (λ (l : List Sent). length l) popped in omega (arith, a, b, d, e));
      fly = all_rest (λ (m : Sent). IsLetter g.W.WorldName.world unix_answer seen c.args.from m.to m.number m) sent c.loop-sent.rest.items rest popped p.fly;
    }
