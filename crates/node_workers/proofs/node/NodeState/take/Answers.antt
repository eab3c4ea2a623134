use Rattle.std.proofs.Common.{rules, ◌≡◌, ◌<◌, ◌≤◌, ◌^◌, ◌∷◌, [], ◌++◌, ℕ, false, List, length, length-append, refl, sym, ap, ◌∙◌, subst, arith, map, Option, Some}
use Rattle.std.specs.Prelude.{slice_index}
use Rattle.unix_calls.specs.declared.Turn.{Turn}
use Rattle.unix_calls.specs.declared.Turn.TheVariants.{Take}
use Rattle.unix_calls.specs.declared.World.{World}
use Rattle.unix_calls.specs.Valid.{IsValid}
use Rattle.past_lists.specs.Own.{added}
use Rattle.node_state.specs.declared.State.{State}
use Rattle.node_state.specs.Wires.{one_taken, sent_off}
use Rattle.pasts.specs.Pasts.{union}
use Rattle.node_core.specs.Turns.{came}
use Rattle.node_core.specs.Views.{IsTurned}
use Rattle.ops_vector.specs.Answer.{unix_answer}
use Rattle.locked_laws.specs.declared.PlacedTurn.{PlacedTurn}
use Rattle.locked_laws.specs.Locked.{IsNode}
use Rattle.node_workers.specs.Views.{LetterView, LockedView, letter_of}
use Rattle.node_workers.proofs.NodeTurns.{may_take_at, take_commits, rested}
use Rattle.node_workers.proofs.Learning.{Learned, learned}
use Rattle.node_workers.proofs.node.NodeState.take.Goals as goal

pub take-requires : goal.take-requires
take-requires g c = λ _ _.
    let world = g.W.WorldName.world in
    let inv = c.self.invariant in
    let runs : c.self.inside.has_failed ≡ false = search rules in
    let s = c.self.inside.node.state in
    let list = c.self.inside.list.items in
    let from = c.letter.inside.from.0 in
    let sent = c.letter.inside.sent in
    let to : sent.to ≡ c.self.inside.id = search rules in
    let number : sent.number ≡ slice_index s.taken from = search rules in
    let l = learned world c.self.inside.id c.self.inside.pass c.letter.inside.note.seen c.learn.new.pass s list from sent inv.node_is inv.inside (inv.is runs) c.letter.invariant.inside c.letter.invariant.flies to number c.learn.ensures.same.1 c.learn.ensures.both c.learn.ensures.one in
    may_take_at world c.args.world.now (sym c.requires.world) (subst IsValid c.requires.world c.requires.valid) c.self.inside.id c.learn.new.pass l.node_is s list l.inside l.is from sent c.letter.invariant.inside l.letter

pub commit_turn-requires-clause-may : goal.commit_turn-requires-clause-may
commit_turn-requires-clause-may g c =
    let world = g.W.WorldName.world in
    let inv = c.self.invariant in
    let runs : c.self.inside.has_failed ≡ false = search rules in
    let s = c.self.inside.node.state in
    let list = c.self.inside.list.items in
    let from = c.letter.inside.from.0 in
    let sent = c.letter.inside.sent in
    let to : sent.to ≡ c.self.inside.id = search rules in
    let number : sent.number ≡ slice_index s.taken from = search rules in
    let l = learned world c.self.inside.id c.self.inside.pass c.letter.inside.note.seen c.learn.new.pass s list from sent inv.node_is inv.inside (inv.is runs) c.letter.invariant.inside c.letter.invariant.flies to number c.learn.ensures.same.1 c.learn.ensures.both c.learn.ensures.one in
    let ok = c.in-Ok.ensures.ok in
    take_commits world (subst IsValid c.requires.world c.requires.valid) c.self.inside.id c.learn.new.pass l.node_is s list l.inside l.is from sent c.letter.invariant.inside l.letter
    c.take.new.self.state c.in-Ok.out.entry c.in-Ok.out.sends ok.0
    (subst (λ (w : World). IsTurned c.take.new.self.state c.in-Ok.out.entry c.in-Ok.out.sends (came w unix_answer ok.0 (one_taken s from) sent.message)) c.requires.world ok.1)

pub invariant_of-self-in-Ok-commit_turn : goal.invariant_of-self-in-Ok-commit_turn
invariant_of-self-in-Ok-commit_turn g c =
    let world = g.W.WorldName.world in
    let inv = c.self.invariant in
    let runs : c.self.inside.has_failed ≡ false = search rules in
    let s = c.self.inside.node.state in
    let list = c.self.inside.list.items in
    let from = c.letter.inside.from.0 in
    let sent = c.letter.inside.sent in
    let to : sent.to ≡ c.self.inside.id = search rules in
    let number : sent.number ≡ slice_index s.taken from = search rules in
    let l = learned world c.self.inside.id c.self.inside.pass c.letter.inside.note.seen c.learn.new.pass s list from sent inv.node_is inv.inside (inv.is runs) c.letter.invariant.inside c.letter.invariant.flies to number c.learn.ensures.same.1 c.learn.ensures.both c.learn.ensures.one in
    let ok = c.in-Ok.ensures.ok in
    let new = c.take.new.self.state in
    let sends = c.in-Ok.out.sends in
    let later = c.commit_turn.new.pass in
    let items = c.commit_turn.new.list.items in
    let done = c.in-Ok-commit_turn.ensures.committed in
    let node = c.in-Ok-commit_turn.ensures.node (take_commits world (subst IsValid c.requires.world c.requires.valid) c.self.inside.id c.learn.new.pass l.node_is s list l.inside l.is from sent c.letter.invariant.inside l.letter
    c.take.new.self.state c.in-Ok.out.entry c.in-Ok.out.sends ok.0
    (subst (λ (w : World). IsTurned c.take.new.self.state c.in-Ok.out.entry c.in-Ok.out.sends (came w unix_answer ok.0 (one_taken s from) sent.message)) c.requires.world ok.1)) in
    let room : length list < 2 ^ 40 = search rules in
    let many = ap (λ (m : List PlacedTurn). length m) done.list_is in
    record {
      log_is = done.same.0 ∙ (c.learn.ensures.same.0 ∙ inv.log_is);
      node_is = done.same.1 ∙ l.node_is;
      inside = inv.inside;
      few = (let joined = length-append list (record { place = done.place; turn = Take c.self.inside.id c.letter.inside.from.0; line = c.in-Ok.out.entry } ∷ []) in omega (arith, many, joined, room));
      runs = λ _. c.in-Ok.ensures.running;
      is = λ _. subst (λ (t : State). IsNode world unix_answer later.seen c.self.inside.id t items) (rested new sends ok.1.1)
          (subst (λ (k : ℕ). IsNode world unix_answer later.seen k (sent_off (record new { out = sends })) items) l.node_is node);
    }

pub returns-clause-works : goal.returns-clause-works
returns-clause-works g c =
    let world = c.args.world.now in
    let inv = c.self.invariant in
    let runs : c.self.inside.has_failed ≡ false = search rules in
    let ok = c.in-Ok.ensures.ok in
    let new = c.take.new.self.state in
    let line = c.in-Ok.out.entry in
    let sends = c.in-Ok.out.sends in
    let later = c.commit_turn.new.pass in
    let done = c.in-Ok-commit_turn.ensures.committed in
    let view = c.self.view_is in
    let letter = c.letter.view_is in
    let id = ap (λ (v : LockedView). v.id) view in
    let known = c.learn.ensures.both ∙ (ap (λ (v : LockedView). union v.pass.seen c.letter.inside.note.seen) view ∙ ap (λ (l : LetterView). union c.args.self.now.pass.seen l.seen) letter) in
    let turn = ap (λ (v : LockedView). Take v.id c.letter.inside.from.0) view ∙ ap (λ (l : LetterView). Take c.args.self.now.id l.from.0) letter in
    record {
      next = c.requires.next;
      questions = ok.0;
      line = line;
      sends = sends;
      turned = subst (λ (l : LetterView). IsTurned new line sends (came world unix_answer ok.0 (one_taken c.args.self.now.state l.from.0) l.sent.message)) letter
          (subst (λ (v : LockedView). IsTurned new line sends (came world unix_answer ok.0 (one_taken v.state c.letter.inside.from.0) c.letter.inside.sent.message)) view ok.1);
      place = done.place;
      above = subst (λ (seen : List (Option Turn)). length seen ≤ done.place) known done.above;
      seen = done.seen ∙ (ap (λ (seen : List (Option Turn)). added seen done.place (Take c.self.inside.id c.letter.inside.from.0)) known ∙ ap (λ (x : Turn). added (union c.args.self.now.pass.seen c.args.letter.seen) done.place x) turn);
      list = done.list_is ∙ (ap (λ (v : LockedView). v.list ++ record { place = done.place; turn = Take c.self.inside.id c.letter.inside.from.0; line = line } ∷ []) view
          ∙ ap (λ (x : Turn). c.args.self.now.list ++ record { place = done.place; turn = x; line = line } ∷ []) turn);
      letters_are = done.letters_are ∙ ap (λ (k : ℕ). map (letter_of k later.seen) sends) (c.learn.ensures.same.1 ∙ (inv.node_is ∙ id));
      same = id;
      runs = runs;
    }
