use Rattle.std.proofs.Common.{rules, ◌≡◌, ◌<◌, ◌≤◌, ◌^◌, ℕ, false, List, length, length-append, refl, sym, ap, ◌∙◌, subst, arith, map, [], ◌∷◌, ◌++◌}
use Rattle.unix_calls.specs.declared.World.{World}
use Rattle.unix_calls.specs.Valid.{IsValid}
use Rattle.node_state.specs.declared.State.{State}
use Rattle.node_state.specs.Wires.{sent_off}
use Rattle.unix_calls.specs.declared.Turn.TheVariants.{Go}
use Rattle.past_lists.specs.Own.{added}
use Rattle.node_core.specs.Turns.{led, going}
use Rattle.node_core.specs.Views.{IsTurned}
use Rattle.ops_vector.specs.Answer.{unix_answer}
use Rattle.locked_laws.specs.declared.PlacedTurn.{PlacedTurn}
use Rattle.locked_laws.specs.Locked.{IsNode}
use Rattle.node_workers.specs.Views.{LockedView, letter_of}
use Rattle.node_workers.proofs.NodeTurns.{may_go, go_commits, rested}
use Rattle.node_workers.proofs.node.NodeState.go.Goals as goal

pub go-requires : goal.go-requires
go-requires g c = λ _.
    let world = c.args.world.now in
    let e = sym c.requires.world in
    let inv = c.self.invariant in
    let runs : c.self.inside.has_failed ≡ false = search rules in
    let pass = c.self.inside.pass in
    let s = c.self.inside.node.state in
    let list = c.self.inside.list.items in
    may_go world c.requires.valid c.self.inside.id pass inv.node_is s list
    (subst (λ (w : World). pass.node < w.nodes) e (subst (λ (k : ℕ). k < g.W.WorldName.world.nodes) (sym inv.node_is) inv.inside))
    (subst (λ (w : World). IsNode w unix_answer pass.seen pass.node s list) e (subst (λ (k : ℕ). IsNode g.W.WorldName.world unix_answer pass.seen k s list) (sym inv.node_is) (inv.is runs)))

pub commit_turn-requires-clause-may : goal.commit_turn-requires-clause-may
commit_turn-requires-clause-may g c =
    let world = g.W.WorldName.world in
    let inv = c.self.invariant in
    let runs : c.self.inside.has_failed ≡ false = search rules in
    let pass = c.self.inside.pass in
    let s = c.self.inside.node.state in
    let list = c.self.inside.list.items in
    let ok = c.in-Ok.ensures.ok in
    go_commits world (subst IsValid c.requires.world c.requires.valid) c.self.inside.id pass inv.node_is s list
    (subst (λ (k : ℕ). k < world.nodes) (sym inv.node_is) inv.inside)
    (subst (λ (k : ℕ). IsNode world unix_answer pass.seen k s list) (sym inv.node_is) (inv.is runs))
    c.go.new.self.state c.in-Ok.out.entry c.in-Ok.out.sends ok.0
    (subst (λ (w : World). IsTurned c.go.new.self.state c.in-Ok.out.entry c.in-Ok.out.sends (led w unix_answer ok.0 (going w s))) c.requires.world ok.1)

pub invariant_of-self-in-Ok-commit_turn : goal.invariant_of-self-in-Ok-commit_turn
invariant_of-self-in-Ok-commit_turn g c =
    let world = g.W.WorldName.world in
    let inv = c.self.invariant in
    let runs : c.self.inside.has_failed ≡ false = search rules in
    let pass = c.self.inside.pass in
    let s = c.self.inside.node.state in
    let list = c.self.inside.list.items in
    let ok = c.in-Ok.ensures.ok in
    let new = c.go.new.self.state in
    let sends = c.in-Ok.out.sends in
    let later = c.commit_turn.new.pass in
    let items = c.commit_turn.new.list.items in
    let done = c.in-Ok-commit_turn.ensures.committed in
    let node = c.in-Ok-commit_turn.ensures.node (go_commits world (subst IsValid c.requires.world c.requires.valid) c.self.inside.id pass inv.node_is s list
    (subst (λ (k : ℕ). k < world.nodes) (sym inv.node_is) inv.inside)
    (subst (λ (k : ℕ). IsNode world unix_answer pass.seen k s list) (sym inv.node_is) (inv.is runs))
    new c.in-Ok.out.entry sends ok.0
    (subst (λ (w : World). IsTurned new c.in-Ok.out.entry sends (led w unix_answer ok.0 (going w s))) c.requires.world ok.1)) in
    let room : length list < 2 ^ 40 = search rules in
    let many = ap (λ (l : List PlacedTurn). length l) done.list_is in
    record {
      log_is = done.same.0 ∙ inv.log_is;
      node_is = done.same.1 ∙ inv.node_is;
      inside = inv.inside;
      few = (let joined = length-append list (record { place = done.place; turn = Go c.self.inside.id; line = c.in-Ok.out.entry } ∷ []) in omega (arith, many, joined, room));
      runs = λ _. c.in-Ok.ensures.running;
      is = λ _. subst (λ (t : State). IsNode world unix_answer later.seen c.self.inside.id t items) (rested new sends ok.1.1)
          (subst (λ (k : ℕ). IsNode world unix_answer later.seen k (sent_off (record new { out = sends })) items) inv.node_is node);
    }

pub returns-clause-works : goal.returns-clause-works
returns-clause-works g c =
    let world = c.args.world.now in
    let inv = c.self.invariant in
    let runs : c.self.inside.has_failed ≡ false = search rules in
    let ok = c.in-Ok.ensures.ok in
    let new = c.go.new.self.state in
    let line = c.in-Ok.out.entry in
    let sends = c.in-Ok.out.sends in
    let later = c.commit_turn.new.pass in
    let done = c.in-Ok-commit_turn.ensures.committed in
    let view = c.self.view_is in
    let id = ap (λ (v : LockedView). v.id) view in
    record {
      next = tt;
      questions = ok.0;
      line = line;
      sends = sends;
      turned = subst (λ (s : State). IsTurned new line sends (led world unix_answer ok.0 (going world s))) (ap (λ (v : LockedView). v.state) view) ok.1;
      place = done.place;
      above = subst (λ (v : LockedView). length v.pass.seen ≤ done.place) view done.above;
      seen = done.seen ∙ ap (λ (v : LockedView). added v.pass.seen done.place (Go v.id)) view;
      list = done.list_is ∙ ap (λ (v : LockedView). v.list ++ record { place = done.place; turn = Go v.id; line = line } ∷ []) view;
      letters_are = done.letters_are ∙ ap (λ (k : ℕ). map (letter_of k later.seen) sends) (inv.node_is ∙ id);
      same = id;
      runs = runs;
    }
