use Rattle.std.proofs.Common.{rules, ℕ, length, ◌≡◌, [], ◌∷◌, ◌++◌, List, Some, ap, sym, subst, ◌∙◌}
use Rattle.std.specs.Slots.{slots_items}
use lib.ListN.{get_elem?}
use mathlib.Core.Option.{some}
use Rattle.commit_log.specs.declared.word.Knower.{Knower}
use Rattle.commit_log.specs.Passes.{Known, AreAllOf}
use Rattle.commit_log.specs.MethodWord.{knower, IsKept, gathered}
use Rattle.commit_log.proofs.Keeps.{gathers}
use Rattle.commit_log.proofs.Closing.{closes, popped}
use Rattle.commit_log.proofs.log.CommitLog.close.Goals as goal

pub join_seat-requires : goal.join_seat-requires
join_seat-requires g c = (
  search rules,
  ap (λ v. v.log) c.pass.view_is ∙ (popped (λ (p : Known g.row.M-Step.Denot). p.log ≡ c.args.self.log) c.args.passes.items c.loop-pass.passes.items c.loop-pass.invariant.1.0 c.pop-in-loop-pass.new.self.items c.in-Some-pop.pass c.requires.logs c.loop-pass.invariant.1.1 c.in-Some-pop.ensures.items ∙ sym (ap (λ v. v.log) c.self.view_is)),
  ap (λ m. m.1) c.pass.invariant,
  search rules,
  gathers g.M.Machine.node_of g.M.Machine.lawful c.self.inside.table.shared.key c.loop-pass.all.id c.loop-pass.all.me.0 c.pass.inside.seat.id c.pass.inside.seat.me.0,
)

pub returns : goal.returns
returns g c =
    let final = c.close_with-closed.ensures.values.2 in
    let taken = c.loop-pass.invariant.1.0 in
    let empty : c.loop-pass.passes.items ≡ [] = search rules in
    let same : c.self.inside.table.shared.key ≡ c.args.self.nodes = ap (λ v. v.nodes) c.self.view_is in
    subst (λ (n : ℕ). (log : List g.row.M-Step.Denot) × (length log ≡ c.word-places.result) × AreAllOf g.M.Machine.node_of g.M.Machine.lawful log n c.args.passes.items) same (closes g.M.Machine.node_of g.M.Machine.lawful c.self.inside.table.shared.key c.args.passes.items c.loop-pass.passes.items taken c.loop-pass.all.id c.loop-pass.all.me.0 final.0 (slots_items c.close_with-closed.result.words) c.word-places.result
    final.1.0 final.1.1 final.2 c.word-places.ensures (c.requires.count ∙ sym same) c.loop-pass.invariant.1.1 empty (ap (λ m. m.0) c.loop-pass.invariant.1.2))
