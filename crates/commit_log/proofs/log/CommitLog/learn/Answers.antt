use Rattle.std.proofs.Common.{rules, ◌≡◌, [], ◌∷◌, ◌++◌, List, Some, None, ap, sym, subst, ◌∙◌}
use Rattle.atomic_table.specs.Table.{Me, step, Allows}
use mathlib.Core.Option.{none}
use Rattle.commit_log.specs.declared.word.Knower.{Knower}
use Rattle.commit_log.specs.MethodWord.{knower, seen_of, node_at, IsUnited, IsKept}
use Rattle.pasts.specs.Pasts.{union}
use Rattle.commit_log.specs.Passes.{MeetIn}
use Rattle.commit_log.proofs.Learning.{met, met_as, learned_longer, learned_own}
use Rattle.commit_log.proofs.Keeps.{gathers, joined, unites_keeps}
use Rattle.commit_log.proofs.log.CommitLog.learn.Goals as goal

pub join_seat-requires : goal.join_seat-requires
join_seat-requires g c = (
  search rules,
  search rules,
  ap (λ m. m.1) c.note.invariant,
  search rules,
  gathers g.M.Machine.node_of g.M.Machine.lawful c.self.inside.table.shared.key c.pass.inside.seat.id c.pass.inside.seat.me.0 c.note.inside.seat.id c.note.inside.seat.me.0,
)

pub load-requires : goal.load-requires
load-requires g c =
    let a = c.pass.inside.seat.me in
    let b = c.note.inside.seat.me in
    let p = knower (Some (node_at a.0)) (seen_of a.0) in
    let q = knower None (seen_of b.0) in
    let is : c.join_seat.new.seat.me ≡ (p ∷ q ∷ [], []) = c.join_seat.ensures.2 ∙ joined a b p q c.pass.invariant c.note.invariant in
    let nodes = c.self.inside.table.shared.key in
    let slots = c.self.inside.table.shared.table_id.slots in (
      search rules,
      search rules,
      subst (λ (me : Me (Unit {0}) (List (Knower g.row.M-Step.Denot))). Allows (IsKept g.M.Machine.node_of g.M.Machine.lawful nodes) slots c.join_seat.new.seat.id me 0 (λ n. n) (IsUnited g.M.Machine.node_of g.M.Machine.lawful (step slots 0 0 0 none) me)) (sym is)
          (unites_keeps g.M.Machine.node_of g.M.Machine.lawful nodes g.M.Machine.merge_law slots c.join_seat.new.seat.id (Some (node_at a.0)) None (seen_of a.0) (seen_of b.0) (step slots 0 0 0 none)),
    )

pub returns-clause-longer : goal.returns-clause-longer
returns-clause-longer g c =
    let a = c.pass.inside.seat.me in
    let b = c.note.inside.seat.me in
    let is : c.join_seat.new.seat.me ≡ (knower (Some (node_at a.0)) (seen_of a.0) ∷ knower None (seen_of b.0) ∷ [], []) = c.join_seat.ensures.2 ∙ joined a b (knower (Some (node_at a.0)) (seen_of a.0)) (knower None (seen_of b.0)) c.pass.invariant c.note.invariant in
    let table = c.pass.inside.seat.table_id in
    let st = step c.self.inside.table.shared.table_id.slots 0 0 0 none in
    let meet = met g.M.Machine.node_of g.M.Machine.lawful st c.join_seat.new.seat.me c.load.new.seat.me table (node_at a.0) c.load.result (seen_of a.0) (seen_of b.0) is c.load.ensures.2 in
    let one : (log : List g.row.M-Step.Denot) × MeetIn g.M.Machine.node_of g.M.Machine.lawful log c.args.pass.now c.args.note.seen = met_as g.M.Machine.node_of g.M.Machine.lawful (record { log = table; node = node_at a.0; seen = seen_of a.0 }) (seen_of b.0) c.args.pass.now c.args.note.seen c.pass.view_is (ap (λ v. v.seen) c.note.view_is) meet in
    let both : seen_of c.load.new.seat.me.0 ≡ union c.args.pass.now.seen c.args.note.seen = search rules in
    learned_longer g.M.Machine.node_of g.M.Machine.lawful one.0 c.args.pass.now c.args.note.seen (seen_of c.load.new.seat.me.0) one.1 both

pub returns-clause-own : goal.returns-clause-own
returns-clause-own g c =
    let a = c.pass.inside.seat.me in
    let b = c.note.inside.seat.me in
    let is : c.join_seat.new.seat.me ≡ (knower (Some (node_at a.0)) (seen_of a.0) ∷ knower None (seen_of b.0) ∷ [], []) = c.join_seat.ensures.2 ∙ joined a b (knower (Some (node_at a.0)) (seen_of a.0)) (knower None (seen_of b.0)) c.pass.invariant c.note.invariant in
    let table = c.pass.inside.seat.table_id in
    let st = step c.self.inside.table.shared.table_id.slots 0 0 0 none in
    let meet = met g.M.Machine.node_of g.M.Machine.lawful st c.join_seat.new.seat.me c.load.new.seat.me table (node_at a.0) c.load.result (seen_of a.0) (seen_of b.0) is c.load.ensures.2 in
    let one : (log : List g.row.M-Step.Denot) × MeetIn g.M.Machine.node_of g.M.Machine.lawful log c.args.pass.now c.args.note.seen = met_as g.M.Machine.node_of g.M.Machine.lawful (record { log = table; node = node_at a.0; seen = seen_of a.0 }) (seen_of b.0) c.args.pass.now c.args.note.seen c.pass.view_is (ap (λ v. v.seen) c.note.view_is) meet in
    let both : seen_of c.load.new.seat.me.0 ≡ union c.args.pass.now.seen c.args.note.seen = search rules in
    learned_own g.M.Machine.node_of g.M.Machine.lawful one.0 c.args.pass.now c.args.note.seen (seen_of c.load.new.seat.me.0) one.1 both
