use Rattle.std.proofs.Common.{rules, ◌≡◌, ℕ, ◌+◌, ◌%◌, ◌^◌, ◌<◌, [], ◌∷◌, ◌++◌, List, Option, Some, None, ap, sym, subst, ◌∙◌}
use Rattle.atomic_table.specs.Table.{Me, step, Allows}
use mathlib.Core.Option.{none}
use Rattle.commit_log.specs.declared.word.Knower.{Knower}
use Rattle.pasts.specs.Pasts.{steps_of}
use Rattle.past_lists.specs.Own.{count, added}
use Rattle.commit_log.specs.MethodWord.{knower, seen_of, node_at, owner, IsCommitted, IsKept}
use Rattle.commit_log.proofs.Keeps.{commits_keeps}
use Rattle.past_lists.proofs.Seen.{steps_added}
use Rattle.commit_log.proofs.log.CommitLog.commit_as.Goals as goal

pub fetch_add-requires : goal.fetch_add-requires
fetch_add-requires g c =
    let a = c.pass.inside.seat.me in
    let k = node_at a.0 in
    let p = seen_of a.0 in
    let x = c.args.step in
    let nodes = c.self.inside.table.shared.key in
    let slots = c.self.inside.table.shared.table_id.slots in
    let node : g.M.Machine.node_of x ≡ k = c.requires.node ∙ sym (ap (λ v. v.node) c.pass.view_is) in
    let seen : p ≡ c.args.pass.now.seen = ap (λ v. v.seen) c.pass.view_is in
    let node' : k ≡ c.args.pass.now.node = ap (λ v. v.node) c.pass.view_is in
    let room : count g.M.Machine.node_of k (steps_of p) < 2 ^ 40 = subst (λ (l : List (Option g.row.M-Step.Denot)). count g.M.Machine.node_of k (steps_of l) < 2 ^ 40) (sym seen) (subst (λ (n : ℕ). count g.M.Machine.node_of n (steps_of c.args.pass.now.seen) < 2 ^ 40) (sym node') c.requires.room) in (
      search rules,
      search rules,
      subst (λ (s : Option g.row.M-Step.Denot). Allows (IsKept g.M.Machine.node_of g.M.Machine.lawful nodes) slots c.pass.inside.seat.id a 0 (λ n. (n + 1) % 2 ^ 64) (IsCommitted s (step slots 0 1 0 none) a)) (sym c.requires.said)
          (subst (λ (me : Me (Unit {0}) (List (Knower g.row.M-Step.Denot))). Allows (IsKept g.M.Machine.node_of g.M.Machine.lawful nodes) slots c.pass.inside.seat.id me 0 (λ n. (n + 1) % 2 ^ 64) (IsCommitted (Some x) (step slots 0 1 0 none) me)) (sym c.pass.invariant)
          (commits_keeps g.M.Machine.node_of g.M.Machine.lawful nodes g.M.Machine.causal_law c.self.invariant.3 slots c.pass.inside.seat.id k p x (step slots 0 1 0 none) node (subst (λ (l : List (Option g.row.M-Step.Denot)). g.M.Machine.lawful (steps_of l ++ x ∷ [])) (sym seen) c.requires.lawful) room)),
    )

pub invariant_of-pass : goal.invariant_of-pass
invariant_of-pass g c =
    let a = c.pass.inside.seat.me in
    let p = seen_of a.0 in
    let x = c.args.step in
    let k = c.fetch_add.result in
    let st = step c.self.inside.table.shared.table_id.slots 0 1 0 none in
    let told : IsCommitted (Some x) st a k c.fetch_add.new.seat.me = subst (λ (s : Option g.row.M-Step.Denot). IsCommitted s st a k c.fetch_add.new.seat.me) c.requires.said c.fetch_add.ensures.2 in
    let own : owner a.0 ≡ Some (node_at a.0) = ap (λ m. owner m.0) c.pass.invariant in
    let is : c.fetch_add.new.seat.me ≡ (knower (Some (node_at a.0)) (added p k x) ∷ [], []) = told.1 ∙ ap (λ (o : Option ℕ). (knower o (added p k x) ∷ [], [])) own in
    is ∙ sym (ap (λ m. (knower (Some (node_at m.0)) (seen_of m.0) ∷ [], [])) is)
