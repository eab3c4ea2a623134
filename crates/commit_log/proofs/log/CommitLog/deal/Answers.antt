use Rattle.std.proofs.Common.{rules, ◌≡◌, [], ◌∷◌, List, Some, ap, sym, subst}
use Rattle.atomic_table.specs.Table.{Splits}
use Rattle.commit_log.specs.declared.word.Knower.{Knower}
use Rattle.commit_log.specs.MethodWord.{knower, rest_knowers, head_knower, IsKept}
use Rattle.commit_log.proofs.Keeps.{deals}
use Rattle.commit_log.proofs.log.CommitLog.deal.Goals as goal

pub split_seat-requires : goal.split_seat-requires
split_seat-requires g c =
    let nodes = c.self.inside.table.shared.key in
    let v = c.args.seat.now.me.0 in
    let p = knower (Some c.args.k) [] in
    let is : v ≡ p ∷ rest_knowers v = ap (λ m. m.0) c.requires.first in (
      search rules,
      search rules,
      subst (λ (w : List (Knower g.row.M-Step.Denot)). Splits (IsKept g.M.Machine.node_of g.M.Machine.lawful nodes) c.args.seat.now.id w (rest_knowers w) (head_knower w)) (sym is)
          (deals g.M.Machine.node_of g.M.Machine.lawful nodes c.args.seat.now.id p (rest_knowers v)),
    )
