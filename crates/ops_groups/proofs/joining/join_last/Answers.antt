use Rattle.std.proofs.Common.{◌==◌, ◌∙◌, ◌++◌, ◌∷◌, [], not, ap}
use Rattle.std.specs.Prelude.{filter}
use Rattle.std.proofs.lemmas.Result.{on_ok_weaker}
use Rattle.ops_groups.proofs.joining.join_last.Goals as goal

pub returns-clause-ok : goal.returns-clause-ok
returns-clause-ok c = on_ok_weaker c.move_last.result (λ e.
    ap (λ ms. record c.args.g.now { members = ms })
    (e ∙ ap (λ n. filter (λ m. not (m.pid.0 == c.args.m.now.pid.0)) c.args.g.now.members ++ (record { pid = c.args.m.now.pid; from = n; uid = c.args.m.now.uid }) ∷ []) c.len-from.ensures)) c.move_last.ensures.ok
