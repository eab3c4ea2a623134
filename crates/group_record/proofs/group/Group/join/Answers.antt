use Rattle.std.proofs.Common.{ap, ◌∙◌, ◌++◌, ◌∷◌, []}
use Rattle.std.proofs.lemmas.Result.{on_ok_weaker}
use Rattle.group_record.specs.Log.{log_part}
use Rattle.group_record.proofs.LogLaws.{log_part-joined_own, log_part-joined_other}
use Rattle.group_record.proofs.group.Group.join.Goals as goal

pub returns-clause-empty_part : goal.returns-clause-empty_part
returns-clause-empty_part c = on_ok_weaker c.add.result (λ e.
    ap (λ ms. log_part c.args.p c.args.uid (record c.args.self.now { members = ms })) (e ∙ ap (λ n. c.args.self.now.members ++ (record { pid = c.args.p; from = n; uid = c.args.uid }) ∷ []) c.len-from.ensures)
    ∙ log_part-joined_own c.args.self.now c.args.p c.args.uid c.args.uid c.requires) c.add.ensures.ok

pub returns-clause-others : goal.returns-clause-others
returns-clause-others c = on_ok_weaker c.add.result (λ e q u ne.
    ap (λ ms. log_part q u (record c.args.self.now { members = ms })) (e ∙ ap (λ n. c.args.self.now.members ++ (record { pid = c.args.p; from = n; uid = c.args.uid }) ∷ []) c.len-from.ensures)
    ∙ log_part-joined_other c.args.self.now c.args.p q c.args.uid u ne) c.add.ensures.ok
