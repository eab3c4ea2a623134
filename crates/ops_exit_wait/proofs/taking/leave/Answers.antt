use Rattle.std.proofs.Common.{◌∙◌, ap, Some, None}
use Rattle.decide_law.specs.Effects.{unless_empty}
use Rattle.decide_law.proofs.Tables.{replaced, taken_and_put}
use Rattle.ordered_table.specs.Entries.{with_value}
use Rattle.ops_exit_wait.specs.Waitpid.{leaves}
use Rattle.ops_exit_wait.proofs.taking.leave.Goals as goal

pub returns-in-Some : goal.returns-in-Some
returns-in-Some c =
    ap (λ gs. record c.args.bag.now { groups = gs }) (taken_and_put c.args.id (leaves c.args.pid) c.args.bag.now.groups _ _ (Some c.in-Some.g) None c.both_rise.ensures.groups c.in-Some.ensures.before c.in-Some.ensures.after
    (c.replace-in-Some.ensures.after ∙ ap (λ h. with_value c.replace.new.self c.args.id h) (c.unless_empty.ensures ∙ ap unless_empty c.leave.ensures.left)))

pub returns-in_default : goal.returns-in_default
returns-in_default c = ap (λ gs. record c.args.bag.now { groups = gs }) (replaced c.args.id (leaves c.args.pid) c.args.bag.now.groups _ None c.both_rise.ensures.groups c.in_default.ensures.before c.in_default.ensures.after)
