use Rattle.std.proofs.Common.{◌∙◌, ap}
use Rattle.decide_law.specs.Told.{record_in}
use Rattle.ops_exit_wait.proofs.children.first_ready.Goals as goal

pub returns-in-None : goal.returns-in-None
returns-in-None c = ap (record_in c.args.bag.now) c.in-None.ensures

pub returns-in-Some : goal.returns-in-Some
returns-in-Some c = c.vproc.ensures ∙ ap (record_in c.args.bag.now) c.in-Some.ensures
