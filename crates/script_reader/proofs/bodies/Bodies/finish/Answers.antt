use Rattle.std.proofs.Common.{◌∙◌}
use Rattle.script_reader.proofs.Steps.{finish-begun, finish-none}
use Rattle.script_reader.proofs.bodies.Bodies.finish.Goals as goal
use Rattle.script_reader.proofs.bodies.Bodies.finish.Goals.{then-begun+in_ok-push, else-begun}

pub returns : goal.returns
returns c =
    elim c.if-begun.branch [
      | then-begun+in_ok-push w ↦ w.whole-is ∙ w.in_ok-push.ensures.ok ∙ finish-begun c.args.self w.if-begun.true
      | else-begun w ↦ w.whole-is ∙ finish-none c.args.self w.if-begun.false
    ]
