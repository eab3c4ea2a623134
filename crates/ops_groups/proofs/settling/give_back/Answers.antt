use Rattle.ops_groups.proofs.JoinedCode.{given_back, not_taken}
use Rattle.ops_groups.proofs.settling.give_back.Goals as goal

pub returns-in-Some : goal.returns-in-Some
returns-in-Some c = λ b v was same taken. given_back b c.args.bag.now c.args.pid v c.in-Some.v c.args.backlog _ _ c.take_out.ensures.rising c.in-Some.ensures.some c.in-Some.ensures.out c.replace.ensures.after was same taken

pub returns-in_default : goal.returns-in_default
returns-in_default c = λ b v was same taken. absurd (not_taken b c.args.bag.now c.args.pid v was taken c.in_default.ensures.none)
