use Rattle.ops_groups.proofs.Steps.{groups_calls_answered}
use Rattle.ops_groups.proofs.groups_calls_are_steps.Goals as goal

pub returns : goal.returns
returns c = groups_calls_answered
