use Rattle.ops_deliver.proofs.Steps.{events_answered}
use Rattle.ops_deliver.proofs.events_are_steps.Goals as goal

pub returns : goal.returns
returns c = events_answered
