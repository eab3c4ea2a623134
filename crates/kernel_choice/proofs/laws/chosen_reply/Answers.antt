use Rattle.kernel_choice.proofs.ReplyLaws.{chosen_allowed, exit_alone, names_kept}
use Rattle.kernel_choice.proofs.laws.chosen_reply.Goals as goal

pub returns-clause-allowed : goal.returns-clause-allowed
returns-clause-allowed c = chosen_allowed

pub returns-clause-none : goal.returns-clause-none
returns-clause-none c = exit_alone

pub returns-clause-names : goal.returns-clause-names
returns-clause-names c = names_kept
