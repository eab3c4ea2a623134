use Rattle.kernel_choice.proofs.EventLaws.{chosen_may_happen, none_chosen, none_where_clear}
use Rattle.kernel_choice.proofs.laws.chosen_event.Goals as goal

pub returns-clause-may : goal.returns-clause-may
returns-clause-may c = chosen_may_happen

pub returns-clause-none : goal.returns-clause-none
returns-clause-none c = none_chosen

pub returns-clause-clear : goal.returns-clause-clear
returns-clause-clear c = none_where_clear
