use Rattle.turn_laws.proofs.Numbering.{numbers_fit, sends_all}
use Rattle.turn_laws.proofs.messages_are_numbered.Goals as goal

pub returns-clause-fit : goal.returns-clause-fit
returns-clause-fit c = λ world ask turns C es r. numbers_fit world ask turns C es r

pub returns-clause-sent : goal.returns-clause-sent
returns-clause-sent c = λ world ask turns C es r. sends_all world ask turns C es r
