use Rattle.node_laws.proofs.Turns.{goers_are_sound, movers_are_sound, arrivals_are_sound}
use Rattle.node_laws.proofs.who_sets_out_is_sound.Goals as goal

pub returns-clause-goers : goal.returns-clause-goers
returns-clause-goers c = goers_are_sound

pub returns-clause-movers : goal.returns-clause-movers
returns-clause-movers c = movers_are_sound

pub returns-clause-arrivals : goal.returns-clause-arrivals
returns-clause-arrivals c = arrivals_are_sound
