use Rattle.signal_state.proofs.Folds.{kept-generated_all}
use Rattle.signal_state.proofs.laws.keeping.Goals as goal

pub returns : goal.returns
returns c = kept-generated_all
