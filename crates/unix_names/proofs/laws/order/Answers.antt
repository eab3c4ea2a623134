use Rattle.unix_names.proofs.NameLaws.{IsBefore-self, IsBefore-trans, IsBefore-cases}
use Rattle.unix_names.proofs.laws.order.Goals as goal

pub returns : goal.returns
returns c = record { irreflexive = IsBefore-self; transitive = IsBefore-trans; total = IsBefore-cases }
