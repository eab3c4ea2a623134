use Rattle.unix_names.proofs.SetLaws.{has-none, has-added, has-removed, has-minus}
use Rattle.unix_names.proofs.laws.members.Goals as goal

pub returns : goal.returns
returns c = record { none = has-none; added = has-added; removed = has-removed; minus = has-minus }
