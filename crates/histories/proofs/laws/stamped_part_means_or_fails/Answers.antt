use Rattle.std.proofs.Common.{refl}
use Rattle.byte_ends.specs.Text.{words}
use Rattle.histories.specs.Stamped.{MeansStamped}
use Rattle.histories.proofs.PartLaws.{means-or-fails}
use Rattle.histories.proofs.TwoMeanings.{stamped-unique, stamped-known}
use Rattle.histories.proofs.laws.stamped_part_means_or_fails.Goals as goal

pub returns : goal.returns
returns c = means-or-fails MeansStamped (λ line s t. stamped-unique (words line) s t) (λ line. stamped-known (words line) (line, refl))
