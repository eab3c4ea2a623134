use Rattle.std.proofs.Common.{refl}
use Rattle.byte_ends.specs.Text.{words}
use Rattle.histories.specs.Reading.{Means}
use Rattle.histories.proofs.Meanings.{spelling-unique, entry-known}
use Rattle.histories.proofs.PartLaws.{means-or-fails}
use Rattle.histories.proofs.laws.part_means_or_fails.Goals as goal

pub returns : goal.returns
returns c = means-or-fails Means (λ line d e. spelling-unique (words line) d e) (λ line. entry-known (words line) (line, refl))
