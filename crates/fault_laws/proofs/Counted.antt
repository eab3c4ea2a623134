-- the starts of some lines, and their work
use Rattle.std.proofs.Common.{List, [], ◌∷◌, Ok}
use Rattle.unix_calls.specs.declared.Start.{Start}
use Rattle.script_reader.specs.declared.lines.Item.TheVariants as item
use Rattle.script_reader.specs.Files.{Told, with_start}

-- earlier starts and those of some lines
abbrev pub starts_behind : List Start → List Told → List Start
starts_behind earlier [] = earlier
starts_behind earlier ((row, Ok (item.Starts s)) ∷ rest) = starts_behind (with_start earlier s) rest
starts_behind earlier ((row, _) ∷ rest) = starts_behind earlier rest
