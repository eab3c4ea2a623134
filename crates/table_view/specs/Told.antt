-- How the ground of an entry is told.
use Rattle.std.specs.Prelude.{ℕ, List, ◌++◌, codes}
use Rattle.std.specs.Fmt.{decimal}
use Rattle.table_view.specs.declared.grounds.Ground.{Ground}
use Rattle.table_view.specs.declared.grounds.Ground.TheVariants.{Refusal, Otherwise, Event}

abbrev pub ground_text : Ground → List ℕ
ground_text (Refusal number) = codes "refusal " ++ decimal number
ground_text Otherwise = codes "otherwise"
ground_text Event = codes "event"
