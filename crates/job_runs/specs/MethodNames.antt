-- method: the names of a file's jobs, read from its lines alone.
use Rattle.std.specs.Prelude.{List, [], ◌∷◌, if◌then◌else◌, codes}
use Rattle.std.specs.List.{flat_map}
use Rattle.script_words.specs.Words.{Word, Row, is_same}

-- the name that a line gives to a job, where it is the line of one
unfoldable pub named_in : Row → List Word
named_in [] = []
named_in (first ∷ []) = []
named_in (first ∷ name ∷ stages) = if is_same first (codes "job") then name ∷ [] else []

-- the names that lines give to jobs
abbrev pub names_in : List Row → List Word
names_in rows = flat_map named_in rows
