-- How it is told that a history was not read.
use Rattle.std.specs.Prelude.{ℕ, List, ◌++◌, codes}
use Rattle.std.specs.Fmt.{decimal}

-- how the first bad line is told
abbrev pub bad_line_text : ℕ → List ℕ
bad_line_text line = codes "bad text at line " ++ decimal line
