use Rattle.std.proofs.Common.{◌≡◌, ◌++◌, drop}
use Rattle.std.specs.List.{flat_map}
use Rattle.std.specs.String.{string_bytes}
use Rattle.script_writer.specs.Written.{line_text, scripts_rows}
use Rattle.script_writer.proofs.files.put_scripts.Given as goal

abbrev pub invariant-loop-k : goal.invariant-loop-k
invariant-loop-k l = string_bytes l.text ++ flat_map line_text (scripts_rows l.k (drop l.k l.scripts)) ≡ string_bytes l.initial.text ++ flat_map line_text (scripts_rows 0 l.scripts)
