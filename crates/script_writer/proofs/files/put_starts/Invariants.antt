use Rattle.std.proofs.Common.{◌≡◌, ◌++◌, take, map}
use Rattle.std.specs.List.{flat_map}
use Rattle.std.specs.String.{string_bytes}
use Rattle.script_writer.specs.Written.{line_text, start_row}
use Rattle.script_writer.proofs.files.put_starts.Given as goal

abbrev pub invariant-loop-start : goal.invariant-loop-start
invariant-loop-start l = string_bytes l.text ≡ string_bytes l.initial.text ++ flat_map line_text (map (start_row l.starts) (take l.start-index l.starts))
