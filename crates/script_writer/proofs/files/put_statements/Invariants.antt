use Rattle.std.proofs.Common.{◌≡◌, ◌++◌, take, map}
use Rattle.std.specs.List.{flat_map}
use Rattle.std.specs.String.{string_bytes}
use Rattle.script_writer.specs.Written.{line_text, statement_words}
use Rattle.script_writer.proofs.files.put_statements.Given as goal

abbrev pub invariant-loop-statement : goal.invariant-loop-statement
invariant-loop-statement l = string_bytes l.text ≡ string_bytes l.initial.text ++ flat_map line_text (map statement_words (take l.statement-index l.statements))
