use Rattle.std.proofs.Common.{◌≡◌, [], refl, arith}
use Rattle.std.proofs.lemmas.List.{nil_from_length}
use Rattle.script_reader.specs.Statements.{signals, mask_statement}
use Rattle.script_reader.proofs.statements.mask_statement.Goals as goal

pub returns-in-empty : goal.returns-in-empty
unfolding mask_statement signals
returns-in-empty c =
    let none : c.args.words.now ≡ [] = nil_from_length c.args.words.now (omega arith) in
    rw (none, c.empty.ensures) refl
