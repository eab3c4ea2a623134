use Rattle.std.proofs.Common.{◌≡◌, ◌∙◌, ap, None, refl, arith}
use Rattle.script_reader.specs.Names.{number_in}
use Rattle.script_reader.proofs.NameLemmas.{seen, inserted_seen}
use Rattle.script_reader.proofs.names.Numbers.note.Goals as goal

pub returns-in_ok-insert : goal.returns-in_ok-insert
returns-in_ok-insert c =
    let miss : number_in c.args.self.now c.args.word.now ≡ None = grind arith in
    let es = c.self.inside.first.entries in
    let view : seen es ≡ c.args.self.now = c.self.view_is in
    let none : number_in (seen es) c.args.word.now ≡ None = rw view miss in
    let now = ap seen c.in_ok-insert.ensures.entries ∙ inserted_seen c.args.word c.args.number es none in
    now ∙ rw (view, miss) refl
