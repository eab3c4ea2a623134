use Rattle.std.proofs.Common.{◌∙◌, ap}
use Rattle.script_reader.specs.Names.{Table, number_in}
use Rattle.script_reader.proofs.NameLemmas.{lookup_seen}
use Rattle.script_reader.proofs.names.Numbers.number_of.Goals as goal

pub returns : goal.returns
returns c = c.copied.ensures ∙ c.get.ensures.value ∙ lookup_seen c.args.word.now c.self.inside.first.entries ∙ ap (λ (t : Table). number_in t c.args.word.now) c.self.view_is
