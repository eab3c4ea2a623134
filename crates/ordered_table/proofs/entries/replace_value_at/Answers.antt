use Rattle.std.proofs.Common.{sym, refl}
use Rattle.std.proofs.lemmas.Option.{slice_get_read}
use Rattle.ordered_table.proofs.entries.replace_value_at.Goals as goal

pub returns : goal.returns
returns g c = record {
  entry = c.index_mut-entry.result.now;
  there = slice_get_read c.args.entries.now.items _ c.args.at _ refl c.requires c.index_mut-entry.ensures.value;
  had = sym c.replace.ensures.value;
  now = rw c.replace.ensures.after;
}
