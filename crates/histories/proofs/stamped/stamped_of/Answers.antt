use Rattle.std.proofs.Common.{[]}
use Rattle.histories.proofs.Stamps.{rest_are}
use Rattle.histories.proofs.stamped.stamped_of.Goals as goal

pub entry_of-requires : goal.entry_of-requires
entry_of-requires c = rest_are c.args.words.now (record { ref_ptr = (0, 0); now = [] }) c.in-len2-up.len_at_least c.requires
