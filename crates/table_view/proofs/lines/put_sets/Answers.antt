use Rattle.std.proofs.Common.{◌∷◌, codes}
use Rattle.std.specs.String.{string_bytes}
use Rattle.script_words.specs.Writing.{spaced}
use Rattle.histories.specs.History.{set_words}
use Rattle.table_view.proofs.Texts.{appended}
use Rattle.table_view.proofs.lines.put_sets.Goals as goal

pub returns : goal.returns
returns c =
    appended c.put_named_set-2.result (string_bytes c.args.text.now) (string_bytes c.put_named_set.new.text) (string_bytes c.put_named_set-2.new.text)
    (spaced (codes "pending" ∷ set_words c.args.pending)) (spaced (codes "mask" ∷ set_words c.args.mask)) c.in_ok-put_named_set.ensures c.put_named_set-2.ensures
