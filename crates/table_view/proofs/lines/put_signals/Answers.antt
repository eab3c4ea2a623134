use Rattle.std.proofs.Common.{◌≡◌, ◌++◌, OnOk, subst}
use Rattle.std.specs.String.{string_bytes}
use Rattle.signal_state.specs.declared.Sig.{Sig}
use Rattle.table_view.specs.Rows.{signals_text}
use Rattle.table_view.proofs.lines.put_signals.Goals as goal

pub returns : goal.returns
returns c =
    subst (λ (sig : Sig). OnOk c.put_sets.result (string_bytes c.put_sets.new.text ≡ string_bytes c.args.text.now ++ signals_text sig)) c.sig.view_is c.put_sets.ensures
