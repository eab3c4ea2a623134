use Rattle.std.proofs.Common.{◌≡◌, ◌∙◌, None, refl, sym, ap}
use Rattle.unix_names.specs.Signals.{signal_of}
use Rattle.process_table.specs.Changes.{received}
use Rattle.kernel_rules.specs.Kill.{sent_by_kill, after_kill}
use Rattle.kernel_rules.proofs.SentLaws.{received-none}
use Rattle.kernel_rules.proofs.kill.kill.Goals as goal

pub returns-in_default-signal_of : goal.returns-in_default-signal_of
returns-in_default-signal_of c =
    let no_signal : signal_of c.args.number ≡ None = sym c.signal_of.ensures ∙ c.in_default-signal_of.is in
    sym (
    ap (λ reply. after_kill c.args.table.now c.args.caller.now c.args.target c.args.number reply) c.in-Fine.is
    ∙ ap (λ signal. received (sent_by_kill c.args.caller.now c.args.target c.args.number signal) c.args.table.now) no_signal
    ∙ received-none (sent_by_kill c.args.caller.now c.args.target c.args.number None) (λ _. refl) c.args.table.now
    )
