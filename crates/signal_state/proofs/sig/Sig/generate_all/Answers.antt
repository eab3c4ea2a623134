use Rattle.std.proofs.Common.{◌∙◌, ap, sym, arith, get_or}
use Rattle.unix_names.specs.declared.Signal.TheVariants.{Hup}
use Rattle.signal_state.specs.Sig.{generated}
use Rattle.signal_state.proofs.Folds.{generated_all_more}
use Rattle.signal_state.proofs.sig.Sig.generate_all.Goals as goal

pub loop-s-preserved : goal.loop-s-preserved
loop-s-preserved c =
    c.generate.ensures
    ∙ ap (λ x. generated x (get_or c.args.signals.now c.loop-s.s-index Hup)) c.loop-s.invariant
    ∙ sym (generated_all_more c.args.self.now c.args.signals.now c.loop-s.s-index Hup (omega arith))
