use Rattle.std.proofs.Common.{sym, subst, ◌∙◌, All}
use Rattle.unix_calls.specs.Calls.{IsEntry}
use Rattle.histories.specs.declared.Stamped.{Stamped}
use Rattle.run_shell.proofs.Runs.{all_stamped}
use Rattle.run_shell.proofs.replays.history_text.Goals as goal

pub put_history_two-requires : goal.put_history_two-requires
put_history_two-requires c =
    subst (All (λ (s : Stamped). IsEntry s.entry)) (sym (c.deref-in-Two-3.ensures.value ∙ c.in_ok-stamped-in-Two.ensures))
    (all_stamped c.args.world.now c.deref-in-Two.result.now c.deref-in-Two-2.result.now (subst (All IsEntry) (sym c.deref-in-Two.ensures.value) c.requires.entries))
