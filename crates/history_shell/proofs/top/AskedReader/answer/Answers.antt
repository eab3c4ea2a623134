use Rattle.std.proofs.Common.{All, List, sym, subst}
use Rattle.unix_calls.specs.declared.Entry.{Entry}
use Rattle.unix_calls.specs.Calls.{EntryHasNames}
use Rattle.history_shell.specs.MethodHearing.{IsHeard}
use Rattle.history_shell.proofs.Histories.{legal_names}
use Rattle.history_shell.proofs.top.AskedReader.answer.Goals as goal

pub told-requires-clause-names : goal.told-requires-clause-names
told-requires-clause-names c =
    subst (λ (es : List Entry). All EntryHasNames es) (sym c.deref.ensures.value)
    (legal_names c.args.input.now c.in-Legal.given c.in-Legal.entries.items (subst (IsHeard c.args.input.now) c.in-Legal.is c.in_ok-answer.ensures))
