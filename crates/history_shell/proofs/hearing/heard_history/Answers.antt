use Rattle.std.proofs.Common.{List, inr, sym, subst, ap, Err}
use Rattle.byte_ends.specs.Text.{lines}
use Rattle.file_parts.specs.Parts.{history_lines}
use Rattle.histories.specs.declared.Stamped.{Stamped}
use Rattle.history_shell.specs.declared.hearing.Part.{Part}
use Rattle.history_shell.specs.Hearing.{plain, stamped, HasHistory}
use Rattle.history_shell.specs.MethodHearing.{history_read, IsHeard}
use Rattle.history_shell.proofs.Histories.{has_names}
use Rattle.history_shell.proofs.hearing.heard_history.Goals as goal

pub judged-requires-clause-names : goal.judged-requires-clause-names
judged-requires-clause-names c =
    let ls = history_lines (lines c.args.input.now) in
    has_names ls (plain c.in-Ok-Plain.entries.items) (subst (λ (p : Part). HasHistory ls (history_read p)) c.in-Ok-Plain.field-0-is c.in-Ok-Plain.ensures.entries)

pub judged_two-requires-clause-names : goal.judged_two-requires-clause-names
judged_two-requires-clause-names c =
    let ls = history_lines (lines c.args.input.now) in
    has_names ls (stamped c.deref.result.now)
    (subst (λ (es : List Stamped). HasHistory ls (stamped es)) (sym c.deref.ensures.value)
    (subst (λ (p : Part). HasHistory ls (history_read p)) c.in-Ok-Stamped.field-0-is c.in-Ok-Stamped.ensures.entries))

pub returns-in-Err-Bad : goal.returns-in-Err-Bad
returns-in-Err-Bad c = subst (IsHeard c.args.input.now) (sym c.illegal.ensures) (inr (record {
  given = c.args.given;
  line = c.in-Err-Bad.bad.line;
  reads = c.requires.means;
  bad = c.in-Err-Bad.ensures.bad c.in-Err-Bad.bad (ap (λ x. Err x) c.in-Err-Bad.field-0-is);
  writes = c.in_ok-text-in-Err-Bad.ensures;
}))
