use Rattle.std.proofs.Common.{None, Some, Ok, ◌∙◌, ap, sym, subst}
use Rattle.unix_names.specs.declared.Pid.{Pid}
use Rattle.process_table.specs.Rows.{row_of}
use Rattle.audit_core.specs.Judge.{IsVerdictAt}
use Rattle.audit_core.specs.Stamped.{is_of_other}
use Rattle.audit_core.specs.Table.{running_of}
use Rattle.audit_core.proofs.StampRules.{place_first, user_first, entry_said}
use Rattle.audit_core.proofs.judge.Judge.step_two.Goals as goal

pub returns-then-not-is_above-clause-verdict : goal.returns-then-not-is_above-clause-verdict
returns-then-not-is_above-clause-verdict c =
    place_first c.args.world.now c.args.last c.args.self.now.kernel (running_of c.args.self.now.images) c.args.stamped.now
    (λ above. let told = c.is_above.ensures.1 above in let test = c.if-not-is_above.true in cc)

pub returns-then-is_of_other-clause-verdict : goal.returns-then-is_of_other-clause-verdict
returns-then-is_of_other-clause-verdict c =
    user_first c.args.world.now c.args.last c.args.self.now.kernel (running_of c.args.self.now.images) c.args.stamped.now
    (c.is_above.ensures.0 c.if-not-is_above.false)
    (ap (λ (p : Pid). is_of_other (row_of c.args.self.now.kernel p) c.args.stamped.now.uid) (sym c.process_of.ensures) ∙ (sym c.is_of_other.ensures ∙ c.if-is_of_other.true))

pub returns-in-None-clause-verdict : goal.returns-in-None-clause-verdict
returns-in-None-clause-verdict c =
    entry_said c.args.world.now c.args.last c.args.self.now.kernel (running_of c.args.self.now.images) c.args.stamped.now None
    (c.is_above.ensures.0 c.if-not-is_above.false)
    (ap (λ (p : Pid). is_of_other (row_of c.args.self.now.kernel p) c.args.stamped.now.uid) (sym c.process_of.ensures) ∙ (sym c.is_of_other.ensures ∙ c.if-is_of_other.false))
    (subst (IsVerdictAt c.args.world.now c.args.self.now.kernel (running_of c.args.self.now.images) c.args.stamped.now.entry) c.in-None.is c.in_ok-step.ensures.verdict)

pub returns-in-Some-clause-verdict : goal.returns-in-Some-clause-verdict
returns-in-Some-clause-verdict c =
    entry_said c.args.world.now c.args.last c.args.self.now.kernel (running_of c.args.self.now.images) c.args.stamped.now (Some c.in-Some.breach)
    (c.is_above.ensures.0 c.if-not-is_above.false)
    (ap (λ (p : Pid). is_of_other (row_of c.args.self.now.kernel p) c.args.stamped.now.uid) (sym c.process_of.ensures) ∙ (sym c.is_of_other.ensures ∙ c.if-is_of_other.false))
    (subst (IsVerdictAt c.args.world.now c.args.self.now.kernel (running_of c.args.self.now.images) c.args.stamped.now.entry) c.in-Some.is c.in_ok-step.ensures.verdict)

pub returns-in-None-clause-kept : goal.returns-in-None-clause-kept
returns-in-None-clause-kept c = λ done. c.step.ensures.kept (c.in_ok-step.was ∙ ap Ok c.in-None.is)
