use Rattle.std.proofs.Common.{◌∙◌, ◌≤◌, ℕ, length, sym, ap, subst}
use Rattle.std.specs.Prelude.{slice_get}
use Rattle.std.specs.List.{insert}
use Rattle.decide_law.specs.MethodNeeds.{passed, not_before}
use Rattle.decide_law.proofs.Gathered.{stands_there, stands_not, passed_within}
use Rattle.decide_law.proofs.needs.add.Goals as goal

pub insert-requires : goal.insert-requires
insert-requires c = subst (λ (n : ℕ). n ≤ length c.args.names.now) (sym (c.passed-at.ensures ∙ ap (passed c.args.name) c.as_slice.ensures)) (passed_within c.args.name c.args.names.now)

pub returns-then-stands-clause-ok : goal.returns-then-stands-clause-ok
returns-then-stands-clause-ok c =
    let place = c.passed-at.ensures ∙ ap (passed c.args.name) c.as_slice.ensures in
    sym (stands_there c.args.name c.args.names.now (sym (ap (λ n. not_before c.args.name (slice_get c.args.names.now n)) place) ∙ sym (ap (λ l. not_before c.args.name (slice_get l c.passed-at.result)) c.as_slice-2.ensures) ∙ sym c.stands.ensures ∙ c.if-stands.true))

pub returns-clause-ok : goal.returns-clause-ok
returns-clause-ok c =
    let place = c.passed-at.ensures ∙ ap (passed c.args.name) c.as_slice.ensures in
    c.in_ok-insert.ensures.ok ∙ ap (λ n. insert c.args.names.now n c.args.name) place
    ∙ sym (stands_not c.args.name c.args.names.now (sym (ap (λ n. not_before c.args.name (slice_get c.args.names.now n)) place) ∙ sym (ap (λ l. not_before c.args.name (slice_get l c.passed-at.result)) c.as_slice-2.ensures) ∙ sym c.stands.ensures ∙ c.if-stands.false))
