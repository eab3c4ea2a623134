use Rattle.std.proofs.Common.{IsSome, sym, ap, ◌∙◌, subst}
use Rattle.ordered_table.specs.Entries.{IsRising, value_at, pids_of}
use Rattle.ordered_table.proofs.MapLaws.{IsRising-put, put-same, put-other, pids-put}
use Rattle.ordered_table.proofs.table.Table.replace.Goals as goal

pub invariant_of-self : goal.invariant_of-self
invariant_of-self g c = subst IsRising (sym c.replace.ensures.after) (IsRising-put _ c.args.pid c.args.value c.self.invariant)

pub returns-clause-found : goal.returns-clause-found
returns-clause-found g c = ap (λ es. value_at es c.args.pid) c.replace.ensures.after ∙ put-same _ c.args.pid c.args.value

pub returns-clause-others : goal.returns-clause-others
returns-clause-others g c = λ q ne. ap (λ es. value_at es q) c.replace.ensures.after ∙ (put-other _ c.args.pid q c.args.value ne ∙ ap (λ es. value_at es q) c.self.view_is)

pub returns-clause-ids : goal.returns-clause-ids
returns-clause-ids g c = ap pids_of c.replace.ensures.after ∙ (pids-put _ c.args.pid c.args.value (subst (λ es. IsSome (value_at es c.args.pid)) (sym c.self.view_is) c.requires) ∙ ap pids_of c.self.view_is)
