use Rattle.std.proofs.Common.{rules, not, ◌==◌}
use Rattle.std.proofs.lemmas.Fn.{filter_same}
use Rattle.vproc_record.proofs.Without.{without-fits}
use Rattle.vproc_record.proofs.children.Children.remove.Goals as goal

pub invariant_of-self : goal.invariant_of-self
invariant_of-self c = rw (filter_same _ (λ q. not (q.0 == c.args.child.0)) _ (λ x b f k. search rules) _ _ c.retain.ensures) (without-fits c.args.child c.self.inside.pids _ c.self.invariant)

pub returns : goal.returns
returns c = rw (← c.self.view_is) (filter_same _ (λ q. not (q.0 == c.args.child.0)) _ (λ x b f k. search rules) _ _ c.retain.ensures)
