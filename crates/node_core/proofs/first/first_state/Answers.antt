use Rattle.std.proofs.Common.{sym, subst, ◌∙◌}
use Rattle.list_laws.specs.Keyed.{Distinct}
use Rattle.node_core.specs.First.{led_number}
use Rattle.node_core.proofs.FirstLaws.{led-pids}
use Rattle.node_core.proofs.first.first_state.Goals as goal

pub first_slots-requires : goal.first_slots-requires
first_slots-requires c = subst (Distinct led_number) (sym (c.as_slice.ensures ∙ c.in_ok-all.ensures)) (led-pids c.args.world.now c.requires)
