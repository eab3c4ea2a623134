use Rattle.std.specs.Prelude.{take}
use Rattle.cluster_state.specs.Cluster.{first_cluster}
use Rattle.cluster_state.specs.Run.{orders}
use Rattle.cluster_core.specs.MethodReached.{PlaysOn}
use Rattle.cluster_core.proofs.playing.run.Given as goal

abbrev pub invariant-loop-this : goal.invariant-loop-this
invariant-loop-this g l = PlaysOn g.O.OpVector.answer l.world (record { ops = l.fn.ops; cluster = first_cluster l.world }) (orders (take l.this-index l.schedule)) l.initial.log l.log l.places.items
