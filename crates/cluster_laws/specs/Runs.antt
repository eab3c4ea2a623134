-- the runs that the laws speak of
use Rattle.std.specs.Prelude.{List, Option}
use Rattle.unix_calls.specs.declared.Entry.{Entry}
use Rattle.unix_calls.specs.declared.Turn.{Turn}
use Rattle.unix_calls.specs.declared.World.{World}
use Rattle.unix_calls.specs.Valid.{IsValid}
use Rattle.decide_law.specs.Vector.{IsVector}
use Rattle.node_core.specs.Advance.{Ask}
use Rattle.cluster_state.specs.Cluster.{Cluster, first_cluster}
use Rattle.cluster_state.specs.Possible.{Ran}

-- in a valid world, with lawful decisions, these turns are possible one after the other, and they give this cluster and these lines
pub record IsRun (world : World) (ask : Ask) (turns : List Turn) (C : Cluster) (entries : List (Option Entry)) : Type 0 where
  pub valid : IsValid world
  pub lawful : IsVector world.nodes ask
  pub ran : Ran world ask (first_cluster world) turns C entries
