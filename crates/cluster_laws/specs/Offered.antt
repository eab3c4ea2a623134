-- that what is offered can be done
use Rattle.std.specs.Prelude.{true, ◌≡◌, List, Option}
use Rattle.unix_calls.specs.declared.Entry.{Entry}
use Rattle.unix_calls.specs.declared.Turn.{Turn}
use Rattle.unix_calls.specs.declared.World.{World}
use Rattle.unix_calls.specs.Valid.{IsValid}
use Rattle.decide_law.specs.Vector.{IsVector}
use Rattle.node_core.specs.Advance.{Ask}
use Rattle.cluster_state.specs.Cluster.{Cluster, Turned}
use Rattle.cluster_state.specs.Possible.{Does}
use Rattle.cluster_state.specs.Run.{is_offered, Run}
use Rattle.cluster_laws.specs.Runs.{IsRun}

-- after every run each turn that is offered is possible: whoever sets out comes to an end by some number of questions
abbrev pub OfferedArePossible : Type 0
OfferedArePossible = (world : World) (ask : Ask) (turns : List Turn) (C : Cluster) (entries : List (Option Entry)) → IsRun world ask turns C entries → (turn : Turn) → is_offered world.nodes C turn ≡ true → (r : Turned) × Does world ask C turn r

-- so in a valid world, with lawful decisions, each schedule has a run
abbrev pub SchedulesRun : Type 0
SchedulesRun = (world : World) (ask : Ask) → IsValid world → IsVector world.nodes ask → (schedule : List Turn) → (C : Cluster) × (made : List Turn) × (entries : List (Option Entry)) × Run world ask schedule C made entries
