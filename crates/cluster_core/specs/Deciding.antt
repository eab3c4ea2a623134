-- who may decide at the nodes of a world
use Rattle.unix_names.specs.declared.Pid.{Pid}
use Rattle.unix_calls.specs.declared.Job.{Job}
use Rattle.unix_calls.specs.declared.World.{World}
use Rattle.signal_state.specs.declared.Own.{Own}
use Rattle.record_bag.specs.declared.bag.Bag.{Bag}
use Rattle.record_bag.specs.declared.vector.Site.{Site}
use Rattle.decide_law.specs.Vector.{IsVector, Fits}
use Rattle.node_core.specs.Advance.{Ask}
use Rattle.node_core.specs.Conditions.{Fit}

-- each question that fits may be asked, and is answered as the law of decisions has it
pub record MayDecide (world : World) (fits : Fit) (ask : Ask) : Type 0 where
  pub lawful : IsVector world.nodes ask
  pub asked : (pid : Pid) (job : Job) (own : Own) (bag : Bag) (site : Site) → Fits pid job own bag site → fits pid job own bag site
