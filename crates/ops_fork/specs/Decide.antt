-- what is owed for a fork
use Rattle.std.specs.Prelude.{Option}
use Rattle.unix_names.specs.declared.Pid.{Pid}
use Rattle.unix_names.specs.declared.NodeId.{NodeId}
use Rattle.unix_calls.specs.declared.Call.TheVariants.{Fork}
use Rattle.unix_calls.specs.declared.Job.TheVariants.{Ask}
use Rattle.signal_state.specs.declared.Own.{Own}
use Rattle.record_bag.specs.declared.bag.Bag.{Bag}
use Rattle.record_bag.specs.declared.vector.Site.{Site}
use Rattle.decide_law.specs.Parts.{IsLawfulFor}
use Rattle.ops_fork.specs.Fork.{decide_fork}

-- a fork is answered by a step of the one kernel, by the way to the child's node, or by asking for the caller's record or its group
abbrev pub ForkAnswered : Type 0
ForkAnswered = (p : Pid) (at : Option NodeId) (own : Own) (bag : Bag) (site : Site) → IsLawfulFor p (Ask Fork at) own bag site (decide_fork at site p own bag).bag (decide_fork at site p own bag).outcome
