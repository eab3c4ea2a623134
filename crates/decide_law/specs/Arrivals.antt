-- jobs that are done at one node alone
use Rattle.std.specs.Prelude.{◌==◌, if◌then◌else◌}
use Rattle.unix_names.specs.declared.Pid.{Pid}
use Rattle.unix_names.specs.declared.NodeId.{NodeId}
use Rattle.vproc_record.specs.declared.Vproc.{Vproc}
use Rattle.record_bag.specs.declared.bag.Bag.{Bag}
use Rattle.record_bag.specs.declared.vector.Site.{Site}
use Rattle.record_bag.specs.declared.vector.Outcome.TheVariants as outcome
use Rattle.record_bag.specs.Decisions.{Answered, answered}
use Rattle.decide_law.specs.Effects.{Effect, done_by}

-- the answer to a job that is done at this node: there the decision with this effect, elsewhere the way to the node
abbrev pub done_at : NodeId → Site → Pid → Vproc → Bag → Effect → Answered
done_at node site p v bag x = if node.0 == site.node.0 then done_by p v bag x else answered (outcome.Away node) bag
