-- the run of a schedule on the nodes of a world, and what is true of it
use Rattle.std.specs.Prelude.{◌↔◌, IsTrue, Bool, List, Option}
use Rattle.unix_calls.specs.declared.Entry.{Entry}
use Rattle.unix_calls.specs.declared.Turn.{Turn}
use Rattle.unix_calls.specs.declared.World.{World}
use Rattle.kernel_model.specs.Legal.{IsLegal}
use Rattle.proc_image.specs.Follows.{Follows}
use Rattle.audit_core.specs.Finished.{IsFinished}
use Rattle.audit_core.specs.Stamped.{stamped_entries, IsLegalTwo}
use Rattle.cluster_state.specs.Cluster.{Cluster}
use Rattle.cluster_state.specs.Possible.{history_of}
use Rattle.cluster_state.specs.Quiet.{IsQuiet}
use Rattle.cluster_state.specs.Run.{Run}
use Rattle.cluster_core.specs.Played.{numbers_of}
use Rattle.ops_vector.specs.Answer.{unix_answer}

-- the last cluster, the turns that were made, the line that each of them added or none, and whether nothing was left to do
pub record RunOf (world : World) (schedule : List Turn) : Type 0 where
  pub cluster : Cluster
  pub made : List Turn
  pub lines : List (Option Entry)
  pub is_quiet : Bool
  pub run : Run world unix_answer schedule cluster made lines
  pub quiet : IsTrue is_quiet ↔ IsQuiet world.nodes cluster

-- a run on many nodes is one of the one kernel: its history is legal for it and in its scripts' order, and where the nodes have nothing left to do the kernel has nothing left to do
pub record IsOfOneKernel {world : World} {schedule : List Turn} (r : RunOf world schedule) : Type 0 where
  pub legal : IsLegal world (history_of r.lines)
  pub follows : Follows world (history_of r.lines)
  -- with the numbers of its turns and the users of its processes it is legal in format 2 too
  pub stamped : IsLegalTwo world (stamped_entries world (history_of r.lines) (numbers_of 0 r.lines))
  pub finished : IsQuiet world.nodes r.cluster → IsFinished world (history_of r.lines)
