-- what is answered once the turns of all nodes are there
use Rattle.std.specs.Prelude.{List, Result, Ok, Err, IfOk}
use Rattle.unix_names.specs.declared.NoMemory.{NoMemory}
use Rattle.unix_calls.specs.declared.Turn.{Turn}
use Rattle.unix_calls.specs.declared.World.{World}
use Rattle.cluster_state.specs.Possible.{Possible}
use Rattle.cluster_core.specs.declared.playing.Played.{Played}
use Rattle.cluster_core.specs.RunOn.{IsRunOn}
use Rattle.ops_vector.specs.Answer.{unix_answer}
use Rattle.node_workers.specs.Serving.{IsServed}

pub served : (world : World) (steps : List Turn) → Possible world unix_answer steps → (result : Result Played NoMemory) → IfOk result (IsRunOn world unix_answer steps) → IfOk result (IsServed world)
served world steps possible (Ok played) run = record { steps = steps; possible = possible; run = run }
served world steps possible (Err e) run = tt
