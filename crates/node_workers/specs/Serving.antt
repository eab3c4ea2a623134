-- what the threads that serve a world come to
use Rattle.std.specs.Prelude.{List}
use Rattle.unix_calls.specs.declared.Turn.{Turn}
use Rattle.unix_calls.specs.declared.World.{World}
use Rattle.cluster_state.specs.Possible.{Possible}
use Rattle.cluster_core.specs.declared.playing.Played.{Played}
use Rattle.cluster_core.specs.RunOn.{IsRunOn}
use Rattle.ops_vector.specs.Answer.{unix_answer}

-- the nodes made these turns, which are possible one after the other, and what is answered is their run, with turns by the rule behind them
pub record IsServed (world : World) (played : Played) : Type 0 where
  pub steps : List Turn
  pub possible : Possible world unix_answer steps
  pub run : IsRunOn world unix_answer steps played
