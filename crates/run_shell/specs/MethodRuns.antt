-- method: what the code of a run is known to be
use Rattle.std.specs.Prelude.{◌≡◌, All, length}
use Rattle.unix_calls.specs.declared.World.{World}
use Rattle.unix_calls.specs.Calls.{IsEntry}
use Rattle.kernel_model.specs.Legal.{IsLegal}
use Rattle.cluster_core.specs.declared.Played.{Played}

-- its entries can be written: each is one that a history can hold, they are legal, and each has a number
pub record CanBeWritten (world : World) (played : Played) : Type 0 where
  pub entries : All IsEntry played.entries.items
  pub legal : IsLegal world played.entries.items
  pub numbers : length played.numbers.items ≡ length played.entries.items
