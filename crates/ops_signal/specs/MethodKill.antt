-- method: the code of kill first tells from the records what it is to do, and then does it
use Rattle.std.specs.Prelude.{ℕ, ℤ, Some, IsSome}
use Rattle.unix_names.specs.declared.Pid.{Pid}
use Rattle.unix_calls.specs.declared.Call.TheVariants.{Kill}
use Rattle.unix_calls.specs.declared.Phase.TheVariants as phase
use Rattle.signal_state.specs.Signals.{Signals}
use Rattle.record_bag.specs.declared.bag.Bag.{Bag}
use Rattle.decide_law.specs.Agrees.{group_at}
use Rattle.decide_law.specs.Effects.{Effect, replied, append}
use Rattle.ops_signal.specs.declared.kill.Sending.{Sending}
use Rattle.ops_signal.specs.declared.kill.Sending.TheVariants.{Nothing, Told}
use Rattle.ops_signal.specs.Kill.{kill_entry}

-- what it does: a reply alone, or an entry at the end of a group's log
abbrev pub effect_by : Pid → ℤ → ℕ → Signals → Sending → Effect
effect_by p z s sig (Nothing reply) = replied p (Kill z s) reply sig
effect_by p z s sig (Told id entry nudges) = append (Some (kill_entry p z s)) sig phase.Ready nudges id entry

-- the group that is told is held
abbrev pub TellsHeld : Bag → Sending → Type 0
TellsHeld bag (Nothing reply) = Unit {0}
TellsHeld bag (Told id entry nudges) = IsSome (group_at bag id)
