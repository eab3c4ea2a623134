-- method: how the code finds the part that decides a call
use Rattle.std.specs.Prelude.{◌≡◌}
use Rattle.unix_calls.specs.declared.Call.{Call}
use Rattle.unix_calls.specs.declared.Call.TheVariants as calls
use Rattle.ops_signal.specs.Decide.{IsSignalCall}
use Rattle.ops_groups.specs.Decide.{IsGroupsCall}
use Rattle.ops_exit_wait.specs.Decide.{IsExitWaitCall}
use Rattle.unix_ops.specs.declared.parts.Part.{Part}
use Rattle.unix_ops.specs.declared.parts.Part.TheVariants as parts

-- the call is one of this part
abbrev pub IsOfPart : Part → Call → Type 0
IsOfPart parts.Groups call = IsGroupsCall call
IsOfPart parts.Signals call = IsSignalCall call
IsOfPart parts.ExitWait call = IsExitWaitCall call
IsOfPart parts.Fork call = call ≡ calls.Fork
IsOfPart parts.Migrate call = call ≡ calls.Migrate
