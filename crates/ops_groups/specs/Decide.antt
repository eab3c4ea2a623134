-- the calls of this part, and what each does
use Rattle.std.specs.Prelude.{None}
use Rattle.unix_calls.specs.declared.Call.{Call}
use Rattle.unix_calls.specs.declared.Call.TheVariants.{Getpid, Getppid, Getpgid, Getsid, Setpgid, Setsid}
use Rattle.unix_calls.specs.declared.Reply.TheVariants.{Number}
use Rattle.unix_calls.specs.declared.Phase.TheVariants as phase
use Rattle.decide_law.specs.Effects.{quiet, replied}
use Rattle.decide_law.specs.Parts.{CallEffect, IsCallAnswered}
use Rattle.ops_groups.specs.declared.lookups.Column.TheVariants.{Group, Session}
use Rattle.ops_groups.specs.Lookups.{look_effect}
use Rattle.ops_groups.specs.Setpgid.{setpgid_effect}
use Rattle.ops_groups.specs.Setsid.{setsid_effect}

-- the calls of this part
abbrev pub IsGroupsCall : Call → Type 0
IsGroupsCall Getpid = Unit {0}
IsGroupsCall Getppid = Unit {0}
IsGroupsCall (Getpgid t) = Unit {0}
IsGroupsCall (Getsid t) = Unit {0}
IsGroupsCall (Setpgid t q) = Unit {0}
IsGroupsCall Setsid = Unit {0}
IsGroupsCall _ = ⊥

-- what a call does; one of another part does nothing here
abbrev pub effect_of : Call → CallEffect
effect_of Getpid bag sig p v = replied p Getpid (Number p.0) sig
effect_of Getppid bag sig p v = replied p Getppid (Number v.parent.0) sig
effect_of (Getpgid t) bag sig p v = look_effect Group t bag sig p v
effect_of (Getsid t) bag sig p v = look_effect Session t bag sig p v
effect_of (Setpgid t q) bag sig p v = setpgid_effect bag sig p v t q
effect_of Setsid bag sig p v = setsid_effect bag sig p v
effect_of _ bag sig p v = quiet None sig phase.Ready

-- each call of this part is answered by a step of the one kernel, or by asking for what lacks
abbrev pub GroupsCallsAnswered : Type 0
GroupsCallsAnswered = (call : Call) → IsGroupsCall call → IsCallAnswered call (effect_of call)
