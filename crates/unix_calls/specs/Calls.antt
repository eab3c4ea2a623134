-- What the numbers of a call name, and which entries a history can hold.
use Rattle.std.specs.Prelude.{ℤ, pos, negsuc, zero, suc, ◌≤ℤ◌, ◌≡◌}
use Rattle.unix_calls.specs.declared.calls.Call.{Call}
use Rattle.unix_calls.specs.declared.calls.Call.TheVariants.{Exit, Waitpid, Kill, Setpgid}
use Rattle.unix_calls.specs.declared.calls.Reply.TheVariants.{NoReply}
use Rattle.unix_calls.specs.declared.calls.Entry.{Entry}
use Rattle.unix_calls.specs.declared.calls.Entry.TheVariants.{Called, Happened}
use Rattle.unix_calls.specs.declared.calls.Target.{Target}
use Rattle.unix_calls.specs.declared.calls.Target.TheVariants as target
use Rattle.unix_calls.specs.declared.calls.Selector.{Selector}
use Rattle.unix_calls.specs.declared.calls.Selector.TheVariants as selector

-- a number that can name a process, or with a minus a group
abbrev pub IsName : ℤ → Type 0
IsName z = (negsuc 4294967294 ≤ℤ z) × (z ≤ℤ pos 4294967295)

-- the numbers of a call can be names
abbrev pub HasNames : Call → Type 0
HasNames (Waitpid sel stopped continued) = IsName sel
HasNames (Kill target sig) = IsName target
HasNames (Setpgid pid pgid) = IsName pgid
HasNames _ = Unit {0}

-- the numbers of an entry's call can be names
abbrev pub EntryHasNames : Entry → Type 0
EntryHasNames (Called caller call reply) = HasNames call
EntryHasNames (Happened pid event) = Unit {0}

-- an exit alone has no reply
abbrev pub HasReply : Entry → Type 0
HasReply (Called caller (Exit n) reply) = reply ≡ NoReply
HasReply (Called caller call reply) = ¬ (reply ≡ NoReply)
HasReply (Happened pid event) = Unit {0}

-- an entry that a history can hold
abbrev pub IsEntry : Entry → Type 0
IsEntry entry = HasReply entry × EntryHasNames entry

-- whom a number of kill names (POSIX.1-2017, XSH kill, without -1)
abbrev pub target_of : ℤ → Target
target_of (pos zero) = target.OwnGroup
target_of (pos (suc n)) = target.One (record { 0 = suc n })
target_of (negsuc n) = target.InGroup (record { 0 = suc n })

-- which children a number of waitpid names (POSIX.1-2017, XSH wait)
abbrev pub selector_of : ℤ → Selector
selector_of (pos zero) = selector.OwnGroup
selector_of (pos (suc n)) = selector.One (record { 0 = suc n })
selector_of (negsuc zero) = selector.Any
selector_of (negsuc (suc n)) = selector.InGroup (record { 0 = suc (suc n) })
