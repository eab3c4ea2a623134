-- what is so of each choice
use Rattle.std.specs.Prelude.{ℕ, Bool, true, false, ◌≡◌, ◌↔◌, List, None, Some}
use Rattle.unix_names.specs.declared.Pid.{Pid}
use Rattle.unix_names.specs.declared.Signal.{Signal}
use Rattle.unix_names.specs.Sets.{has, IsSignals}
use Rattle.unix_calls.specs.declared.Call.{Call}
use Rattle.unix_calls.specs.declared.Call.TheVariants.{Fork, Exit}
use Rattle.unix_calls.specs.declared.Reply.TheVariants.{NoReply}
use Rattle.unix_calls.specs.declared.Entry.TheVariants.{Called}
use Rattle.unix_calls.specs.declared.Event.{Event}
use Rattle.unix_calls.specs.Calls.{HasNames, EntryHasNames}
use Rattle.signal_state.specs.Signals.{IsKept}
use Rattle.signal_state.specs.Sig.{deliverable, IsClear}
use Rattle.process_table.specs.declared.Row.{Row}
use Rattle.process_table.specs.Rows.{AreDistinct}
use Rattle.kernel_rules.specs.Fork.{is_fresh}
use Rattle.kernel_rules.specs.Calls.{allows}
use Rattle.kernel_rules.specs.Events.{may_happen}
use Rattle.kernel_choice.specs.Choice.{first_event, reply_of}

-- the event that is chosen may happen
abbrev pub ChosenEventMayHappen : Type 0
ChosenEventMayHappen = (rows : List Row) (r : Row) (e : Event) → IsKept r.sig → first_event rows r ≡ Some e → may_happen rows r e ≡ true

-- no signal can be taken, and no continuing is due
abbrev pub IsQuiet : Row → Type 0
IsQuiet r = ((s : Signal) → has (deliverable r.sig) s ≡ false) × (r.sig.due ≡ false)

-- no event is chosen exactly where none is to happen
abbrev pub NoneIsChosen : Type 0
NoneIsChosen = (rows : List Row) (r : Row) → first_event rows r ≡ None ↔ IsQuiet r

-- the same of pending sets that are sets of signals
abbrev pub NoneIsChosenWhereClear : Type 0
NoneIsChosenWhereClear = (rows : List Row) (r : Row) → IsSignals r.sig.pending → first_event rows r ≡ None ↔ IsClear r.sig

-- the reply that is chosen is one that the call may get, where the number for a fork is fresh
abbrev pub ChosenReplyIsAllowed : Type 0
ChosenReplyIsAllowed = (rows : List Row) (r : Row) (call : Call) (fresh : ℕ) →
    AreDistinct rows → (call ≡ Fork → is_fresh rows fresh ≡ true) → allows rows r call (reply_of rows r call fresh) ≡ true

abbrev pub is_exit : Call → Bool
is_exit (Exit n) = true
is_exit _ = false

-- an exit alone gets no reply
abbrev pub ExitAloneGetsNone : Type 0
ExitAloneGetsNone = (rows : List Row) (r : Row) (call : Call) (fresh : ℕ) → reply_of rows r call fresh ≡ NoReply ↔ (is_exit call ≡ true)

-- the entry of a call whose numbers can be names is one whose numbers can be
abbrev pub EntriesHaveNames : Type 0
EntriesHaveNames = (rows : List Row) (r : Row) (call : Call) (fresh : ℕ) (p : Pid) → HasNames call → EntryHasNames (Called p call (reply_of rows r call fresh))
