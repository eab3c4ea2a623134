-- what is done with the signals of a process (POSIX.1-2017, XSH 2.4)
use Rattle.std.specs.Prelude.{ℕ, Bool, true, false, ◌≡◌, ◌⊎◌, ◌||◌, ◌&&◌, not, List, [], ◌∷◌, if◌then◌else◌}
use Rattle.unix_names.specs.declared.Signal.{Signal}
use Rattle.unix_names.specs.declared.Signal.TheVariants.{Kill, Stop, Tstp, Ttin, Ttou, Cont}
use Rattle.unix_names.specs.declared.DefaultAct.{DefaultAct}
use Rattle.unix_names.specs.declared.DefaultAct.TheVariants.{End, Ignore as IgnoreIt, StopIt, ContinueIt}
use Rattle.unix_names.specs.Signals.{default_of}
use Rattle.unix_names.specs.Sets.{has, added, removed, minus}
use Rattle.signal_state.specs.Signals.{Signals}
use Rattle.unix_names.specs.declared.Act.{Act}
use Rattle.unix_names.specs.declared.Act.TheVariants.{Default, Ignore, Catch}

-- a process at its start
abbrev pub fresh : Signals
fresh = record { pending = 0; mask = 0; ignored = 0; caught = 0; stopped = false; due = false }

-- a forked process: nothing is pending, and it is not stopped (POSIX.1-2017, XSH fork)
abbrev pub child : Signals → Signals
child x = record { pending = 0; mask = x.mask; ignored = x.ignored; caught = x.caught; stopped = false; due = false }

-- the default action drops the signal
abbrev pub drops_by_default : DefaultAct → Bool
drops_by_default IgnoreIt = true
drops_by_default ContinueIt = true
drops_by_default StopIt = false
drops_by_default End = false

-- the signal is dropped where its action is the default
abbrev pub is_dropped_by_default : Signal → Bool
is_dropped_by_default s = drops_by_default (default_of s)

-- what stays pending of what was there when s is generated: SIGCONT takes the stop signals out, and each stop signal takes SIGCONT out
abbrev pub kept_pending : ℕ → Signal → ℕ
kept_pending p Cont = removed (removed (removed (removed p Stop) Tstp) Ttin) Ttou
kept_pending p Stop = removed p Cont
kept_pending p Tstp = removed p Cont
kept_pending p Ttin = removed p Cont
kept_pending p Ttou = removed p Cont
kept_pending p _ = p

-- SIGCONT lets a stopped process go on
abbrev pub due_after : Signals → Signal → Bool
due_after x Cont = x.due || x.stopped
due_after x _ = x.due

-- the signal is not to be pending: it is ignored, or not caught and dropped by default
abbrev pub is_dropped : Signals → Signal → Bool
is_dropped x s = has x.ignored s || (not (has x.caught s) && is_dropped_by_default s)

-- the signals of a process after one was generated for it
unfoldable pub generated : Signals → Signal → Signals
generated x s = record {
  pending = if is_dropped x s then kept_pending x.pending s else added (kept_pending x.pending s) s;
  mask = x.mask;
  ignored = x.ignored;
  caught = x.caught;
  stopped = x.stopped;
  due = due_after x s;
}

-- the same after several, in order
abbrev pub generated_all : Signals → List Signal → Signals
generated_all x [] = x
generated_all x (s ∷ ss) = generated_all (generated x s) ss

-- what can be taken now
unfoldable pub deliverable : Signals → ℕ
deliverable x = if x.stopped then (if has x.pending Kill then added 0 Kill else 0) else minus x.pending x.mask

-- nothing can be taken, and no continuing is due
abbrev pub IsClear : Signals → Type 0
IsClear x = (deliverable x ≡ 0) × (x.due ≡ false)

-- a signal whose action can not be set
abbrev pub IsFixed : Signal → Type 0
IsFixed s = (s ≡ Kill) ⊎ (s ≡ Stop)

-- a signal's action is set; what is then to be ignored does not stay pending
abbrev pub with_action : Signals → Signal → Act → Signals
with_action x s Default = record {
  pending = if is_dropped_by_default s then removed x.pending s else x.pending;
  mask = x.mask;
  ignored = removed x.ignored s;
  caught = removed x.caught s;
  stopped = x.stopped;
  due = x.due;
}
with_action x s Ignore = record {
  pending = removed x.pending s;
  mask = x.mask;
  ignored = added (removed x.ignored s) s;
  caught = removed x.caught s;
  stopped = x.stopped;
  due = x.due;
}
with_action x s Catch = record {
  pending = x.pending;
  mask = x.mask;
  ignored = removed x.ignored s;
  caught = added (removed x.caught s) s;
  stopped = x.stopped;
  due = x.due;
}

-- these signals are blocked, but the two that can not be
abbrev pub with_mask : Signals → ℕ → Signals
with_mask x m = record {
  pending = x.pending;
  mask = removed (removed m Kill) Stop;
  ignored = x.ignored;
  caught = x.caught;
  stopped = x.stopped;
  due = x.due;
}

-- a new program catches nothing
abbrev pub after_exec : Signals → Signals
after_exec x = record {
  pending = x.pending;
  mask = x.mask;
  ignored = x.ignored;
  caught = 0;
  stopped = x.stopped;
  due = x.due;
}

-- the signal is taken out of what is pending
abbrev pub delivered : Signals → Signal → Signals
delivered x s = record {
  pending = removed x.pending s;
  mask = x.mask;
  ignored = x.ignored;
  caught = x.caught;
  stopped = x.stopped;
  due = x.due;
}

-- the signal is taken, and stops the process
abbrev pub stopped_by : Signals → Signal → Signals
stopped_by x s = record {
  pending = removed x.pending s;
  mask = x.mask;
  ignored = x.ignored;
  caught = x.caught;
  stopped = true;
  due = x.due;
}

-- the process runs on
abbrev pub resumed : Signals → Signals
resumed x = record {
  pending = x.pending;
  mask = x.mask;
  ignored = x.ignored;
  caught = x.caught;
  stopped = false;
  due = false;
}
