-- what may be done to the rows of a table: each change of one process's row, and signals
use Rattle.std.specs.Prelude.{◌||◌, ◌∷◌, if◌then◌else◌, [], List, None, Some, map, ℕ}
use Rattle.unix_names.specs.States.{is_living}
use Rattle.unix_names.specs.declared.Act.{Act}
use Rattle.unix_names.specs.declared.Life.TheVariants as life
use Rattle.unix_names.specs.declared.Pid.{Pid}
use Rattle.unix_names.specs.declared.Signal.{Signal}
use Rattle.unix_names.specs.declared.WaitStatus.{WaitStatus}
use Rattle.unix_names.specs.declared.WaitStatus.TheVariants as status
use Rattle.signal_state.specs.Sig.{IsFixed, after_exec, delivered, generated_all, resumed, stopped_by, with_action, with_mask}
use Rattle.process_table.specs.Rows.{is_parent, is_pid, pid}
use Rattle.process_table.specs.declared.changes.Change.{Change}
use Rattle.process_table.specs.declared.changes.Change.TheVariants.{Acting, Continued, Delivered, Ended, Execed, Leading, Masked, Regrouped, Reported, Signalled, Stopped}
use Rattle.process_table.specs.declared.rows.Row.{Row}

-- ---- signals
-- a row after its signals are generated for it in order; they have no effect on an ended row
abbrev pub receives : (Row → List Signal) → Row → Row
receives sent c = record c { sig = generated_all c.sig (if is_living c.life then sent c else []) }

-- a table after each row's signals are generated for it
abbrev pub received : (Row → List Signal) → List Row → List Row
received sent rows = map (receives sent) rows

-- nothing is sent
abbrev pub sent_nothing : Row → List Signal
sent_nothing c = []

-- ---- one process's row
-- the signal is no longer pending
abbrev pub delivered_at : Pid → Signal → Row → Row
delivered_at p s c = record c { sig = if is_pid p c then delivered c.sig s else c.sig }

-- the signal stops the process, which has that to report
abbrev pub stopped_at : Pid → Signal → Row → Row
stopped_at p s c = record c {
  life = if is_pid p c then life.Stopped else c.life;
  change = if is_pid p c then Some (status.Stopped s) else c.change;
  sig = if is_pid p c then stopped_by c.sig s else c.sig;
}

-- the process runs on, and has that to report
abbrev pub continued_at : Pid → Row → Row
continued_at p c = record c {
  life = if is_pid p c then life.Runs else c.life;
  change = if is_pid p c then Some status.Continued else c.change;
  sig = if is_pid p c then resumed c.sig else c.sig;
}

-- the row ends with this status, and has no other change to report
abbrev pub ended_at : Pid → WaitStatus → Row → Row
ended_at p w c = record c {
  life = if is_pid p c then life.Ended w else c.life;
  change = if is_pid p c then None else c.change;
}

-- the child has reported its change
abbrev pub reported_at : Pid → Row → Row
reported_at p c = record c { change = if is_pid p c then None else c.change }

-- exec gives caught signals the default action (POSIX.1-2017, XSH exec)
abbrev pub execed_at : Pid → Row → Row
execed_at p c = record c { execed = is_pid p c || c.execed; sig = if is_pid p c then after_exec c.sig else c.sig }

-- the process goes to the group (POSIX.1-2017, XSH setpgid)
abbrev pub regrouped_at : Pid → Pid → Row → Row
regrouped_at p g c = record c { group = if is_pid p c then g else c.group }

-- the process leads a new group and a new session (POSIX.1-2017, XSH setsid)
abbrev pub leading_at : Pid → Row → Row
leading_at p c = record c { group = if is_pid p c then p else c.group; session = if is_pid p c then p else c.session }

abbrev pub acting_at : Pid → Signal → Act → Row → Row
acting_at p s act c = record c { sig = if is_pid p c then with_action c.sig s act else c.sig }

-- the mask is set, without the signals that can't be blocked (POSIX.1-2017, XSH sigprocmask)
abbrev pub masked_at : Pid → ℕ → Row → Row
masked_at p set c = record c { sig = if is_pid p c then with_mask c.sig set else c.sig }

-- the action of the signal may be set
abbrev pub IsAllowed : Change → Type 0
IsAllowed (Acting s act) = ¬ IsFixed s
IsAllowed _ = Unit {0}

-- a row of the table after the change of one process
abbrev pub changed_at : Pid → Change → Row → Row
changed_at p (Delivered s) = delivered_at p s
changed_at p (Stopped s) = stopped_at p s
changed_at p Continued = continued_at p
changed_at p (Ended w) = ended_at p w
changed_at p Reported = reported_at p
changed_at p Execed = execed_at p
changed_at p (Regrouped g) = regrouped_at p g
changed_at p Leading = leading_at p
changed_at p (Acting s act) = acting_at p s act
changed_at p (Masked set) = masked_at p set
changed_at p (Signalled s) = receives (λ c. if is_pid p c then s ∷ [] else [])

-- ---- children
-- a child goes to the system process
abbrev pub given_up : Pid → Row → Row
given_up p c = record c { parent = if is_parent p c then pid 1 else c.parent }
