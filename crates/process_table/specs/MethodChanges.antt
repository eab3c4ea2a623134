-- how a change of one process is made: in its row alone. No rule cites this file.
use Rattle.std.specs.Prelude.{◌∷◌, [], None, Some, true}
use Rattle.unix_names.specs.declared.Life.TheVariants as life
use Rattle.unix_names.specs.declared.WaitStatus.TheVariants as status
use Rattle.signal_state.specs.Sig.{after_exec, delivered, resumed, stopped_by, with_action, with_mask}
use Rattle.process_table.specs.Changes.{receives}
use Rattle.process_table.specs.declared.changes.Change.{Change}
use Rattle.process_table.specs.declared.changes.Change.TheVariants.{Acting, Continued, Delivered, Ended, Execed, Leading, Masked, Regrouped, Reported, Signalled, Stopped}
use Rattle.process_table.specs.declared.rows.Row.{Row}

-- what a change makes of the row of its process
abbrev pub changed : Change → Row → Row
changed (Delivered s) c = record c { sig = delivered c.sig s }
changed (Stopped s) c = record c { life = life.Stopped; change = Some (status.Stopped s); sig = stopped_by c.sig s }
changed Continued c = record c { life = life.Runs; change = Some status.Continued; sig = resumed c.sig }
changed (Ended w) c = record c { life = life.Ended w; change = None }
changed Reported c = record c { change = None }
changed Execed c = record c { execed = true; sig = after_exec c.sig }
changed (Regrouped g) c = record c { group = g }
changed Leading c = record c { group = c.pid; session = c.pid }
changed (Acting s act) c = record c { sig = with_action c.sig s act }
changed (Masked set) c = record c { sig = with_mask c.sig set }
changed (Signalled s) c = receives (λ c. s ∷ []) c
