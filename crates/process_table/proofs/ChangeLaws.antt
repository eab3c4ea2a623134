-- a change of one process changes its row and no other
use Rattle.std.proofs.Common.{◌≡◌, Bool, true, false, cond, [], refl, subst}
use Rattle.std.proofs.lemmas.Bool.{eq-eqb}
use Rattle.unix_names.specs.declared.Pid.{Pid}
use Rattle.unix_names.specs.States.{is_living}
use Rattle.signal_state.specs.Sig.{generated_all}
use Rattle.process_table.specs.declared.rows.Row.{Row}
use Rattle.process_table.specs.declared.changes.Change.{Change}
use Rattle.process_table.specs.declared.changes.Change.TheVariants.{Delivered, Stopped, Continued, Ended, Reported, Execed, Regrouped, Leading, Acting, Masked, Signalled}
use Rattle.process_table.specs.Rows.{is_pid}
use Rattle.process_table.specs.MethodChanges.{changed}
use Rattle.process_table.specs.Changes.{changed_at}

pub nothing_sent : (lives : Bool) (c : Row) → record c { sig = generated_all c.sig (cond lives [] []) } ≡ c
nothing_sent true c = refl
nothing_sent false c = refl

pub changed_elsewhere : (p : Pid) (change : Change) (c : Row) → is_pid p c ≡ false → changed_at p change c ≡ c
changed_elsewhere p (Delivered s) c e = rw e
changed_elsewhere p (Stopped s) c e = rw e
changed_elsewhere p Continued c e = rw e
changed_elsewhere p (Ended w) c e = rw e
changed_elsewhere p Reported c e = rw e
changed_elsewhere p Execed c e = rw e
changed_elsewhere p (Regrouped g) c e = rw e
changed_elsewhere p Leading c e = rw e
changed_elsewhere p (Acting s act) c e = rw e
changed_elsewhere p (Masked set) c e = rw e
changed_elsewhere p (Signalled s) c e = rw e (nothing_sent (is_living c.life) c)

same_pid : (c : Row) → is_pid c.pid c ≡ true
same_pid c = eq-eqb c.pid.0 c.pid.0 refl

changed_own : (change : Change) (c : Row) → changed_at c.pid change c ≡ changed change c
changed_own (Delivered s) c = rw (same_pid c)
changed_own (Stopped s) c = rw (same_pid c)
changed_own Continued c = rw (same_pid c)
changed_own (Ended w) c = rw (same_pid c)
changed_own Reported c = rw (same_pid c)
changed_own Execed c = rw (same_pid c)
changed_own (Regrouped g) c = rw (same_pid c)
changed_own Leading c = rw (same_pid c)
changed_own (Acting s act) c = rw (same_pid c)
changed_own (Masked set) c = rw (same_pid c)
changed_own (Signalled s) c = rw (same_pid c)

pub changed_here : (p : Pid) (change : Change) (c : Row) → c.pid ≡ p → changed_at p change c ≡ changed change c
changed_here p change c e = subst (λ q. changed_at q change c ≡ changed change c) e (changed_own change c)
