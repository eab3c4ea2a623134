-- questions about a process that is alone
use Rattle.std.proofs.Common.{◌≡◌, ◌≢◌, ◌≤◌, inl, false, List, [], ◌∷◌, refl, ap, sym, ◌∙◌, arith}
use Rattle.unix_names.specs.declared.Pid.{Pid}
use Rattle.unix_names.specs.declared.Life.TheVariants.{Runs}
use Rattle.unix_names.specs.declared.Signal.TheVariants.{Term}
use Rattle.unix_names.specs.Sets as sets
use Rattle.unix_names.proofs.SetLaws.{IsSignals-none, IsSignals-added}
use Rattle.unix_calls.specs.declared.Job.{Job}
use Rattle.signal_state.specs.Signals.{Signals, IsKept}
use Rattle.signal_state.specs.Sig.{fresh, generated}
use Rattle.signal_state.specs.declared.Own.{Own}
use Rattle.signal_state.proofs.Kept.{kept-generated}
use Rattle.group_record.specs.declared.Member.{Member}
use Rattle.group_record.specs.Members.{uid_of}
use Rattle.record_bag.specs.declared.bag.Bag.{Bag}
use Rattle.record_bag.specs.declared.vector.Site.{Site}
use Rattle.process_table.specs.declared.Row.{Row}
use Rattle.process_table.specs.Rows.{pid, row_of}
use Rattle.kernel_laws.specs.Effects.{IsUnused}
use Rattle.kernel_laws.proofs.Boot.{kept-fresh}
use Rattle.kernel_model.specs.Sound.{IsSound}
use Rattle.decide_law.specs.Agrees.{Agrees, VprocAgrees, GroupAgrees, IsRecordOf, IsGroupOf, uid_in}
use Rattle.decide_law.specs.Vector.{Fits}
use Rattle.decide_tests.specs.Families.{fresh_own, vproc_for, member_for, lone_row, lone_group, lone, free_site, getpid_job}
use Rattle.decide_tests.proofs.FewRows.{every_all, each_row, each_value, of_one, few_sound, asked, few_fits}

abbrev rows_with : Signals → List Row
rows_with sig = lone_row sig ∷ []

lone_sound : (sig : Signals) → IsKept sig → sig.stopped ≡ false → IsSound (rows_with sig)
lone_sound sig kept runs = few_sound (rows_with sig) (pid 2) (refl, tt) (omega arith) (refl, tt) ((omega arith, omega arith, omega arith), tt) (inl refl, tt) (((λ _. sym runs), kept, (λ _. refl)), tt)

lone_unused : (sig : Signals) → IsUnused (rows_with sig) 4
lone_unused sig = record {
  least = omega arith;
  somebody = omega arith;
  no_pid = λ c e. each_row (λ r. r.pid.0 ≢ 4) (rows_with sig) (omega arith, tt) c.pid c e;
  no_group = λ c e. each_row (λ r. r.group.0 ≢ 4) (rows_with sig) (omega arith, tt) c.pid c e;
  no_session = λ c e. each_row (λ r. r.session.0 ≢ 4) (rows_with sig) (omega arith, tt) c.pid c e;
}

-- ---- nothing is held
abbrev nothing : Bag
nothing = record { vprocs = []; groups = [] }

nothing_asked : Fits (pid 2) getpid_job fresh_own nothing free_site
nothing_asked = asked (rows_with fresh) nothing (lone_row fresh) (lone_sound fresh kept-fresh refl) (record { vprocs = λ q h e. absurd (cc e); groups = λ q h e. absurd (cc e) }) (omega arith) refl refl refl IsSignals-none
    (λ v g e _. absurd (cc e)) (λ v e. absurd (cc e)) (lone_unused fresh) refl refl ((omega arith, omega arith, omega arith, omega arith), tt)

-- ---- the log has a signal that ends the process
abbrev ended : Signals
ended = generated fresh Term

member : (sig : Signals) (q : Pid) → uid_of (member_for 2 ∷ []) q ≡ uid_in (rows_with sig) (pid 2) q
member sig = of_one (λ q. uid_of (member_for 2 ∷ []) q ≡ uid_in (rows_with sig) (pid 2) q) 2 refl (λ q a. rw a refl)

-- it ignores nothing
ending_agrees : (sig : Signals) → sig.ignored ≡ 0 → Agrees (lone Term) (rows_with sig)
ending_agrees sig none = record {
  vprocs = each_value (λ q h. VprocAgrees (rows_with sig) h (row_of (rows_with sig) q)) (lone Term).vprocs (process, tt);
  groups = each_value (λ id h. GroupAgrees (rows_with sig) id h) (lone Term).groups (group, tt);
}
  where
    process : IsRecordOf (rows_with sig) (vproc_for 2 1 2 Runs []) (lone_row sig)
    process = record { pid = refl; parent = refl; group = refl; session = refl; uid = refl; life = refl; change = refl; execed = refl; ignchld = rw none refl; children = refl }

    group : ((lone_group Term).members ≢ []) × IsGroupOf (rows_with sig) (pid 2) (lone_group Term)
    group = ((λ e. cc e), record { id_is = refl; distinct = (refl, tt); members = member sig; session = λ q r e _. each_row (λ r. r.session ≡ pid 2) (rows_with sig) (refl, tt) q r e; from = every_all (λ (m : Member). m.from ≤ 1) (member_for 2 ∷ []) (omega arith, tt); links = refl; stopped = refl })

ending_asked : Fits (pid 2) getpid_job fresh_own (lone Term) free_site
unfolding generated sets.added
ending_asked = few_fits (rows_with ended) (lone Term) (vproc_for 2 1 2 Runs []) (lone_group Term) (lone_row ended) (lone_sound ended (kept-generated fresh Term kept-fresh) refl) (ending_agrees ended refl) (omega arith) refl refl refl (IsSignals-added 0 Term IsSignals-none)
    refl refl (record { taken = omega arith; sig = refl }) (omega arith) (lone_unused ended) refl refl ((omega arith, omega arith, omega arith, omega arith), tt)

-- ---- as the tests come to them
pub nothing_held_fits : (job : Job) (own : Own) (bag : Bag) (site : Site) → job ≡ getpid_job → own ≡ fresh_own → bag.vprocs ≡ [] → bag.groups ≡ [] → site ≡ free_site → Fits (pid 2) job own bag site
nothing_held_fits job own bag site j o v g s = rw (j, o, bag_is, s) nothing_asked
  where
    bag_is : bag ≡ nothing
    bag_is = ap (λ x. record { vprocs = x; groups = bag.groups }) v ∙ ap (λ x. record { vprocs = []; groups = x }) g

pub ending_fits : (job : Job) (own : Own) (bag : Bag) (site : Site) → job ≡ getpid_job → own ≡ fresh_own → bag ≡ lone Term → site ≡ free_site → Fits (pid 2) job own bag site
ending_fits job own bag site j o b s = rw (j, o, b, s) ending_asked
