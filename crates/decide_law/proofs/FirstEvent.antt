-- the event that records tell is the one that the table's rules choose
use Rattle.std.proofs.Common.{◌≡◌, ◌==◌, ◌&&◌, ◌||◌, ℕ, Bool, true, false, not, List, refl, sym, ap, ◌∙◌, Option, None, Some, if◌then◌else◌}
use Rattle.std.specs.Prelude.{find}
use Rattle.std.specs.Option.{option_map}
use Rattle.list_laws.proofs.Counts.{any-count}
use Rattle.unix_names.specs.declared.Pid.{Pid}
use Rattle.unix_names.specs.declared.Signal.{Signal}
use Rattle.unix_names.specs.declared.Signal.TheVariants as signal
use Rattle.unix_names.specs.Sets.{has}
use Rattle.unix_names.specs.Signals.{all_signals}
use Rattle.unix_calls.specs.declared.Event.{Event}
use Rattle.unix_calls.specs.declared.Event.TheVariants.{Caught, Discarded, StoppedBy, EndedBy, Continued}
use Rattle.signal_state.specs.Sig.{is_dropped_by_default}
use Rattle.group_record.specs.declared.Group.{Group}
use Rattle.process_table.specs.declared.Row.{Row}
use Rattle.process_table.specs.Orphans.{is_orphaned, is_link_of}
use Rattle.kernel_rules.specs.Events.{is_deliverable, is_stop_signal, is_plain_stop}
use Rattle.kernel_choice.specs.Choice.{event_of, first_event}
use Rattle.decide_law.specs.Agrees.{IsGroupOf}
use Rattle.decide_law.specs.Told.{has_default, event_by, event_told}
use Rattle.decide_law.specs.Footprints as footprint
use Rattle.list_laws.proofs.Firsts.{find_passes}

-- a group is orphaned exactly where its count of links is 0
pub orphaned_told : (rows : List Row) (id : Pid) (g : Group) → IsGroupOf rows id g → footprint.is_orphaned g ≡ is_orphaned rows id
orphaned_told rows id g k = ap (λ (n : ℕ). n == 0) k.links ∙ sym (any-count (is_link_of rows id) rows)

-- the same choice, with and without the tests that hold anyway
same_choice : (s : Signal) (d caught default drop stop plain orphaned : Bool) → d ≡ true →
    (if caught then Caught s else (if default && (drop || (stop && (not plain && orphaned))) then Discarded s else (if default && stop then StoppedBy s else EndedBy s)))
    ≡ (if d && caught then Caught s else (if (d && default) && (drop || (stop && (not plain && orphaned))) then Discarded s else (if (d && default) && (stop && (plain || not orphaned)) then StoppedBy s else EndedBy s)))
same_choice s false caught default drop stop plain orphaned e = cc
same_choice s true true default drop stop plain orphaned e = refl
same_choice s true false false drop stop plain orphaned e = refl
same_choice s true false true true stop plain orphaned e = refl
same_choice s true false true false false plain orphaned e = refl
same_choice s true false true false true true orphaned e = refl
same_choice s true false true false true false true e = refl
same_choice s true false true false true false false e = refl

event_is : (rows : List Row) (r : Row) (s : Signal) → is_deliverable r s ≡ true → event_by (is_orphaned rows r.group) r.sig s ≡ event_of rows r s
event_is rows r s d = same_choice s (is_deliverable r s) (has r.sig.caught s) (has_default r.sig s) (is_dropped_by_default s) (is_stop_signal s) (is_plain_stop s) (is_orphaned rows r.group) d

least_is : (rows : List Row) (r : Row) (o : Option Signal) → find (is_deliverable r) all_signals ≡ o → option_map (event_by (is_orphaned rows r.group) r.sig) o ≡ option_map (event_of rows r) o
least_is rows r None e = refl
least_is rows r (Some s) e = ap Some (event_is rows r s (find_passes (is_deliverable r) all_signals s e))

-- the event that comes first
pub told_event : (rows : List Row) (r : Row) → event_told (is_orphaned rows r.group) r.sig ≡ first_event rows r
told_event rows r = ap (λ (o : Option Event). if is_deliverable r signal.Kill then Some (EndedBy signal.Kill) else (if r.sig.due then Some Continued else o)) (least_is rows r (find (is_deliverable r) all_signals) refl)
