-- the event that records tell, once the process has taken its stream, is the one that comes first by the table
use Rattle.std.proofs.Common.{◌≡◌, Bool, List, sym, ap, ◌∙◌}
use Rattle.unix_names.specs.declared.Pid.{Pid}
use Rattle.signal_state.specs.declared.Own.{Own}
use Rattle.vproc_record.specs.declared.Vproc.{Vproc}
use Rattle.group_record.specs.declared.Group.{Group}
use Rattle.record_bag.specs.declared.bag.Bag.{Bag}
use Rattle.process_table.specs.declared.Row.{Row}
use Rattle.process_table.specs.Orphans.{is_orphaned}
use Rattle.kernel_choice.specs.Choice.{first_event}
use Rattle.decide_law.specs.Law.{Based}
use Rattle.decide_law.specs.Effects.{folded}
use Rattle.decide_law.specs.Told.{event_told}
use Rattle.decide_law.specs.Footprints.{coming}
use Rattle.decide_law.proofs.FirstEvent.{orphaned_told, told_event}
use Rattle.decide_law.proofs.Shell.{own_record, group_is}

pub coming_first : (rows : List Row) (p : Pid) (own : Own) (bag : Bag) (r : Row) (v : Vproc) (g : Group) → Based rows p own bag r v g → coming own v g ≡ first_event rows r
coming_first rows p own bag r v g a =
    ap (λ (b : Bool). event_told b (folded own v g).sig) (orphaned_told rows v.group g (group_is rows bag v.group g a.agrees a.group) ∙ ap (is_orphaned rows) (own_record rows p bag r v a.agrees a.row a.vproc).group)
    ∙ ap (event_told (is_orphaned rows r.group)) (sym a.own_is.sig) ∙ told_event rows r
