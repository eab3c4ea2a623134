-- a look at which nothing happens
use Rattle.std.proofs.Common.{◌≡◌, true, List, refl, None}
use Rattle.unix_names.specs.declared.Pid.{Pid}
use Rattle.unix_calls.specs.declared.Job.TheVariants.{Look}
use Rattle.unix_calls.specs.declared.Phase.TheVariants as phase
use Rattle.signal_state.specs.declared.Own.{Own}
use Rattle.vproc_record.specs.declared.Vproc.{Vproc}
use Rattle.group_record.specs.declared.Group.{Group}
use Rattle.group_record.specs.Groups.{settled}
use Rattle.record_bag.specs.declared.bag.Bag.{Bag}
use Rattle.record_bag.specs.declared.vector.Site.{Site}
use Rattle.process_table.specs.declared.Row.{Row}
use Rattle.process_table.specs.Rows.{is_stopped}
use Rattle.kernel_choice.specs.Choice.{first_event}
use Rattle.decide_law.proofs.Stopped.{look_rests}
use Rattle.decide_law.specs.Law.{Based, IsStep}
use Rattle.decide_law.specs.Effects.{quiet, folded, emptied, settled_in, decided_by, left_by}
use Rattle.decide_law.proofs.Shell.{settling, shell}
use Rattle.decide_law.proofs.Quiet.{quiet_step}

-- a stopped process that looks, and to which nothing happens: the whole decision
pub look_law : (rows : List Row) (p : Pid) (site : Site) (own : Own) (bag : Bag) (r : Row) (v : Vproc) (g : Group) → Based rows p own bag r v g → is_stopped r.life ≡ true → first_event rows r ≡ None →
    IsStep rows rows p Look site bag (decided_by (quiet None (folded own v g).sig phase.Stopped)) (left_by (quiet None (folded own v g).sig phase.Stopped) p v.group bag)
look_law rows p site own bag r v g a stopped none =
    shell rows rows p Look site own bag r v g (quiet None (folded own v g).sig phase.Stopped) a
    (quiet_step rows p Look site (folded own v g).sig (settled_in p v.group bag) r (emptied v) (settled g p) None phase.Stopped (settling rows p own bag r v g a) record {
      legal = tt;
      asked = refl;
      table = refl;
      sends = λ q c here alive. refl;
      place = λ was here. refl;
      unplaced = refl;
      nobody = λ before left. refl;
      born = tt;
      stops = (λ e. stopped, λ e. refl);
      stays = λ e. cc;
      awake = λ e. cc;
      rests = λ e. look_rests rows p r a.sound a.row a.living stopped none;
    })
