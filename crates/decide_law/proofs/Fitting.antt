-- what the code of a decision is called on, told by a question that fits
use Rattle.std.proofs.Common.{◌≡◌, cond, List, sym, ap, ◌∙◌, None, Some}
use Rattle.std.specs.Option.{option_map}
use Rattle.list_laws.specs.Keyed.{option_filter}
use Rattle.unix_names.specs.declared.Pid.{Pid}
use Rattle.unix_calls.specs.declared.Job.{Job}
use Rattle.signal_state.specs.declared.Own.{Own}
use Rattle.vproc_record.specs.declared.Vproc.{Vproc}
use Rattle.group_record.specs.declared.Group.{Group}
use Rattle.group_record.specs.Members.{uid_of}
use Rattle.sig_stream.specs.Streams.{IsListed}
use Rattle.record_bag.specs.declared.bag.Bag.{Bag}
use Rattle.record_bag.specs.declared.vector.Site.{Site}
use Rattle.process_table.specs.declared.Row.{Row}
use Rattle.process_table.specs.Rows.{row_of, in_group}
use Rattle.kernel_laws.proofs.Rows.{row_pid}
use Rattle.decide_law.specs.Agrees.{vproc_at, group_at, uid_in, IsRecordOf, IsGroupOf}
use Rattle.decide_law.specs.Base.{HasBase}
use Rattle.decide_law.specs.Law.{Based}
use Rattle.decide_law.specs.Vector.{Fits}
use Rattle.decide_law.proofs.Answers.{based}
use Rattle.decide_law.proofs.Shell.{own_record, group_is, in_own}

-- a row has its user id in its group
own_uid : (rows : List Row) (q : Pid) (r : Row) → row_of rows q ≡ Some r → uid_in rows r.group q ≡ Some r.uid
own_uid rows q r here =
    ap (λ o. option_map (λ (c : Row). c.uid) (option_filter (in_group r.group) o)) here
    ∙ ap (λ b. option_map (λ (c : Row). c.uid) (cond b (Some r) None)) (in_own r)

-- a process whose record and group are held is listed in it
pub is_listed : (rows : List Row) (q : Pid) (r : Row) (v : Vproc) (g : Group) → row_of rows q ≡ Some r → IsRecordOf rows v r → IsGroupOf rows v.group g → IsListed v g
is_listed rows q r v g here of is =
    ap (uid_of g.members) (of.pid ∙ row_pid rows q r here)
    ∙ is.members q
    ∙ ap (λ (id : Pid). uid_in rows id q) of.group
    ∙ own_uid rows q r here
    ∙ ap Some (sym of.uid)

pub has_base : (rows : List Row) (p : Pid) (own : Own) (bag : Bag) (r : Row) (v : Vproc) (g : Group) → Based rows p own bag r v g → HasBase own p bag
has_base rows p own bag r v g b =
    let of : IsRecordOf rows v r = own_record rows p bag r v b.agrees b.row b.vproc in
    let is : IsGroupOf rows v.group g = group_is rows bag v.group g b.agrees b.group in
    record {
      vproc = v;
      group = g;
      vproc_is = b.vproc;
      group_is = b.group;
      pid = of.pid ∙ row_pid rows p r b.row;
      listed = is_listed rows p r v g b.row of is;
      taken = b.own_is.taken;
      within = is.from;
    }

-- a question that fits, over a bag that holds the record of the process and that of its group, has what a decision starts from
pub fits_base : (p : Pid) (job : Job) (own : Own) (bag : Bag) (site : Site) → Fits p job own bag site → (v : Vproc) (g : Group) → vproc_at bag p ≡ Some (Some v) → group_at bag v.group ≡ Some (Some g) → HasBase own p bag
fits_base p job own bag site f v g ev eg = has_base f.rows p own bag f.asks.row v g (based f.nodes f.rows p job own bag site f.asks v g ev eg)
