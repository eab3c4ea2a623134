-- what is looked up is the same before and after the caller has taken its stream, and needs the same record in each column
use Rattle.std.proofs.Common.{◌≡◌, ◌==◌, ◌∙◌, ℕ, refl, ap, Option, None, Some, if◌then◌else◌}
use Rattle.std.specs.Option.{option_map}
use Rattle.unix_names.specs.declared.Pid.{Pid}
use Rattle.unix_names.specs.declared.Errno.TheVariants.{EPERM}
use Rattle.unix_calls.specs.declared.Reply.{Reply}
use Rattle.unix_calls.specs.declared.Reply.TheVariants.{Number, Refused}
use Rattle.vproc_record.specs.declared.Vproc.{Vproc}
use Rattle.record_bag.specs.declared.bag.Bag.{Bag}
use Rattle.record_bag.specs.Bags.{vproc_in}
use Rattle.process_table.specs.Rows.{pid}
use Rattle.decide_law.specs.Effects.{emptied, settled_in}
use Rattle.decide_law.specs.Footprints.{look_footprint, call_footprint}
use Rattle.decide_law.proofs.SettledFootprints.{view_same}
use Rattle.ops_groups.specs.declared.lookups.Column.{Column}
use Rattle.ops_groups.specs.declared.lookups.Column.TheVariants.{Group, Session}
use Rattle.ops_groups.specs.Lookups.{column_of, column_call, column_reply, look_reply}

column_blind : (column : Column) (v : Vproc) → column_of column (emptied v) ≡ column_of column v
column_blind Group v = refl
column_blind Session v = refl

reply_blind : (column : Column) (h : Option Vproc) → column_reply column (option_map emptied h) ≡ column_reply column h
reply_blind column None = refl
reply_blind column (Some u) = ap (λ (q : Pid). Number q.0) (column_blind column u)

pub look_settled : (column : Column) (p id : Pid) (bag : Bag) (v : Vproc) (t : ℕ) → look_reply column (settled_in p id bag) (emptied v) t ≡ look_reply column bag v t
look_settled column p id bag v t =
    ap (λ (q : Pid). if t == 0 then Number q.0 else (if t == 1 then Refused EPERM else column_reply column (vproc_in (settled_in p id bag) (pid t)))) (column_blind column v)
    ∙ ap (λ (r : Reply). if t == 0 then Number (column_of column v).0 else (if t == 1 then Refused EPERM else r)) (view_same (column_reply column) p id bag (pid t) (reply_blind column))

pub look_needs : (column : Column) (bag : Bag) (v : Vproc) (t : ℕ) → look_footprint t ≡ call_footprint bag v (column_call column t)
look_needs Group bag v t = refl
look_needs Session bag v t = refl
