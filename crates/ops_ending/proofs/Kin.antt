-- what an end is proved from: its kin is held, and its entry is one of the ends that the rules allow
use Rattle.std.proofs.Common.{◌≡◌, true, false, List, None, Some, ◌⊎◌}
use Rattle.std.specs.Prelude.{is_some}
use Rattle.unix_names.specs.declared.Pid.{Pid}
use Rattle.unix_names.specs.declared.NodeId.{NodeId}
use Rattle.unix_names.specs.declared.WaitStatus.{WaitStatus}
use Rattle.unix_calls.specs.declared.Entry.{Entry}
use Rattle.unix_calls.specs.declared.Job.{Job}
use Rattle.vproc_record.specs.declared.Vproc.{Vproc}
use Rattle.record_bag.specs.declared.bag.Bag.{Bag}
use Rattle.process_table.specs.declared.Row.{Row}
use Rattle.process_table.specs.Rows.{row_of}
use Rattle.kernel_model.specs.declared.Verdict.TheVariants.{Legal}
use Rattle.kernel_rules.specs.Ending.{sent_by_end, after_end}
use Rattle.kernel_model.specs.Step.{process_of, verdict, after, sent}
use Rattle.decide_law.specs.Agrees.{vproc_at, group_at}
use Rattle.decide_law.specs.Law.{IsAnswerTo, IsNoBirth}
use Rattle.decide_law.specs.Places.{place_after, is_placed}
use Rattle.decide_law.specs.Nudges.{nudges_of, end_nudges}

-- a process of which the record and its group are held
pub record HoldsBoth (bag : Bag) (q : Pid) : Type 0 where
  pub vproc : Vproc
  pub held : vproc_at bag q ≡ Some (Some vproc)
  pub group : is_some (group_at bag vproc.group) ≡ true

-- what the end of the process of row r asks of the bag: its parent, or that it has no row, and its children, each with its group
pub record HoldsKin (rows : List Row) (bag : Bag) (r : Row) : Type 0 where
  pub parent : (row_of rows r.parent ≡ None) ⊎ HoldsBoth bag r.parent
  pub children : (q : Pid) (c : Row) → row_of rows q ≡ Some c → c.parent.0 ≡ r.pid.0 → HoldsBoth bag q

-- the entry is an end of the process with this status
pub record IsEnding (rows : List Row) (p : Pid) (job : Job) (r : Row) (e : Entry) (w : WaitStatus) : Type 0 where
  pub legal : verdict rows e ≡ Legal
  pub of : process_of e ≡ p
  pub asked : IsAnswerTo job (Some e)
  pub table : after rows e ≡ after_end rows r w
  pub sends : (c : Row) → sent rows e c ≡ sent_by_end rows r w c
  pub place : (was here : NodeId) → place_after (Some e) was here ≡ was
  pub unplaced : is_placed (Some e) ≡ false
  pub nudges : (now : List Row) (before left : Bag) → nudges_of rows now p before left (Some e) ≡ end_nudges rows now p left
  pub born : IsNoBirth (Some e)
