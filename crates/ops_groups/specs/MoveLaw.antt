-- what a move from group to group asks, and what it owes
use Rattle.std.specs.Prelude.{true, false, ◌≡◌, ◌≢◌, ◌⊎◌, List, [], ◌++◌, map, Option, None, Some, is_some}
use Rattle.unix_names.specs.declared.Pid.{Pid}
use Rattle.unix_names.specs.declared.NodeId.{NodeId}
use Rattle.unix_names.specs.States.{is_living}
use Rattle.unix_calls.specs.declared.Job.TheVariants.{Ask}
use Rattle.unix_calls.specs.declared.Call.{Call}
use Rattle.unix_calls.specs.declared.Reply.{Reply}
use Rattle.unix_calls.specs.declared.Entry.TheVariants.{Called}
use Rattle.signal_state.specs.Signals.{Signals}
use Rattle.vproc_record.specs.declared.Vproc.{Vproc}
use Rattle.group_record.specs.declared.Group.{Group}
use Rattle.record_bag.specs.declared.bag.Bag.{Bag}
use Rattle.record_bag.specs.declared.vector.Site.{Site}
use Rattle.process_table.specs.declared.Row.{Row}
use Rattle.process_table.specs.Rows.{row_of, is_stopped}
use Rattle.kernel_model.specs.declared.Verdict.TheVariants.{Legal}
use Rattle.kernel_model.specs.Step.{verdict, after, sent}
use Rattle.decide_law.specs.Agrees.{vproc_at, group_at}
use Rattle.decide_law.specs.Law.{Settled, IsStep, IsNoBirth}
use Rattle.decide_law.specs.Effects.{decided_by, written}
use Rattle.decide_law.specs.Places.{is_placed, place_after}
use Rattle.ops_groups.specs.Move.{GroupInSession, moved_at, move}
use Rattle.decide_law.specs.Nudges.{but_system, nudges_of}

-- the process u, of row x, is the caller or another, and goes from its group to another
pub record Moves (rows : List Row) (bag : Bag) (u : Vproc) (x : Row) (old : Group) (new : GroupInSession) : Type 0 where
  pub row : row_of rows u.pid ≡ Some x
  pub living : is_living x.life ≡ true
  pub held : vproc_at bag u.pid ≡ Some (Some u)
  pub old_held : group_at bag u.group ≡ Some (Some old)
  pub new_held : is_some (group_at bag new.group) ≡ true
  pub differs : u.group.0 ≢ new.group.0
  -- the members of the new group are of the session
  pub session : (g : Group) → group_at bag new.group ≡ Some (Some g) → g.session ≡ new.session
  -- its parent is held, or is the system process; its children are held, and the groups of those that live
  pub parent : (row_of rows x.parent ≡ None) ⊎ (is_some (vproc_at bag x.parent) ≡ true)
  pub children : (q : Pid) (c : Row) → row_of rows q ≡ Some c → c.parent.0 ≡ u.pid.0 → is_some (vproc_at bag q) ≡ true
  pub child_groups : (q : Pid) (c : Row) → row_of rows q ≡ Some c → c.parent.0 ≡ u.pid.0 → is_living c.life ≡ true → is_some (group_at bag c.group) ≡ true

-- the call of p, with this reply, is by the rules one by which u moves
pub record IsMove (rows : List Row) (p : Pid) (u : Vproc) (new : GroupInSession) (call : Call) (reply : Reply) : Type 0 where
  pub legal : verdict rows (Called p call reply) ≡ Legal
  pub table : after rows (Called p call reply) ≡ map (moved_at u.pid new) rows
  pub sends : (c : Row) → sent rows (Called p call reply) c ≡ []
  pub nudges : (before left : Bag) → but_system p u.pid ++ but_system p u.parent ≡ nudges_of rows (map (moved_at u.pid new) rows) p before left (Some (Called p call reply))
  pub place : (was here : NodeId) → place_after (Some (Called p call reply)) was here ≡ was
  pub unplaced : is_placed (Some (Called p call reply)) ≡ false
  pub born : IsNoBirth (Some (Called p call reply))

-- such a move is a step of the one kernel
abbrev pub MoveLaw : Type 0
MoveLaw = (rows : List Row) (p : Pid) (site : Site) (node : Option NodeId) (sig : Signals) (bag : Bag) (r : Row) (v : Vproc) (g : Group) (call : Call) (reply : Reply) (u : Vproc) (x : Row) (old : Group) (new : GroupInSession) →
    Settled rows p sig bag r v g → Moves rows bag u x old new → is_stopped r.life ≡ false → IsMove rows p u new call reply →
    IsStep rows (map (moved_at u.pid new) rows) p (Ask call node) site bag (decided_by (move (Called p call reply) bag sig p u old new)) (written (move (Called p call reply) bag sig p u old new) bag)
