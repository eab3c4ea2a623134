-- what an answer owes the one kernel
use Rattle.std.specs.Prelude.{Bool, false, Some, ◌≡◌, ◌==◌, ◌&&◌, not, List, if◌then◌else◌}
use Rattle.std.specs.List.{list_any}
use Rattle.unix_names.specs.declared.Pid.{Pid}
use Rattle.unix_names.specs.declared.Name.{Name}
use Rattle.unix_names.specs.declared.Name.TheVariants.{V, G}
use Rattle.unix_calls.specs.declared.Job.{Job}
use Rattle.signal_state.specs.declared.Own.{Own}
use Rattle.signal_state.specs.Sig.{deliverable}
use Rattle.vproc_record.specs.declared.Vproc.{Vproc}
use Rattle.group_record.specs.declared.Group.{Group}
use Rattle.record_bag.specs.declared.bag.Bag.{Bag}
use Rattle.record_bag.specs.declared.vector.Site.{Site}
use Rattle.record_bag.specs.declared.vector.Outcome.{Outcome}
use Rattle.record_bag.specs.declared.vector.Outcome.TheVariants as outcome
use Rattle.record_bag.specs.Bags.{is_held}
use Rattle.record_bag.specs.Names.{AreRising}
use Rattle.record_bag.specs.Decisions.{Answered, answered}
use Rattle.process_table.specs.declared.Row.{Row}
use Rattle.decide_law.specs.Law.{next, IsStep}
use Rattle.decide_law.specs.Vector.{IsAway}
use Rattle.decide_law.specs.Agrees.{vproc_at, group_at}
use Rattle.decide_law.specs.Effects.{Effect, folded, done_by}
use Rattle.decide_law.specs.Footprints.{lacking, needed, is_none}

-- the same name
abbrev pub is_name : Name → Name → Bool
is_name (V p) (V q) = p.0 == q.0
is_name (V p) (G g) = false
is_name (G g) (V q) = false
is_name (G g) (G h) = g.0 == h.0

abbrev pub listed : Name → List Name → Bool
listed n ns = list_any (is_name n) ns

-- names that are asked for: those of the footprint that are not held, in order and each once, and at least one
pub record IsNeed (bag : Bag) (footprint names : List Name) : Type 0 where
  pub some : is_none names ≡ false
  pub exact : (n : Name) → listed n names ≡ (listed n footprint && not (is_held bag n))
  pub rising : AreRising names

-- a decision is a step; a need asks for the footprint and leaves the bag, and so does the way to another node
abbrev pub IsRight : List Row → Pid → Job → Site → Bag → List Name → Bag → Outcome → Type 0
IsRight rows p job site bag footprint left (outcome.Done d) = IsStep rows (next rows d.entry) p job site bag d left
IsRight rows p job site bag footprint left (outcome.Need names) = IsNeed bag footprint names × (left ≡ bag)
IsRight rows p job site bag footprint left (outcome.Away node) = (left ≡ bag) × IsAway rows p job site bag node

-- the effect, once the footprint is held
abbrev pub on_footprint : List Name → Pid → Vproc → Bag → Effect → Answered
on_footprint footprint p v bag x = if is_none (lacking bag footprint) then done_by p v bag x else answered (outcome.Need (needed bag footprint)) bag

-- nothing is to happen first: once the process has taken its stream, no signal of it can be taken
abbrev pub NothingComes : Pid → Own → Bag → Type 0
NothingComes p own bag = (v : Vproc) (g : Group) → vproc_at bag p ≡ Some (Some v) → group_at bag v.group ≡ Some (Some g) → deliverable (folded own v g).sig ≡ 0
