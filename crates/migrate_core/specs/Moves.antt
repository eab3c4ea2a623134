-- migrations and pushes, decided on records: a process goes on at another node, and all else stays
use Rattle.std.specs.Prelude.{Option, Some}
use Rattle.unix_names.specs.declared.Pid.{Pid}
use Rattle.unix_names.specs.declared.NodeId.{NodeId}
use Rattle.unix_calls.specs.declared.Call.TheVariants.{Migrate}
use Rattle.unix_calls.specs.declared.Reply.TheVariants.{Fine}
use Rattle.unix_calls.specs.declared.Event.TheVariants.{Moved}
use Rattle.unix_calls.specs.declared.Entry.{Entry}
use Rattle.unix_calls.specs.declared.Entry.TheVariants.{Called, Happened}
use Rattle.unix_calls.specs.declared.Job.TheVariants.{Ask, Push}
use Rattle.unix_calls.specs.declared.Phase.TheVariants as phase
use Rattle.signal_state.specs.Signals.{Signals}
use Rattle.signal_state.specs.declared.Own.{Own}
use Rattle.vproc_record.specs.declared.Vproc.{Vproc}
use Rattle.group_record.specs.declared.Group.{Group}
use Rattle.record_bag.specs.declared.bag.Bag.{Bag}
use Rattle.record_bag.specs.declared.vector.Site.{Site}
use Rattle.record_bag.specs.Decisions.{Answered}
use Rattle.decide_law.specs.Places.{named_or}
use Rattle.decide_law.specs.Effects.{folded, Effect, plain, on_base}
use Rattle.decide_law.specs.Arrivals.{done_at}
use Rattle.decide_law.specs.Parts.{IsLawfulFor}

-- ---- what is left
-- the record of a process that is at the site from now on
abbrev pub placed : Site → Vproc → Vproc
placed site v = record v { loc = site.node }

-- the caller comes to the site with the signals that it has, and can go on
abbrev pub arrival : Entry → Signals → Pid → Site → Effect
arrival e sig p site = plain (Some e) sig phase.Ready p (placed site)

-- ---- what is answered
-- migrate, on the records of the caller and of its group: done at the node that is named, or else where the caller is
abbrev pub migrate_answer : Option NodeId → Site → Own → Bag → Pid → Vproc → Group → Answered
migrate_answer at site own bag p v g = done_at (named_or at v.loc) site p v bag (arrival (Called p Migrate Fine) (folded own v g).sig p site)

-- and where one of these records may lack
abbrev pub decide_migrate : Option NodeId → Site → Pid → Own → Bag → Answered
decide_migrate at site p own bag = on_base (migrate_answer at site own bag p) p bag

-- a push, on the same records: done at the node to which the process is pushed
abbrev pub push_answer : NodeId → Site → Own → Bag → Pid → Vproc → Group → Answered
push_answer node site own bag p v g = done_at node site p v bag (arrival (Happened p Moved) (folded own v g).sig p site)

-- and where one of these records may lack
abbrev pub decide_push : NodeId → Site → Pid → Own → Bag → Answered
decide_push node site p own bag = on_base (push_answer node site own bag p) p bag

-- ---- what is owed
-- both are answered by a step of the one kernel, by the way to the node, or by asking for the caller's record or its group
pub record MovesAnswered : Type 0 where
  pub migrate : (p : Pid) (at : Option NodeId) (own : Own) (bag : Bag) (site : Site) → IsLawfulFor p (Ask Migrate at) own bag site (decide_migrate at site p own bag).bag (decide_migrate at site p own bag).outcome
  pub push : (p : Pid) (node : NodeId) (own : Own) (bag : Bag) (site : Site) → IsLawfulFor p (Push node) own bag site (decide_push node site p own bag).bag (decide_push node site p own bag).outcome
