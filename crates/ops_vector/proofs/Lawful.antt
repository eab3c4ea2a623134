-- each answer to a question that may be put keeps the law of all vectors
use Rattle.std.proofs.Common.{◌≡◌, ◌==◌, ◌<◌, ◌^◌, ◌++◌, ℕ, Bool, true, false, List, map, refl, sym, ap, ◌∙◌, Option, None, Some, if◌then◌else◌}
use Rattle.std.proofs.lemmas.List.Elements.{All-weaker}
use Rattle.unix_names.specs.declared.Pid.{Pid}
use Rattle.unix_names.specs.declared.NodeId.{NodeId}
use Rattle.unix_names.specs.declared.Name.{Name}
use Rattle.unix_names.specs.declared.Name.TheVariants.{V, G}
use Rattle.unix_names.specs.declared.Errno.TheVariants.{EAGAIN}
use Rattle.unix_names.specs.Names.{pid_of}
use Rattle.unix_calls.specs.declared.Call.{Call}
use Rattle.unix_calls.specs.declared.Call.TheVariants as calls
use Rattle.unix_calls.specs.declared.Reply.TheVariants.{Fine, Refused}
use Rattle.unix_calls.specs.declared.Event.{Event}
use Rattle.unix_calls.specs.declared.Event.TheVariants.{Moved}
use Rattle.unix_calls.specs.declared.Entry.TheVariants.{Called, Happened}
use Rattle.unix_calls.specs.declared.Job.{Job}
use Rattle.unix_calls.specs.declared.Job.TheVariants.{Ask, Look, Push}
use Rattle.signal_state.specs.declared.Own.{Own}
use Rattle.vproc_record.specs.declared.Vproc.{Vproc}
use Rattle.group_record.specs.declared.Group.{Group}
use Rattle.ordered_table.specs.Entries.{pids_of}
use Rattle.record_bag.specs.declared.bag.Bag.{Bag}
use Rattle.record_bag.specs.declared.vector.Site.{Site}
use Rattle.record_bag.specs.declared.vector.Outcome.{Outcome}
use Rattle.record_bag.specs.declared.vector.Outcome.TheVariants as outcome
use Rattle.record_bag.specs.Bags.{held_names, vproc_in, group_in}
use Rattle.record_bag.specs.Names.{AreRising}
use Rattle.record_bag.specs.Decisions.{Answered, answered, IsLawfulFor, IsLawful}
use Rattle.process_table.specs.declared.Row.{Row}
use Rattle.decide_law.specs.Law.{SameNames}
use Rattle.decide_law.specs.Needs.{IsNamed}
use Rattle.decide_law.specs.Vector.{IsAnswer, IsVector, Fits}
use Rattle.decide_law.specs.Effects.{Effect, folded, emptied, settled_in, replied, done_by, on_group, on_vproc, on_base}
use Rattle.decide_law.specs.Footprints.{lacking, is_none, needed, coming, event_footprint, call_footprint}
use Rattle.decide_law.specs.Answer.{on_footprint}
use Rattle.decide_law.specs.Places.{named_or}
use Rattle.decide_law.specs.Arrivals.{done_at}
use Rattle.decide_law.proofs.Needed.{rising_in_order}
use Rattle.decide_law.specs.Parts.{answer_by}
use Rattle.migrate_core.specs.Moves.{arrival}
use Rattle.ops_fork.specs.Fork.{is_full, fork_effect, fork_answer}
use Rattle.ops_vector.specs.Answer.{call_effect, event_effect, call_answer, job_answer, first_answer, held_answer, unix_answer}
use Rattle.ops_vector.proofs.Whole.{questions_answered}

-- ---- names that are asked for rise
abbrev IsRisingNeed : Outcome → Type 0
IsRisingNeed (outcome.Done d) = Unit {0}
IsRisingNeed (outcome.Need names) = AreRising names
IsRisingNeed (outcome.Away node) = Unit {0}

footprint_rises : (names : List Name) (p : Pid) (v : Vproc) (bag : Bag) (x : Effect) → IsRisingNeed (on_footprint names p v bag x).outcome
footprint_rises names p v bag x = go (is_none (lacking bag names))
  where
    go : (b : Bool) → IsRisingNeed (if b then done_by p v bag x else answered (outcome.Need (needed bag names)) bag).outcome
    go true = tt
    go false = rising_in_order (lacking bag names)

arrival_rises : (node : NodeId) (site : Site) (p : Pid) (v : Vproc) (bag : Bag) (x : Effect) → IsRisingNeed (done_at node site p v bag x).outcome
arrival_rises node site p v bag x = go (node.0 == site.node.0)
  where
    go : (b : Bool) → IsRisingNeed (if b then done_by p v bag x else answered (outcome.Away node) bag).outcome
    go true = tt
    go false = tt

either_rises : (b : Bool) (x y : Answered) → IsRisingNeed x.outcome → IsRisingNeed y.outcome → IsRisingNeed (if b then x else y).outcome
either_rises true x y h i = h
either_rises false x y h i = i

module _ (p : Pid) (own : Own) (bag : Bag) (site : Site) (v : Vproc) (g : Group) where
  fork_rises : (at : Option NodeId) → IsRisingNeed (fork_answer at site own bag p v g).outcome
  fork_rises at =
      either_rises (is_full v) (done_by p v bag (replied p calls.Fork (Refused EAGAIN) (folded own v g).sig)) (done_at (named_or at v.loc) site p v bag (fork_effect (folded own v g).sig p site (emptied v)))
      tt (arrival_rises (named_or at v.loc) site p v bag (fork_effect (folded own v g).sig p site (emptied v)))

  -- a call that a part answers by its effect
  part_rises : (call : Call) → IsRisingNeed (answer_by call (call_effect call) own bag p v g).outcome
  part_rises call = footprint_rises (call_footprint bag v call) p v bag (call_effect call (settled_in p v.group bag) (folded own v g).sig p (emptied v))

  call_rises : (call : Call) (at : Option NodeId) → IsRisingNeed (call_answer call at own bag site p v g).outcome
  call_rises calls.Fork at = fork_rises at
  call_rises calls.Migrate at = arrival_rises (named_or at v.loc) site p v bag (arrival (Called p calls.Migrate Fine) (folded own v g).sig p site)
  call_rises calls.Getpid at = part_rises calls.Getpid
  call_rises calls.Getppid at = part_rises calls.Getppid
  call_rises (calls.Getpgid t) at = part_rises (calls.Getpgid t)
  call_rises (calls.Getsid t) at = part_rises (calls.Getsid t)
  call_rises calls.Exec at = part_rises calls.Exec
  call_rises (calls.Exit n) at = part_rises (calls.Exit n)
  call_rises (calls.Waitpid sel stopped continued) at = part_rises (calls.Waitpid sel stopped continued)
  call_rises (calls.Kill target s) at = part_rises (calls.Kill target s)
  call_rises (calls.Setpgid t q) at = part_rises (calls.Setpgid t q)
  call_rises calls.Setsid at = part_rises calls.Setsid
  call_rises (calls.Action s act) at = part_rises (calls.Action s act)
  call_rises (calls.Mask set) at = part_rises (calls.Mask set)
  call_rises calls.Pending at = part_rises calls.Pending

  job_rises : (job : Job) → IsRisingNeed (job_answer job own bag site p v g).outcome
  job_rises (Ask call at) = call_rises call at
  job_rises Look = tt
  job_rises (Push node) = arrival_rises node site p v bag (arrival (Happened p Moved) (folded own v g).sig p site)

  first_rises : (o : Option Event) (job : Job) → IsRisingNeed (first_answer o job own bag site p v g).outcome
  first_rises (Some event) job = footprint_rises (event_footprint bag v event) p v bag (event_effect event (settled_in p v.group bag) (folded own v g).sig p (emptied v))
  first_rises None job = job_rises job

answer_rises : (p : Pid) (job : Job) (own : Own) (bag : Bag) (site : Site) → IsRisingNeed (unix_answer p job own bag site).outcome
answer_rises p job own bag site = vproc_rises (vproc_in bag p)
  where
    group_rises : (v : Vproc) (h : Option Group) → IsRisingNeed (on_group (held_answer job own bag site p) bag v h).outcome
    group_rises v None = (tt, tt)
    group_rises v (Some g) = first_rises p own bag site v g (coming own v g) job

    vproc_rises : (h : Option Vproc) → IsRisingNeed (on_vproc (held_answer job own bag site p) p bag h).outcome
    vproc_rises None = (tt, tt)
    vproc_rises (Some v) = group_rises v (group_in bag v.group)

-- ---- the law
names_kept : (bag left : Bag) → SameNames bag left → held_names left ≡ held_names bag
names_kept bag left s = ap (λ (ps : List Pid). map V ps ++ map G (pids_of left.groups)) s.vprocs ∙ ap (λ (ps : List Pid). map V (pids_of bag.vprocs) ++ map G ps) s.groups

lawful_by : (nodes : ℕ) (rows : List Row) (p : Pid) (job : Job) (site : Site) (bag left : Bag) (o : Outcome) → IsAnswer nodes rows p job site bag left o → IsRisingNeed o → ((n : ℕ) → IsNamed rows p job n → n < 2 ^ 32) → IsLawfulFor bag left o
lawful_by nodes rows p job site bag left (outcome.Done d) right rises few = names_kept bag left right.names
lawful_by nodes rows p job site bag left (outcome.Need names) right rises few = (
  record {
    some = right.0.some;
    lacking = right.0.lacking;
    rising = rises;
    in_range = All-weaker (λ (n : Name). IsNamed rows p job (pid_of n)) (λ (n : Name). pid_of n < 2 ^ 32) (λ n told. few (pid_of n) told) names right.0.told;
  },
  right.1,
)
lawful_by nodes rows p job site bag left (outcome.Away node) right rises few = right.1

pub unix_lawful : (p : Pid) (job : Job) (own : Own) (bag : Bag) (site : Site) → Fits p job own bag site → IsLawful bag (unix_answer p job own bag site)
unix_lawful p job own bag site f =
    lawful_by f.nodes f.rows p job site bag (unix_answer p job own bag site).bag (unix_answer p job own bag site).outcome
    (questions_answered f.nodes f.rows p job own bag site f.asks) (answer_rises p job own bag site) f.asks.numbers

pub is_vector : (nodes : ℕ) → IsVector nodes unix_answer
is_vector nodes = record { answers = λ rows p job own bag site a. questions_answered nodes rows p job own bag site a }
