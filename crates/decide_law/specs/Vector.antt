-- the law of a vector: what its answers owe to the questions that fit
use Rattle.std.specs.Prelude.{ℕ, true, false, ◌≡◌, ◌≢◌, ◌<◌, All, List, length, Option, None, Some, is_some}
use Rattle.unix_names.specs.declared.Pid.{Pid}
use Rattle.unix_names.specs.declared.NodeId.{NodeId}
use Rattle.unix_names.specs.declared.Errno.{Errno}
use Rattle.unix_calls.specs.declared.Job.TheVariants.{Ask}
use Rattle.vproc_record.specs.declared.Vproc.{Vproc}
use Rattle.process_table.specs.Rows.{row_of}
use Rattle.kernel_rules.specs.Events.{can_call}
use Rattle.kernel_rules.specs.Calls.{refusal}
use Rattle.decide_law.specs.Agrees.{vproc_at, group_at}
use Rattle.decide_law.specs.Places.{destination}
use Rattle.unix_calls.specs.declared.Job.{Job}
use Rattle.signal_state.specs.declared.Own.{Own}
use Rattle.record_bag.specs.declared.bag.Bag.{Bag}
use Rattle.record_bag.specs.declared.vector.Site.{Site}
use Rattle.record_bag.specs.declared.vector.Outcome.{Outcome}
use Rattle.record_bag.specs.declared.vector.Outcome.TheVariants.{Done, Need, Away}
use Rattle.record_bag.specs.Decisions.{Answered}
use Rattle.record_bag.specs.Bags.{is_held}
use Rattle.unix_names.specs.declared.Name.{Name}
use Rattle.process_table.specs.declared.Row.{Row}
use Rattle.decide_law.specs.Law.{Asks, next, IsStep}
use Rattle.decide_law.specs.Needs.{AreTold}

-- names that are asked for: at least one, each lacking in the bag, and each told by the process, its job or the table
pub record IsAskedFor (rows : List Row) (p : Pid) (job : Job) (bag : Bag) (names : List Name) : Type 0 where
  pub some : 0 < length names
  pub lacking : All (λ n. is_held bag n ≡ false) names
  pub told : AreTold rows p job names

-- the refusal that the rules have for a job
abbrev pub job_refusal : List Row → Row → Job → Option Errno
job_refusal rows r (Ask call at) = refusal rows r call
job_refusal rows r _ = None

-- the question goes to this node: the process can call and is not refused, its record and its group are held, and its job is done at that node alone, which is not the site
pub record IsAway (rows : List Row) (p : Pid) (job : Job) (site : Site) (bag : Bag) (node : NodeId) : Type 0 where
  pub row : Row
  pub there : row_of rows p ≡ Some row
  pub able : can_call row ≡ true
  pub allowed : job_refusal rows row job ≡ None
  pub vproc : Vproc
  pub held : vproc_at bag p ≡ Some (Some vproc)
  pub group_held : is_some (group_at bag vproc.group) ≡ true
  pub goes : destination job vproc.loc ≡ Some node
  pub elsewhere : node.0 ≢ site.node.0

-- what is decided is a step of the one kernel; a need and a way to another node leave the bag
abbrev pub IsAnswer : ℕ → List Row → Pid → Job → Site → Bag → Bag → Outcome → Type 0
IsAnswer nodes rows p job site bag left (Done d) = IsStep rows (next rows d.entry) p job site bag d left
IsAnswer nodes rows p job site bag left (Need names) = IsAskedFor rows p job bag names × (left ≡ bag)
IsAnswer nodes rows p job site bag left (Away k) = (k.0 < nodes) × (left ≡ bag) × IsAway rows p job site bag k

-- a question fits: some table, on so many nodes, stands behind it
pub record Fits (p : Pid) (job : Job) (own : Own) (bag : Bag) (site : Site) : Type 0 where
  pub nodes : ℕ
  pub rows : List Row
  pub asks : Asks nodes rows p job own bag site

-- a question about the process fits, with some job and at some place
pub record IsFitting (p : Pid) (own : Own) (bag : Bag) : Type 0 where
  pub job : Job
  pub site : Site
  pub fits : Fits p job own bag site

-- each question is answered so
pub record IsVector (nodes : ℕ) (ask : Pid → Job → Own → Bag → Site → Answered) : Type 0 where
  pub answers : (rows : List Row) (p : Pid) (job : Job) (own : Own) (bag : Bag) (site : Site) → Asks nodes rows p job own bag site → IsAnswer nodes rows p job site bag (ask p job own bag site).bag (ask p job own bag site).outcome
