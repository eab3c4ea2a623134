-- the contents of a cluster against the table and the scripts
use Rattle.std.specs.Prelude.{All, ℕ, ◌≡◌, ◌<◌, ◌≤◌, true, List, Option, None, Some, unwrap_or, ◌==◌, ◌+◌, if◌then◌else◌, length}
use Rattle.unix_names.specs.declared.Pid.{Pid}
use Rattle.unix_names.specs.declared.Name.{Name}
use Rattle.unix_names.specs.declared.Name.TheVariants as name
use Rattle.unix_names.specs.Names.{pid_of}
use Rattle.unix_names.specs.Sets.{IsSignals}
use Rattle.unix_names.specs.States.{is_living}
use Rattle.unix_calls.specs.declared.World.{World}
use Rattle.unix_calls.specs.declared.Phase.{Phase}
use Rattle.unix_calls.specs.declared.Phase.TheVariants as phases
use Rattle.vproc_record.specs.declared.Vproc.{Vproc}
use Rattle.group_record.specs.declared.Group.{Group}
use Rattle.proc_image.specs.declared.image.Image.{Image}
use Rattle.proc_image.specs.Scripts.{Progress}
use Rattle.proc_image.specs.Follows.{Running}
use Rattle.record_bag.specs.declared.Held.{Held}
use Rattle.record_bag.specs.declared.Held.TheVariants as held
use Rattle.record_bag.specs.declared.Bag.{Bag}
use Rattle.record_bag.specs.Bags.{held_at}
use Rattle.process_table.specs.declared.Row.{Row}
use Rattle.process_table.specs.Rows.{row_of, is_stopped}
use Rattle.kernel_model.specs.Sound.{IsSound}
use Rattle.history_laws.specs.Living.{IsOver}
use Rattle.cluster_contents.specs.Placement.{View, view, Contents, IsUngiven, Known, Places, AtHome, Rec}
use Rattle.decide_law.specs.Agrees.{RecordAgrees}
use Rattle.decide_law.specs.Law.{IsOwn}
use Rattle.cluster_contents.specs.Numbers.{RowsName, IsShort}

-- a living process, as far as its image says
pub record IsProcess (world : World) (row : Option Row) (far : Option Progress) (x : View) : Type 0 where
  pub process : Row
  pub there : row ≡ Some process
  pub lives : is_living process.life ≡ true
  pub progress : far ≡ Some x.at
  pub stopped : x.stopped ≡ is_stopped process.life
  pub script : x.at.script < length world.scripts
  pub vars : length x.at.vars ≡ world.vars

abbrev pub ProcessIs : World → Option Row → Option Progress → Option View → Type 0
ProcessIs world row far None = IsOver row
ProcessIs world row far (Some x) = IsProcess world row far x

-- what is pending for each row's process is a set of signals, with no number beside theirs
abbrev pub ArePending : List Row → Type 0
ArePending rows = (q : Pid) (r : Row) → row_of rows q ≡ Some r → IsSignals r.sig.pending

pub record Standing (world : World) (rows : List Row) (running : Running) (W : Contents) : Type 0 where
  pub sound : IsSound rows
  -- what is pending for each process is a set of signals
  pub pending : ArePending rows
  pub agrees : (n : Name) → RecordAgrees rows n (W.what n)
  pub procs : (q : Pid) → ProcessIs world (row_of rows q) (running q.0) (W.proc q)
  pub owns : (q : Pid) (x : View) (r : Row) (v : Vproc) (g : Group) → W.proc q ≡ Some x → row_of rows q ≡ Some r → W.what (name.V q) ≡ held.V (Some v) → W.what (name.G v.group) ≡ held.G (Some g) → IsOwn x.own v g r
  pub places : (q : Pid) (v : Vproc) → W.what (name.V q) ≡ held.V (Some v) → v.loc.0 < world.nodes

-- ---- numbers
pub record ProgressNames (Given : ℕ → Type 0) (at : Progress) : Type 0 where
  pub maker : Given at.maker.0
  pub vars : All Given at.vars

-- what is named was given out and fits in 32 bits, and what was not given out is not there; at most m processes were made at each node, and the table has at most m rows
pub record Knows (world : World) (m : ℕ) (rows : List Row) (W : Contents) (L : Places) : Type 0 where
  pub table : RowsName (Known world W) rows
  pub procs : (q : Pid) (x : View) → W.proc q ≡ Some x → ProgressNames (Known world W) x.at
  pub short_table : RowsName IsShort rows
  pub short_procs : (q : Pid) (x : View) → W.proc q ≡ Some x → ProgressNames IsShort x.at
  pub no_row : (q : Pid) → IsUngiven world W.serials q.0 → row_of rows q ≡ None
  pub at_home : (n : Name) → IsUngiven world W.serials (pid_of n) → L (Rec n) ≡ AtHome
  pub least : (j : ℕ) → 2 ≤ W.serials j
  pub few : (j : ℕ) → W.serials j ≤ m
  pub short : length rows ≤ m

-- ---- the contents after a decision
-- what is born under a name
abbrev pub born_at : Option Vproc → Name → Option Held
born_at None n = None
born_at (Some v) (name.V q) = if q.0 == v.pid.0 then Some (held.V (Some v)) else None
born_at (Some v) (name.G g) = None

abbrev pub what_after : (Name → Held) → Option Vproc → Bag → Name → Held
what_after what born bag n = unwrap_or (held_at bag n) (unwrap_or (born_at born n) (what n))

abbrev pub proc_with : (Pid → Option View) → Pid → Option View → Pid → Option View
proc_with proc p x q = if q.0 == p.0 then x else proc q

abbrev pub view_unless_gone : Phase → Image → Option View
view_unless_gone phases.Gone image = None
view_unless_gone _ image = Some (view image)

abbrev pub proc_child : (Pid → Option View) → Option Image → Pid → Option View
proc_child proc None = proc
proc_child proc (Some child) = proc_with proc child.pid (Some (view child))

-- a node's serial is used where a child is born there
abbrev pub serials_after : (ℕ → ℕ) → ℕ → Option Vproc → ℕ → ℕ
serials_after serials node None j = serials j
serials_after serials node (Some v) j = if j == node then serials j + 1 else serials j

abbrev pub contents_after : Contents → Pid → Image → ℕ → Option Vproc → Option Image → Bag → Contents
contents_after W p image node born child bag = record {
  serials = serials_after W.serials node born;
  what = what_after W.what born bag;
  proc = proc_child (proc_with W.proc p (view_unless_gone image.phase image)) child;
}
