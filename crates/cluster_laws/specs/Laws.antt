-- what is true of every run of a cluster
use Rattle.std.specs.Prelude.{ℕ, ◌≡◌, ◌<◌, All, List, Option}
use Rattle.unix_names.specs.declared.Name.{Name}
use Rattle.unix_calls.specs.declared.Entry.{Entry}
use Rattle.unix_calls.specs.declared.Turn.{Turn}
use Rattle.unix_calls.specs.declared.World.{World}
use Rattle.unix_calls.specs.Calls.{IsEntry}
use Rattle.proc_image.specs.Follows.{first_running, after_entries, Follows}
use Rattle.record_bag.specs.declared.Held.{Held}
use Rattle.record_table.specs.declared.Slot.TheVariants.{Home}
use Rattle.kernel_model.specs.Legal.{after_all, IsLegal}
use Rattle.audit_core.specs.Finished.{IsFinished}
use Rattle.node_core.specs.Advance.{Ask}
use Rattle.cluster_state.specs.Cluster.{Cluster}
use Rattle.cluster_state.specs.Possible.{history_of}
use Rattle.cluster_state.specs.Quiet.{IsQuiet}
use Rattle.cluster_contents.specs.Placement.{Contents, Places}
use Rattle.cluster_moves.specs.Benches.{slots}
use Rattle.cluster_laws.specs.Runs.{IsRun}
use Rattle.cluster_stands.specs.Stands.{StandsBy}

-- its history is legal for the one kernel
abbrev pub RunsAreLegal : Type 0
RunsAreLegal = (world : World) (ask : Ask) (turns : List Turn) (C : Cluster) (entries : List (Option Entry)) → IsRun world ask turns C entries → IsLegal world (history_of entries)

-- and each process's calls stand in its script's order
abbrev pub RunsFollow : Type 0
RunsFollow = (world : World) (ask : Ask) (turns : List Turn) (C : Cluster) (entries : List (Option Entry)) → IsRun world ask turns C entries → Follows world (history_of entries)

-- and each line is one that a history can hold: an exit alone has no reply, and the numbers of a call can be names
abbrev pub RunsAreWritten : Type 0
RunsAreWritten = (world : World) (ask : Ask) (turns : List Turn) (C : Cluster) (entries : List (Option Entry)) → IsRun world ask turns C entries → All IsEntry (history_of entries)

-- the cluster stands for the table after its history
abbrev pub RunsStand : Type 0
RunsStand = (world : World) (ask : Ask) (turns : List Turn) (C : Cluster) (entries : List (Option Entry)) → IsRun world ask turns C entries →
    (m : ℕ) × (W : Contents) × (L : Places) × StandsBy world m (after_all world (history_of entries)) (after_entries world (first_running world) (history_of entries)) C W L

-- where it is quiet every record is at home: no slot is out or marked, and nobody waits in a line
abbrev pub QuietIsHome : Type 0
QuietIsHome = (world : World) (ask : Ask) (turns : List Turn) (C : Cluster) (entries : List (Option Entry)) → IsRun world ask turns C entries → IsQuiet world.nodes C → (x : Name) → (h : Held) × (slots world.nodes C x ≡ Home h)

-- and its history is finished: each living process stays stopped, or sleeps on in its wait
abbrev pub QuietIsFinished : Type 0
QuietIsFinished = (world : World) (ask : Ask) (turns : List Turn) (C : Cluster) (entries : List (Option Entry)) → IsRun world ask turns C entries → IsQuiet world.nodes C → IsFinished world (history_of entries)

-- however many turns there are, each node's next serial stays below 1,100
abbrev pub SerialsAreSmall : Type 0
SerialsAreSmall = (world : World) (ask : Ask) (turns : List Turn) (C : Cluster) (entries : List (Option Entry)) → IsRun world ask turns C entries → (j : ℕ) → j < world.nodes → (C.nodes j).serial < 1100
