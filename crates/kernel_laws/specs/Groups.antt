-- sessions, and groups that are orphaned (POSIX.1-2017, XBD chapter 3, Orphaned Process Group)
use Rattle.std.specs.Prelude.{pos, true, false, ◌≡◌, ◌⊎◌, List, ◌++◌, Some}
use Rattle.std.specs.List.{list_any}
use Rattle.unix_names.specs.declared.Pid.{Pid}
use Rattle.unix_calls.specs.declared.Call.TheVariants.{Setpgid}
use Rattle.unix_calls.specs.declared.Reply.TheVariants.{Fine}
use Rattle.unix_calls.specs.declared.Entry.{Entry}
use Rattle.unix_calls.specs.declared.Entry.TheVariants.{Called}
use Rattle.unix_calls.specs.declared.World.{World}
use Rattle.process_table.specs.declared.Row.{Row}
use Rattle.kernel_model.specs.declared.verdict.Verdict.TheVariants.{Legal}
use Rattle.process_table.specs.Rows.{in_group, row_of}
use Rattle.process_table.specs.Orphans.{is_orphaned}
use Rattle.kernel_rules.specs.Setpgid.{target_pid, wanted_group}
use Rattle.kernel_model.specs.Step.{verdict, after}
use Rattle.kernel_model.specs.Legal.{after_all, IsLegal}
use Rattle.kernel_model.specs.Sound.{IsSound}
use Rattle.unix_calls.specs.Valid.{IsValid}

-- a row whose pid is the id of a session that has rows leads that session, and its own group
abbrev pub HaveLeaders : List Row → Type 0
HaveLeaders rows = (c leader : Row) → row_of rows c.pid ≡ Some c → row_of rows c.session ≡ Some leader → (leader.session ≡ c.session) × (leader.group ≡ leader.pid)

-- sessions are led so in each table on the way of a legal history of a valid world
abbrev pub SessionsAreLed : Type 0
SessionsAreLed = (world : World) (before later : List Entry) → IsValid world → IsLegal world (before ++ later) → HaveLeaders (after_all world before)

-- the entry sets the group of a member of this group, or makes a process a member
abbrev pub IsRegroupingIn : List Row → Pid → Entry → Type 0
IsRegroupingIn rows g (Called p (Setpgid t (pos q)) Fine) =
    (caller : Row) × (target : Row) × (row_of rows p ≡ Some caller) × (row_of rows (target_pid caller t) ≡ Some target) × ((target.group.0 ≡ g.0) ⊎ ((wanted_group caller t q).0 ≡ g.0))
IsRegroupingIn rows g _ = ⊥

-- an orphaned group that has members stays orphaned in each legal step but a setpgid that takes a member out or puts one in
abbrev pub OrphanedStays : Type 0
OrphanedStays = (rows : List Row) (entry : Entry) (g : Pid) → IsSound rows → HaveLeaders rows → verdict rows entry ≡ Legal →
    list_any (in_group g) rows ≡ true → is_orphaned rows g ≡ true → is_orphaned (after rows entry) g ≡ false → IsRegroupingIn rows g entry
