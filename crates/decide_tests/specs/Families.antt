-- small families as a courier holds them, and the tables that they tell of: all of user 5, and of the session of process 2
use Rattle.std.specs.Prelude.{ℕ, false, List, [], ◌∷◌, None, Some}
use Rattle.unix_names.specs.declared.Pid.{Pid}
use Rattle.unix_names.specs.declared.Life.{Life}
use Rattle.unix_names.specs.declared.Life.TheVariants.{Runs, Ended}
use Rattle.unix_names.specs.declared.WaitStatus.TheVariants.{Exited}
use Rattle.signal_state.specs.declared.Own.{Own}
use Rattle.signal_state.specs.Sig.{fresh}
use Rattle.vproc_record.specs.declared.Vproc.{Vproc}
use Rattle.group_record.specs.declared.Member.{Member}
use Rattle.group_record.specs.declared.Group.{Group}
use Rattle.group_record.specs.declared.Allow.TheVariants.{All}
use Rattle.unix_names.specs.declared.Signal.{Signal}
use Rattle.unix_calls.specs.declared.Call.TheVariants.{Getpid}
use Rattle.unix_calls.specs.declared.Job.{Job}
use Rattle.unix_calls.specs.declared.Job.TheVariants.{Ask}
use Rattle.signal_state.specs.Signals.{Signals}
use Rattle.record_bag.specs.declared.vector.Site.{Site}
use Rattle.record_bag.specs.declared.bag.Bag.{Bag}
use Rattle.process_table.specs.declared.Row.{Row}
use Rattle.process_table.specs.Rows.{pid, is_stopped}

-- nothing was taken, and nothing is pending
abbrev pub fresh_own : Own
fresh_own = record { sig = fresh; taken = 0 }

abbrev pub row_for : ℕ → ℕ → ℕ → Life → Row
row_for p parent group life = record {
  pid = pid p;
  parent = pid parent;
  group = pid group;
  session = pid 2;
  uid = 5;
  life = life;
  change = None;
  execed = false;
  sig = record fresh { stopped = is_stopped life };
}

abbrev pub vproc_for : ℕ → ℕ → ℕ → Life → List Pid → Vproc
vproc_for p parent group life children = record {
  pid = pid p;
  parent = pid parent;
  group = pid group;
  session = pid 2;
  uid = 5;
  life = life;
  change = None;
  execed = false;
  ignchld = false;
  loc = record { 0 = 0 };
  children = children;
  backlog = [];
}

abbrev pub member_for : ℕ → Member
member_for p = record { pid = pid p; from = 0; uid = 5 }

abbrev pub group_for : ℕ → List Member → ℕ → ℕ → Group
group_for id members links stopped = record { id = pid id; session = pid 2; members = members; log = []; links = links; stopped = stopped }

-- ---- a child in a group of its own, of which its parent is the only link
abbrev pub parting_rows : Life → List Row
parting_rows life = row_for 2 1 2 Runs ∷ row_for 3 2 3 life ∷ []

abbrev pub parting : Life → ℕ → Bag
parting life stopped = record {
  vprocs = (record { pid = pid 2; value = Some (vproc_for 2 1 2 Runs (pid 3 ∷ [])) }) ∷ (record { pid = pid 3; value = Some (vproc_for 3 2 3 life []) }) ∷ [];
  groups = (record { pid = pid 2; value = Some (group_for 2 (member_for 2 ∷ []) 0 0) }) ∷ (record { pid = pid 3; value = Some (group_for 3 (member_for 3 ∷ []) 1 stopped) }) ∷ [];
}

-- ---- two children that have ended, of which the first to be forked has the greater pid
abbrev pub elder : ℕ
elder = 1000002

abbrev pub ended_rows : List Row
ended_rows = row_for 2 1 2 Runs ∷ row_for elder 2 2 (Ended (Exited 7)) ∷ row_for 3 2 2 (Ended (Exited 8)) ∷ []

abbrev pub two_ended : Bag
two_ended = record {
  vprocs = (record { pid = pid 2; value = Some (vproc_for 2 1 2 Runs (pid elder ∷ pid 3 ∷ [])) })
      ∷ (record { pid = pid 3; value = Some (vproc_for 3 2 2 (Ended (Exited 8)) []) })
      ∷ (record { pid = pid elder; value = Some (vproc_for elder 2 2 (Ended (Exited 7)) []) }) ∷ [];
  groups = (record { pid = pid 2; value = Some (group_for 2 (member_for 2 ∷ member_for elder ∷ member_for 3 ∷ []) 0 0) }) ∷ [];
}

-- ---- a process alone, whose group's log has a signal for all
abbrev pub lone_row : Signals → Row
lone_row sig = record (row_for 2 1 2 Runs) { sig = sig }

abbrev pub lone_group : Signal → Group
lone_group s = record (group_for 2 (member_for 2 ∷ []) 0 0) { log = (record { signal = s; target = None; allow = All }) ∷ [] }

abbrev pub lone : Signal → Bag
lone s = record {
  vprocs = (record { pid = pid 2; value = Some (vproc_for 2 1 2 Runs []) }) ∷ [];
  groups = (record { pid = pid 2; value = Some (lone_group s) }) ∷ [];
}

-- ---- what is asked, and where
abbrev pub free_site : Site
free_site = record { node = record { 0 = 0 }; fresh = pid 4 }

abbrev pub getpid_job : Job
getpid_job = Ask Getpid None
