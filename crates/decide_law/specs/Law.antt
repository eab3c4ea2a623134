-- what a decision owes the one kernel
use Rattle.std.specs.Prelude.{ℕ, Bool, true, false, ◌≡◌, ◌≢◌, ◌≤◌, ◌<◌, ◌^◌, ◌==◌, List, [], ◌++◌, length, Option, None, Some, is_some}
use Rattle.unix_names.specs.declared.Pid.{Pid}
use Rattle.unix_names.specs.declared.Signal.{Signal}
use Rattle.unix_names.specs.Sets.{IsSignals}
use Rattle.unix_names.specs.States.{is_living}
use Rattle.unix_calls.specs.declared.Call.{Call}
use Rattle.unix_calls.specs.declared.Call.TheVariants.{Fork}
use Rattle.unix_calls.specs.declared.Reply.TheVariants.{Number}
use Rattle.unix_calls.specs.declared.Entry.{Entry}
use Rattle.unix_calls.specs.declared.Entry.TheVariants.{Called, Happened}
use Rattle.unix_calls.specs.declared.Job.{Job}
use Rattle.unix_calls.specs.declared.Job.TheVariants.{Ask, Look}
use Rattle.unix_calls.specs.declared.Phase.{Phase}
use Rattle.unix_calls.specs.declared.Phase.TheVariants as phases
use Rattle.signal_state.specs.declared.Own.{Own}
use Rattle.signal_state.specs.Signals.{Signals}
use Rattle.signal_state.specs.Sig.{generated_all}
use Rattle.vproc_record.specs.declared.Vproc.{Vproc}
use Rattle.group_record.specs.declared.Group.{Group}
use Rattle.group_record.specs.Log.{log_part}
use Rattle.sig_stream.specs.Streams.{stream, tail}
use Rattle.ordered_table.specs.Entries.{pids_of}
use Rattle.record_bag.specs.declared.bag.Bag.{Bag}
use Rattle.record_bag.specs.declared.vector.Site.{Site}
use Rattle.record_bag.specs.declared.vector.Decided.{Decided}
use Rattle.process_table.specs.declared.Row.{Row}
use Rattle.process_table.specs.Rows.{row_of, is_stopped}
use Rattle.kernel_model.specs.declared.Verdict.TheVariants.{Legal}
use Rattle.kernel_model.specs.Sound.{IsSound}
use Rattle.kernel_model.specs.Step.{process_of, verdict, after, sent}
use Rattle.kernel_laws.specs.Effects.{IsUnused}
use Rattle.kernel_rules.specs.Events.{StaysStopped}
use Rattle.decide_law.specs.Wakes.{is_nudged, WakesOthers}
use Rattle.decide_law.specs.Nudges.{nudges_of}
use Rattle.decide_law.specs.Places.{destination, JobGoes, is_placed, place_after}
use Rattle.decide_law.specs.Agrees.{vproc_at, group_at, VprocAgrees, GroupAgrees, Agrees}
use Rattle.decide_law.specs.Needs.{IsNamed}

-- ---- before
-- the row of a process has the signals that its image carries, with those of its stream that were not taken
pub record IsOwn (own : Own) (v : Vproc) (g : Group) (r : Row) : Type 0 where
  pub taken : own.taken ≤ length (stream v g)
  pub sig : r.sig ≡ generated_all own.sig (tail own.taken v g)

-- what stands before a question is put to a vector: on nodes so many, about a process p with this job, whose image has these signals and whose courier holds this bag
pub record Asks (nodes : ℕ) (rows : List Row) (p : Pid) (job : Job) (own : Own) (bag : Bag) (site : Site) : Type 0 where
  -- the table is sound, and each record that is held agrees with it
  pub sound : IsSound rows
  pub agrees : Agrees bag rows
  -- the table is so short that twice its rows can be counted in 32 bits
  pub few : length rows < 1000000
  -- the process lives
  pub row : Row
  pub there : row_of rows p ≡ Some row
  pub living : is_living row.life ≡ true
  -- what is pending for it is a set of signals, with no number beside theirs
  pub pending : IsSignals row.sig.pending
  -- it looks exactly while it is stopped
  pub looks : is_stopped row.life ≡ true → job ≡ Look
  pub calls : is_stopped row.life ≡ false → job ≢ Look
  -- where its record and its group are held, its row has what its image carries with the tail of its stream
  pub own_is : (v : Vproc) (g : Group) → vproc_at bag p ≡ Some (Some v) → group_at bag v.group ≡ Some (Some g) → IsOwn own v g row
  -- the fresh pid has no row and is no group's and no session's, and its record isn't held
  pub fresh : row_of rows site.fresh ≡ None
  pub unused : IsUnused rows site.fresh.0
  pub fresh_held : is_some (vproc_at bag site.fresh) ≡ false
  -- the site, the job and the place of the process are nodes
  pub here : site.node.0 < nodes
  pub goes : JobGoes nodes job
  pub placed : (v : Vproc) → vproc_at bag p ≡ Some (Some v) → v.loc.0 < nodes
  -- the numbers of the process, of its job and of the table, which a decision may ask for, fit in 32 bits
  pub numbers : (n : ℕ) → IsNamed rows p job n → n < 2 ^ 32

-- a question about a living process whose record and group are held, over a bag that agrees with a sound table: what each decision starts from
pub record Based (rows : List Row) (p : Pid) (own : Own) (bag : Bag) (r : Row) (v : Vproc) (g : Group) : Type 0 where
  pub sound : IsSound rows
  pub agrees : Agrees bag rows
  pub row : row_of rows p ≡ Some r
  pub living : is_living r.life ≡ true
  pub vproc : vproc_at bag p ≡ Some (Some v)
  pub group : group_at bag v.group ≡ Some (Some g)
  pub own_is : IsOwn own v g r

-- the same once the process has taken its whole stream
pub record Settled (rows : List Row) (p : Pid) (sig : Signals) (bag : Bag) (r : Row) (v : Vproc) (g : Group) : Type 0 where
  pub sound : IsSound rows
  pub agrees : Agrees bag rows
  pub row : row_of rows p ≡ Some r
  pub living : is_living r.life ≡ true
  pub vproc : vproc_at bag p ≡ Some (Some v)
  pub group : group_at bag v.group ≡ Some (Some g)
  pub taken : stream v g ≡ []
  pub sig_is : r.sig ≡ sig

-- ---- the step
-- the table after a decision; one without an entry leaves it
abbrev pub next : List Row → Option Entry → List Row
next rows None = rows
next rows (Some e) = after rows e

-- what a decision sends to the process of a row
abbrev pub sent_to : List Row → Option Entry → Row → List Signal
sent_to rows None c = []
sent_to rows (Some e) c = sent rows e c

-- the entry is one of p that the rules allow
abbrev pub IsLegalOf : List Row → Pid → Option Entry → Type 0
IsLegalOf rows p None = Unit {0}
IsLegalOf rows p (Some e) = (verdict rows e ≡ Legal) × (process_of e ≡ p)

-- the call that was asked
abbrev pub IsAsked : Job → Call → Type 0
IsAsked (Ask asked at) call = call ≡ asked
IsAsked _ call = ⊥

-- an entry that is a call is the call that was asked; none comes only of a look
abbrev pub IsAnswerTo : Job → Option Entry → Type 0
IsAnswerTo job (Some (Called p call reply)) = IsAsked job call
IsAnswerTo job (Some (Happened p event)) = Unit {0}
IsAnswerTo job None = job ≡ Look

-- ---- names
-- the same names are held before and after, in the same order
pub record SameNames (bag bag' : Bag) : Type 0 where
  pub vprocs : pids_of bag'.vprocs ≡ pids_of bag.vprocs
  pub groups : pids_of bag'.groups ≡ pids_of bag.groups

-- the process is the newborn
abbrev pub is_born : Option Vproc → Pid → Bool
is_born None q = false
is_born (Some born) q = q.0 == born.pid.0

-- ---- streams
-- what a decision does to the records of another process m, of row r before and r' afterwards, that lives on: its stream grows by these signals
pub record Grows (bag bag' : Bag) (m : Pid) (r r' : Row) (signals : List Signal) : Type 0 where
  -- its record and its group are held, and so they are afterwards
  pub both : (v : Vproc) (g : Group) → vproc_at bag m ≡ Some (Some v) → group_at bag v.group ≡ Some (Some g) →
      (v' : Vproc) × (g' : Group) × (vproc_at bag' m ≡ Some (Some v')) × (group_at bag' v'.group ≡ Some (Some g')) × (stream v' g' ≡ stream v g ++ signals)
  -- its record alone is held: group and backlog stay, and it is sent nothing
  pub alone : (v : Vproc) → vproc_at bag m ≡ Some (Some v) → group_at bag v.group ≡ None →
      (v' : Vproc) × (vproc_at bag' m ≡ Some (Some v')) × (v'.group ≡ v.group) × (v'.backlog ≡ v.backlog) × (signals ≡ [])
  -- its group alone is held: it stays a member, and its part of the log grows
  pub log : (g : Group) → vproc_at bag m ≡ None → group_at bag r.group ≡ Some (Some g) →
      (g' : Group) × (r'.group ≡ r.group) × (group_at bag' r.group ≡ Some (Some g')) × (log_part m r.uid g' ≡ log_part m r.uid g ++ signals)
  -- neither is held: it is sent nothing
  pub neither : vproc_at bag m ≡ None → group_at bag r.group ≡ None → signals ≡ []

-- ---- births
-- nobody is born of it: it is no fork with a number
abbrev pub IsNoBirth : Option Entry → Type 0
IsNoBirth (Some (Called p Fork (Number n))) = ⊥
IsNoBirth _ = Unit {0}

-- the record of a newborn, beside the next bag
pub record IsBorn (now : List Row) (p : Pid) (site : Site) (entry : Option Entry) (bag' : Bag) (v : Vproc) : Type 0 where
  -- it comes with the fork of p, whose number is the site's fresh pid
  pub entry_is : entry ≡ Some (Called p Fork (Number site.fresh.0))
  -- it has the fresh pid, is at the site, and agrees with the next table
  pub pid : v.pid ≡ site.fresh
  pub place : v.loc ≡ site.node
  pub agrees : VprocAgrees now (Some v) (row_of now site.fresh)
  -- its group is held, and nothing is on its way to it
  pub group : Group
  pub group_held : group_at bag' v.group ≡ Some (Some group)
  pub stream_is : stream v group ≡ []

-- a newborn comes exactly with a fork's number
abbrev pub BirthIs : List Row → Pid → Site → Option Entry → Bag → Option Vproc → Type 0
BirthIs now p site entry bag' None = IsNoBirth entry
BirthIs now p site entry bag' (Some v) = IsBorn now p site entry bag' v

-- ---- phases
abbrev pub is_stopped_phase : Phase → Bool
is_stopped_phase phases.Stopped = true
is_stopped_phase _ = false

-- the image goes exactly where the process has ended, and stops exactly where its row does
abbrev pub PhaseIs : Phase → Option Row → Type 0
PhaseIs phases.Gone row = (r : Row) → row ≡ Some r → is_living r.life ≡ false
PhaseIs ph row = (r : Row) × (row ≡ Some r) × (is_living r.life ≡ true) × (is_stopped_phase ph ≡ is_stopped r.life)

-- ---- the whole law
-- a decision d of p, made at a site over a bag, that leaves bag', is a step of the one kernel from one table to the next
pub record IsStep (rows now : List Row) (p : Pid) (job : Job) (site : Site) (bag : Bag) (d : Decided) (bag' : Bag) : Type 0 where
  -- the entry is one of p that the rules allow, it leaves the next table, and it answers what was asked
  pub legal : IsLegalOf rows p d.entry
  pub table : next rows d.entry ≡ now
  pub asked : IsAnswerTo job d.entry
  -- the record of p is held; the same names are held before and after
  pub holds : is_some (vproc_at bag p) ≡ true
  pub names : SameNames bag bag'
  -- what is held then agrees with the next table
  pub agrees : Agrees bag' now
  -- a record that is not held, nor a newborn's, goes on to agree if it agrees
  pub vprocs_elsewhere : (q : Pid) (h : Option Vproc) → vproc_at bag q ≡ None → is_born d.born q ≡ false → VprocAgrees rows h (row_of rows q) → VprocAgrees now h (row_of now q)
  pub groups_elsewhere : (id : Pid) (h : Option Group) → group_at bag id ≡ None → GroupAgrees rows id h → GroupAgrees now id h
  -- a newborn comes with a fork
  pub birth : BirthIs now p site d.entry bag' d.born
  -- the image lives, and stops, as the row of p does
  pub phase : PhaseIs d.phase (row_of now p)
  -- while p lives, its record and its group are held, and its row has what its image carries with the new tail
  pub own : (r' : Row) → row_of now p ≡ Some r' → is_living r'.life ≡ true →
      (v' : Vproc) × (g' : Group) × (vproc_at bag' p ≡ Some (Some v')) × (group_at bag' v'.group ≡ Some (Some g')) × IsOwn d.own v' g' r'
  -- the stream of each other process that lives on grows by what it is sent
  pub others : (m : Pid) (r r' : Row) → m.0 ≢ p.0 → row_of rows m ≡ Some r → row_of now m ≡ Some r' → is_living r'.life ≡ true → Grows bag bag' m r r' (sent_to rows d.entry r)
  -- whom it nudges, in order; among them is whoever is sent anything
  pub nudges : d.nudges ≡ nudges_of rows now p bag bag' d.entry
  pub nudged : (m : Pid) (r r' : Row) → m.0 ≢ p.0 → row_of rows m ≡ Some r → row_of now m ≡ Some r' → is_living r'.life ≡ true → sent_to rows d.entry r ≢ [] → is_nudged d.nudges m ≡ true
  -- and where its wait may answer otherwise
  pub wakes : WakesOthers rows now p d.nudges
  -- a decision leaves nobody asleep, and whom it leaves stopped stays so
  pub awake : d.phase ≢ phases.Asleep
  pub rests : d.phase ≡ phases.Stopped → (r' : Row) → row_of now p ≡ Some r' → StaysStopped r'
  -- places stay, but the caller's, which moves to the site by a migration or a push
  pub places : (q : Pid) (v v' : Vproc) → q.0 ≢ p.0 → vproc_at bag q ≡ Some (Some v) → vproc_at bag' q ≡ Some (Some v') → v'.loc ≡ v.loc
  pub place : (v v' : Vproc) → vproc_at bag p ≡ Some (Some v) → vproc_at bag' p ≡ Some (Some v') → v'.loc ≡ place_after d.entry v.loc site.node
  -- a process is made, or moved, at the node where it is to be
  pub arrives : is_placed d.entry ≡ true → (v : Vproc) → vproc_at bag p ≡ Some (Some v) → destination job v.loc ≡ Some site.node
