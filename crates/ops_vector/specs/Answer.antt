-- the one answer to a question, on the records that are held
use Rattle.std.specs.Prelude.{Option, None, Some}
use Rattle.unix_names.specs.declared.Pid.{Pid}
use Rattle.unix_names.specs.declared.NodeId.{NodeId}
use Rattle.unix_calls.specs.declared.Call.{Call}
use Rattle.unix_calls.specs.declared.Call.TheVariants.{Getpid, Getppid, Getpgid, Getsid, Fork, Exec, Exit, Waitpid, Kill, Setpgid, Setsid, Action, Mask, Pending, Migrate}
use Rattle.unix_calls.specs.declared.Event.{Event}
use Rattle.unix_calls.specs.declared.Event.TheVariants.{EndedBy}
use Rattle.unix_calls.specs.declared.Job.{Job}
use Rattle.unix_calls.specs.declared.Job.TheVariants.{Ask, Look, Push}
use Rattle.unix_calls.specs.declared.Phase.TheVariants as phase
use Rattle.signal_state.specs.declared.Own.{Own}
use Rattle.vproc_record.specs.declared.Vproc.{Vproc}
use Rattle.group_record.specs.declared.Group.{Group}
use Rattle.record_bag.specs.declared.bag.Bag.{Bag}
use Rattle.record_bag.specs.declared.vector.Site.{Site}
use Rattle.record_bag.specs.Decisions.{Answered}
use Rattle.decide_law.specs.Effects.{folded, quiet, done_by, on_base}
use Rattle.decide_law.specs.Footprints.{coming}
use Rattle.decide_law.specs.Parts.{CallEffect, answer_by}
use Rattle.ops_signal.specs.Decide as signals
use Rattle.ops_groups.specs.Decide as groups
use Rattle.ops_exit_wait.specs.Decide as exit_wait
use Rattle.ops_fork.specs.Fork.{fork_answer}
use Rattle.migrate_core.specs.Moves.{migrate_answer, push_answer}
use Rattle.ops_ending.specs.Ending.{killed_effect}
use Rattle.ops_deliver.specs.Events.{EventEffect, event_answer}
use Rattle.ops_deliver.specs.Decide as deliver

-- ---- calls
-- what a call does that is done at any node, by the part that it belongs to; a fork and a migration have their own below
abbrev pub call_effect : Call → CallEffect
call_effect Getpid = groups.effect_of Getpid
call_effect Getppid = groups.effect_of Getppid
call_effect (Getpgid t) = groups.effect_of (Getpgid t)
call_effect (Getsid t) = groups.effect_of (Getsid t)
call_effect (Setpgid t q) = groups.effect_of (Setpgid t q)
call_effect Setsid = groups.effect_of Setsid
call_effect Exec = exit_wait.effect_of Exec
call_effect (Exit n) = exit_wait.effect_of (Exit n)
call_effect (Waitpid sel stopped continued) = exit_wait.effect_of (Waitpid sel stopped continued)
call_effect (Kill target s) = signals.effect_of (Kill target s)
call_effect (Action s act) = signals.effect_of (Action s act)
call_effect (Mask set) = signals.effect_of (Mask set)
call_effect Pending = signals.effect_of Pending
call_effect call = λ bag sig p v. quiet None sig phase.Ready

-- a fork and a migration have a node where they are done
abbrev pub call_answer : Call → Option NodeId → Own → Bag → Site → Pid → Vproc → Group → Answered
call_answer Fork at own bag site p v g = fork_answer at site own bag p v g
call_answer Migrate at own bag site p v g = migrate_answer at site own bag p v g
call_answer call at own bag site p v g = answer_by call (call_effect call) own bag p v g

-- ---- jobs
-- a process that looks stays stopped, and no entry is made
abbrev pub look_answer : Own → Bag → Pid → Vproc → Group → Answered
look_answer own bag p v g = done_by p v bag (quiet None (folded own v g).sig phase.Stopped)

abbrev pub job_answer : Job → Own → Bag → Site → Pid → Vproc → Group → Answered
job_answer (Ask call at) own bag site p v g = call_answer call at own bag site p v g
job_answer Look own bag site p v g = look_answer own bag p v g
job_answer (Push node) own bag site p v g = push_answer node site own bag p v g

-- ---- events
-- what an event does: a signal that ends the process, or one that is delivered
abbrev pub event_effect : Event → EventEffect
event_effect (EndedBy s) = λ bag sig p v. killed_effect bag sig p v s
event_effect event = deliver.effect_of event

-- ---- the whole
-- an event that comes is answered before the job
abbrev pub first_answer : Option Event → Job → Own → Bag → Site → Pid → Vproc → Group → Answered
first_answer (Some event) job own bag site p v g = event_answer event (event_effect event) own bag p v g
first_answer None job own bag site p v g = job_answer job own bag site p v g

-- the answer, on the records of the process and of its group
abbrev pub held_answer : Job → Own → Bag → Site → Pid → Vproc → Group → Answered
held_answer job own bag site p v g = first_answer (coming own v g) job own bag site p v g

-- and where one of these records may lack, which is needed first
abbrev pub unix_answer : Pid → Job → Own → Bag → Site → Answered
unix_answer p job own bag site = on_base (held_answer job own bag site p) p bag
