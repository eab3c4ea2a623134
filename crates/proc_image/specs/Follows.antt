-- Each process's calls stand once, in its script's order.
use Rattle.std.specs.Prelude.{◌≡◌, ℕ, ◌==◌, if◌then◌else◌, List, [], ◌∷◌, Option, None, Some, option_map, find, fold, replicate, slice_set}
use Rattle.unix_names.specs.declared.Pid.{Pid}
use Rattle.unix_calls.specs.declared.Call.{Call}
use Rattle.unix_calls.specs.declared.Call.TheVariants as calls
use Rattle.unix_calls.specs.declared.Reply.{Reply}
use Rattle.unix_calls.specs.declared.Reply.TheVariants.{Number}
use Rattle.unix_calls.specs.declared.Entry.{Entry}
use Rattle.unix_calls.specs.declared.Entry.TheVariants.{Called, Happened}
use Rattle.unix_calls.specs.declared.Start.{Start}
use Rattle.unix_calls.specs.declared.World.{World}
use Rattle.proc_image.specs.Scripts.{Progress, nobody, next_call, moved_on, next_child}

-- what the variables hold where a process starts: each start's pid in its variable, nobody in the others
abbrev pub first_vars : World → List ℕ
first_vars world = fold (λ vars start. slice_set vars start.var start.pid.0) (replicate world.vars nobody) world.starts

-- a start stands before the first statement of its script
abbrev pub started : World → Start → Progress
started world start = record { maker = record { 0 = nobody }; script = start.script; position = 0; vars = first_vars world }

-- how far each process is, by its pid
abbrev pub Running : Type 0
Running = ℕ → Option Progress

abbrev pub first_running : World → Running
first_running world pid = option_map (started world) (find (λ start. start.pid.0 == pid) world.starts)

-- a process is this far, and all others are as before
abbrev pub put : ℕ → Option Progress → Running → Running
put pid at running q = if q == pid then at else running q

-- a fork that succeeded begins its child's script, also under a pid that was used before
abbrev pub with_child : World → Pid → Progress → Call → Reply → Running → Running
with_child world caller at calls.Fork (Number n) running = put n (next_child world caller at) running
with_child world caller at _ _ running = running

abbrev pub after_call : World → Pid → Call → Reply → Running → Option Progress → Running
after_call world caller call reply running None = running
after_call world caller call reply running (Some at) = with_child world caller at call reply (put caller.0 (Some (moved_on world at reply)) running)

-- how far each process is after an entry
abbrev pub after_entry : World → Running → Entry → Running
after_entry world running (Called caller call reply) = after_call world caller call reply running (running caller.0)
after_entry world running (Happened pid event) = running

-- how far each process is after a history
abbrev pub after_entries : World → Running → List Entry → Running
after_entries world running history = fold (after_entry world) running history

-- how far each process is after a history of the world
abbrev pub running_after : World → List Entry → Running
running_after world history = after_entries world (first_running world) history

abbrev pub AsksNext : World → Pid → Call → Option Progress → Type 0
AsksNext world caller call None = ⊥
AsksNext world caller call (Some at) = call ≡ next_call world caller at

-- a call is its process's next statement with its variables' values; events stand anywhere
abbrev pub IsInOrder : World → Running → Entry → Type 0
IsInOrder world running (Called caller call reply) = AsksNext world caller call (running caller.0)
IsInOrder world running (Happened pid event) = Unit {0}

abbrev pub FollowsFrom : World → Running → List Entry → Type 0
FollowsFrom world running [] = Unit {0}
FollowsFrom world running (entry ∷ history) = IsInOrder world running entry × FollowsFrom world (after_entry world running entry) history

-- read in order, each call of a process is its next statement, and its reply moves the process on
abbrev pub Follows : World → List Entry → Type 0
Follows world history = FollowsFrom world (first_running world) history
