-- how far each process is after an entry
use Rattle.std.proofs.Common.{◌≡◌, ◌==◌, ℕ, false, cond, refl, ap, ◌∙◌, Option, None, Some}
use Rattle.unix_names.specs.declared.Pid.{Pid}
use Rattle.unix_calls.specs.declared.Call.{Call}
use Rattle.unix_calls.specs.declared.Call.TheVariants.{Fork}
use Rattle.unix_calls.specs.declared.Reply.{Reply}
use Rattle.unix_calls.specs.declared.Reply.TheVariants.{Number}
use Rattle.unix_calls.specs.declared.Entry.{Entry}
use Rattle.unix_calls.specs.declared.Entry.TheVariants.{Called, Happened}
use Rattle.unix_calls.specs.declared.World.{World}
use Rattle.list_laws.proofs.Finding.{same_number}
use Rattle.proc_image.specs.Scripts.{Progress, next_child, moved_on}
use Rattle.proc_image.specs.Follows.{Running, put, with_child, after_call, after_entry}
use Rattle.kernel_model.specs.Step.{process_of}
use Rattle.kernel_laws.proofs.Forms.{ForksAs}

-- the entry is not the fork of this number
abbrev pub IsNoForkOf : Entry → ℕ → Type 0
IsNoForkOf entry q = (n : ℕ) → ForksAs entry n → (q == n) ≡ false

child_elsewhere : (world : World) (caller : Pid) (at : Progress) (call : Call) (reply : Reply) (running : Running) (q : ℕ) → IsNoForkOf (Called caller call reply) q → with_child world caller at call reply running q ≡ running q
child_elsewhere world caller at Fork (Number n) running q other = ap (λ b. cond b (next_child world caller at) (running q)) (other n refl)
child_elsewhere world caller at Fork _ running q other = refl
child_elsewhere world caller at _ reply running q other = refl

called_elsewhere : (world : World) (caller : Pid) (call : Call) (reply : Reply) (running : Running) (o : Option Progress) (q : ℕ) → (q == caller.0) ≡ false → IsNoForkOf (Called caller call reply) q → after_call world caller call reply running o q ≡ running q
called_elsewhere world caller call reply running None q ne other = refl
called_elsewhere world caller call reply running (Some at) q ne other =
    child_elsewhere world caller at call reply (put caller.0 (Some (moved_on world at reply)) running) q other ∙ ap (λ b. cond b (Some (moved_on world at reply)) (running q)) ne

-- all others are as far as before
pub progress_kept : (world : World) (running : Running) (entry : Entry) (q : ℕ) → (q == (process_of entry).0) ≡ false → IsNoForkOf entry q → after_entry world running entry q ≡ running q
progress_kept world running (Called caller call reply) q ne other = called_elsewhere world caller call reply running (running caller.0) q ne other
progress_kept world running (Happened p event) q ne other = refl

-- how far the process of an entry is then
abbrev pub moved_by : World → Progress → Entry → Progress
moved_by world at (Called caller call reply) = moved_on world at reply
moved_by world at (Happened p event) = at

pub progress_own : (world : World) (running : Running) (entry : Entry) (at : Progress) → running (process_of entry).0 ≡ Some at → IsNoForkOf entry (process_of entry).0 → after_entry world running entry (process_of entry).0 ≡ Some (moved_by world at entry)
progress_own world running (Called caller call reply) at far other =
    ap (λ o. after_call world caller call reply running o caller.0) far
    ∙ child_elsewhere world caller at call reply (put caller.0 (Some (moved_on world at reply)) running) caller.0 other
    ∙ ap (λ b. cond b (Some (moved_on world at reply)) (running caller.0)) (same_number caller.0)
progress_own world running (Happened p event) at far other = far

-- the child of a fork stands before its script
pub progress_child : (world : World) (running : Running) (caller : Pid) (at : Progress) (n : ℕ) → running caller.0 ≡ Some at → after_entry world running (Called caller Fork (Number n)) n ≡ next_child world caller at
progress_child world running caller at n far =
    ap (λ o. after_call world caller Fork (Number n) running o n) far
    ∙ ap (λ b. cond b (next_child world caller at) (put caller.0 (Some (moved_on world at (Number n))) running n)) (same_number n)
