-- A process that fits its world fits it after a reply.
use Rattle.std.proofs.Common.{◌≡◌, ℕ, ◌<◌, Bool, true, false, List, length, Option, None, Some, option_and_then, slice_get, All, ◌∙◌, refl, subst, arith, length-set}
use Rattle.std.proofs.lemmas.Option.{get_or_from_slice_get, slice_get_within}
use Rattle.unix_calls.specs.declared.Reply.{Reply}
use Rattle.unix_calls.specs.declared.Reply.TheVariants.{Again}
use Rattle.unix_calls.specs.declared.Script.{Script}
use Rattle.unix_calls.specs.declared.Statement.{Statement}
use Rattle.unix_calls.specs.declared.Statement.TheVariants.{Fork, Exec, Wait}
use Rattle.unix_calls.specs.declared.World.{World}
use Rattle.unix_calls.specs.Valid.{IsValid, IsStatement}
use Rattle.proc_image.specs.declared.image.Image.{Image}
use Rattle.proc_image.specs.Scripts.{Progress, next_statement, after_reply, after_reply_or_exit, after_wait, forked}
use Rattle.proc_image.specs.Images.{IsFit, progress_of, moved_image}

-- what a chain that gives something goes through
pub and_then_some : {A B : Type 0} (f : A → Option B) (o : Option A) (y : B) → option_and_then f o ≡ Some y → (x : A) × (o ≡ Some x) × (f x ≡ Some y)
and_then_some f None y e = absurd (cc e)
and_then_some f (Some x) y e = (x, refl, e)

-- what holds of each item holds of the one that is looked up
pub All-slice_get : {A : Type 0} (P : A → Type 0) (xs : List A) (k : ℕ) (x : A) → All P xs → slice_get xs k ≡ Some x → P x
All-slice_get P xs k x all e = subst P (get_or_from_slice_get xs k x x e) (all k x (slice_get_within xs k x e))

-- the next statement of a valid world is in range
pub next_statement-valid : (world : World) (at : Progress) (s : Statement) → IsValid world → next_statement world at ≡ Some s → IsStatement world at.script s
next_statement-valid world at s valid e =
    let found = and_then_some (λ (script : Script). slice_get script.statements at.position) (slice_get world.scripts at.script) s e in
    All-slice_get (IsStatement world at.script) (found.0).statements at.position s (valid.scripts at.script found.0 found.1).1 found.2

after_wait-script : (sleeps : Bool) (reply : Reply) (at : Progress) → (after_wait sleeps reply at).script ≡ at.script
after_wait-script true Again at = refl
after_wait-script true _ at = refl
after_wait-script false _ at = refl

after_wait-vars : (sleeps : Bool) (reply : Reply) (at : Progress) → (after_wait sleeps reply at).vars ≡ at.vars
after_wait-vars true Again at = refl
after_wait-vars true _ at = refl
after_wait-vars false _ at = refl

after_reply-script : (world : World) (reply : Reply) (at : Progress) (s : Statement) → IsStatement world at.script s → at.script < length world.scripts → (after_reply reply at s).script < length world.scripts
after_reply-script world reply at (Exec script) valid h = omega arith
after_reply-script world reply at (Wait sleeps any minus arg stopped continued) valid h = rw (after_wait-script sleeps reply at) h
after_reply-script world reply at _ valid h = h

length-after_reply : (reply : Reply) (at : Progress) (s : Statement) → length (after_reply reply at s).vars ≡ length at.vars
length-after_reply reply at (Fork var script on) = length-set at.vars var (forked reply)
length-after_reply reply at (Wait sleeps any minus arg stopped continued) = rw (after_wait-vars sleeps reply at) refl
length-after_reply reply at _ = refl

-- a process that fits its world fits it after the reply to its next statement
moved_or_exit : (world : World) (image : Image) (reply : Reply) (o : Option Statement) → next_statement world (progress_of image) ≡ o → IsValid world → IsFit world image →
    let at = after_reply_or_exit reply (progress_of image) o in (at.script < length world.scripts) × (length at.vars ≡ world.vars)
moved_or_exit world image reply None e valid fits = (fits.script, fits.vars)
moved_or_exit world image reply (Some s) e valid fits = (
  after_reply-script world reply (progress_of image) s (next_statement-valid world (progress_of image) s valid e) fits.script,
  length-after_reply reply (progress_of image) s ∙ fits.vars,
)

pub IsFit-moved : (world : World) (image : Image) (reply : Reply) → IsValid world → IsFit world image → IsFit world (moved_image world image reply)
IsFit-moved world image reply valid fits =
    let h = moved_or_exit world image reply (next_statement world (progress_of image)) refl valid fits in
    record { script = h.0; vars = h.1 }
