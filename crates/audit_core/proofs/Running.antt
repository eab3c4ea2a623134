-- How far processes are, told by a table of images.
use Rattle.std.proofs.Common.{◌≡◌, ◌==◌, ◌↔◌, ◌<◌, ◌≤◌, ◌-◌, ℕ, suc, Bool, true, false, List, ◌∷◌, Option, None, Some, IsSome, Result, Ok, Err, OnOk, option_map, option_and_then, slice_get, drop, drop-cons, arith, refl, sym, ◌∙◌, ap, subst}
use Rattle.std.proofs.Math.Path.{fun_ext}
use Rattle.std.proofs.lemmas.Option.{slice_get_within, get_or_from_slice_get}
use Rattle.std.proofs.lemmas.Bool.{eqb-true, eqb-false, ne_eqb, eq-eqb}
use Rattle.unix_names.specs.declared.Pid.{Pid}
use Rattle.unix_calls.specs.declared.Call.{Call}
use Rattle.unix_calls.specs.declared.Call.TheVariants as calls
use Rattle.unix_calls.specs.declared.Reply.{Reply}
use Rattle.unix_calls.specs.declared.World.{World}
use Rattle.unix_calls.specs.declared.Start.{Start}
use Rattle.unix_calls.specs.declared.Statement.{Statement}
use Rattle.unix_calls.specs.declared.Statement.TheVariants.{Fork}
use Rattle.ordered_table.specs.declared.Entry.{Entry}
use Rattle.ordered_table.specs.Entries.{value_at, SameElsewhere}
use Rattle.proc_image.specs.declared.Image.{Image}
use Rattle.proc_image.specs.Images.{IsFit, progress_of, start_image, child_image, moved_image}
use Rattle.proc_image.specs.Scripts.{Progress, call_or_exit, next_call, next_statement, next_child, child_of, moved_on}
use Rattle.proc_image.specs.Follows.{Running, AsksNext, put, started, first_running, with_child, after_call}
use Rattle.audit_core.specs.Table.{running_of, begun, IsKept, IsKeptAt, started_from}

pid : ℕ → Pid
pid n = record { 0 = n }

-- ---- a table that changes at one id
put-at : (old new : List (Entry Image)) (p : Pid) (o : Option Progress) (q : ℕ) (b : Bool) → (q == p.0) ≡ b → running_of new p.0 ≡ o → SameElsewhere p old new → running_of new q ≡ put p.0 o (running_of old) q
put-at old new p o q true same here others = let s = eqb-true q p.0 same in rw (same, s) here
put-at old new p o q false same here others = rw same (ap (option_map progress_of) (others (record { 0 = q }) (eqb-false q p.0 same)))

-- the others are as far as before
pub running-put : (old new : List (Entry Image)) (p : Pid) (o : Option Progress) → running_of new p.0 ≡ o → SameElsewhere p old new → running_of new ≡ put p.0 o (running_of old)
running-put old new p o here others = fun_ext (λ q. put-at old new p o q (q == p.0) refl here others)

kept-at : (world : World) (old new : List (Entry Image)) (p : Pid) (image : Image) (q : Pid) (other : Image) (b : Bool) → (q.0 == p.0) ≡ b
    → value_at new p ≡ Some image → SameElsewhere p old new → IsKeptAt world p image → IsKept world old → value_at new q ≡ Some other → IsKeptAt world q other
kept-at world old new p image q other true same here others now before there =
    let s : p ≡ q = sym (ap (λ (n : ℕ). record { 0 = n }) (eqb-true q.0 p.0 same)) in
    let at_q = subst (λ (r : Pid). value_at new r ≡ Some image) s here in
    let one : image ≡ other = cc in
    subst (λ (x : Image). IsKeptAt world q x) one (subst (λ (r : Pid). IsKeptAt world r image) s now)
kept-at world old new p image q other false same here others now before there = before q other (sym (others q (eqb-false q.0 p.0 same)) ∙ there)

-- a table that changes to an image that is kept is kept
pub kept-put : (world : World) (old new : List (Entry Image)) (p : Pid) (image : Image) → value_at new p ≡ Some image → SameElsewhere p old new → IsKeptAt world p image → IsKept world old → IsKept world new
kept-put world old new p image here others now before q other there = kept-at world old new p image q other (q.0 == p.0) refl here others now before there

-- two changes at one id
pub elsewhere-twice : (old mid new : List (Entry Image)) (p : Pid) → SameElsewhere p old mid → SameElsewhere p mid new → SameElsewhere p old new
elsewhere-twice old mid new p first second q other = second q other ∙ first q other

-- ---- the next call
-- an image that is in the table tells how far its process is
pub at_image : (images : List (Entry Image)) (p : Pid) (image : Image) (at : Progress) → value_at images p ≡ Some image → running_of images p.0 ≡ Some at → progress_of image ≡ at
at_image images p image at there far =
    let found : running_of images p.0 ≡ Some (progress_of image) = ap (option_map progress_of) there in
    cc

-- a process whose next call is known has an image
pub asks_has_image : (world : World) (caller : Pid) (call : Call) (images : List (Entry Image)) → AsksNext world caller call (running_of images caller.0) → IsSome (value_at images caller)
asks_has_image world caller call images asks = go (value_at images caller) asks
  where
    go : (o : Option Image) → AsksNext world caller call (option_map progress_of o) → IsSome o
    go None asks = absurd asks
    go (Some image) asks = search

-- the next call of a process is that of its image
pub asks_of_image : (world : World) (images : List (Entry Image)) (caller : Pid) (call : Call) (image : Image) → value_at images caller ≡ Some image → IsKept world images
    → (call ≡ next_call world image.pid (progress_of image)) ↔ AsksNext world caller call (running_of images caller.0)
asks_of_image world images caller call image there kept =
    let found : running_of images caller.0 ≡ Some (progress_of image) = ap (option_map progress_of) there in
    let own : image.pid ≡ caller = (kept caller image there).own_pid in (
      (λ same. subst (λ (o : Option Progress). AsksNext world caller call o) (sym found) (same ∙ ap (λ (p : Pid). next_call world p (progress_of image)) own)),
      (λ asks. subst (λ (o : Option Progress). AsksNext world caller call o) found asks ∙ ap (λ (p : Pid). next_call world p (progress_of image)) (sym own)),
    )

-- ---- a move
pub running-passed : (world : World) (old mid new : List (Entry Image)) (caller : Pid) (image : Image) (reply : Reply) (at : Progress) → value_at old caller ≡ Some image → SameElsewhere caller old mid
    → value_at new caller ≡ Some (moved_image world image reply) → SameElsewhere caller mid new → running_of old caller.0 ≡ Some at → running_of new ≡ put caller.0 (Some (moved_on world at reply)) (running_of old)
running-passed world old mid new caller image reply at there first here second far =
    let same = at_image old caller image at there far in
    let moved : running_of new caller.0 ≡ Some (moved_on world (progress_of image) reply) = ap (option_map progress_of) here in
    running-put old new caller (Some (moved_on world at reply)) (moved ∙ ap (λ (a : Progress). Some (moved_on world a reply)) same) (elsewhere-twice old mid new caller first second)

pub kept-passed : (world : World) (old mid new : List (Entry Image)) (caller : Pid) (image : Image) (reply : Reply) → value_at old caller ≡ Some image → SameElsewhere caller old mid
    → value_at new caller ≡ Some (moved_image world image reply) → SameElsewhere caller mid new → IsFit world (moved_image world image reply) → IsKept world old → IsKept world new
kept-passed world old mid new caller image reply there first here second fit kept =
    kept-put world old new caller (moved_image world image reply) here (elsewhere-twice old mid new caller first second) (record { own_pid = (kept caller image there).own_pid; fits = fit }) kept

-- ---- a child
fork_stands : (own : Pid) (at : Progress) (o : Option Statement) → calls.Fork ≡ call_or_exit own at o → IsSome (option_and_then (child_of own at) o)
fork_stands own at None e = absurd (cc e)
fork_stands own at (Some (Fork var script on)) e = search
fork_stands own at (Some _) e = absurd (cc e)

-- a process that asks for a fork stands at one
pub asks_fork : (world : World) (own : Pid) (at : Progress) → calls.Fork ≡ next_call world own at → IsSome (next_child world own at)
asks_fork world own at e = fork_stands own at (next_statement world at) e

child_begins : (parent : Image) (p : Pid) (child : Image) (o : Option Progress) (others : Running) → Some child ≡ option_map (child_image parent p) o → put p.0 o others ≡ begun (Some child) others
child_begins parent p child None others e = absurd (cc e)
child_begins parent p child (Some at) others e =
    let same : child ≡ child_image parent p at = cc in
    ap (λ (x : Image). put x.pid.0 (Some (progress_of x)) others) (sym same)

-- the image of a child begins its script
pub running-child : (world : World) (images : List (Entry Image)) (caller : Pid) (parent : Image) (p : Pid) (child : Image) (at : Progress) (others : Running) → value_at images caller ≡ Some parent → IsKept world images
    → Some child ≡ option_map (child_image parent p) (next_child world parent.pid (progress_of parent)) → running_of images caller.0 ≡ Some at → put p.0 (next_child world caller at) others ≡ begun (Some child) others
running-child world images caller parent p child at others there kept made far =
    let same : progress_of parent ≡ at = at_image images caller parent at there far in
    let own : parent.pid ≡ caller = (kept caller parent there).own_pid in
    let first = ap (λ (q : Pid). put p.0 (next_child world q at) others) (sym own) in
    let second = ap (λ (a : Progress). put p.0 (next_child world parent.pid a) others) (sym same) in
    first ∙ (second ∙ child_begins parent p child (next_child world parent.pid (progress_of parent)) others made)

-- ---- a whole call
-- what follows from a fact follows after a success
pub on_ok : {A E : Type 0} (r : Result A E) (P Q : Type 0) → (P → Q) → OnOk r P → OnOk r Q
on_ok (Ok a) P Q f p = f p
on_ok (Err e) P Q f p = p

-- the caller has moved on, and its child begun
pub call-passed : (world : World) (caller : Pid) (call : Call) (reply : Reply) (running moved : Running) (child : Option Image)
    → ((at : Progress) (others : Running) → running caller.0 ≡ Some at → with_child world caller at call reply others ≡ begun child others)
    → ((at : Progress) → running caller.0 ≡ Some at → moved ≡ put caller.0 (Some (moved_on world at reply)) running)
    → AsksNext world caller call (running caller.0) → begun child moved ≡ after_call world caller call reply running (running caller.0)
call-passed world caller call reply running moved child born passed asks = go (running caller.0) refl asks
  where
    go : (o : Option Progress) → running caller.0 ≡ o → AsksNext world caller call o → begun child moved ≡ after_call world caller call reply running o
    go None far asks = absurd asks
    go (Some at) far asks = ap (begun child) (passed at far) ∙ sym (born at (put caller.0 (Some (moved_on world at reply)) running) far)

-- ---- the starts
started-at : (world : World) (start : Start) (rest : List Start) (q : ℕ) (b : Bool) → (q == start.pid.0) ≡ b → put start.pid.0 (Some (started world start)) (started_from world rest) q ≡ started_from world (start ∷ rest) q
started-at world start rest q true same = rw (same, eq-eqb start.pid.0 q (sym (eqb-true q start.pid.0 same))) refl
started-at world start rest q false same = rw (same, ne_eqb start.pid.0 q (λ e. eqb-false q start.pid.0 same (sym e))) refl

-- the starts, added from the last one to the first
started-more : (world : World) (start : Start) (rest : List Start) → put start.pid.0 (Some (started world start)) (started_from world rest) ≡ started_from world (start ∷ rest)
started-more world start rest = fun_ext (λ q. started-at world start rest q (q == start.pid.0) refl)

drop-there : {A : Type 0} (xs : List A) (i : ℕ) (x : A) → slice_get xs i ≡ Some x → drop i xs ≡ x ∷ drop (suc i) xs
drop-there xs i x there = drop-cons xs i x (slice_get_within xs i x there) ∙ ap (λ (y : _). y ∷ drop (suc i) xs) (get_or_from_slice_get xs i x x there)

start-there : (world : World) (i : ℕ) (image : Image) (running : Running) (o : Option Start) → slice_get world.starts i ≡ o → Some image ≡ option_map (start_image world) o
    → running ≡ started_from world (drop (suc i) world.starts) → put image.pid.0 (Some (progress_of image)) running ≡ started_from world (drop i world.starts)
start-there world i image running None there made before = absurd (cc made)
start-there world i image running (Some start) there made before =
    let same : image ≡ start_image world start = cc in
    let rest = drop (suc i) world.starts in
    ap (λ (x : Image). put x.pid.0 (Some (progress_of x)) running) same
    ∙ (ap (λ (r : Running). put start.pid.0 (Some (started world start)) r) before
    ∙ (started-more world start rest
    ∙ ap (started_from world) (sym (drop-there world.starts i start there))))

-- one more start, before those that have their images
pub running-start : (world : World) (k : ℕ) (image : Image) (running : Running) → 0 < k → Some image ≡ option_map (start_image world) (slice_get world.starts (k - 1))
    → running ≡ started_from world (drop k world.starts) → put image.pid.0 (Some (progress_of image)) running ≡ started_from world (drop (k - 1) world.starts)
running-start world k image running positive made before =
    let next : k ≡ suc (k - 1) = omega arith in
    start-there world (k - 1) image running (slice_get world.starts (k - 1)) refl made (before ∙ ap (λ (n : ℕ). started_from world (drop n world.starts)) next)

-- all starts have their images
pub running-all : (world : World) (k : ℕ) (running : Running) → k ≤ 0 → running ≡ started_from world (drop k world.starts) → running ≡ first_running world
running-all world k running none before =
    let zero_left : k ≡ 0 = omega arith in
    before ∙ ap (λ (n : ℕ). started_from world (drop n world.starts)) zero_left
