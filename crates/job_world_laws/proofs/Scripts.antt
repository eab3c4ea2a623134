-- The scripts of the world of a plan.
use Rattle.std.proofs.Common.{◌≡◌, ◌⊎◌, inl, inr, ◌<◌, ◌≤◌, ◌+◌, ℕ, zero, suc, List, [], ◌∷◌, map, length, refl, sym, subst, arith, Some, slice_get, All}
use Rattle.std.proofs.lemmas.List.{length-map}
use Rattle.std.proofs.lemmas.List.Elements.{All-nil, All-cons, All-head, All-tail, All-from_recursion}
use Rattle.unix_names.proofs.SetLaws.{number_small}
use Rattle.unix_calls.specs.declared.Script.{Script}
use Rattle.unix_calls.specs.declared.World.{World}
use Rattle.unix_calls.specs.declared.limits.TheConstants.{MOST_STATEMENTS}
use Rattle.unix_calls.specs.Valid.{EachAt, IsStatement, IsScript}
use Rattle.script_laws.specs.Writable.{IsWrittenStatement}
use Rattle.job_plans.specs.Acts.{Act, Begin, Await, Join, Send, Reap, statement_of, stage_statements}
use Rattle.job_plans.specs.Plans.{Plan}
use Rattle.job_plans.specs.Worlds.{script_with, world_with}
use Rattle.job_laws.proofs.Lists.{get_append}
use Rattle.job_world_laws.proofs.Counts.{IsBelow}
use Rattle.job_world_laws.proofs.Places.{IsPlaced, IsScripted}

module _ (nodes : ℕ) (statuses : List ℕ) (plan : Plan) where
  abbrev W : World
  W = world_with nodes statuses plan

  abbrev IsFine : Act → Type 0
  IsFine a = IsStatement W (length statuses) (statement_of a)

  one_fine : (a : Act) → IsBelow plan.count a → IsPlaced nodes a → IsScripted (length statuses) a → IsFine a
  one_fine (Begin v script node) b p s = (omega (arith, b), s, p)
  one_fine (Await v) b p s = omega (arith, b)
  one_fine (Join v f) b p s = (omega (arith, b.0), omega (arith, b.1))
  one_fine (Send f x) b p s = omega (arith, b)
  one_fine (Reap v) b p s = omega (arith, b)

  acts_fine : (acts : List Act) → All (IsBelow plan.count) acts → All (IsPlaced nodes) acts → All (IsScripted (length statuses)) acts → All (IsStatement W (length statuses)) (map statement_of acts)
  acts_fine [] b p s = All-nil (IsStatement W (length statuses))
  acts_fine (a ∷ acts) b p s =
      All-cons (IsStatement W (length statuses)) (statement_of a) (map statement_of acts)
      (one_fine a (All-head (IsBelow plan.count) a acts b) (All-head (IsPlaced nodes) a acts p) (All-head (IsScripted (length statuses)) a acts s))
      (acts_fine acts (All-tail (IsBelow plan.count) a acts b) (All-tail (IsPlaced nodes) a acts p) (All-tail (IsScripted (length statuses)) a acts s))

  stage_fine : (k status : ℕ) → IsScript W k (script_with (stage_statements status))
  stage_fine k status = (omega arith, All-from_recursion (IsStatement W k) (stage_statements status) (tt, (tt, (tt, tt))))

  mapped : (es : List ℕ) (i : ℕ) (x : Script) → slice_get (map (λ e. script_with (stage_statements e)) es) i ≡ Some x → (e : ℕ) × (script_with (stage_statements e) ≡ x)
  mapped [] i x h = cc
  mapped (e ∷ es) zero x h = let same : script_with (stage_statements e) ≡ x = cc in (e, same)
  mapped (e ∷ es) (suc i) x h = mapped es i x h

  only : (s x : Script) (i : ℕ) → slice_get (s ∷ []) i ≡ Some x → (i ≡ 0) × (s ≡ x)
  only s x zero h = let same : s ≡ x = cc in (refl, same)
  only s x (suc i) h = cc

  pub scripts_fine : length plan.acts ≤ MOST_STATEMENTS → All (IsBelow plan.count) plan.acts → All (IsPlaced nodes) plan.acts → All (IsScripted (length statuses)) plan.acts → EachAt (IsScript W) W.scripts
  scripts_fine few b p s k x e = go (get_append (map (λ e. script_with (stage_statements e)) statuses) (script_with (map statement_of plan.acts) ∷ []) k x e)
    where
      shell : IsScript W (length statuses) (script_with (map statement_of plan.acts))
      shell = (subst (λ n. n ≤ MOST_STATEMENTS) (sym (length-map plan.acts statement_of)) few, acts_fine plan.acts b p s)

      go : ((k < length (map (λ e. script_with (stage_statements e)) statuses)) × (slice_get (map (λ e. script_with (stage_statements e)) statuses) k ≡ Some x))
          ⊎ ((i : ℕ) × (k ≡ length (map (λ e. script_with (stage_statements e)) statuses) + i) × (slice_get (script_with (map statement_of plan.acts) ∷ []) i ≡ Some x)) → IsScript W k x
      go (inl h) = let m = mapped statuses k x h.1 in subst (IsScript W k) m.1 (stage_fine k m.0)
      go (inr h) =
          let o = only (script_with (map statement_of plan.acts)) x h.0 h.2 in
          let many = length-map statuses (λ e. script_with (stage_statements e)) in
          let place : k ≡ length statuses = omega (arith, h.1, o.0, many) in
          subst (IsScript W k) o.1 (subst (λ n. IsScript W n (script_with (map statement_of plan.acts))) (sym place) shell)

-- ---- written
abbrev IsWrittenScript : Script → Type 0
IsWrittenScript script = All IsWrittenStatement script.statements

act_written : (a : Act) → IsWrittenStatement (statement_of a)
act_written (Begin v script node) = tt
act_written (Await v) = tt
act_written (Join v f) = tt
act_written (Send f s) = (tt, let k = number_small s in omega (arith, k))
act_written (Reap v) = tt

pub acts_written : (acts : List Act) → All IsWrittenStatement (map statement_of acts)
acts_written [] = All-nil IsWrittenStatement
acts_written (a ∷ acts) = All-cons IsWrittenStatement (statement_of a) (map statement_of acts) (act_written a) (acts_written acts)

pub stages_written : (statuses : List ℕ) → All (λ e. e < 256) statuses → All IsWrittenScript (map (λ e. script_with (stage_statements e)) statuses)
stages_written [] all = All-nil IsWrittenScript
stages_written (e ∷ statuses) all =
    let small : e < 256 = All-head (λ e. e < 256) e statuses all in
    All-cons IsWrittenScript (script_with (stage_statements e)) (map (λ e. script_with (stage_statements e)) statuses)
    (All-from_recursion IsWrittenStatement (stage_statements e) ((tt, omega arith), (tt, (omega (arith, small), tt))))
    (stages_written statuses (All-tail (λ e. e < 256) e statuses all))
