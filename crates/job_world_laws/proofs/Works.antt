-- How much the world of a plan makes.
use Rattle.std.proofs.Common.{◌≡◌, ◌≤◌, ◌+◌, ◌*◌, ℕ, List, [], ◌∷◌, ◌++◌, map, length, refl, sym, subst, arith, Option, None, Some, slice_get, All, fold, unwrap_or, IsTrue}
use Rattle.std.proofs.lemmas.Bool.{le-leb}
use Rattle.std.proofs.lemmas.List.Sums.{fold-append}
use Rattle.std.proofs.lemmas.List.Elements.{All-nil, All-push, All-weaker}
use Rattle.unix_calls.specs.declared.Script.{Script}
use Rattle.unix_calls.specs.declared.Work.{Work}
use Rattle.unix_calls.specs.declared.limits.TheConstants.{MOST_STATEMENTS, MOST_PROCESSES, MOST_WORK}
use Rattle.unix_calls.specs.Work.{work, together, work_of, with_statement, script_work, with_script, works, total_work, is_little}
use Rattle.proc_image.proofs.Fits.{All-slice_get}
use Rattle.job_plans.specs.Acts.{Act, Begin, Await, Join, Send, Reap, statement_of, stage_statements}
use Rattle.job_plans.specs.Worlds.{script_with, shell_start}

-- at most so many processes and statements
pub record IsUpTo (p q : ℕ) (w : Work) : Type 0 where
  pub processes : w.processes ≤ p
  pub statements : w.statements ≤ q

abbrev IsStageWork : Work → Type 0
IsStageWork = IsUpTo 1 4

stage_work : (earlier : List Work) (status : ℕ) → IsStageWork (script_work earlier (stage_statements status))
stage_work earlier status = record { processes = omega arith; statements = omega arith }

abbrev stage_script : ℕ → Script
stage_script status = script_with (stage_statements status)

stages_work : (statuses : List ℕ) (earlier : List Work) → All IsStageWork earlier → All IsStageWork (fold with_script earlier (map stage_script statuses))
stages_work [] earlier all = all
stages_work (e ∷ statuses) earlier all = stages_work statuses (with_script earlier (stage_script e)) (All-push IsStageWork earlier (script_work earlier (stage_statements e)) all (stage_work earlier e))

looked_up : (p q : ℕ) (earlier : List Work) (script : ℕ) → All (IsUpTo p q) earlier → IsUpTo p q (work_of earlier script)
looked_up p q earlier script all = go (slice_get earlier script) refl
  where
    go : (o : Option Work) → slice_get earlier script ≡ o → IsUpTo p q (unwrap_or o (work 0 0))
    go None e = record { processes = omega arith; statements = omega arith }
    go (Some w) e = All-slice_get (IsUpTo p q) earlier script w all e

-- a step counts five statements at most
one_act : (earlier : List Work) (all : All IsStageWork earlier) (a : Act) (w : Work) (p q : ℕ) → IsUpTo p q w → IsUpTo (p + 1) (q + 5) (with_statement earlier w (statement_of a))
one_act earlier all (Begin v script node) w p q h =
    let k = looked_up 1 4 earlier script all in
    record { processes = omega (arith, h.processes, k.processes); statements = omega (arith, h.statements, k.statements) }
one_act earlier all (Await v) w p q h = record { processes = omega (arith, h.processes); statements = omega (arith, h.statements) }
one_act earlier all (Join v f) w p q h = record { processes = omega (arith, h.processes); statements = omega (arith, h.statements) }
one_act earlier all (Send f s) w p q h = record { processes = omega (arith, h.processes); statements = omega (arith, h.statements) }
one_act earlier all (Reap v) w p q h = record { processes = omega (arith, h.processes); statements = omega (arith, h.statements) }

acts_work : (earlier : List Work) (all : All IsStageWork earlier) (acts : List Act) (w : Work) (p q : ℕ) → IsUpTo p q w → IsUpTo (p + length acts) (q + 5 * length acts) (fold (with_statement earlier) w (map statement_of acts))
acts_work earlier all [] w p q h = record { processes = omega (arith, h.processes); statements = omega (arith, h.statements) }
acts_work earlier all (a ∷ acts) w p q h =
    let k = acts_work earlier all acts (with_statement earlier w (statement_of a)) (p + 1) (q + 5) (one_act earlier all a w p q h) in
    record { processes = omega (arith, k.processes); statements = omega (arith, k.statements) }

module _ (statuses : List ℕ) (acts : List Act) (few : length acts ≤ MOST_STATEMENTS) where
  abbrev stages : List Script
  stages = map stage_script statuses

  abbrev shell : Script
  shell = script_with (map statement_of acts)

  abbrev earlier : List Work
  earlier = works stages

  earlier_work : All IsStageWork earlier
  earlier_work = stages_work statuses [] (All-nil IsStageWork)

  shell_work : IsUpTo 257 1281 (script_work earlier shell.statements)
  shell_work =
      let k = acts_work earlier earlier_work acts (work 1 1) 1 1 (record { processes = omega arith; statements = omega arith }) in
      record { processes = omega (arith, k.processes, few); statements = omega (arith, k.statements, few) }

  all_work : All (IsUpTo 257 1281) (works (stages ++ shell ∷ []))
  all_work =
      subst (λ (ws : List Work). All (IsUpTo 257 1281) ws) (sym (fold-append with_script [] stages (shell ∷ [])))
      (All-push (IsUpTo 257 1281) earlier (script_work earlier shell.statements)
      (All-weaker IsStageWork (IsUpTo 257 1281) (λ w h. record { processes = omega (arith, h.processes); statements = omega (arith, h.statements) }) earlier earlier_work) shell_work)

  -- the work of the world is little enough
  pub little_work : (script var : ℕ) → IsTrue (is_little (total_work (works (stages ++ shell ∷ [])) (shell_start script var ∷ [])))
  little_work script var =
      let k = looked_up 257 1281 (works (stages ++ shell ∷ [])) script all_work in
      let total : Work = together (work 0 0) (work_of (works (stages ++ shell ∷ [])) script) in
      rw (le-leb total.processes MOST_PROCESSES (omega (arith, k.processes)), le-leb total.statements MOST_WORK (omega (arith, k.statements))) refl
