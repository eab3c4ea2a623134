-- The world of an accepted file can be run, and is one that files describe.
use Rattle.std.proofs.Common.{◌≡◌, ◌≢◌, ◌<◌, ◌≤◌, ◌+◌, ◌^◌, ℕ, zero, suc, List, [], ◌∷◌, ◌++◌, map, length, length-append, refl, sym, ap, ◌∙◌, subst, arith, take, Some, slice_get, All, filter_map}
use Rattle.std.specs.List.{flat_map}
use Rattle.std.proofs.lemmas.List.{length-map, append-nil}
use Rattle.std.proofs.lemmas.Grind.{flat_map-append}
use Rattle.std.proofs.lemmas.List.Elements.{All-nil, All-cons, All-append, All-from_recursion}
use Rattle.unix_calls.specs.declared.Script.{Script}
use Rattle.unix_calls.specs.declared.Start.{Start}
use Rattle.unix_calls.specs.declared.World.{World}
use Rattle.unix_calls.specs.Valid.{EachAt, IsStart, IsValid}
use Rattle.script_laws.specs.Writable.{IsWrittenStatement, assigned, assigned_by, AreInOrder, variables_of, IsWritable}
use Rattle.job_plans.specs.declared.JobFile.{JobFile}
use Rattle.job_plans.specs.Acts.{statement_of, stage_statements}
use Rattle.job_plans.specs.Files.{IsStage}
use Rattle.job_plans.specs.Plans.{Plan, plan_of, statuses, stages_in_all, first_of, IsAccepted}
use Rattle.job_plans.specs.Worlds.{script_with, shell_start, world_of}
use Rattle.job_laws.specs.Orders.{IsPlan}
use Rattle.job_laws.proofs.Accepted.{are_stages, few_stages, is_plan, has_scripts}
use Rattle.job_world_laws.specs.Worlds.{AcceptedIsValid, AcceptedIsWritable, CompiledIsShort}
use Rattle.job_world_laws.proofs.Counts.{all_below, in_order}
use Rattle.job_world_laws.proofs.Places.{lines_placed, all_scripted, small_statuses, few_statuses}
use Rattle.job_world_laws.proofs.Works.{little_work}
use Rattle.job_world_laws.proofs.Short.{short_text}
use Rattle.job_world_laws.proofs.Scripts.{scripts_fine, acts_written, stages_written}

all_from_get : {X : Type 0} (P : X → Type 0) (xs : List X) → ((i : ℕ) (x : X) → slice_get xs i ≡ Some x → P x) → All P xs
all_from_get P [] each = All-nil P
all_from_get P (x ∷ xs) each = All-cons P x xs (each 0 x refl) (all_from_get P xs (λ i. each (suc i)))

none_assigned : (es : List ℕ) → flat_map assigned_by (map (λ e. script_with (stage_statements e)) es) ≡ []
none_assigned [] = refl
none_assigned (e ∷ es) = none_assigned es

module _ (file : JobFile) (accepted : IsAccepted file) where
  abbrev plan : Plan
  plan = plan_of file

  abbrev es : List ℕ
  es = statuses file

  abbrev W : World
  W = world_of file

  abbrev stages : List Script
  stages = map (λ e. script_with (stage_statements e)) es

  abbrev shell : Script
  shell = script_with (map statement_of plan.acts)

  ordered : IsPlan plan
  ordered = is_plan file accepted

  all_stages : All (IsStage file.nodes) (stages_in_all file)
  all_stages = all_from_get (IsStage file.nodes) (stages_in_all file) (λ i stage e. are_stages file accepted file.lines i stage e)

  few_scripts : length es ≤ 63
  few_scripts = omega (arith, few_statuses (stages_in_all file), few_stages file accepted)

  many_scripts : length W.scripts ≡ length es + 1
  many_scripts =
      let both = length-append stages (shell ∷ []) in
      let first = length-map es (λ e. script_with (stage_statements e)) in
      omega (arith, both, first)

  start_fine : EachAt (λ k. IsStart W (take k W.starts)) W.starts
  start_fine zero start e = subst (IsStart W []) same (record {
    node = let some = accepted.some_node in omega (arith, some);
    script = let many = many_scripts in omega (arith, many);
    var = omega arith;
    pid = refl;
    own_var = All-nil (λ other. other.var ≢ plan.count);
    joined = tt;
  })
    where
      same : shell_start (length es) plan.count ≡ start
      same = cc
  start_fine (suc k) start e = cc

  pub valid : IsValid W
  valid = record {
    limits = record {
      some_node = accepted.some_node;
      nodes = accepted.nodes;
      scripts = omega (arith, many_scripts, few_scripts);
      starts = omega arith;
    };
    scripts = scripts_fine file.nodes es plan accepted.short (all_below plan ordered.orderly) (lines_placed file.nodes file.jobs es (first_of file) accepted.jobs file.lines) (all_scripted es plan.status plan.acts (has_scripts file accepted));
    starts = start_fine;
    work = little_work es plan.acts accepted.short (length es) plan.count;
  }

  variables : variables_of W ≡ filter_map assigned (map statement_of plan.acts) ++ plan.count ∷ []
  variables =
      ap (λ (vs : List ℕ). vs ++ plan.count ∷ [])
      (flat_map-append assigned_by stages (shell ∷ []) ∙ ap (λ (vs : List ℕ). vs ++ flat_map assigned_by (shell ∷ [])) (none_assigned es) ∙ append-nil (filter_map assigned (map statement_of plan.acts)))

  pub writable : IsWritable W
  writable = record {
    valid = valid;
    statements = All-append (λ (script : Script). All IsWrittenStatement script.statements) stages (shell ∷ [])
        (stages_written es (small_statuses file.nodes (stages_in_all file) all_stages))
        (All-cons (λ (script : Script). All IsWrittenStatement script.statements) shell [] (acts_written plan.acts) (All-nil (λ (script : Script). All IsWrittenStatement script.statements)));
    users = All-from_recursion (λ (start : Start). start.uid < 2 ^ 32) W.starts (omega arith, tt);
    some_start = omega arith;
    variables = subst (λ (vs : List ℕ). AreInOrder 0 vs (plan.count + 1)) (sym variables) (in_order plan ordered.orderly);
  }

pub compiled_short : CompiledIsShort
compiled_short file accepted =
    let ordered = is_plan file accepted in
    short_text file.nodes (statuses file) (plan_of file) accepted.nodes (few_scripts file accepted) (small_statuses file.nodes (stages_in_all file) (all_stages file accepted)) (few_stages file accepted) accepted.short
    (all_below (plan_of file) ordered.orderly) (lines_placed file.nodes file.jobs (statuses file) (first_of file) accepted.jobs file.lines)
    (all_scripted (statuses file) (plan_of file).status (plan_of file).acts (has_scripts file accepted))

pub accepted_valid : AcceptedIsValid
accepted_valid file accepted = valid file accepted

pub accepted_writable : AcceptedIsWritable
accepted_writable file accepted = writable file accepted
