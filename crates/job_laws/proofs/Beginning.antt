-- the invariant at the beginning, and the theorem for plans
use Rattle.std.proofs.Common.{◌≡◌, ◌==◌, ◌⊎◌, inl, ◌<◌, ◌+◌, ℕ, zero, suc, Bool, true, false, cond, List, [], ◌∷◌, ◌++◌, length, refl, sym, ap, ◌∙◌, arith, None, Some, slice_get, replicate}
use Rattle.std.specs.Prelude.{map}
use Rattle.std.proofs.lemmas.Bool.{eqb-true}
use Rattle.unix_names.specs.declared.Pid.{Pid}
use Rattle.unix_calls.specs.declared.Entry.{Entry}
use Rattle.unix_calls.specs.declared.World.{World}
use Rattle.unix_calls.specs.Valid.{IsValid}
use Rattle.process_table.specs.declared.Row.{Row}
use Rattle.kernel_model.specs.Legal.{boot, IsLegal}
use Rattle.proc_image.specs.Scripts.{nobody}
use Rattle.proc_image.specs.Follows.{first_running, Follows, started}
use Rattle.kernel_laws.proofs.Boot.{boot_sound}
use Rattle.job_plans.specs.Plans.{Plan}
use Rattle.job_laws.specs.Orders.{IsPlan, Absent, Going, is_held, none_yet}
use Rattle.job_plans.specs.Acts.{statement_of, stage_statements}
use Rattle.job_plans.specs.Worlds.{script_with, shell_start, world_with}
use Rattle.job_laws.specs.Means.{Means}
use Rattle.job_laws.specs.Theorem.{HasScripts, PlansMean}
use Rattle.job_laws.proofs.Family.{shell_row}
use Rattle.job_laws.proofs.Core.{Core}
use Rattle.job_laws.proofs.Shell.{IsWorldOf, ShellAt}
use Rattle.job_laws.proofs.ShellSteps.{set_length}
use Rattle.job_laws.proofs.Tales.{Tale}
use Rattle.job_laws.proofs.Run.{Holds}
use Rattle.job_laws.proofs.Clauses.{means}

pub last_there : {X Y : Type 0} (f : X → Y) (xs : List X) (y : Y) → slice_get (map f xs ++ y ∷ []) (length xs) ≡ Some y
last_there f [] y = refl
last_there f (x ∷ xs) y = last_there f xs y

pub mapped_there : {X Y : Type 0} (f : X → Y) (xs : List X) (y : Y) (i : ℕ) (x : X) → slice_get xs i ≡ Some x → slice_get (map f xs ++ y ∷ []) i ≡ Some (f x)
mapped_there f [] y i x e = cc
mapped_there f (z ∷ xs) y zero x e = let same : z ≡ x = cc in ap (λ z. Some (f z)) same
mapped_there f (z ∷ xs) y (suc i) x e = mapped_there f xs y i x e

many : (n x : ℕ) → length (replicate n x) ≡ n
many zero x = refl
many (suc n) x = ap suc (many n x)

module _ (nodes : ℕ) (es : List ℕ) (plan : Plan) (good : IsPlan plan) (has : HasScripts es plan) where
  abbrev pub world : World
  world = world_with nodes es plan

  abbrev pub fits : IsWorldOf world plan
  fits = record {
    top = length es;
    shell_script = last_there (λ e. script_with (stage_statements e)) es (script_with (map statement_of plan.acts));
    stage_script = λ k v script node e. mapped_there (λ e. script_with (stage_statements e)) es (script_with (map statement_of plan.acts)) script (plan.status v) (has k v script node e);
  }

  abbrev no_pid : ℕ → ℕ
  no_pid v = 0

  none : (v : ℕ) → is_held (none_yet v) ≡ true → ⊥
  none v h = cc

  core : Core world plan none_yet no_pid 0 (boot world) (first_running world)
  core = record {
    shell_there = refl;
    held = λ v h. absurd (none v h);
    nobody = λ q r e. only q r (2 == q.0) refl e;
    later = λ v l. refl;
    forked = λ v l. absurd (below v l);
    numbers = λ v l. absurd (below v l);
    apart = λ u v h. absurd (none u h);
    few = (omega arith);
  }
    where
      below : (v : ℕ) → v < 0 → ⊥
      below v l = omega (arith, l)

      only : (q : Pid) (r : Row) (b : Bool) → (2 == q.0) ≡ b → cond b (Some shell_row) None ≡ Some r → (q.0 ≡ 2) ⊎ ((v : ℕ) × (is_held (none_yet v) ≡ true) × (0 ≡ q.0))
      only q r true i e = inl (sym (eqb-true _ _ i))
      only q r false i e = cc

  shell_at : ShellAt world plan no_pid 0 [] plan.acts (first_running world)
  shell_at = record {
    at = started world (shell_start (length es) plan.count);
    runs = refl;
    script = fits.shell_script;
    split = refl;
    position = refl;
    vars = λ v l. absurd (below v l);
    room = set_length (replicate ((plan.count + 1)) nobody) plan.count 2 ∙ many ((plan.count + 1)) nobody;
  }
    where
      below : (v : ℕ) → v < 0 → ⊥
      below v l = omega (arith, l)

  tale : Tale world plan none_yet no_pid 0 [] []
  tale = record {
    told = refl;
    together = λ v l. absurd (below v l);
    reported = λ k v l. absurd (below k l);
    unreported = λ v ne. refl;
    asked = λ v e. absurd (not_going e);
  }
    where
      below : (v : ℕ) → v < 0 → ⊥
      below v l = omega (arith, l)

      not_going : Absent ≡ Going true → ⊥
      not_going e = cc

  pub begins_so : (history : List Entry) → IsValid world → IsLegal world history → Follows world history → Holds world plan fits good [] history
  begins_so history valid legal follows = record {
    state = inl (record { marks = none_yet; p = no_pid; n = 0; done = []; left = plan.acts; core = core; at = shell_at; orderly = good.orderly; tale = tale; few = omega arith });
    sound = boot_sound world valid;
    legal = legal;
    follows = follows;
  }

  pub plan_means : (history : List Entry) → IsValid world → IsLegal world history → Follows world history → Means world plan history
  plan_means history valid legal follows = means world plan fits good history (begins_so history valid legal follows)

pub plans_mean : PlansMean
plans_mean nodes es plan history good has valid legal follows = plan_means nodes es plan good has history valid legal follows
