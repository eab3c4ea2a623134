-- the invariant at each place of a legal history that follows the scripts, and what it means there
use Rattle.std.proofs.Common.{◌≡◌, ◌⊎◌, inl, inr, ◌<◌, List, [], ◌∷◌, ◌++◌, length, refl, sym, ap, ◌∙◌, subst, arith, append-nil, append_assoc}
use Rattle.unix_calls.specs.declared.Call.TheVariants as calls
use Rattle.unix_calls.specs.declared.Entry.{Entry}
use Rattle.unix_calls.specs.declared.Entry.TheVariants.{Called}
use Rattle.unix_calls.specs.declared.World.{World}
use Rattle.process_table.specs.declared.Row.{Row}
use Rattle.kernel_model.specs.declared.verdict.Verdict.TheVariants.{Legal}
use Rattle.kernel_model.specs.Sound.{IsSound}
use Rattle.kernel_model.specs.Step.{verdict, after}
use Rattle.kernel_model.specs.Legal.{boot, after_all, after_entries, IsLegalFrom}
use Rattle.proc_image.specs.Follows.{Running, first_running, after_entry, IsInOrder, FollowsFrom, after_entries as running_after}
use Rattle.proc_image.proofs.FollowsLaws.{after_entries-push}
use Rattle.list_laws.proofs.Filters.{some_same}
use Rattle.kernel_laws.proofs.Steps.{step_keeps}
use Rattle.job_plans.specs.Plans.{Plan}
use Rattle.job_laws.specs.Orders.{IsPlan}
use Rattle.job_laws.specs.Forks.{IsStage}
use Rattle.job_laws.specs.Means.{shell_place, place_in, GetpidsComeAfter, StagesAreReported}
use Rattle.job_laws.proofs.Core.{group_at}
use Rattle.job_laws.proofs.Kept.{family, held_below}
use Rattle.job_laws.proofs.Stages.{getpid_let_go}
use Rattle.job_laws.proofs.Shell.{IsWorldOf}
use Rattle.job_laws.proofs.Tales.{Together, HasReport}
use Rattle.job_laws.proofs.Living.{Living, stage_is, stage_of, living_step, Who, by_shell, by_stage, who}
use Rattle.job_laws.proofs.Gone.{Gone, gone_step, shell_ends}

pub table_push : (rows : List Row) (history : List Entry) (entry : Entry) → after_entries rows (history ++ entry ∷ []) ≡ after (after_entries rows history) entry
table_push rows [] entry = refl
table_push rows (first ∷ history) entry = table_push (after rows first) history entry

module _ (world : World) (plan : Plan) (fits : IsWorldOf world plan) (good : IsPlan plan) where
  abbrev pub T : List Entry → List Row
  T before = after_all world before

  abbrev pub R : List Entry → Running
  R before = running_after world (first_running world) before

  abbrev pub State : List Entry → List Row → Running → Type 0
  State before rows running = Living world plan before rows running ⊎ Gone world plan before rows running

  -- all that is known at a place of a history
  pub record Holds (before later : List Entry) : Type 0 where
    pub state : State before (T before) (R before)
    pub sound : IsSound (T before)
    pub legal : IsLegalFrom (T before) later
    pub follows : FollowsFrom world (R before) later

  state_step : (before : List Entry) (entry : Entry) → State before (T before) (R before) → IsSound (T before) → verdict (T before) entry ≡ Legal → IsInOrder world (R before) entry → State (before ++ entry ∷ []) (after (T before) entry) (after_entry world (R before) entry)
  state_step before entry (inl l) sound legal order = elim (living_step world plan fits good before (T before) (R before) sound refl l entry legal order) [
    | inl next ↦ inl next
    | inr (reply, ends, is) ↦ inr (subst (λ e. Gone world plan (before ++ e ∷ []) (after (T before) e) (after_entry world (R before) e)) (sym is)
        (shell_ends world plan good before (T before) (R before) sound l ends reply (subst (λ e. verdict (T before) e ≡ Legal) is legal)))
  ]
  state_step before entry (inr g) sound legal order = inr (gone_step world plan before (T before) (R before) sound g entry legal order)

  pub one_more : (before : List Entry) (entry : Entry) (later : List Entry) → Holds before (entry ∷ later) → Holds (before ++ entry ∷ []) later
  one_more before entry later h =
      let t : T (before ++ entry ∷ []) ≡ after (T before) entry = table_push (boot world) before entry in
      let r : R (before ++ entry ∷ []) ≡ after_entry world (R before) entry = after_entries-push world (first_running world) before entry in
      let state = state_step before entry h.state h.sound h.legal.0 h.follows.0 in
      record {
        state = subst (λ x. State (before ++ entry ∷ []) x (R (before ++ entry ∷ []))) (sym t) (subst (State (before ++ entry ∷ []) (after (T before) entry)) (sym r) state);
        sound = subst IsSound (sym t) (step_keeps (T before) entry h.sound h.legal.0);
        legal = subst (λ x. IsLegalFrom x later) (sym t) h.legal.1;
        follows = subst (λ x. FollowsFrom world x later) (sym r) h.follows.1;
      }

  pub holds : (mid before later : List Entry) → Holds before (mid ++ later) → Holds (before ++ mid) later
  holds [] before later h = subst (λ b. Holds b later) (sym (append-nil before)) h
  holds (e ∷ mid) before later h = subst (λ b. Holds b later) (append_assoc before (e ∷ []) mid) (holds mid (before ++ e ∷ []) later (one_more before e (mid ++ later) h))

  -- ---- 1
  module _ (history : List Entry) (begin : Holds [] history) where
    pub here : (before later : List Entry) → history ≡ before ++ later → Holds before later
    here before later is = holds before [] later (subst (Holds []) is begin)

    pub getpids : GetpidsComeAfter world plan history
    getpids before later p reply v is stage = go (here before (Called p calls.Getpid reply ∷ later) is)
      where
        go : Holds before (Called p calls.Getpid reply ∷ later) → Together world plan before (plan.first v)
        go h = at h.state
          where
            at : State before (T before) (R before) → Together world plan before (plan.first v)
            at (inr g) = g.together v p.0 stage
            at (inl l) = by (who world plan fits good before (T before) (R before) h.sound refl l (Called p calls.Getpid reply) h.legal.0)
              where
                known : (v < l.n) × (l.p v ≡ p.0)
                known = stage_of world plan before (T before) (R before) l v p.0 stage

                by : Who world plan fits good before (T before) (R before) h.sound refl l (Called p calls.Getpid reply) → Together world plan before (plan.first v)
                by (by_shell e) = let low = l.core.numbers v known.0 in let k = known.1 in let two : p.0 ≡ 2 = ap (λ x. x.0) e in let no : ⊥ = omega (arith, low, k, two) in absurd no
                by (by_stage u held e) =
                    let told : IsStage before u p = subst (IsStage before u) (sym e) (stage_is world plan before (T before) (R before) l u h.sound held) in
                    let same : v ≡ u = some_same v u (sym stage ∙ told) in
                    let below = held_below world plan l.marks l.p l.n (T before) (R before) h.sound l.core u held in
                    let few = l.few in
                    let g = getpid_let_go world (T before) h.sound (family world plan l.marks l.p l.n (T before) (R before) h.sound l.core) (R before) (l.p u) (l.marks u) (plan.status u) (group_at (l.marks u) (l.p (plan.first u))) (l.core.held u held)
                    (l.core.numbers u below) (good.statuses u (omega (arith, below, few))) reply (subst (λ x. verdict (T before) (Called x calls.Getpid reply) ≡ Legal) e h.legal.0) (subst (λ x. IsInOrder world (R before) (Called x calls.Getpid reply)) e h.follows.0) in
                    subst (λ x. Together world plan before (plan.first x)) (sym same) (l.tale.together u below (inl g))

    -- ---- 3
    pub ends : StagesAreReported world plan history
    ends before later v k is there below = at (here before later is).state
      where
        at : State before (T before) (R before) → HasReport world plan before v k
        at (inr g) = g.reported k v there
        at (inl l) =
            let place : shell_place world before ≡ length l.done = ap place_in l.at.runs ∙ l.at.position in
            l.tale.reported k v (omega (arith, below, place)) there
