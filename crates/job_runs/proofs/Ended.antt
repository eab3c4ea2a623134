-- The ends of stages, stage by stage.
use Rattle.std.proofs.Common.{◌≡◌, ◌<◌, ◌+◌, ℕ, List, [], ◌∷◌, ◌++◌, length, drop, get_or, refl, sym, ap, ◌∙◌, arith, append_assoc, Option}
use Rattle.std.proofs.lemmas.List.{at_drop_more}
use Rattle.unix_names.specs.declared.WaitStatus.{WaitStatus}
use Rattle.unix_calls.specs.declared.Entry.{Entry}
use Rattle.script_words.specs.Writing.{spaced}
use Rattle.job_plans.specs.declared.Stage.{Stage}
use Rattle.job_laws.specs.Reports.{reports_of}
use Rattle.job_runs.specs.Jobs.{status_of, end_words, ends_from}

-- one stage more
pub ends_more : (history : List Entry) (before after total : List ℕ) (status : Option WaitStatus) (first k : ℕ) (stages : List Stage) (d : Stage) → k < length stages
    → after ≡ before ++ spaced (end_words status) → status ≡ status_of (reports_of (first + k) history)
    → before ++ spaced (ends_from history (first + k) (drop k stages)) ≡ total → after ++ spaced (ends_from history (first + (k + 1)) (drop (k + 1) stages)) ≡ total
ends_more history before after total status first k stages d lt one is so_far =
    let place : first + (k + 1) ≡ first + k + 1 = omega arith in
    let later = ends_from history (first + k + 1) (drop (k + 1) stages) in
    let own = end_words (status_of (reports_of (first + k) history)) in
    ap (λ v. after ++ spaced (ends_from history v (drop (k + 1) stages))) place
    ∙ ap (λ xs. xs ++ spaced later) (one ∙ ap (λ s. before ++ spaced (end_words s)) is)
    ∙ append_assoc before (spaced own) (spaced later)
    ∙ ap (λ xs. before ++ xs) (sym (spaced_both own later))
    ∙ sym (at_drop_more (λ (ss : List Stage). before ++ spaced (ends_from history (first + k) ss)) stages k d lt) ∙ so_far
  where
    spaced_both : (xs ys : List (List ℕ)) → spaced (xs ++ ys) ≡ spaced xs ++ spaced ys
    spaced_both [] ys = refl
    spaced_both (x ∷ xs) ys = ap (λ zs. (32 ∷ x) ++ zs) (spaced_both xs ys) ∙ sym (append_assoc (32 ∷ x) (spaced xs) (spaced ys))
