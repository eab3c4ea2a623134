-- The reports of a history, entry by entry.
use Rattle.std.proofs.Common.{◌≡◌, ◌<◌, ◌+◌, ◌==◌, ℕ, Bool, List, [], ◌∷◌, ◌++◌, length, drop, get_or, refl, sym, ap, ◌∙◌, arith, Option, Some, None}
use Rattle.std.specs.List.{filter}
use Rattle.std.proofs.lemmas.List.{at_drop_more}
use Rattle.std.proofs.lemmas.List.Elements.{filter-append}
use Rattle.unix_names.specs.declared.WaitStatus.{WaitStatus}
use Rattle.unix_calls.specs.declared.Entry.{Entry}
use Rattle.job_laws.specs.Forks.{with_fork}
use Rattle.job_laws.specs.Reports.{Report, reported, reports_from}
use Rattle.job_runs.specs.Jobs.{status_of}

-- the first of reports of which there is one in front
first_here : (xs ys : List Report) (s : WaitStatus) → status_of xs ≡ Some s → status_of (xs ++ ys) ≡ Some s
first_here [] ys s e = cc
first_here (x ∷ xs) ys s e = e

-- or of which there is none in front
first_later : (xs ys : List Report) → status_of xs ≡ None → status_of (xs ++ ys) ≡ status_of ys
first_later [] ys e = refl
first_later (x ∷ xs) ys e = cc

module _ (stage : ℕ) (told : List ℕ) (history : List Entry) (i : ℕ) (d : Entry) (lt : i < length history) (total : Option WaitStatus) where
  abbrev is_its : Report → Bool
  is_its r = r.stage == stage

  abbrev now : List Report
  now = reported told (get_or history i d)

  abbrev later : List Report
  later = reports_from (with_fork told (get_or history i d)) (drop (i + 1) history)

  in_two : status_of (filter is_its (reports_from told (drop i history))) ≡ status_of (filter is_its now ++ filter is_its later)
  in_two = ap (λ xs. status_of (filter is_its xs)) (at_drop_more (reports_from told) history i d lt) ∙ ap status_of (filter-append is_its now later)

  -- this entry reports its end
  pub report_here : (s : WaitStatus) → status_of (filter is_its (reports_from told (drop i history))) ≡ total → status_of (filter is_its now) ≡ Some s → total ≡ Some s
  report_here s so_far e = sym so_far ∙ in_two ∙ first_here (filter is_its now) (filter is_its later) s e

  -- it doesn't
  pub report_later : status_of (filter is_its (reports_from told (drop i history))) ≡ total → status_of (filter is_its now) ≡ None → status_of (filter is_its later) ≡ total
  report_later so_far e = sym (first_later (filter is_its now) (filter is_its later) e) ∙ sym in_two ∙ so_far
