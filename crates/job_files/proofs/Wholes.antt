-- One line of a job file more.
use Rattle.std.proofs.Common.{◌≡◌, ◌+◌, ℕ, List, [], ◌∷◌, length, drop, sym, ap, ◌∙◌, arith, Result, Ok, Err}
use Rattle.std.proofs.lemmas.List.{drop_all}
use Rattle.byte_ends.specs.Text.{lines, words}
use Rattle.job_plans.specs.declared.JobFile.{JobFile}
use Rattle.job_files.specs.declared.faults.JobKind.{JobKind}
use Rattle.job_files.specs.declared.faults.JobFault.{JobFault}
use Rattle.job_files.specs.declared.drafts.Item.{Item}
use Rattle.job_files.specs.declared.drafts.Draft.{Draft}
use Rattle.job_files.specs.Kinds.{fault_at}
use Rattle.job_files.specs.MethodReading.{line_says, with_item, file_of, read_next, read_from}

-- behind the last line there is none
pub no_lines : (text : List ℕ) (at : ℕ) → at ≡ length text → lines (drop at text) ≡ []
no_lines text at e = ap lines (drop_all at text (omega (arith, e)))

module _ (draft : Draft) (number : ℕ) (line : List ℕ) (rest : List (List ℕ)) where
  next_says : (it : Item) → line_says draft line ≡ Ok it → read_from draft number (line ∷ rest) ≡ read_from (with_item draft (words line) it) (number + 1) rest
  next_says it e = ap (read_next number (λ it. read_from (with_item draft (words line) it) (number + 1) rest)) e

  next_fails : (kind : JobKind) → line_says draft line ≡ Err kind → read_from draft number (line ∷ rest) ≡ Err (fault_at number kind)
  next_fails kind e = ap (read_next number (λ it. read_from (with_item draft (words line) it) (number + 1) rest)) e

module _ (text : List ℕ) (at next : ℕ) (line : List ℕ) (first : lines (drop at text) ≡ line ∷ lines (drop next text)) (draft : Draft) (number : ℕ) (total : Result JobFile JobFault)
    (so_far : read_from draft number (lines (drop at text)) ≡ total) where
  pub more : (it : Item) → line_says draft line ≡ Ok it → read_from (with_item draft (words line) it) (number + 1) (lines (drop next text)) ≡ total
  more it e = sym (next_says draft number line (lines (drop next text)) it e) ∙ sym (ap (read_from draft number) first) ∙ so_far

  pub fails : (kind : JobKind) → line_says draft line ≡ Err kind → Err (fault_at number kind) ≡ total
  fails kind e = sym (next_fails draft number line (lines (drop next text)) kind e) ∙ sym (ap (read_from draft number) first) ∙ so_far

pub ends : (text : List ℕ) (at : ℕ) (draft : Draft) (number : ℕ) (total : Result JobFile JobFault) → at ≡ length text → read_from draft number (lines (drop at text)) ≡ total → total ≡ Ok (file_of draft)
ends text at draft number total end so_far = sym so_far ∙ ap (read_from draft number) (no_lines text at end)
