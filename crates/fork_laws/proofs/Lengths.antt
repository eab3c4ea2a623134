-- how long a table becomes
use Rattle.std.proofs.Common.{◌≡◌, ◌≤◌, ◌+◌, ◌++◌, suc, Bool, true, false, cond, List, [], ◌∷◌, length, refl, sym, ap, ◌∙◌, subst, arith, length-append, ℕ}
use Rattle.std.specs.Prelude.{map, filter}
use Rattle.unix_calls.specs.declared.Entry.{Entry}
use Rattle.unix_calls.specs.declared.Start.{Start}
use Rattle.process_table.specs.declared.Row.{Row}
use Rattle.kernel_model.specs.declared.verdict.Verdict.TheVariants.{Legal}
use Rattle.kernel_model.specs.Step.{process_of, verdict, after, row_after}
use Rattle.kernel_rules.specs.Fork.{newborn}
use Rattle.process_table.specs.Changes.{regrouped_at, leading_at}
use Rattle.kernel_model.specs.Legal.{booted, first_row}
use Rattle.kernel_model.specs.Sound.{IsSound}
use Rattle.kernel_laws.proofs.Rows.{row_here}
use Rattle.kernel_laws.proofs.Legal.{actor, after_is}
use Rattle.kernel_laws.proofs.Forms.{ForksAs, Form, quiet, forked, regrouped, leading, step_form}
use Rattle.unix_calls.specs.declared.Call.TheVariants.{Fork}
use Rattle.unix_calls.specs.declared.Reply.TheVariants.{Number}
use Rattle.unix_calls.specs.declared.Entry.TheVariants.{Called, Happened}
use Rattle.fork_laws.specs.Made.{made_by}
use Rattle.fork_laws.proofs.Made.{made-more}

same_length : (f : Row → Row) (rows : List Row) → length (map f rows) ≡ length rows
same_length f [] = refl
same_length f (r ∷ rs) = ap suc (same_length f rs)

fewer : (keep : Row → Bool) (rows : List Row) → length (filter keep rows) ≤ length rows
fewer keep [] = omega arith
fewer keep (r ∷ rs) = go (keep r) (fewer keep rs)
  where
    go : (b : Bool) → length (filter keep rs) ≤ length rs → length (cond b (r ∷ filter keep rs) (filter keep rs)) ≤ suc (length rs)
    go true h = omega arith
    go false h = omega arith

-- a fork that succeeds makes one row
forks_made : (e : Entry) (n m : ℕ) → ForksAs e n → made_by e m ≡ suc m
forks_made (Called caller Fork (Number k)) n m f = refl
forks_made (Called caller Fork _) n m f = absurd f
forks_made (Called caller _ reply) n m f = absurd f
forks_made (Happened p event) n m f = absurd f

form_short : (rows : List Row) (r : Row) (entry : Entry) (now : List Row) → Form rows r entry now → (m : ℕ) → length rows ≤ m → length now ≤ made_by entry m
form_short rows r entry now (quiet keep f k stays is) m le = let a = fewer keep rows in let b = ap (λ l. length l) is ∙ same_length f (filter keep rows) in let c = made-more entry m in omega (arith, a, b, c, le)
form_short rows r entry now (forked n forks unused is) m le = let b = ap (λ l. length l) is ∙ length-append rows (newborn r n ∷ []) in let c = forks_made entry n m forks in omega (arith, b, c, le)
form_short rows r entry now (regrouped p g to t is) m le = let b = ap (λ l. length l) is ∙ same_length (regrouped_at p g) rows in let c = made-more entry m in omega (arith, b, c, le)
form_short rows r entry now (leading free is) m le = let b = ap (λ l. length l) is ∙ same_length (leading_at r.pid) rows in let c = made-more entry m in omega (arith, b, c, le)

-- a legal step makes a table longer by what it makes
pub step_short : (rows : List Row) (e : Entry) → IsSound rows → verdict rows e ≡ Legal → (m : ℕ) → length rows ≤ m → length (after rows e) ≤ made_by e m
step_short rows e sound legal m le =
    let a = actor rows e legal in
    let here = row_here rows (process_of e) a.row a.there in
    let form = step_form rows a.row e here a.lives a.legal in
    subst (λ (l : List Row). length l ≤ made_by e m) (sym (after_is rows e a.row a.there)) (form_short rows a.row e (row_after rows a.row e) form m le)

pub booted_short : (earlier : List Row) (starts : List Start) → length (booted earlier starts) ≡ length earlier + length starts
booted_short earlier [] = omega arith
booted_short earlier (s ∷ ss) = let rest = booted_short (earlier ++ first_row earlier s ∷ []) ss in let one = length-append earlier (first_row earlier s ∷ []) in omega arith
