-- which rows come and go
use Rattle.std.proofs.Common.{◌≡◌, ◌&&◌, inl, inr, ℕ, true, false, cond, List, [], ◌∷◌, refl, sym, ap, ◌∙◌, subst, None, Some}
use Rattle.std.specs.Prelude.{map}
use Rattle.std.specs.Option.{option_map, option_or}
use Rattle.unix_names.specs.declared.Pid.{Pid}
use Rattle.unix_names.specs.States.{is_living}
use Rattle.unix_calls.specs.declared.Call.TheVariants.{Fork}
use Rattle.unix_calls.specs.declared.Reply.TheVariants.{Number}
use Rattle.unix_calls.specs.declared.Entry.{Entry}
use Rattle.unix_calls.specs.declared.Entry.TheVariants.{Called, Happened}
use Rattle.process_table.specs.declared.Row.{Row}
use Rattle.process_table.specs.Rows.{is_pid, row_of, AreDistinct}
use Rattle.kernel_model.specs.Step.{process_of}
use Rattle.kernel_rules.specs.Fork.{newborn}
use Rattle.process_table.specs.Changes.{regrouped_at, leading_at}
use Rattle.list_laws.specs.Keyed.{option_filter}
use Rattle.list_laws.proofs.Finding.{at-append, comes-append}
use Rattle.kernel_laws.specs.Effects.{is_end, IsForkOf, LivingStay, OnlyForksAdd}
use Rattle.kernel_laws.proofs.Rows.{number, row_pid, row_here, row_map, row_moved}
use Rattle.kernel_laws.proofs.Legal.{actor, after_is}
use Rattle.kernel_laws.proofs.Forms.{ForksAs, Form, quiet, forked, regrouped, leading, step_form}

-- a row of the table
abbrev pub IsThere : List Row → Pid → Type 0
IsThere rows q = (c : Row) × (row_of rows q ≡ Some c)

there_map : (rows : List Row) (f : Row → Row) → ((c : Row) → (f c).pid ≡ c.pid) → (q : Pid) (c : Row) → row_of rows q ≡ Some c → IsThere (map f rows) q
there_map rows f same q c e = (f c, row_map rows f same q ∙ ap (option_map f) e)

form_stays : (rows : List Row) (r : Row) (entry : Entry) (now : List Row) (q : Pid) (c : Row) → AreDistinct rows → row_of rows q ≡ Some c → is_living c.life ≡ true → (is_end entry && is_pid r.pid c) ≡ false → Form rows r entry now → IsThere now q
form_stays rows r entry now q c distinct e a n (quiet keep f k stays is) =
    (f c, ap (λ t. row_of t q) is ∙ row_moved rows keep f k.pid distinct q ∙ ap (λ o. option_map f (option_filter keep o)) e ∙ ap (λ b. option_map f (cond b (Some c) None)) (stays c a n))
form_stays rows r entry now q c distinct e a n (forked m is unused eq) =
    (c, ap (λ t. row_of t q) eq ∙ at-append number q.0 rows (newborn r m ∷ []) ∙ ap (λ o. option_or o (row_of (newborn r m ∷ []) q)) e)
form_stays rows r entry now q c distinct e a n (regrouped p g is t eq) = subst (λ t. IsThere t q) (sym eq) (there_map rows (regrouped_at p g) (λ x. refl) q c e)
form_stays rows r entry now q c distinct e a n (leading free eq) = subst (λ t. IsThere t q) (sym eq) (there_map rows (leading_at r.pid) (λ x. refl) q c e)

pub living_stay : LivingStay
living_stay rows entry q c sound legal e lives no_end =
    let a = actor rows entry legal in
    let here = row_here rows (process_of entry) a.row a.there in
    let is : a.row.pid ≡ process_of entry = row_pid rows (process_of entry) a.row a.there in
    subst (λ t. IsThere t q) (sym (after_is rows entry a.row a.there))
    (form_stays rows a.row entry _ q c sound.distinct e lives (ap (λ p. is_end entry && is_pid p c) is ∙ no_end) (step_form rows a.row entry here a.lives a.legal))

-- ---- a row that comes
absent_map : (rows : List Row) (f : Row → Row) → ((c : Row) → (f c).pid ≡ c.pid) → (q : Pid) (c : Row) → row_of rows q ≡ None → row_of (map f rows) q ≡ Some c → ⊥
absent_map rows f same q c n e = cc (ap (option_map f) n, row_map rows f same q)

fork_of : (entry : Entry) (q : Pid) (n : ℕ) → ForksAs entry n → n ≡ q.0 → IsForkOf q entry
fork_of (Called p Fork (Number m)) q n is e = sym (is ∙ e)
fork_of (Called p Fork _) q n is e = absurd is
fork_of (Called p _ reply) q n is e = absurd is
fork_of (Happened p event) q n is e = absurd is

form_comes : (rows : List Row) (r : Row) (entry : Entry) (now : List Row) (q : Pid) (c : Row) → AreDistinct rows → row_of rows q ≡ None → row_of now q ≡ Some c → Form rows r entry now → IsForkOf q entry
form_comes rows r entry now q c distinct n e (quiet keep f k stays is) =
    absurd (cc (ap (λ o. option_map f (option_filter keep o)) n, row_moved rows keep f k.pid distinct q, ap (λ t. row_of t q) is))
form_comes rows r entry now q c distinct n e (forked m is unused eq) =
    elim (comes-append number q.0 rows c (newborn r m) (ap (λ t. row_of t q) (sym eq) ∙ e)) [ inl h ↦ absurd (cc (n, h)) | inr s ↦ fork_of entry q m is s.1 ]
form_comes rows r entry now q c distinct n e (regrouped p g is t eq) = absurd (absent_map rows (regrouped_at p g) (λ x. refl) q c n (ap (λ t. row_of t q) (sym eq) ∙ e))
form_comes rows r entry now q c distinct n e (leading free eq) = absurd (absent_map rows (leading_at r.pid) (λ x. refl) q c n (ap (λ t. row_of t q) (sym eq) ∙ e))

pub only_forks_add : OnlyForksAdd
only_forks_add rows entry q now sound legal n e =
    let a = actor rows entry legal in
    let here = row_here rows (process_of entry) a.row a.there in
    form_comes rows a.row entry _ q now sound.distinct n (ap (λ t. row_of t q) (sym (after_is rows entry a.row a.there)) ∙ e) (step_form rows a.row entry here a.lives a.legal)
