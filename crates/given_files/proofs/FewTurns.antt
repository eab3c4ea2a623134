-- A schedule that is read stands for few turns, and what an input means can be run.
use Rattle.std.proofs.Common.{◌≡◌, ◌≤◌, ℕ, ◌+◌, Bool, true, false, List, [], ◌∷◌, ◌++◌, refl, sym, ap, subst, ◌∙◌, arith, Option, Some, None, Result, Ok, Err}
use Rattle.std.specs.Prelude.{fold, nat_le, if◌then◌else◌}
use Rattle.std.specs.Str.{is_utf8}
use Rattle.std.proofs.lemmas.Bool.{leb-true}
use Rattle.byte_ends.specs.Text.{lines, words}
use Rattle.unix_calls.specs.declared.Turn.{Turn}
use Rattle.unix_calls.specs.declared.Turn.TheVariants.{Auto}
use Rattle.unix_calls.specs.declared.limits.TheConstants.{MOST_TURNS}
use Rattle.unix_calls.specs.Turns.{turns_in, turns_total}
use Rattle.file_parts.specs.Parts.{schedule_lines}
use Rattle.script_words.specs.declared.faults.Fault.{Fault}
use Rattle.script_words.specs.declared.faults.Kind.{Kind}
use Rattle.script_words.specs.declared.faults.Kind.TheVariants.{NotUtf8, TooManyTurns}
use Rattle.script_words.specs.Words.{◌>>=◌, is_skipped}
use Rattle.run_text.specs.Schedule.{SoFar, added, after_line, turns_of, turn_of, read_turn, counted, schedule}
use Rattle.given_files.specs.declared.input.Given.{Given}
use Rattle.given_files.specs.Input.{schedule_first, turns_given, Means, CanBeRun}

-- turns that are counted: as many as they stand for, and not too many
record IsCounted (s : SoFar) : Type 0 where
  count : turns_total s.turns ≡ s.count
  few : s.count ≤ MOST_TURNS

total_more : (turns : List Turn) (turn : Turn) → turns_total (turns ++ turn ∷ []) ≡ turns_total turns + turns_in turn
total_more [] turn = omega arith
total_more (t ∷ turns) turn = let more = total_more turns turn in omega (arith, more)

ok_same : {A E : Type 0} (r : Result A E) (x y : A) → r ≡ Ok x → r ≡ Ok y → x ≡ y
ok_same r x y e e' = cc

err_ok : {A E : Type 0} (x : E) (y : A) → Err x ≡ Ok y → ⊥
err_ok x y e = cc

some_same : {A : Type 0} (x y : A) → Some x ≡ Some y → x ≡ y
some_same x y e = cc

counted_few : (before : ℕ) (turn turn' : Turn) → counted before turn ≡ Ok (Some turn') → before + turns_in turn' ≤ MOST_TURNS
unfolding counted
counted_few before turn turn' e = go (nat_le (before + turns_in turn) MOST_TURNS) refl e
  where
    go : (b : Bool) → nat_le (before + turns_in turn) MOST_TURNS ≡ b → (if b then Ok (Some turn) else Err TooManyTurns) ≡ Ok (Some turn') → before + turns_in turn' ≤ MOST_TURNS
    go true h e' = subst (λ t. before + turns_in t ≤ MOST_TURNS) (some_same turn turn' (ok_same _ (Some turn) (Some turn') refl e')) (leb-true (before + turns_in turn) MOST_TURNS h)
    go false h e' = absurd (err_ok TooManyTurns (Some turn') e')

read_few : (nodes before : ℕ) (line : List ℕ) (turn : Turn) → read_turn nodes before line ≡ Ok (Some turn) → before + turns_in turn ≤ MOST_TURNS
unfolding read_turn
read_few nodes before line turn e = at_text (is_utf8 line) e
  where
    at_turn : (r : Result Turn Kind) → (r >>= λ t. counted before t) ≡ Ok (Some turn) → before + turns_in turn ≤ MOST_TURNS
    at_turn (Ok t) e' = counted_few before t turn e'
    at_turn (Err kind) e' = absurd (err_ok kind (Some turn) e')

    none_some : None ≡ Some turn → ⊥
    none_some h = cc

    at_words : (b : Bool) → (if b then Ok None else (turn_of nodes (words line) >>= λ t. counted before t)) ≡ Ok (Some turn) → before + turns_in turn ≤ MOST_TURNS
    at_words true e' = absurd (none_some (ok_same _ None (Some turn) refl e'))
    at_words false e' = at_turn (turn_of nodes (words line)) e'

    at_text : (b : Bool) → (if b then (if is_skipped (words line) then Ok None else (turn_of nodes (words line) >>= λ t. counted before t)) else Err NotUtf8) ≡ Ok (Some turn) → before + turns_in turn ≤ MOST_TURNS
    at_text true e' = at_words (is_skipped (words line)) e'
    at_text false e' = absurd (err_ok NotUtf8 (Some turn) e')

fault_stays : (nodes : ℕ) (fault : Fault) (ls : List (List ℕ)) → fold (after_line nodes) (Err fault) ls ≡ Err fault
fault_stays nodes fault [] = refl
fault_stays nodes fault (l ∷ ls) = fault_stays nodes fault ls

step_on : (nodes : ℕ) (ls : List (List ℕ)) (s s' : SoFar) → ((t : SoFar) → IsCounted t → fold (after_line nodes) (Ok t) ls ≡ Ok s' → IsCounted s') → IsCounted s
    → (r : Result (Option Turn) Kind) → ((turn : Turn) → r ≡ Ok (Some turn) → s.count + turns_in turn ≤ MOST_TURNS) → fold (after_line nodes) (added s r) ls ≡ Ok s' → IsCounted s'
step_on nodes ls s s' rest c (Err kind) few e =
    absurd (err_ok (record { line = s.number; kind = kind }) s' (sym (fault_stays nodes (record { line = s.number; kind = kind }) ls) ∙ e))
step_on nodes ls s s' rest c (Ok None) few e = rest (record { turns = s.turns; count = s.count; number = s.number + 1 }) (record { count = c.count; few = c.few }) e
step_on nodes ls s s' rest c (Ok (Some turn)) few e =
    rest (record { turns = s.turns ++ turn ∷ []; count = s.count + turns_in turn; number = s.number + 1 })
    (record { count = total_more s.turns turn ∙ ap (λ n. n + turns_in turn) c.count; few = few turn refl }) e

counted_on : (nodes : ℕ) (ls : List (List ℕ)) (s s' : SoFar) → IsCounted s → fold (after_line nodes) (Ok s) ls ≡ Ok s' → IsCounted s'
counted_on nodes [] s s' c e = subst IsCounted (ok_same _ s s' refl e) c
counted_on nodes (l ∷ ls) s s' c e =
    step_on nodes ls s s' (λ t ct et. counted_on nodes ls t s' ct et) c (read_turn nodes s.count l) (λ turn h. read_few nodes s.count l turn h) e

turns_of_ok : (r : Result SoFar Fault) (turns : List Turn) → turns_of r ≡ Ok turns → (s : SoFar) × (r ≡ Ok s) × (s.turns ≡ turns)
turns_of_ok (Ok s) turns e = (s, refl, ok_same _ s.turns turns refl e)
turns_of_ok (Err fault) turns e = absurd (err_ok fault turns e)

-- a schedule that is read stands for at most 200,000 turns
few_turns : (nodes number : ℕ) (ls : List (List ℕ)) (turns : List Turn) → schedule nodes number ls ≡ Ok turns → turns_total turns ≤ MOST_TURNS
unfolding schedule
few_turns nodes number ls turns e =
    let first : SoFar = record { turns = []; count = 0; number = number } in
    let last = turns_of_ok (fold (after_line nodes) (Ok first) ls) turns e in
    let c = counted_on nodes ls first last.0 (record { count = refl; few = omega arith }) last.1 in
    subst (λ ts. turns_total ts ≤ MOST_TURNS) last.2 (subst (λ n. n ≤ MOST_TURNS) (sym c.count) c.few)

few_given : (nodes number : ℕ) (ls : Option (List (List ℕ))) (turns : List Turn) → turns_given nodes number ls ≡ Ok turns → turns_total turns ≤ MOST_TURNS
few_given nodes number None turns e = subst (λ ts. turns_total ts ≤ MOST_TURNS) (ok_same _ (Auto MOST_TURNS ∷ []) turns refl e) (omega arith)
few_given nodes number (Some ls) turns e = few_turns nodes number ls turns e

-- what an input means can be run
pub can_run : (input : List ℕ) (g : Given) → Means input g → CanBeRun g
can_run input g m = record {
  valid = m.world.valid;
  few_turns = few_given g.world.nodes (schedule_first input) (schedule_lines (lines input)) g.turns m.turns;
}
