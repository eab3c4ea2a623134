-- the fault of a schedule that is told is the least one
use Rattle.std.proofs.Common.{◌≡◌, ◌⊎◌, inl, inr, ℕ, zero, suc, ◌+◌, ◌<◌, ◌≤◌, nat_le, true, false, List, [], ◌∷◌, ◌++◌, take, fold, refl, ap, sym, subst, ◌∙◌, arith, Option, Some, None, Result, Ok, Err}
use Rattle.unix_calls.specs.declared.limits.TheConstants.{MOST_TURNS}
use Rattle.std.specs.Prelude.{slice_get}
use Rattle.std.specs.Str.{is_utf8}
use Rattle.std.proofs.lemmas.Bool.{cases_Bool}
use Rattle.std.proofs.lemmas.Bool.Decides.{nat_tests}
use Rattle.byte_ends.specs.Text.{words}
use Rattle.unix_calls.specs.declared.Turn.{Turn}
use Rattle.unix_calls.specs.Turns.{turns_in}
use Rattle.script_words.specs.declared.Kind.{Kind}
use Rattle.script_words.specs.declared.Kind.TheVariants.{NotUtf8, TooManyTurns}
use Rattle.script_words.specs.declared.Fault.{Fault}
use Rattle.script_words.specs.Words.{Row, ◌>>=◌, is_skipped}
use Rattle.run_text.specs.Schedule.{SoFar, turn_of, counted, read_turn, added, after_line, turns_of, schedule}
use Rattle.run_text.specs.Faults.{IsWrong, CountsAs, SumTo, Aspect, text, wording, turns, rank, HasFault, IsNotBefore, IsLeastFault, LeastIsTold}
use Rattle.run_text.proofs.FaultWords.{some_words, Told, turn_told, is_wrong_same, says_count, skipped_unsaid}

-- ---- sums of turns
counts_one : (line : List ℕ) (a b : ℕ) → CountsAs line a → CountsAs line b → a ≡ b
counts_one line a b (inl x) (inl y) = x.2 ∙ says_count (words line) x.0 y.0 x.1 y.1 ∙ sym y.2
counts_one line a b (inl x) (inr y) = absurd (y.0 x.0 x.1)
counts_one line a b (inr x) (inl y) = absurd (x.0 y.0 y.1)
counts_one line a b (inr x) (inr y) = x.1 ∙ sym y.1

-- ---- faults behind so many turns
-- a fault of these lines, where so many turns stand before them
abbrev HasFaultFrom : ℕ → ℕ → List (List ℕ) → ℕ → Aspect → Kind → Type 0
HasFaultFrom nodes before lines k turns kind =
    (kind ≡ TooManyTurns) × (line : List ℕ) × (slice_get lines k ≡ Some line) × (total : ℕ) × SumTo (take (suc k) lines) total × (MOST_TURNS < before + total)
HasFaultFrom nodes before lines k text kind = HasFault nodes lines k text kind
HasFaultFrom nodes before lines k wording kind = HasFault nodes lines k wording kind

record LeastFrom (nodes before first : ℕ) (lines : List (List ℕ)) (fault : Fault) : Type 0 where
  k : ℕ
  aspect : Aspect
  at_line : fault.line ≡ first + k
  is : HasFaultFrom nodes before lines k aspect fault.kind
  least : (k' : ℕ) (aspect' : Aspect) (kind' : Kind) → HasFaultFrom nodes before lines k' aspect' kind' → IsNotBefore k aspect fault.kind k' aspect' kind'

some_same : {A : Type 0} (x y : A) → Some x ≡ Some y → x ≡ y
some_same x y e = cc

err_same : {A : Type 0} (x y : Fault) → ◌≡◌ {A = Result A Fault} (Err x) (Err y) → x ≡ y
err_same x y e = cc

module _ (nodes : ℕ) (l : List ℕ) (ls : List (List ℕ)) (before count : ℕ) (counts : CountsAs l count) where
  -- a fault of a later line is one of the lines behind the first
  behind : (k : ℕ) (aspect : Aspect) (kind : Kind) → HasFaultFrom nodes before (l ∷ ls) (suc k) aspect kind → HasFaultFrom nodes (before + count) ls k aspect kind
  behind k text kind h = h
  behind k wording kind h = h
  behind k turns kind (e, line, at, total, (one, more, c, rest, sum), much) =
      let same = counts_one l one count c counts in
      (e, line, at, more, rest, omega (arith, same, sum, much))

  ahead : (k : ℕ) (aspect : Aspect) (kind : Kind) → HasFaultFrom nodes (before + count) ls k aspect kind → HasFaultFrom nodes before (l ∷ ls) (suc k) aspect kind
  ahead k text kind h = h
  ahead k wording kind h = h
  ahead k turns kind (e, line, at, total, rest, much) = (e, line, at, count + total, (count, total, counts, rest, refl), omega (arith, much))

-- ---- a line without a fault
record Clean (nodes before : ℕ) (l : List ℕ) (count : ℕ) : Type 0 where
  counts : CountsAs l count
  few : before + count ≤ MOST_TURNS
  utf8 : is_utf8 l ≡ true
  right : (kind : Kind) → ¬ IsWrong nodes (words l) kind

no_fault_here : (nodes before : ℕ) (l : List ℕ) (ls : List (List ℕ)) (count : ℕ) → Clean nodes before l count → (aspect : Aspect) (kind : Kind) → HasFaultFrom nodes before (l ∷ ls) zero aspect kind → ⊥
no_fault_here nodes before l ls count c text kind (e, line, at, broken) =
    let same = some_same l line at in
    let clash : true ≡ false = sym c.utf8 ∙ ap is_utf8 same ∙ broken in absurd (cc)
no_fault_here nodes before l ls count c wording kind (line, at, wrong) = c.right kind (subst (λ x. IsWrong nodes (words x) kind) (sym (some_same l line at)) wrong)
no_fault_here nodes before l ls count c turns kind (e, line, at, total, (one, more, k, rest, sum), much) =
    let same = counts_one l one count k c.counts in
    let few = c.few in
    omega (arith, same, sum, rest, few, much)

-- the least fault behind a line without one is the least of all
least_behind : (nodes before first count : ℕ) (l : List ℕ) (ls : List (List ℕ)) (fault : Fault) → Clean nodes before l count → LeastFrom nodes (before + count) (first + 1) ls fault → LeastFrom nodes before first (l ∷ ls) fault
least_behind nodes before first count l ls fault c f = record {
  k = suc f.k;
  aspect = f.aspect;
  at_line = omega (arith, f.at_line);
  is = ahead nodes l ls before count c.counts f.k f.aspect fault.kind f.is;
  least = least;
}
  where
    on : (k' : ℕ) (aspect' : Aspect) (kind' : Kind) → IsNotBefore f.k f.aspect fault.kind k' aspect' kind' → IsNotBefore (suc f.k) f.aspect fault.kind (suc k') aspect' kind'
    on k' aspect' kind' (inl lt) = inl (omega arith)
    on k' aspect' kind' (inr (inl (e, r))) = inr (inl (ap suc e, r))
    on k' aspect' kind' (inr (inr (e, a, b))) = inr (inr (ap suc e, a, b))

    least : (k' : ℕ) (aspect' : Aspect) (kind' : Kind) → HasFaultFrom nodes before (l ∷ ls) k' aspect' kind' → IsNotBefore (suc f.k) f.aspect fault.kind k' aspect' kind'
    least zero aspect' kind' h = absurd (no_fault_here nodes before l ls count c aspect' kind' h)
    least (suc k') aspect' kind' h = on k' aspect' kind' (f.least k' aspect' kind' (behind nodes l ls before count c.counts k' aspect' kind' h))

-- ---- what a line says
-- it has no fault, and adds so many turns; or it has this fault, and none before it
abbrev LineTold : ℕ → ℕ → List ℕ → Result (Option Turn) Kind → Type 0
LineTold nodes before l (Ok None) = Clean nodes before l 0
LineTold nodes before l (Ok (Some t)) = Clean nodes before l (turns_in t)
LineTold nodes before l (Err kind) =
    ((kind ≡ NotUtf8) × (is_utf8 l ≡ false))
    ⊎ ((is_utf8 l ≡ true) × IsWrong nodes (words l) kind)
    ⊎ ((kind ≡ TooManyTurns) × (is_utf8 l ≡ true) × ((other : Kind) → ¬ IsWrong nodes (words l) other) × (count : ℕ) × CountsAs l count × (MOST_TURNS < before + count))

skipped_right : (nodes : ℕ) (row : Row) (kind : Kind) → is_skipped row ≡ true → IsWrong nodes row kind → ⊥
skipped_right nodes [] kind s w = w
skipped_right nodes (x ∷ ws) kind s w = let broken = w.0 in absurd (cc)

counted_told : (nodes before : ℕ) (l : List ℕ) (t : Turn) → is_utf8 l ≡ true → Told nodes (words l) (Ok t) → LineTold nodes before l (counted before t)
unfolding counted
counted_told nodes before l t u told = elim (cases_Bool (nat_le (before + turns_in t) MOST_TURNS)) [
  | inl le ↦ rw le (record { counts = inl (t, told.0, refl); few = grind (arith, nat_tests); utf8 = u; right = told.1 })
  | inr more ↦ rw more (inr (inr (refl, u, told.1, turns_in t, inl (t, told.0, refl), grind (arith, nat_tests))))
]

read_told : (nodes before : ℕ) (l : List ℕ) (r : Result Turn Kind) → is_utf8 l ≡ true → Told nodes (words l) r → LineTold nodes before l (r >>= λ t. counted before t)
read_told nodes before l (Ok t) u told = counted_told nodes before l t u told
read_told nodes before l (Err kind) u told = inr (inl (u, told))

line_told : (nodes before : ℕ) (l : List ℕ) → before ≤ MOST_TURNS → LineTold nodes before l (read_turn nodes before l)
unfolding read_turn
line_told nodes before l few = elim (cases_Bool (is_utf8 l)) [
  | inr broken ↦ rw broken (inl (refl, broken))
  | inl utf8 ↦ rw utf8 (elim (cases_Bool (is_skipped (words l))) [
    | inl skip ↦ rw skip (record {
      counts = inr (λ t. skipped_unsaid (words l) t skip, refl);
      few = omega arith;
      utf8 = utf8;
      right = λ kind. skipped_right nodes (words l) kind skip;
    })
    | inr said ↦ rw said (read_told nodes before l (turn_of nodes (words l)) utf8 (turn_told nodes (words l) (some_words l) said))
  ])
]

-- ---- a fault of the first line is the least
module _ (nodes before first : ℕ) (l : List ℕ) (ls : List (List ℕ)) where
  utf8_here : (line : List ℕ) → is_utf8 l ≡ true → slice_get (l ∷ ls) zero ≡ Some line → is_utf8 line ≡ false → ⊥
  utf8_here line u at broken = let clash : true ≡ false = sym u ∙ ap is_utf8 (some_same l line at) ∙ broken in absurd (cc)

  wrong_here : (line : List ℕ) (kind : Kind) → slice_get (l ∷ ls) zero ≡ Some line → IsWrong nodes (words line) kind → IsWrong nodes (words l) kind
  wrong_here line kind at wrong = subst (λ x. IsWrong nodes (words x) kind) (sym (some_same l line at)) wrong

  least_here : (kind : Kind) → LineTold nodes before l (Err kind) → LeastFrom nodes before first (l ∷ ls) (record { line = first; kind = kind })
  least_here kind (inl (e, broken)) = record { k = zero; aspect = text; at_line = omega arith; is = (e, l, refl, broken); least = least }
    where
      least : (k' : ℕ) (aspect' : Aspect) (kind' : Kind) → HasFaultFrom nodes before (l ∷ ls) k' aspect' kind' → IsNotBefore zero text kind k' aspect' kind'
      least zero text kind' h = inr (inr (refl, refl, h.0 ∙ sym e))
      least zero wording kind' h = inr (inl (refl, omega arith))
      least zero turns kind' h = inr (inl (refl, omega arith))
      least (suc k') aspect' kind' h = inl (omega arith)
  least_here kind (inr (inl (u, wrong))) = record { k = zero; aspect = wording; at_line = omega arith; is = (l, refl, wrong); least = least }
    where
      least : (k' : ℕ) (aspect' : Aspect) (kind' : Kind) → HasFaultFrom nodes before (l ∷ ls) k' aspect' kind' → IsNotBefore zero wording kind k' aspect' kind'
      least zero text kind' (e, line, at, broken) = absurd (utf8_here line u at broken)
      least zero wording kind' (line, at, w) = inr (inr (refl, refl, is_wrong_same nodes (words l) kind' kind (wrong_here line kind' at w) wrong))
      least zero turns kind' h = inr (inl (refl, omega arith))
      least (suc k') aspect' kind' h = inl (omega arith)
  least_here kind (inr (inr (e, u, right, count, counts, much))) = record {
    k = zero;
    aspect = turns;
    at_line = omega arith;
    is = (e, l, refl, count, (count, 0, counts, refl, omega arith), much);
    least = least;
  }
    where
      least : (k' : ℕ) (aspect' : Aspect) (kind' : Kind) → HasFaultFrom nodes before (l ∷ ls) k' aspect' kind' → IsNotBefore zero turns kind k' aspect' kind'
      least zero text kind' (e', line, at, broken) = absurd (utf8_here line u at broken)
      least zero wording kind' (line, at, w) = absurd (right kind' (wrong_here line kind' at w))
      least zero turns kind' h = inr (inr (refl, refl, h.0 ∙ sym e))
      least (suc k') aspect' kind' h = inl (omega arith)

-- ---- all lines
fault_stays : (nodes : ℕ) (fault : Fault) (ls : List (List ℕ)) → fold (after_line nodes) (Err fault) ls ≡ Err fault
fault_stays nodes fault [] = refl
fault_stays nodes fault (l ∷ ls) = fault_stays nodes fault ls

ok_err : {A : Type 0} (x : A) (y : Fault) → ◌≡◌ {A = Result A Fault} (Ok x) (Err y) → ⊥
ok_err x y e = cc

abbrev Rest : ℕ → List (List ℕ) → Fault → Type 0
Rest nodes ls fault = (t : SoFar) → t.count ≤ MOST_TURNS → turns_of (fold (after_line nodes) (Ok t) ls) ≡ Err fault → LeastFrom nodes t.count t.number ls fault

told_next : (nodes : ℕ) (l : List ℕ) (ls : List (List ℕ)) (s : SoFar) (fault : Fault) → Rest nodes ls fault → (r : Result (Option Turn) Kind) → LineTold nodes s.count l r
    → turns_of (fold (after_line nodes) (added s r) ls) ≡ Err fault → LeastFrom nodes s.count s.number (l ∷ ls) fault
told_next nodes l ls s fault rest (Err kind) told e =
    let f : Fault = record { line = s.number; kind = kind } in
    subst (LeastFrom nodes s.count s.number (l ∷ ls)) (err_same f fault (sym (ap turns_of (fault_stays nodes f ls)) ∙ e)) (least_here nodes s.count s.number l ls kind told)
told_next nodes l ls s fault rest (Ok None) c e =
    let t : SoFar = record { turns = s.turns; count = s.count; number = s.number + 1 } in
    let none : s.count ≡ s.count + 0 = omega arith in
    least_behind nodes s.count s.number 0 l ls fault c (subst (λ n. LeastFrom nodes n (s.number + 1) ls fault) none (rest t (omega (arith, c.few)) e))
told_next nodes l ls s fault rest (Ok (Some turn)) c e =
    let t : SoFar = record { turns = s.turns ++ turn ∷ []; count = s.count + turns_in turn; number = s.number + 1 } in
    least_behind nodes s.count s.number (turns_in turn) l ls fault c (rest t c.few e)

told_least : (nodes : ℕ) (ls : List (List ℕ)) (fault : Fault) → Rest nodes ls fault
told_least nodes [] fault s few e = absurd (ok_err s.turns fault e)
told_least nodes (l ∷ ls) fault s few e = told_next nodes l ls s fault (told_least nodes ls fault) (read_turn nodes s.count l) (line_told nodes s.count l few) e

-- lines that are read have no fault
abbrev NoFaults : ℕ → List (List ℕ) → List Turn → Type 0
NoFaults nodes ls ts = (t : SoFar) → t.count ≤ MOST_TURNS → turns_of (fold (after_line nodes) (Ok t) ls) ≡ Ok ts → (k : ℕ) (aspect : Aspect) (kind : Kind) → HasFaultFrom nodes t.count ls k aspect kind → ⊥

nothing_at : (k : ℕ) (line : List ℕ) → slice_get [] k ≡ Some line → ⊥
nothing_at zero line e = cc
nothing_at (suc k) line e = cc

none_next : (nodes : ℕ) (l : List ℕ) (ls : List (List ℕ)) (s : SoFar) (ts : List Turn) → NoFaults nodes ls ts → (r : Result (Option Turn) Kind) → LineTold nodes s.count l r
    → turns_of (fold (after_line nodes) (added s r) ls) ≡ Ok ts → (k : ℕ) (aspect : Aspect) (kind : Kind) → HasFaultFrom nodes s.count (l ∷ ls) k aspect kind → ⊥
none_next nodes l ls s ts rest (Err kind') told e k aspect kind h =
    let f : Fault = record { line = s.number; kind = kind' } in
    ok_err ts f (sym e ∙ ap turns_of (fault_stays nodes f ls))
none_next nodes l ls s ts rest (Ok None) c e zero aspect kind h = no_fault_here nodes s.count l ls 0 c aspect kind h
none_next nodes l ls s ts rest (Ok None) c e (suc k) aspect kind h =
    let t : SoFar = record { turns = s.turns; count = s.count; number = s.number + 1 } in
    let none : s.count + 0 ≡ s.count = omega arith in
    rest t (omega (arith, c.few)) e k aspect kind (subst (λ n. HasFaultFrom nodes n ls k aspect kind) none (behind nodes l ls s.count 0 c.counts k aspect kind h))
none_next nodes l ls s ts rest (Ok (Some turn)) c e zero aspect kind h = no_fault_here nodes s.count l ls (turns_in turn) c aspect kind h
none_next nodes l ls s ts rest (Ok (Some turn)) c e (suc k) aspect kind h =
    let t : SoFar = record { turns = s.turns ++ turn ∷ []; count = s.count + turns_in turn; number = s.number + 1 } in
    rest t c.few e k aspect kind (behind nodes l ls s.count (turns_in turn) c.counts k aspect kind h)

none_told : (nodes : ℕ) (ls : List (List ℕ)) (ts : List Turn) → NoFaults nodes ls ts
none_told nodes [] ts s few e k text kind h = nothing_at k h.1 h.2
none_told nodes [] ts s few e k wording kind h = nothing_at k h.0 h.1
none_told nodes [] ts s few e k turns kind h = nothing_at k h.1 h.2
none_told nodes (l ∷ ls) ts s few e k aspect kind h = none_next nodes l ls s ts (none_told nodes ls ts) (read_turn nodes s.count l) (line_told nodes s.count l few) e k aspect kind h

-- ---- the theorem
from_none : (nodes : ℕ) (ls : List (List ℕ)) (k : ℕ) (aspect : Aspect) (kind : Kind) → HasFault nodes ls k aspect kind → HasFaultFrom nodes 0 ls k aspect kind
from_none nodes ls k text kind h = h
from_none nodes ls k wording kind h = h
from_none nodes ls k turns kind (e, line, at, total, sum, much) = (e, line, at, total, sum, omega arith)

to_none : (nodes : ℕ) (ls : List (List ℕ)) (k : ℕ) (aspect : Aspect) (kind : Kind) → HasFaultFrom nodes 0 ls k aspect kind → HasFault nodes ls k aspect kind
to_none nodes ls k text kind h = h
to_none nodes ls k wording kind h = h
to_none nodes ls k turns kind (e, line, at, total, sum, much) = (e, line, at, total, sum, omega arith)

abbrev start : ℕ → SoFar
start number = record { turns = []; count = 0; number = number }

is_least : (nodes first : ℕ) (ls : List (List ℕ)) (fault : Fault) → schedule nodes first ls ≡ Err fault → IsLeastFault nodes first ls fault
unfolding schedule
is_least nodes first ls fault e =
    let f = told_least nodes ls fault (start first) (omega arith) e in
    record {
      k = f.k;
      aspect = f.aspect;
      at_line = f.at_line;
      is = to_none nodes ls f.k f.aspect fault.kind f.is;
      least = λ k' aspect' kind' h. f.least k' aspect' kind' (from_none nodes ls k' aspect' kind' h);
    }

no_fault : (nodes first : ℕ) (ls : List (List ℕ)) (ts : List Turn) → schedule nodes first ls ≡ Ok ts → (k : ℕ) (aspect : Aspect) (kind : Kind) → HasFault nodes ls k aspect kind → ⊥
unfolding schedule
no_fault nodes first ls ts e k aspect kind h = none_told nodes ls ts (start first) (omega arith) e k aspect kind (from_none nodes ls k aspect kind h)

-- two least faults are one: neither is before the other
one_least : (nodes first : ℕ) (ls : List (List ℕ)) (a b : Fault) → IsLeastFault nodes first ls a → IsLeastFault nodes first ls b → a ≡ b
one_least nodes first ls a b x y = go (x.least y.k y.aspect b.kind y.is) (y.least x.k x.aspect a.kind x.is)
  where
    same : y.k ≡ x.k → b.kind ≡ a.kind → a ≡ b
    same e f =
        let n : a.line ≡ b.line = x.at_line ∙ ap (λ (m : ℕ). first + m) (sym e) ∙ sym y.at_line in
        let A : Fault = record { line = a.line; kind = a.kind } in
        let B : Fault = record { line = b.line; kind = b.kind } in
        let is : A ≡ B = cc in
        is

    go : IsNotBefore x.k x.aspect a.kind y.k y.aspect b.kind → IsNotBefore y.k y.aspect b.kind x.k x.aspect a.kind → a ≡ b
    go (inr (inr (e, f, g))) q = same e g
    go (inl lt) (inl gt) = absurd (omega arith)
    go (inl lt) (inr (inl (e, r))) = absurd (omega arith)
    go (inl lt) (inr (inr (e, f, g))) = absurd (omega arith)
    go (inr (inl (e, r))) (inl gt) = absurd (omega arith)
    go (inr (inl (e, r))) (inr (inl (f, s))) = absurd (omega arith)
    go (inr (inl (e, r))) (inr (inr (f, g, h))) = let k : rank x.aspect ≡ rank y.aspect = ap rank g in absurd (omega arith)

pub least_told : LeastIsTold
least_told nodes first ls fault = (is_least nodes first ls fault, told)
  where
    told : IsLeastFault nodes first ls fault → schedule nodes first ls ≡ Err fault
    told l = go (schedule nodes first ls) refl
      where
        go : (r : Result (List Turn) Fault) → schedule nodes first ls ≡ r → schedule nodes first ls ≡ Err fault
        go (Ok ts) e = absurd (no_fault nodes first ls ts e l.k l.aspect fault.kind l.is)
        go (Err other) e = e ∙ ap (λ (x : Fault). Err x) (one_least nodes first ls other fault (is_least nodes first ls other e) l)
