-- turns that are laid out, each at its place
use Rattle.std.proofs.Common.{◌≡◌, ◌<◌, ◌≢◌, ℕ, zero, suc, List, [], ◌∷◌, ◌++◌, length, refl, sym, ap, ◌∙◌, subst, arith, length-set}
use Rattle.std.specs.Prelude.{All, slice_index_or, slice_set}
use mathlib.Core.Option.{some, some-injective, some-ne-none}
use mathlib.Core.Logic.{dite}
use native.Mathlib.Decide.{ℕ_discrete}
use lib.ListN.{get_elem?}
use Rattle.unix_calls.specs.declared.Turn.{Turn}
use Rattle.pasts.specs.Pasts.{Stands}
use Rattle.past_lists.proofs.Seen.{get_lt, same_place}
use Rattle.locked_laws.specs.declared.PlacedTurn.{PlacedTurn}
use Rattle.node_workers.specs.MethodMerging.{laid_out, all_laid_out}

-- ---- one turn
set_here : (xs : List Turn) (i : ℕ) (x : Turn) → i < length xs → Stands (slice_set xs i x) i x
set_here [] i x lt = absurd (omega arith)
set_here (y ∷ xs) zero x lt = refl
set_here (y ∷ xs) (suc i) x lt = set_here xs i x (omega arith)

set_there : (xs : List Turn) (i j : ℕ) (x : Turn) → j ≢ i → get_elem? (slice_set xs i x) j ≡ get_elem? xs j
set_there [] i j x ne = refl
set_there (y ∷ xs) zero zero x ne = absurd (ne refl)
set_there (y ∷ xs) zero (suc j) x ne = refl
set_there (y ∷ xs) (suc i) zero x ne = refl
set_there (y ∷ xs) (suc i) (suc j) x ne = set_there xs i j x (λ e. ne (ap suc e))

-- ---- the turns of a list
module _ (log : List Turn) where
  -- each turn of the list stands at its place
  abbrev pub AllStand : List PlacedTurn → Type 0
  AllStand list = (i : ℕ) (t : PlacedTurn) → get_elem? list i ≡ some t → Stands log t.place t.turn

  pub set_kept : (steps : List Turn) (t : PlacedTurn) (j : ℕ) (x : Turn) → Stands log t.place t.turn → length steps ≡ length log → Stands log j x → Stands steps j x → Stands (slice_set steps t.place t.turn) j x
  set_kept steps t j x stands long is at =
      dite (ℕ_discrete j t.place)
      (λ e. let same : t.turn ≡ x = same_place log t.place t.turn x stands (subst (λ (k : ℕ). Stands log k x) e is) in
      let lt = get_lt log t.place t.turn stands in
      subst (λ (k : ℕ). Stands (slice_set steps t.place t.turn) k x) (sym e) (subst (λ (y : Turn). Stands (slice_set steps t.place t.turn) t.place y) same (set_here steps t.place t.turn (omega (arith, lt, long)))))
      (λ ne. set_there steps t.place j t.turn ne ∙ at)

  pub long_out : (list : List PlacedTurn) (steps : List Turn) → length (laid_out list steps) ≡ length steps
  long_out [] steps = refl
  long_out (t ∷ list) steps = long_out list (slice_set steps t.place t.turn) ∙ length-set steps t.place t.turn

  -- what stands as in the log still does
  kept : (list : List PlacedTurn) (steps : List Turn) (j : ℕ) (x : Turn) → AllStand list → length steps ≡ length log → Stands log j x → Stands steps j x → Stands (laid_out list steps) j x
  kept [] steps j x all long is at = at
  kept (t ∷ list) steps j x all long is at =
      kept list (slice_set steps t.place t.turn) j x (λ i. all (suc i)) (length-set steps t.place t.turn ∙ long) is (set_kept steps t j x (all zero t refl) long is at)

  -- and each turn of the list does
  put : (list : List PlacedTurn) (steps : List Turn) (i : ℕ) (t : PlacedTurn) → AllStand list → length steps ≡ length log → get_elem? list i ≡ some t → Stands (laid_out list steps) t.place t.turn
  put [] steps i t all long e = absurd (some-ne-none t (sym e))
  put (u ∷ list) steps zero t all long e =
      let lt = get_lt log u.place u.turn (all zero u refl) in
      kept list (slice_set steps u.place u.turn) t.place t.turn (λ i. all (suc i)) (length-set steps u.place u.turn ∙ long) (all zero t e)
      (subst (λ (s : PlacedTurn). Stands (slice_set steps u.place u.turn) s.place s.turn) (some-injective u t e) (set_here steps u.place u.turn (omega (arith, lt, long))))
  put (u ∷ list) steps (suc i) t all long e = put list (slice_set steps u.place u.turn) i t (λ i. all (suc i)) (length-set steps u.place u.turn ∙ long) e

  -- ---- the turns of all lists
  abbrev pub ListsStand : List (List PlacedTurn) → Type 0
  ListsStand lists = (k : ℕ) (list : List PlacedTurn) → get_elem? lists k ≡ some list → AllStand list

  pub long_all : (lists : List (List PlacedTurn)) (steps : List Turn) → length (all_laid_out lists steps) ≡ length steps
  long_all [] steps = refl
  long_all (list ∷ lists) steps = long_out list (all_laid_out lists steps) ∙ long_all lists steps

  pub put_all : (lists : List (List PlacedTurn)) (steps : List Turn) (k : ℕ) (list : List PlacedTurn) (i : ℕ) (t : PlacedTurn) → ListsStand lists → length steps ≡ length log → get_elem? lists k ≡ some list → get_elem? list i ≡ some t → Stands (all_laid_out lists steps) t.place t.turn
  put_all [] steps k list i t all long e there = absurd (some-ne-none list (sym e))
  put_all (l ∷ lists) steps zero list i t all long e there =
      subst (λ (m : List PlacedTurn). Stands (laid_out m (all_laid_out lists steps)) t.place t.turn) (sym (some-injective l list e)) (put list (all_laid_out lists steps) i t (all zero list e) (long_all lists steps ∙ long) there)
  put_all (l ∷ lists) steps (suc k) list i t all long e there =
      kept l (all_laid_out lists steps) t.place t.turn (all zero l refl) (long_all lists steps ∙ long) (all (suc k) list e i t there) (put_all lists steps k list i t (λ j. all (suc j)) long e there)

-- the last list is laid out first
pub last_first : (lists : List (List PlacedTurn)) (list : List PlacedTurn) (steps : List Turn) → all_laid_out (lists ++ list ∷ []) steps ≡ all_laid_out lists (laid_out list steps)
last_first [] list steps = refl
last_first (l ∷ lists) list steps = ap (λ (s : List Turn). laid_out l s) (last_first lists list steps)

-- what stands at a place of a list
pub at_place : {A : Type 0} (xs : List A) (k : ℕ) (d : A) → k < length xs → get_elem? xs k ≡ some (slice_index_or xs k d)
at_place [] k d lt = absurd (omega arith)
at_place (x ∷ xs) zero d lt = refl
at_place (x ∷ xs) (suc k) d lt = at_place xs k d (omega arith)

-- where each turn of a list stands, its place is one of the whole list's
pub places_within : (log : List Turn) (most : ℕ) (list : List PlacedTurn) → AllStand log list → length log ≡ most → All (λ (t : PlacedTurn). t.place < most) list
places_within log most list all long = λ k d lt.
    let t = slice_index_or list k d in
    let less = get_lt log t.place t.turn (all k t (at_place list k d lt)) in
    omega (arith, less, long)
