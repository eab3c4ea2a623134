-- a legal history, stamped with the numbers of its turns and the users of its processes, is a legal one of format 2
use Rattle.std.proofs.Common.{◌≡◌, ℕ, zero, suc, List, [], ◌∷◌, length, refl, sym, ap, subst, arith, Option, Some, None, option_map}
use Rattle.std.specs.Prelude.{fold, take, slice_get, unwrap_or}
use Rattle.unix_calls.specs.declared.Entry.{Entry}
use Rattle.unix_calls.specs.declared.World.{World}
use Rattle.process_table.specs.declared.Row.{Row}
use Rattle.process_table.specs.Rows.{row_of}
use Rattle.kernel_model.specs.Step.{process_of, after}
use Rattle.kernel_model.specs.Legal.{boot, after_entries, IsLegalFrom, IsLegal}
use Rattle.kernel_laws.proofs.Legal.{actor}
use Rattle.proc_image.specs.Follows.{Follows}
use Rattle.histories.specs.declared.Stamped.{Stamped}
use Rattle.audit_core.specs.Stamped.{entries_of, IsAbove, user_of, stamped_from, stamped_entries, IsLegalTwo}
use Rattle.cluster_state.specs.Possible.{history_of}
use Rattle.cluster_core.specs.Played.{numbers_of}

none_some : {A : Type 0} (x : A) → None ≡ Some x → ⊥
none_some x e = cc

some_same : {A : Type 0} (x y : A) → Some x ≡ Some y → x ≡ y
some_same x y e = cc

suc_same : (m n : ℕ) → suc m ≡ suc n → m ≡ n
suc_same m n e = cc

zero_suc : (n : ℕ) → zero ≡ suc n → ⊥
zero_suc n e = cc

-- ---- entries
pub numbered : (n : ℕ) (lines : List (Option Entry)) → length (numbers_of n lines) ≡ length (history_of lines)
numbered n [] = refl
numbered n (None ∷ lines) = numbered (suc n) lines
numbered n (Some entry ∷ lines) = ap suc (numbered (suc n) lines)

-- where each entry has a place, the entries stay
entries_stay : (rows : List Row) (es : List Entry) (ps : List ℕ) → length ps ≡ length es → entries_of (stamped_from rows es ps) ≡ es
entries_stay rows [] ps e = refl
entries_stay rows (x ∷ es) [] e = absurd (zero_suc (length es) e)
entries_stay rows (x ∷ es) (p ∷ ps) e = ap (λ (l : List Entry). x ∷ l) (entries_stay (after rows x) es ps (suc_same (length ps) (length es) e))

-- ---- users
user_there : (o : Option Row) (r : Row) → o ≡ Some r → option_map (λ (x : Row). x.uid) o ≡ Some (unwrap_or (option_map (λ (x : Row). x.uid) o) 0)
user_there None r e = absurd (none_some r e)
user_there (Some x) r e = refl

users : (rows : List Row) (es : List Entry) (ps : List ℕ) → IsLegalFrom rows es → (count : ℕ) (s : Stamped) → slice_get (stamped_from rows es ps) count ≡ Some s
    → user_of (after_entries rows (entries_of (take count (stamped_from rows es ps)))) (process_of s.entry) ≡ Some s.uid
users rows [] ps legal count s e = absurd (none_some s e)
users rows (x ∷ es) [] legal count s e = absurd (none_some s e)
users rows (x ∷ es) (p ∷ ps) legal zero s e =
    let who = actor rows x legal.0 in
    subst (λ (t : Stamped). user_of rows (process_of t.entry) ≡ Some t.uid) (some_same _ s e) (user_there (row_of rows (process_of x)) who.row who.there)
users rows (x ∷ es) (p ∷ ps) legal (suc count) s e = users (after rows x) es ps legal.1 count s e

-- ---- places
above_later : (last : Option ℕ) (n : ℕ) → IsAbove last n → IsAbove last (suc n)
above_later None n a = tt
above_later (Some before) n a = omega (arith, a)

abbrev last_from : Option ℕ → List Stamped → Option ℕ
last_from last history = fold (λ l (t : Stamped). Some t.place) last history

places_rise : (rows : List Row) (n : ℕ) (last : Option ℕ) (lines : List (Option Entry)) → IsAbove last n → (count : ℕ) (s : Stamped)
    → slice_get (stamped_from rows (history_of lines) (numbers_of n lines)) count ≡ Some s
    → IsAbove (last_from last (take count (stamped_from rows (history_of lines) (numbers_of n lines)))) s.place
places_rise rows n last [] a count s e = absurd (none_some s e)
places_rise rows n last (None ∷ lines) a count s e = places_rise rows (suc n) last lines (above_later last n a) count s e
places_rise rows n last (Some x ∷ lines) a zero s e = subst (λ (t : Stamped). IsAbove last t.place) (some_same _ s e) a
places_rise rows n last (Some x ∷ lines) a (suc count) s e = places_rise (after rows x) (suc n) (Some n) lines (omega arith) count s e

-- ---- the whole
pub stamped_legal : (world : World) (lines : List (Option Entry)) → IsLegal world (history_of lines) → Follows world (history_of lines) → IsLegalTwo world (stamped_entries world (history_of lines) (numbers_of 0 lines))
stamped_legal world lines legal follows =
    let stay = entries_stay (boot world) (history_of lines) (numbers_of 0 lines) (numbered 0 lines) in
    record {
      legal = subst (IsLegal world) (sym stay) legal;
      follows = subst (Follows world) (sym stay) follows;
      places = places_rise (boot world) 0 None lines tt;
      users = users (boot world) (history_of lines) (numbers_of 0 lines) legal;
    }
