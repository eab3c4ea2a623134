-- what is read of a line is without a fault where the line has none of its own, and a fault that is read is the first of its own
use Rattle.std.proofs.Common.{◌≡◌, ◌⊎◌, inl, inr, ℕ, ◌<◌, Bool, true, false, cond, List, take, refl, sym, ap, ◌∙◌, subst, arith, Option, Some, Result, Ok, Err}
use Rattle.std.specs.Prelude.{slice_get, map, IsOk}
use Rattle.std.specs.Option.{option_map}
use Rattle.std.specs.Str.{is_utf8}
use Rattle.std.proofs.lemmas.Option.{slice_get-map}
use Rattle.byte_ends.specs.Text.{words}
use Rattle.script_words.specs.declared.faults.Kind.{Kind}
use Rattle.script_words.specs.declared.faults.Kind.TheVariants.{NotUtf8}
use Rattle.script_words.specs.Words.{Row}
use Rattle.script_reader.specs.declared.lines.Item.{Item}
use Rattle.script_reader.specs.Lines.{read_row, read_line}
use Rattle.script_reader.specs.Files.{Told}
use Rattle.script_laws.proofs.Parts.{names_of, told_of}
use Rattle.fault_laws.specs.Context.{is_begun}
use Rattle.fault_laws.specs.Patterns.{IsWrong}
use Rattle.fault_laws.specs.Faults.{Aspect, text, limit, wording, labour, silence, opening, idleness, rank, PassesLimit, OwnFault}
use Rattle.fault_laws.proofs.Forms.{is_wrong_same}
use Rattle.fault_laws.proofs.Rows.{IsCleanRow, RowFault, limit_same, row_told}
use Rattle.fault_laws.proofs.Tells.{Tells}
use Rattle.fault_laws.proofs.Around.{place_at, HasCluster, words_full, line_told, knows_at}

same_line : (a b : List ℕ) (o : Option (List ℕ)) → o ≡ Some a → o ≡ Some b → a ≡ b
same_line a b o x y = cc

same_row : (a b : Row) (o : Option Row) → o ≡ Some a → o ≡ Some b → a ≡ b
same_row a b o x y = cc

no_ok : false ≡ true → ⊥
no_ok e = cc

pub row_at : (lines : List (List ℕ)) (k : ℕ) (line : List ℕ) → slice_get lines k ≡ Some line → slice_get (map words lines) k ≡ Some (words line)
row_at lines k line e = slice_get-map words lines k ∙ ap (option_map words) e

-- ---- the line that stands behind so many others
module _ (lines : List (List ℕ)) (k : ℕ) (line : List ℕ) (there : slice_get lines k ≡ Some line) where
  abbrev rows : List Row
  rows = map words lines

  abbrev before : List Row
  before = take k (map words lines)

  -- a line that is a text, and of which no limit is passed and no word is wrong, has no fault
  none_own : is_utf8 line ≡ true → IsCleanRow rows before (words line) → (aspect : Aspect) (kind : Kind) → OwnFault lines k aspect kind → ⊥
  none_own u clean text kind f =
      let is : f.1 ≡ line = same_line f.1 line (slice_get lines k) f.2 there in
      let not_text : is_utf8 line ≡ false = ap is_utf8 (sym is) ∙ f.3 in
      cc
  none_own u clean limit kind f = clean.within kind (subst (λ (r : Row). PassesLimit before r kind) (same_row f.0 (words line) (slice_get rows k) f.1 (row_at lines k line there)) f.2)
  none_own u clean wording kind f = clean.right kind (subst (λ (r : Row). IsWrong rows before r kind) (same_row f.0 (words line) (slice_get rows k) f.1 (row_at lines k line there)) f.2)
  none_own u clean labour kind f = f
  none_own u clean silence kind f = f
  none_own u clean opening kind f = f
  none_own u clean idleness kind f = f

  -- a fault of the line's own before which there is no other
  abbrev Leads : Kind → Aspect → Type 0
  Leads kind aspect = (aspect' : Aspect) (kind' : Kind) → OwnFault lines k aspect' kind' → (rank aspect < rank aspect') ⊎ ((aspect' ≡ aspect) × (kind' ≡ kind))

  text_leads : (kind : Kind) → kind ≡ NotUtf8 → Leads kind text
  text_leads kind e text kind' f = inr (refl, f.0 ∙ sym e)
  text_leads kind e limit kind' f = inl (omega arith)
  text_leads kind e wording kind' f = inl (omega arith)
  text_leads kind e labour kind' f = absurd f
  text_leads kind e silence kind' f = absurd f
  text_leads kind e opening kind' f = absurd f
  text_leads kind e idleness kind' f = absurd f

  no_text : is_utf8 line ≡ true → (kind : Kind) → OwnFault lines k text kind → ⊥
  no_text u kind f =
      let is : f.1 ≡ line = same_line f.1 line (slice_get lines k) f.2 there in
      let not_text : is_utf8 line ≡ false = ap is_utf8 (sym is) ∙ f.3 in
      cc

  limit_leads : (kind : Kind) → is_utf8 line ≡ true → PassesLimit before (words line) kind → Leads kind limit
  limit_leads kind u p text kind' f = absurd (no_text u kind' f)
  limit_leads kind u p limit kind' f = inr (refl, limit_same before (words line) kind' kind (subst (λ (r : Row). PassesLimit before r kind') (same_row f.0 (words line) (slice_get rows k) f.1 (row_at lines k line there)) f.2) p)
  limit_leads kind u p wording kind' f = inl (omega arith)
  limit_leads kind u p labour kind' f = absurd f
  limit_leads kind u p silence kind' f = absurd f
  limit_leads kind u p opening kind' f = absurd f
  limit_leads kind u p idleness kind' f = absurd f

  wording_leads : (kind : Kind) → is_utf8 line ≡ true → ((other : Kind) → ¬ PassesLimit before (words line) other) → IsWrong rows before (words line) kind → Leads kind wording
  wording_leads kind u within w text kind' f = absurd (no_text u kind' f)
  wording_leads kind u within w limit kind' f = absurd (within kind' (subst (λ (r : Row). PassesLimit before r kind') (same_row f.0 (words line) (slice_get rows k) f.1 (row_at lines k line there)) f.2))
  wording_leads kind u within w wording kind' f = inr (refl, is_wrong_same rows before (words line) kind' kind (subst (λ (r : Row). IsWrong rows before r kind') (same_row f.0 (words line) (slice_get rows k) f.1 (row_at lines k line there)) f.2) w)
  wording_leads kind u within w labour kind' f = absurd f
  wording_leads kind u within w silence kind' f = absurd f
  wording_leads kind u within w opening kind' f = absurd f
  wording_leads kind u within w idleness kind' f = absurd f

  -- some fault of the line's own leads
  abbrev HasFirst : Kind → Type 0
  HasFirst kind = (aspect : Aspect) × OwnFault lines k aspect kind × Leads kind aspect

  row_fault : (kind : Kind) → is_utf8 line ≡ true → RowFault rows before (words line) kind → HasFirst kind
  row_fault kind u (inl p) = (limit, (words line, row_at lines k line there, p), limit_leads kind u p)
  row_fault kind u (inr w) = (wording, (words line, row_at lines k line there, w.1), wording_leads kind u w.0 w.1)

  module _ (cluster : is_begun (take k (map words lines)) ≡ true → HasCluster lines) where
    told : Tells (read_row (names_of lines) (place_at lines k) (words line)) (λ i. IsCleanRow rows before (words line)) (RowFault rows before (words line))
    told = row_told (names_of lines) (place_at lines k) rows before (words line) (knows_at lines k line there cluster) (words_full line)

    read_clean : (r : Result Item Kind) → read_line (names_of lines) (place_at lines k) line ≡ r → IsOk r → (aspect : Aspect) (kind : Kind) → OwnFault lines k aspect kind → ⊥
    unfolding read_line
    read_clean (Err kind') e o aspect kind f = no_ok o
    read_clean (Ok i) e o aspect kind f = go (is_utf8 line) refl e
      where
        go : (b : Bool) → is_utf8 line ≡ b → cond b (read_row (names_of lines) (place_at lines k) (words line)) (Err NotUtf8) ≡ Ok i → ⊥
        go false u h = cc
        go true u h = none_own u (told.ok i h) aspect kind f

    read_fault : (kind : Kind) → read_line (names_of lines) (place_at lines k) line ≡ Err kind → HasFirst kind
    unfolding read_line
    read_fault kind e = go (is_utf8 line) refl e
      where
        go : (b : Bool) → is_utf8 line ≡ b → cond b (read_row (names_of lines) (place_at lines k) (words line)) (Err NotUtf8) ≡ Err kind → HasFirst kind
        go false u h = let is : kind ≡ NotUtf8 = cc in (text, (is, line, there, u), text_leads kind is)
        go true u h = row_fault kind u (told.err kind h)

-- ---- what is told of a line
pub own_clean : (lines : List (List ℕ)) (k : ℕ) (t : Told) → slice_get (told_of lines) k ≡ Some t → (is_begun (take k (map words lines)) ≡ true → HasCluster lines) → IsOk t.1 → (aspect : Aspect) (kind : Kind) → ¬ OwnFault lines k aspect kind
own_clean lines k t e cluster o =
    let l = line_told lines k t e in
    read_clean lines k l.0 l.1 cluster t.1 (ap (λ (x : Told). x.1) (sym l.2)) o

pub own_fault : (lines : List (List ℕ)) (k : ℕ) (t : Told) → slice_get (told_of lines) k ≡ Some t → (is_begun (take k (map words lines)) ≡ true → HasCluster lines) → (kind : Kind) → t.1 ≡ Err kind
    → (aspect : Aspect) × OwnFault lines k aspect kind × ((aspect' : Aspect) (kind' : Kind) → OwnFault lines k aspect' kind' → (rank aspect < rank aspect') ⊎ ((aspect' ≡ aspect) × (kind' ≡ kind)))
own_fault lines k t e cluster kind f =
    let l = line_told lines k t e in
    read_fault lines k l.0 l.1 cluster kind (ap (λ (x : Told). x.1) (sym l.2) ∙ f)
