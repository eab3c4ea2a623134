-- The fault that is told is the least one, and the least one is told.
use Rattle.std.proofs.Common.{◌≡◌, ◌⊎◌, inl, inr, ◌+◌, ℕ, Bool, true, false, cond, List, [], ◌∷◌, ◌++◌, map, length, refl, sym, ap, ◌∙◌, subst, Result, Err, All}
use Rattle.std.specs.List.{list_any}
use Rattle.std.specs.Str.{is_utf8}
use Rattle.std.proofs.lemmas.Bool.{cases_Bool}
use Rattle.std.proofs.lemmas.List.Elements.{All-nil, All-cons, All-head, All-tail}
use Rattle.byte_ends.specs.Text.{words}
use Rattle.script_words.specs.Words.{Word, is_skipped}
use Rattle.fault_laws.proofs.Words.{not_both}
use Rattle.job_plans.specs.declared.JobFile.{JobFile}
use Rattle.job_files.specs.declared.faults.JobKind.{JobKind}
use Rattle.job_files.specs.declared.faults.JobKind.TheVariants.{NotUtf8, NoClusterLine}
use Rattle.job_files.specs.declared.faults.JobFault.{JobFault}
use Rattle.job_files.specs.declared.drafts.Item.TheVariants as item
use Rattle.job_files.specs.declared.drafts.Draft.{Draft}
use Rattle.job_files.specs.Kinds.{fault_at}
use Rattle.job_files.specs.MethodReading.{row_says, line_says, first_draft, file_of, read_from, says_something, silent_kind, read_lines}
use Rattle.job_reading_laws.specs.Grammar.{Part, Describes}
use Rattle.job_reading_laws.specs.Faults.{IsWrongFirst, IsWrong, AreSilent, HasFault, IsSilentFault, IsFirstFault, IsLeastFault}
use Rattle.job_reading_laws.specs.Told.{LeastIsTold}
use Rattle.job_reading_laws.proofs.Rows.{IsSound, row_told, first_told}
use Rattle.job_reading_laws.proofs.Drafts.{IsText, After, Stops, read_err, read_stops, fault_same, first_rows, IsSilent}
use Rattle.job_reading_laws.proofs.Complete.{skip_is, part_read}
use Rattle.job_reading_laws.proofs.Read.{mute, speaking, mute_rows, part_speaks, described}
use Rattle.job_reading_laws.proofs.Wrong.{row_wrong, first_wrong}

abbrev IsSilentLine : List ℕ → Type 0
IsSilentLine line = (is_utf8 line ≡ true) × (is_skipped (words line) ≡ true)

silent_lines : (lines : List (List ℕ)) → All IsText lines → All IsSilent (map words lines) → AreSilent lines
silent_lines [] t s = All-nil IsSilentLine
silent_lines (line ∷ lines) t s =
    All-cons IsSilentLine line lines (All-head IsText line lines t, All-head IsSilent (words line) (map words lines) s)
    (silent_lines lines (All-tail IsText line lines t) (All-tail IsSilent (words line) (map words lines) s))

silent_texts : (lines : List (List ℕ)) → AreSilent lines → All IsText lines
silent_texts [] all = All-nil IsText
silent_texts (line ∷ lines) all = All-cons IsText line lines (All-head IsSilentLine line lines all).0 (silent_texts lines (All-tail IsSilentLine line lines all))

silent_after : (lines : List (List ℕ)) → AreSilent lines → After first_draft (map words lines) first_draft
silent_after [] all = refl
silent_after (line ∷ lines) all = (item.Nothing, skip_is first_draft (words line) (All-head IsSilentLine line lines all).1, silent_after lines (All-tail IsSilentLine line lines all))

-- ---- one line
abbrev IsBad : List ℕ → (JobKind → Type 0) → JobKind → Type 0
IsBad line Q kind = ((kind ≡ NotUtf8) × (is_utf8 line ≡ false)) ⊎ ((is_utf8 line ≡ true) × Q kind)

kind_same : {A : Type 0} (x y : JobKind) → ◌≡◌ {A = Result A JobKind} (Err x) (Err y) → y ≡ x
kind_same x y e = cc

bad_line : (d : Draft) (line : List ℕ) (kind : JobKind) (Q : JobKind → Type 0) → ((k : JobKind) → row_says d (words line) ≡ Err k → Q k) → line_says d line ≡ Err kind → IsBad line Q kind
bad_line d line kind Q why h = go (is_utf8 line) refl h
  where
    go : (b : Bool) → is_utf8 line ≡ b → cond b (row_says d (words line)) (Err NotUtf8) ≡ Err kind → IsBad line Q kind
    go true e h = inr (e, why kind h)
    go false e h = inl (kind_same NotUtf8 kind h, e)

line_bad : (d : Draft) (line : List ℕ) (kind : JobKind) (Q : JobKind → Type 0) → (Q kind → row_says d (words line) ≡ Err kind) → IsBad line Q kind → line_says d line ≡ Err kind
line_bad d line kind Q so (inl h) = ap (λ b. cond b (row_says d (words line)) (Err NotUtf8)) h.1 ∙ ap (λ k. Err k) (sym h.0)
line_bad d line kind Q so (inr h) = ap (λ b. cond b (row_says d (words line)) (Err NotUtf8)) h.0 ∙ so h.1

-- ---- the fault that is told
silent_told : (lines : List (List ℕ)) (fault : JobFault) → fault_at 1 (silent_kind lines) ≡ fault → IsSilentFault lines fault
silent_told [] fault e = sym e
silent_told (line ∷ lines) fault e = go (is_utf8 line) refl e
  where
    go : (b : Bool) → is_utf8 line ≡ b → fault_at 1 (cond b NoClusterLine NotUtf8) ≡ fault → IsSilentFault (line ∷ lines) fault
    go true k h = inr (k, sym h)
    go false k h = inl (k, sym h)

stops_at : (lines : List (List ℕ)) (fault : JobFault) → Stops first_draft 1 lines fault → IsFirstFault lines fault
stops_at lines fault s = record {
  before = s.before;
  line = s.line;
  later = s.later;
  are = s.are;
  at_line = ap (λ (f : JobFault). f.line) s.is;
  is = subst (HasFault s.before s.line) (sym (ap (λ (f : JobFault). f.kind) s.is)) (behind (first_rows (map words s.before) s.draft s.after));
}
  where
    behind : (All IsSilent (map words s.before) × (s.draft ≡ first_draft)) ⊎ (IsSound s.draft × Part s.draft.names (file_of s.draft) (map words s.before)) → HasFault s.before s.line s.kind
    behind (inl m) =
        inl (silent_lines s.before s.texts m.0, bad_line first_draft s.line s.kind (IsWrongFirst (words s.line)) (λ k e. (first_told (words s.line)).err k e) (ap (λ (d : Draft). line_says d s.line) (sym m.1) ∙ s.says))
    behind (inr m) =
        inr (s.draft.names, file_of s.draft, described s.before s.draft s.texts m.0 m.1, bad_line s.draft s.line s.kind (IsWrong s.draft.names (file_of s.draft) (words s.line)) (λ k e. (row_told s.draft m.0 (words s.line)).err k e) s.says)

told_least : (lines : List (List ℕ)) (fault : JobFault) → read_lines lines ≡ Err fault → IsLeastFault lines fault
told_least lines fault e = go (list_any says_something lines) refl e
  where
    go : (b : Bool) → list_any says_something lines ≡ b → cond b (read_from first_draft 1 lines) (Err (fault_at 1 (silent_kind lines))) ≡ Err fault → IsLeastFault lines fault
    go false k h = inl (mute lines k, silent_told lines fault (fault_same (fault_at 1 (silent_kind lines)) fault h))
    go true k h = inr (λ m. not_both (list_any says_something lines) k (speaking lines m), stops_at lines fault (read_err lines first_draft 1 fault h))

-- ---- the least fault
silent_least : (lines : List (List ℕ)) (fault : JobFault) → IsSilentFault lines fault → fault_at 1 (silent_kind lines) ≡ fault
silent_least [] fault h = sym h
silent_least (line ∷ lines) fault (inl h) = ap (λ b. fault_at 1 (cond b NoClusterLine NotUtf8)) h.0 ∙ sym h.1
silent_least (line ∷ lines) fault (inr h) = ap (λ b. fault_at 1 (cond b NoClusterLine NotUtf8)) h.0 ∙ sym h.1

first_least : (lines : List (List ℕ)) (fault : JobFault) → IsFirstFault lines fault → read_from first_draft 1 lines ≡ Err fault
first_least lines fault f = ap (read_from first_draft 1) f.are ∙ by f.is ∙ ap (λ n. Err (fault_at n fault.kind)) (sym f.at_line)
  where
    by : HasFault f.before f.line fault.kind → read_from first_draft 1 (f.before ++ f.line ∷ f.later) ≡ Err (fault_at (1 + length f.before) fault.kind)
    by (inl h) =
        read_stops f.before f.later f.line first_draft first_draft 1 fault.kind (silent_texts f.before h.0) (silent_after f.before h.0)
        (line_bad first_draft f.line fault.kind (IsWrongFirst (words f.line)) (λ w. first_wrong (words f.line) fault.kind w) h.1)
    by (inr (names, file, d, h)) =
        let r = part_read names file (map words f.before) d.part d.accepted in
        read_stops f.before f.later f.line first_draft r.draft 1 fault.kind d.texts r.after
        (line_bad r.draft f.line fault.kind (IsWrong names file (words f.line)) (λ w. row_wrong r.draft (sound names file d r.draft r.after) (words f.line) fault.kind (moved names file r.draft (sym r.called) (sym r.is) w)) h)
      where
        moved : (names : List Word) (file : JobFile) (draft : Draft) → names ≡ draft.names → file ≡ file_of draft → IsWrong names file (words f.line) fault.kind → IsWrong draft.names (file_of draft) (words f.line) fault.kind
        moved names file draft e g w = subst (λ (x : JobFile). IsWrong draft.names x (words f.line) fault.kind) g (subst (λ (ns : List Word). IsWrong ns file (words f.line) fault.kind) e w)

        sound : (names : List Word) (file : JobFile) → Describes f.before names file → (draft : Draft) → After first_draft (map words f.before) draft → IsSound draft
        sound names file d draft a = elim (first_rows (map words f.before) draft a) [
          | inl m ↦ absurd (part_speaks names file f.before (map words f.before) refl d.part (mute_rows f.before m.0))
          | inr m ↦ m.0
        ]

least_told : (lines : List (List ℕ)) (fault : JobFault) → IsLeastFault lines fault → read_lines lines ≡ Err fault
least_told lines fault (inl h) = ap (λ b. cond b (read_from first_draft 1 lines) (Err (fault_at 1 (silent_kind lines)))) (speaking lines h.0) ∙ ap (λ f. Err f) (silent_least lines fault h.1)
least_told lines fault (inr h) = ap (λ b. cond b (read_from first_draft 1 lines) (Err (fault_at 1 (silent_kind lines)))) (speaks (cases_Bool (list_any says_something lines))) ∙ first_least lines fault h.1
  where
    speaks : (list_any says_something lines ≡ true) ⊎ (list_any says_something lines ≡ false) → list_any says_something lines ≡ true
    speaks (inl e) = e
    speaks (inr e) = absurd (h.0 (mute lines e))

pub least_is_told : LeastIsTold
least_is_told lines fault = (told_least lines fault, least_told lines fault)
