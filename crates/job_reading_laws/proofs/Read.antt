-- A file is read exactly where it is one of the grammar.
use Rattle.std.proofs.Common.{◌≡◌, inl, inr, ℕ, Bool, true, false, cond, not, ◌||◌, List, [], ◌∷◌, map, refl, sym, ap, ◌∙◌, subst, Ok, Err, All}
use Rattle.std.specs.List.{list_any}
use Rattle.std.proofs.lemmas.List.Elements.{All-nil, All-cons, All-head, All-tail}
use Rattle.byte_ends.specs.Text.{words}
use Rattle.script_words.specs.Words.{Word, Row, is_skipped}
use Rattle.fault_laws.proofs.Words.{not_both}
use Rattle.job_plans.specs.declared.JobFile.{JobFile}
use Rattle.job_files.specs.declared.drafts.Draft.{Draft}
use Rattle.job_files.specs.Kinds.{fault_at}
use Rattle.job_files.specs.MethodReading.{first_draft, file_of, read_from, says_something, silent_kind, read_lines}
use Rattle.job_reading_laws.specs.Grammar.{Part, silent, opens, Describes, IsJobFile}
use Rattle.job_reading_laws.specs.Faults.{SaysNothing}
use Rattle.job_reading_laws.specs.Accepted.{ReadIsAccepted}
use Rattle.job_reading_laws.specs.Told.{GrammarIsRead}
use Rattle.job_reading_laws.proofs.Rows.{IsSound}
use Rattle.job_reading_laws.proofs.Drafts.{IsText, read_ok, read_after, sound_accepted, first_rows, IsSilent}
use Rattle.job_reading_laws.proofs.Complete.{part_read}

-- ---- whether some line says something
abbrev IsMute : List ℕ → Type 0
IsMute line = is_skipped (words line) ≡ true

pub mute : (lines : List (List ℕ)) → list_any says_something lines ≡ false → SaysNothing lines
mute [] e = All-nil IsMute
mute (line ∷ lines) e = go (is_skipped (words line)) refl e (λ h. mute lines h)
  where
    go : (b : Bool) → is_skipped (words line) ≡ b → (not b || list_any says_something lines) ≡ false → (list_any says_something lines ≡ false → SaysNothing lines) → SaysNothing (line ∷ lines)
    go true k h more = All-cons IsMute line lines k (more h)
    go false k h more = cc

pub speaking : (lines : List (List ℕ)) → SaysNothing lines → list_any says_something lines ≡ false
speaking [] all = refl
speaking (line ∷ lines) all = rw (All-head IsMute line lines all) (speaking lines (All-tail IsMute line lines all))

-- words of mute lines say nothing, and the other way round
pub mute_rows : (lines : List (List ℕ)) → All IsSilent (map words lines) → SaysNothing lines
mute_rows [] all = All-nil IsMute
mute_rows (line ∷ lines) all = All-cons IsMute line lines (All-head IsSilent (words line) (map words lines) all) (mute_rows lines (All-tail IsSilent (words line) (map words lines) all))

-- a part has a line that says something
pub part_speaks : (names : List Word) (file : JobFile) (lines : List (List ℕ)) (rows : List Row) → rows ≡ map words lines → Part names file rows → SaysNothing lines → ⊥
unfolding is_skipped
part_speaks names file [] rows' e (silent row {rows} k p) all = cc
part_speaks names file (line ∷ lines) rows' e (silent row {rows} k p) all =
    let rest : rows ≡ map words lines = cc in
    part_speaks names file lines rows rest p (All-tail IsMute line lines all)
part_speaks names file [] rows' e (opens w {rows} f l) all = cc
part_speaks names file (line ∷ lines) rows' e (opens w {rows} f l) all =
    let here : (99 ∷ 108 ∷ 117 ∷ 115 ∷ 116 ∷ 101 ∷ 114 ∷ []) ∷ w ∷ [] ≡ words line = cc in
    let no : is_skipped ((99 ∷ 108 ∷ 117 ∷ 115 ∷ 116 ∷ 101 ∷ 114 ∷ []) ∷ w ∷ []) ≡ true = ap is_skipped here ∙ All-head IsMute line lines all in
    not_both _ no refl

pub spoken : (lines : List (List ℕ)) (names : List Word) (file : JobFile) → Describes lines names file → list_any says_something lines ≡ true
spoken lines names file d = go (list_any says_something lines) refl
  where
    go : (b : Bool) → list_any says_something lines ≡ b → b ≡ true
    go true e = refl
    go false e = absurd (part_speaks names file lines (map words lines) refl d.part (mute lines e))

-- ---- both ways
-- what was read behind the first draft, where that says something
pub described : (lines : List (List ℕ)) (d : Draft) → All IsText lines → IsSound d → Part d.names (file_of d) (map words lines) → Describes lines d.names (file_of d)
described lines d texts sound part = record { texts = texts; part = part; accepted = sound_accepted d sound }

pub read_described : (lines : List (List ℕ)) (file : JobFile) → read_lines lines ≡ Ok file → IsJobFile lines file
read_described lines file e = go (list_any says_something lines) refl e
  where
    go : (b : Bool) → list_any says_something lines ≡ b → cond b (read_from first_draft 1 lines) (Err (fault_at 1 (silent_kind lines))) ≡ Ok file → IsJobFile lines file
    go false k h = cc
    go true k h =
        let r = read_ok lines first_draft 1 file h in
        elim (first_rows (map words lines) r.draft r.after) [
          | inl m ↦ absurd (not_both (list_any says_something lines) k (speaking lines (mute_rows lines m.0)))
          | inr m ↦ (r.draft.names, subst (λ (f : JobFile). Describes lines r.draft.names f) (sym r.is) (described lines r.draft r.texts m.0 m.1))
        ]

pub described_read : (lines : List (List ℕ)) (names : List Word) (file : JobFile) → Describes lines names file → read_lines lines ≡ Ok file
described_read lines names file d =
    let r = part_read names file (map words lines) d.part d.accepted in
    ap (λ b. cond b (read_from first_draft 1 lines) (Err (fault_at 1 (silent_kind lines)))) (spoken lines names file d)
    ∙ read_after lines first_draft r.draft 1 d.texts r.after ∙ ap (λ f. Ok f) r.is

pub grammar_read : GrammarIsRead
grammar_read lines file = (read_described lines file, λ f. described_read lines f.0 file f.1)

pub read_accepted : ReadIsAccepted
read_accepted lines file e = (read_described lines file e).1.accepted
