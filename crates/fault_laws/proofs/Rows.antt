-- what is read of a line's words where they stand: either they have no fault, or it is that of the reading
use Rattle.std.proofs.Common.{◌≡◌, ◌⊎◌, inl, inr, ◌==◌, Bool, true, false, cond, List, [], ◌∷◌, refl, sym, ap, ◌∙◌, subst, None, Result, Ok, Err}
use Rattle.std.specs.Prelude.{codes, is_some}
use Rattle.std.proofs.lemmas.Bool.{eqb-true, eqb-false}
use Rattle.script_words.specs.declared.faults.Kind.{Kind}
use Rattle.script_words.specs.declared.faults.Kind.TheVariants.{NoClusterLine, UnknownWord, TooManyScripts, TooManyStatements, TooManyStarts}
use Rattle.script_words.specs.Words.{Word, Row, ◌>>=◌, is_same, word_at, ended, is_skipped}
use Rattle.script_reader.specs.declared.names.Names.{Names}
use Rattle.script_reader.specs.declared.places.Place.{Place}
use Rattle.script_words.specs.declared.table.Verb.{Verb}
use Rattle.script_words.specs.declared.table.Verb.TheVariants as verb
use Rattle.script_reader.specs.declared.lines.Head.{Head}
use Rattle.script_reader.specs.declared.lines.Head.TheVariants as head
use Rattle.script_reader.specs.declared.lines.Item.{Item}
use Rattle.script_reader.specs.declared.lines.Item.TheVariants as item
use Rattle.script_words.specs.Table.{verb_word, verb_named}
use Rattle.script_reader.specs.Statements.{statement_of}
use Rattle.script_reader.specs.Lines.{head_of, cluster_line, script_line, end_line, statement_line, start_words, start_line, later_line, read_row}
use Rattle.script_reader.specs.Files.{begins_with}
use Rattle.script_laws.proofs.Words.{same_words, BeginsSo, head_word, begins_so, script_word, start_word}
use Rattle.fault_laws.specs.Context.{is_begun, is_open, is_statement}
use Rattle.fault_laws.specs.Slots as slot
use Rattle.fault_laws.specs.Patterns.{Pattern, ends, needs, start_form, form_of, AreRight, AreWrong, Begins, IsWrong, first_kind}
use Rattle.fault_laws.specs.Faults.{PassesLimit}
use Rattle.fault_laws.proofs.Tells.{Tells, tells_ok, tells_err, tells_choice, tells_weaker}
use Rattle.fault_laws.proofs.Knows.{AreWords, Knows}
use Rattle.fault_laws.proofs.Forms.{right_not_wrong, begins_same, begins_not, Choice, chosen, no_choice}
use Rattle.fault_laws.proofs.Shapes.{At, map_told, ended_told}
use Rattle.fault_laws.proofs.Statements.{statement_told}
use Rattle.fault_laws.proofs.Lines.{nodes_read, nodes_told, title_read, title_told, start_words_told}
use Rattle.fault_laws.proofs.Limits.{Over, over_same, limit_over, skipped_head}
use Rattle.unix_calls.specs.declared.limits.TheConstants.{MOST_SCRIPTS, MOST_STATEMENTS, MOST_STARTS}

-- no limit is passed, and no word is wrong
pub record IsCleanRow (rows before : List Row) (row : Row) : Type 0 where
  pub within : (kind : Kind) → ¬ PassesLimit before row kind
  pub right : (kind : Kind) → ¬ IsWrong rows before row kind

-- a limit is passed, or else a word is wrong
abbrev pub RowFault : List Row → List Row → Row → Kind → Type 0
RowFault rows before row kind = PassesLimit before row kind ⊎ (((other : Kind) → ¬ PassesLimit before row other) × IsWrong rows before row kind)

pub limit_same : (before : List Row) (row : Row) (kind kind' : Kind) → PassesLimit before row kind → PassesLimit before row kind' → kind ≡ kind'
limit_same before row kind kind' a b = over_same before (head_of (word_at row 0)) kind kind' (limit_over before row kind a).1 (limit_over before row kind' b).1

first_word : (word : Word) (words : Row) → word_at (word ∷ words) 0 ≡ word
unfolding word_at
first_word word words = refl

verb_is : (v : Verb) → is_some (verb_named (verb_word v)) ≡ true
unfolding verb_named is_same
verb_is verb.Getpid = refl
verb_is _ = refl

-- ---- lines that say something
module _ (names : Names) (place : Place) (rows before : List Row) (word : Word) (words : Row) (knows : Knows names place rows before (word ∷ words)) (are : AreWords (word ∷ words)) (said : is_skipped (word ∷ words) ≡ false) where
  -- the line, and its first word
  abbrev Line : Row
  Line = word ∷ words

  abbrev First : Word
  First = word_at (word ∷ words) 0

  first : First ≡ word
  first = first_word word words

  -- no limit is passed
  abbrev Within : Type 0
  Within = (kind : Kind) → ¬ PassesLimit before Line kind

  -- what is read of the line
  abbrev Read : Result Item Kind → Type 0
  Read r = Tells r (λ i. IsCleanRow rows before Line) (RowFault rows before Line)

  -- the line begins by a form
  by_form : (r : Result Item Kind) (form : Pattern) → Begins before word form → Within → At rows before r form words → Read r
  by_form r form begins within told = tells_weaker r _ _ _ _ told (λ i right. record { within = within; right = λ kind wrong. not_wrong kind right wrong }) (λ kind wrong. inr (within, (said, inr (form, begins, wrong))))
    where
      not_wrong : (kind : Kind) → AreRight rows before form words → IsWrong rows before Line kind → ⊥
      not_wrong kind right wrong = elim wrong.1 [
        | inl w ↦ w.0 form begins
        | inr w ↦ right_not_wrong rows before form words kind right (subst (λ f. AreWrong rows before f words kind) (begins_same before word w.0 form w.1 begins) w.2)
      ]

  -- no line begins so
  by_none : (kind : Kind) → Choice before word ≡ None → Within → kind ≡ first_kind (is_begun before) → Read (Err kind)
  by_none kind none within is = tells_err kind _ _ (inr (within, (said, inl (λ form begins. begins_not before word form none begins, is))))

  -- a limit is passed
  by_limit : (kind : Kind) → PassesLimit before Line kind → Read (Err kind)
  by_limit kind over = tells_err kind _ _ (inl over)

  -- ---- the first such line
  cluster_told : place.begun ≡ false → Read (cluster_line Line)
  unfolding cluster_line
  cluster_told unbegun =
      tells_choice (is_same First (codes "cluster")) (nodes_read rows before Line are) (Err NoClusterLine) _ _
      (λ s. by_form (nodes_read rows before Line are) (needs slot.total ends) (inl (nothing, sym first ∙ same_words First (codes "cluster") s, refl)) within (nodes_told rows before Line are))
      (λ s. by_none NoClusterLine (no_choice before word false (is_open before) false (head_of word) nothing refl (ap (λ x. is_same x (codes "cluster")) (sym first) ∙ s) refl refl) within (sym (ap first_kind nothing)))
    where
      nothing : is_begun before ≡ false
      nothing = sym knows.begun ∙ unbegun

      within : Within
      within kind over = let h : true ≡ false = sym (limit_over before Line kind over).0 ∙ nothing in cc

  -- ---- lines behind it
  module _ (begun : place.begun ≡ true) where
    has_begun : is_begun before ≡ true
    has_begun = sym knows.begun ∙ begun

    opened : (b : Bool) → place.is_open ≡ b → is_open before ≡ b
    opened b e = sym knows.open' ∙ e

    within_at : (h : Head) → head_of First ≡ h → ((kind : Kind) → ¬ Over before h kind) → Within
    within_at h e none kind over = none kind (subst (λ x. Over before x kind) e (limit_over before Line kind over).1)

    unknown : (o : Bool) (h : Head) → place.is_open ≡ o → head_of First ≡ h → chosen true o (is_same word (codes "cluster")) h ≡ None → Within → Read (Err UnknownWord)
    unknown o h eo eh none within =
        by_none UnknownWord (no_choice before word true o (is_same word (codes "cluster")) h has_begun (opened o eo) refl (ap head_of (sym first) ∙ eh) none) within (sym (ap first_kind has_begun))

    script_told : head_of First ≡ head.Script → First ≡ codes "script" → Read (script_line names place Line)
    unfolding script_line
    script_told h w =
        tells_choice (place.scripts == MOST_SCRIPTS) (Err TooManyScripts) _ _ _ (λ e. by_limit TooManyScripts (inl (refl, has_begun, begins, sym knows.scripts ∙ eqb-true place.scripts MOST_SCRIPTS e))) (λ few.
        tells_choice place.is_open (Err UnknownWord) _ _ _ (λ o. unknown true head.Script o h refl (fits few)) (λ c.
        by_form (title_read names place rows before Line knows are) (needs slot.new_script ends) (inr (inl (has_begun, opened false c, sym first ∙ w, refl))) (fits few) (title_told names place rows before Line knows are begins)))
      where
        begins : begins_with (codes "script") Line ≡ true
        begins = begins_so Line (codes "script") (codes "script") true w script_word.0

        fits : (place.scripts == MOST_SCRIPTS) ≡ false → Within
        fits few = within_at head.Script h (λ kind over. eqb-false place.scripts MOST_SCRIPTS few (knows.scripts ∙ over.1))

    end_told : head_of First ≡ head.End → First ≡ codes "end" → Read (end_line place Line)
    unfolding end_line
    end_told h w =
        tells_choice place.is_open (ended {A = Unit {0}} Line 1 tt >>= λ _. Ok item.ScriptEnds) (Err UnknownWord) _ _
        (λ o. by_form (ended {A = Unit {0}} Line 1 tt >>= λ _. Ok item.ScriptEnds) ends (inr (inr (inl (has_begun, opened true o, sym first ∙ w, refl)))) fits
        (map_told rows before (ended {A = Unit {0}} Line 1 tt) (λ _. item.ScriptEnds) ends words (ended_told rows before Line are 1 tt)))
        (λ c. unknown false head.End c h refl fits)
      where
        fits : Within
        fits = within_at head.End h (λ kind over. over)

    start_told : head_of First ≡ head.Start → First ≡ codes "start" → Read (start_line names place Line)
    unfolding start_line
    start_told h w =
        tells_choice (place.starts == MOST_STARTS) (Err TooManyStarts) _ _ _ (λ e. by_limit TooManyStarts (inr (inr (refl, has_begun, begins, sym knows.starts ∙ eqb-true place.starts MOST_STARTS e)))) (λ few.
        tells_choice place.is_open (Err UnknownWord) _ _ _ (λ o. unknown true head.Start o h refl (fits few)) (λ c.
        by_form (start_words names place Line) start_form (inr (inr (inr (inl (has_begun, opened false c, sym first ∙ w, refl))))) (fits few) (start_words_told names place rows before Line knows are begun begins)))
      where
        begins : begins_with (codes "start") Line ≡ true
        begins = begins_so Line (codes "start") (codes "start") true w start_word.2

        fits : (place.starts == MOST_STARTS) ≡ false → Within
        fits few = within_at head.Start h (λ kind over. eqb-false place.starts MOST_STARTS few (knows.starts ∙ over.1))

    says_told : (v : Verb) → head_of First ≡ head.Says v → First ≡ verb_word v → Read (statement_line names place v Line)
    unfolding statement_line
    says_told v h w =
        tells_choice place.is_open _ (Err UnknownWord) _ _ (λ o.
        tells_choice (place.statements == MOST_STATEMENTS) (Err TooManyStatements) _ _ _ (λ e. by_limit TooManyStatements (inr (inl (refl, has_begun, says, opened true o, sym (knows.statements o) ∙ eqb-true place.statements MOST_STATEMENTS e)))) (λ few.
        by_form (statement_of names place v Line >>= λ s. Ok (item.Says s)) (form_of v) (inr (inr (inr (inr (v, has_begun, opened true o, sym first ∙ w, refl)))))
        (within_at (head.Says v) h (λ kind over. eqb-false place.statements MOST_STATEMENTS few (knows.statements o ∙ over.2)))
        (map_told rows before (statement_of names place v Line) (λ s. item.Says s) (form_of v) words (statement_told names place rows before Line knows are begun v w))))
        (λ c. unknown false (head.Says v) c h refl (within_at (head.Says v) h (λ kind over. closed c over.1)))
      where
        says : is_statement Line ≡ true
        says = ap (λ x. is_some (verb_named x)) w ∙ verb_is v

        closed : place.is_open ≡ false → is_open before ≡ true → ⊥
        closed c o = let e : true ≡ false = sym o ∙ opened false c in cc

    unknown_told : head_of First ≡ head.Unknown → Read (Err UnknownWord)
    unknown_told h = go place.is_open refl
      where
        fits : Within
        fits = within_at head.Unknown h (λ kind over. over)

        go : (o : Bool) → place.is_open ≡ o → Read (Err UnknownWord)
        go true o = unknown true head.Unknown o h refl fits
        go false o = unknown false head.Unknown o h refl fits

    later_told : (h : Head) → head_of First ≡ h → BeginsSo First h → Read (later_line names place h Line)
    unfolding later_line
    later_told head.Script h w = script_told h w
    later_told head.End h w = end_told h w
    later_told head.Start h w = start_told h w
    later_told (head.Says v) h w = says_told v h w
    later_told head.Unknown h w = unknown_told h

-- ---- all lines
skipped_right : (rows before : List Row) (row : Row) (kind : Kind) → is_skipped row ≡ true → IsWrong rows before row kind → ⊥
skipped_right rows before [] kind e wrong = wrong
skipped_right rows before (word ∷ words) kind e wrong = let h : true ≡ false = sym e ∙ wrong.0 in cc

-- a line that says nothing
skipped_told : (rows before : List Row) (row : Row) → is_skipped row ≡ true → IsCleanRow rows before row
skipped_told rows before row e = record {
  within = λ kind over. subst (λ h. Over before h kind) (skipped_head row e) (limit_over before row kind over).1;
  right = λ kind wrong. skipped_right rows before row kind e wrong;
}

said_told : (names : Names) (place : Place) (rows before : List Row) (row : Row) → Knows names place rows before row → AreWords row → is_skipped row ≡ false
    → Tells (cond place.begun (later_line names place (head_of (word_at row 0)) row) (cluster_line row)) (λ i. IsCleanRow rows before row) (RowFault rows before row)
unfolding is_skipped
said_told names place rows before [] knows are said = cc
said_told names place rows before (word ∷ words) knows are said =
    tells_choice place.begun _ _ _ _ (λ b. later_told names place rows before word words knows are said b (head_of (word_at (word ∷ words) 0)) refl (head_word (word_at (word ∷ words) 0))) (λ b. cluster_told names place rows before word words knows are said b)

pub row_told : (names : Names) (place : Place) (rows before : List Row) (row : Row) → Knows names place rows before row → AreWords row
    → Tells (read_row names place row) (λ i. IsCleanRow rows before row) (RowFault rows before row)
unfolding read_row
row_told names place rows before row knows words =
    tells_choice (is_skipped row) (Ok item.Nothing) _ _ _ (λ e. tells_ok item.Nothing _ _ (skipped_told rows before row e)) (λ e. said_told names place rows before row knows words e)
