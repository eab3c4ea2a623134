-- words that are right by a form are not wrong by it, and words that are wrong are so for one reason
use Rattle.std.proofs.Common.{◌≡◌, inl, inr, ◌++◌, Bool, true, false, List, [], ◌∷◌, refl, sym, ap, ◌∙◌, subst, Option, Some, None, All}
use Rattle.std.specs.Prelude.{codes}
use Rattle.std.proofs.lemmas.List.Elements.{All-head, All-tail}
use Rattle.script_words.specs.declared.faults.Kind.{Kind}
use Rattle.script_words.specs.Words.{Word, Row, is_same}
use Rattle.script_words.specs.declared.table.Verb.{Verb}
use Rattle.script_reader.specs.declared.lines.Head.{Head}
use Rattle.script_reader.specs.declared.lines.Head.TheVariants as head
use Rattle.script_reader.specs.Lines.{head_of}
use Rattle.script_laws.proofs.Words.{words_same}
use Rattle.script_laws.proofs.Heads.{verb_head, script_head, start_head, end_head}
use Rattle.fault_laws.specs.Context.{is_begun, is_open}
use Rattle.fault_laws.specs.Slots.{Slot, total, new_script, Fits, Misfits}
use Rattle.fault_laws.specs.Patterns.{Pattern, ends, needs, may, each, start_form, form_of, AreRight, AreWrong, Begins, IsWrong}
use Rattle.fault_laws.proofs.Slots.{fits_not, misfits_same}

-- ---- one word after the other
cons_head : (a b : Word) (xs ys : Row) → a ∷ xs ≡ b ∷ ys → a ≡ b
cons_head a b xs ys e = cc

cons_tail : (a b : Word) (xs ys : Row) → a ∷ xs ≡ b ∷ ys → xs ≡ ys
cons_tail a b xs ys e = cc

module _ (rows before : List Row) where
  -- all words fit, or one of them does not
  fit_not : (slot : Slot) (kind : Kind) (words right later : Row) (word : Word) → words ≡ right ++ word ∷ later → All (Fits rows before slot) words → Misfits rows before slot word kind → ⊥
  fit_not slot kind [] [] later word e all m = cc
  fit_not slot kind [] (r ∷ right) later word e all m = cc
  fit_not slot kind (w ∷ words) [] later word e all m =
      fits_not rows before slot word kind (subst (Fits rows before slot) (cons_head w word words later e) (All-head (Fits rows before slot) w words all)) m
  fit_not slot kind (w ∷ words) (r ∷ right) later word e all m =
      fit_not slot kind words right later word (cons_tail w r words (right ++ word ∷ later) e) (All-tail (Fits rows before slot) w words all) m

  -- the first word that does not fit is one
  first_same : (slot : Slot) (kind kind' : Kind) (right later right' later' : Row) (word word' : Word) → right ++ word ∷ later ≡ right' ++ word' ∷ later'
      → All (Fits rows before slot) right → Misfits rows before slot word kind → All (Fits rows before slot) right' → Misfits rows before slot word' kind' → kind ≡ kind'
  first_same slot kind kind' [] later [] later' word word' e all m all' m' =
      misfits_same rows before slot word' kind kind' (subst (λ w. Misfits rows before slot w kind) (cons_head word word' later later' e) m) m'
  first_same slot kind kind' [] later (r ∷ right') later' word word' e all m all' m' =
      absurd (fits_not rows before slot r kind (All-head (Fits rows before slot) r right' all') (subst (λ w. Misfits rows before slot w kind) (cons_head word r later (right' ++ word' ∷ later') e) m))
  first_same slot kind kind' (r ∷ right) later [] later' word word' e all m all' m' =
      absurd (fits_not rows before slot r kind' (All-head (Fits rows before slot) r right all) (subst (λ w. Misfits rows before slot w kind') (sym (cons_head r word' (right ++ word ∷ later) later' e)) m'))
  first_same slot kind kind' (r ∷ right) later (r' ∷ right') later' word word' e all m all' m' =
      first_same slot kind kind' right later right' later' word word' (cons_tail r r' (right ++ word ∷ later) (right' ++ word' ∷ later') e)
      (All-tail (Fits rows before slot) r right all) m (All-tail (Fits rows before slot) r' right' all') m'

-- ---- words by their forms
pub right_not_wrong : (rows before : List Row) (form : Pattern) (words : Row) (kind : Kind) → AreRight rows before form words → AreWrong rows before form words kind → ⊥
right_not_wrong rows before ends [] kind r w = w
right_not_wrong rows before ends (word ∷ words) kind r w = cc
right_not_wrong rows before (needs slot form) [] kind r w = r
right_not_wrong rows before (needs slot form) (word ∷ words) kind r (inl m) = fits_not rows before slot word kind r.0 m
right_not_wrong rows before (needs slot form) (word ∷ words) kind r (inr w) = right_not_wrong rows before form words kind r.1 w.1
right_not_wrong rows before (may given then' else') [] kind r w = right_not_wrong rows before else' [] kind r w
right_not_wrong rows before (may given then' else') (word ∷ words) kind (inl r) (inl w) = right_not_wrong rows before then' words kind r.1 w.1
right_not_wrong rows before (may given then' else') (word ∷ words) kind (inl r) (inr w) = w.0 r.0
right_not_wrong rows before (may given then' else') (word ∷ words) kind (inr r) (inl w) = r.0 w.0
right_not_wrong rows before (may given then' else') (word ∷ words) kind (inr r) (inr w) = right_not_wrong rows before else' (word ∷ words) kind r.1 w.1
right_not_wrong rows before (each slot) words kind r w = fit_not rows before slot kind words w.0 w.1 w.2 w.3 r w.5

pub wrong_same : (rows before : List Row) (form : Pattern) (words : Row) (kind kind' : Kind) → AreWrong rows before form words kind → AreWrong rows before form words kind' → kind ≡ kind'
wrong_same rows before ends [] kind kind' a b = absurd a
wrong_same rows before ends (word ∷ words) kind kind' a b = a ∙ sym b
wrong_same rows before (needs slot form) [] kind kind' a b = a ∙ sym b
wrong_same rows before (needs slot form) (word ∷ words) kind kind' (inl a) (inl b) = misfits_same rows before slot word kind kind' a b
wrong_same rows before (needs slot form) (word ∷ words) kind kind' (inl a) (inr b) = absurd (fits_not rows before slot word kind b.0 a)
wrong_same rows before (needs slot form) (word ∷ words) kind kind' (inr a) (inl b) = absurd (fits_not rows before slot word kind' a.0 b)
wrong_same rows before (needs slot form) (word ∷ words) kind kind' (inr a) (inr b) = wrong_same rows before form words kind kind' a.1 b.1
wrong_same rows before (may given then' else') [] kind kind' a b = wrong_same rows before else' [] kind kind' a b
wrong_same rows before (may given then' else') (word ∷ words) kind kind' (inl a) (inl b) = wrong_same rows before then' words kind kind' a.1 b.1
wrong_same rows before (may given then' else') (word ∷ words) kind kind' (inl a) (inr b) = absurd (b.0 a.0)
wrong_same rows before (may given then' else') (word ∷ words) kind kind' (inr a) (inl b) = absurd (a.0 b.0)
wrong_same rows before (may given then' else') (word ∷ words) kind kind' (inr a) (inr b) = wrong_same rows before else' (word ∷ words) kind kind' a.1 b.1
wrong_same rows before (each slot) words kind kind' a b = first_same rows before slot kind kind' a.0 a.1 b.0 b.1 a.2 b.2 (sym a.3 ∙ b.3) a.4 a.5 b.4 b.5

-- ---- the form of a line by its first word
-- the form by which a line goes on, by whether one says something before it, whether a script is open, whether its first word is the cluster's, and how it is read
abbrev pub chosen : Bool → Bool → Bool → Head → Option Pattern
chosen false _ true _ = Some (needs total ends)
chosen false _ false _ = None
chosen true false _ head.Script = Some (needs new_script ends)
chosen true false _ head.Start = Some start_form
chosen true true _ head.End = Some ends
chosen true true _ (head.Says v) = Some (form_of v)
chosen true _ _ _ = None

chosen_cluster : (begun open' named : Bool) (h : Head) → begun ≡ false → named ≡ true → chosen begun open' named h ≡ Some (needs total ends)
chosen_cluster begun open' named h b n = rw (b, n) refl

chosen_script : (begun open' named : Bool) (h : Head) → begun ≡ true → open' ≡ false → h ≡ head.Script → chosen begun open' named h ≡ Some (needs new_script ends)
chosen_script begun open' named h b o e = rw (b, o, e) refl

chosen_end : (begun open' named : Bool) (h : Head) → begun ≡ true → open' ≡ true → h ≡ head.End → chosen begun open' named h ≡ Some ends
chosen_end begun open' named h b o e = rw (b, o, e) refl

chosen_start : (begun open' named : Bool) (h : Head) → begun ≡ true → open' ≡ false → h ≡ head.Start → chosen begun open' named h ≡ Some start_form
chosen_start begun open' named h b o e = rw (b, o, e) refl

chosen_verb : (begun open' named : Bool) (h : Head) (v : Verb) → begun ≡ true → open' ≡ true → h ≡ head.Says v → chosen begun open' named h ≡ Some (form_of v)
chosen_verb begun open' named h v b o e = rw (b, o, e) refl

-- the form of a line that begins with this word
abbrev pub Choice : List Row → Word → Option Pattern
Choice before word = chosen (is_begun before) (is_open before) (is_same word (codes "cluster")) (head_of word)

-- no form is chosen, by what decides it
none_chosen : (b begun o open' c named : Bool) (h h' : Head) → begun ≡ b → open' ≡ o → named ≡ c → h' ≡ h → chosen b o c h ≡ None → chosen begun open' named h' ≡ None
none_chosen b begun o open' c named h h' eb eo ec eh none = rw (eb, eo, ec, eh) none

pub no_choice : (before : List Row) (word : Word) (b o c : Bool) (h : Head) → is_begun before ≡ b → is_open before ≡ o → is_same word (codes "cluster") ≡ c → head_of word ≡ h → chosen b o c h ≡ None → Choice before word ≡ None
no_choice before word b o c h eb eo ec eh none = none_chosen b (is_begun before) o (is_open before) c (is_same word (codes "cluster")) h (head_of word) eb eo ec eh none

some_form : (o : Option Pattern) (form form' : Pattern) → o ≡ Some form → form' ≡ form → o ≡ Some form'
some_form o form form' a b = a ∙ ap (λ (f : Pattern). Some f) (sym b)

-- the form by which a line begins is the chosen one
pub begins_chosen : (before : List Row) (word : Word) (form : Pattern) → Begins before word form → Choice before word ≡ Some form
begins_chosen before word form (inl a) =
    some_form (Choice before word) (needs total ends) form (chosen_cluster (is_begun before) (is_open before) (is_same word (codes "cluster")) (head_of word) a.0 (words_same word (codes "cluster") a.1)) a.2
begins_chosen before word form (inr (inl a)) =
    some_form (Choice before word) (needs new_script ends) form (chosen_script (is_begun before) (is_open before) (is_same word (codes "cluster")) (head_of word) a.0 a.1 (ap head_of a.2 ∙ script_head.head)) a.3
begins_chosen before word form (inr (inr (inl a))) =
    some_form (Choice before word) ends form (chosen_end (is_begun before) (is_open before) (is_same word (codes "cluster")) (head_of word) a.0 a.1 (ap head_of a.2 ∙ end_head.head)) a.3
begins_chosen before word form (inr (inr (inr (inl a)))) =
    some_form (Choice before word) start_form form (chosen_start (is_begun before) (is_open before) (is_same word (codes "cluster")) (head_of word) a.0 a.1 (ap head_of a.2 ∙ start_head.head)) a.3
begins_chosen before word form (inr (inr (inr (inr a)))) =
    some_form (Choice before word) (form_of a.0) form (chosen_verb (is_begun before) (is_open before) (is_same word (codes "cluster")) (head_of word) a.0 a.1 a.2 (ap head_of a.3 ∙ (verb_head a.0).head)) a.4

some_same : (o : Option Pattern) (form form' : Pattern) → o ≡ Some form → o ≡ Some form' → form ≡ form'
some_same o form form' a b = cc

-- no line begins so
pub begins_not : (before : List Row) (word : Word) (form : Pattern) → Choice before word ≡ None → Begins before word form → ⊥
begins_not before word form e a = none (Choice before word) e (begins_chosen before word form a)
  where
    none : (o : Option Pattern) → o ≡ None → o ≡ Some form → ⊥
    none o x y = cc

pub begins_same : (before : List Row) (word : Word) (form form' : Pattern) → Begins before word form → Begins before word form' → form ≡ form'
begins_same before word form form' a b = some_same (Choice before word) form form' (begins_chosen before word form a) (begins_chosen before word form' b)

pub is_wrong_same : (rows before : List Row) (row : Row) (kind kind' : Kind) → IsWrong rows before row kind → IsWrong rows before row kind' → kind ≡ kind'
is_wrong_same rows before [] kind kind' a b = absurd a
is_wrong_same rows before (word ∷ words) kind kind' a b = elim a.1 [
  | inl x ↦ elim b.1 [ inl y ↦ x.1 ∙ sym y.1 | inr y ↦ absurd (x.0 y.0 y.1) ]
  | inr x ↦ elim b.1 [
    | inl y ↦ absurd (y.0 x.0 x.1)
    | inr y ↦ wrong_same rows before x.0 words kind kind' x.2 (subst (λ f. AreWrong rows before f words kind') (begins_same before word y.0 x.0 y.1 x.1) y.2)
  ]
]
