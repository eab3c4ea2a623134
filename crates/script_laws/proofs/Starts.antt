-- the starts of a part without a fault
use Rattle.std.proofs.Common.{◌≡◌, ◌≢◌, ◌==◌, ◌⊎◌, inl, inr, ℕ, zero, suc, ◌+◌, ◌<◌, ◌≤◌, true, false, List, [], ◌∷◌, ◌++◌, length, length-append, take, refl, sym, ap, ◌∙◌, subst, arith, Option, Some, None, Result, Ok, All}
use Rattle.std.specs.Prelude.{codes, slice_get, get_or, nat_le, nat_lt, IfSome}
use Rattle.std.proofs.lemmas.Bool.{eqb-true, eqb-false, ltb-true}
use Rattle.std.proofs.lemmas.List.{take-append-le, take_all}
use Rattle.std.proofs.lemmas.List.Elements.{All-push}
use Rattle.std.proofs.lemmas.Option.{slice_get-get_or}
use Rattle.unix_calls.specs.declared.World.{World}
use Rattle.unix_calls.specs.declared.Start.{Start}
use Rattle.unix_calls.specs.declared.Work.{Work}
use Rattle.unix_calls.specs.Valid.{EachAt, IsStart}
use Rattle.unix_calls.specs.Work.{total_work, is_little}
use Rattle.script_words.specs.declared.faults.Kind.{Kind}
use Rattle.script_words.specs.declared.faults.Kind.TheVariants.{UnknownWord, UnknownScript, DoubleName}
use Rattle.script_reader.specs.declared.names.Names.{Names}
use Rattle.script_reader.specs.declared.places.Place.{Place}
use Rattle.script_reader.specs.declared.lines.Item.{Item}
use Rattle.script_reader.specs.declared.lines.StartLine.{StartLine}
use Rattle.script_words.specs.Words.{Word, Row, found, is_same, word_at, name, number}
use Rattle.script_reader.specs.Names.{Table, number_in}
use Rattle.script_reader.specs.Statements.{script}
use Rattle.script_reader.specs.Lines.{is_numbered, start_variable, user, earlier_start, joined, place_after}
use Rattle.script_reader.specs.Files.{Told, place_behind, start_of, with_start, judged}
use Rattle.script_laws.proofs.Results.{Gives, next, choice, gives, fails, ended_here, anything, next_ok, then_ok, found_ok}
use Rattle.script_laws.proofs.Statements.{IsSmall, number_fits, node_fits}
use Rattle.script_laws.proofs.Tables.{AreBelow, IsListed}
use Rattle.script_laws.proofs.Lines.{IsStartLine, Step, silent, opens, begins, ends, says, starts}
use Rattle.script_laws.proofs.Walks.{starts_now, IsLittle, judged_next, Walk, nodes_stay}
use Rattle.unix_calls.specs.declared.limits.TheConstants.{MOST_STARTS}

-- ---- words
pub numbered_here : (t : Table) (word : Word) (at : ℕ) → is_numbered t word at ≡ true → number_in t word ≡ Some at
unfolding is_numbered
numbered_here t word at e = go (number_in t word) refl e
  where
    go : (o : Option ℕ) → number_in t word ≡ o → is_numbered t word at ≡ true → number_in t word ≡ Some at
    go (Some n) h i = let m = rw h at i in h ∙ ap (λ (k : ℕ). Some k) (eqb-true n at m)
    go None h i = let m = rw h at i in cc

pub script_there : (t : Table) (word : Word) (n : ℕ) → script t word ≡ Ok n → number_in t word ≡ Some n
unfolding script
script_there t word n e = let s = next_ok (name word) _ n e in found_ok (number_in t word) UnknownScript n s.2

-- the variable of a start, under which no earlier start stands
pub variable_there : (names : Names) (place : Place) (word : Word) (n : ℕ) → start_variable names place word ≡ Ok n → (number_in names.starts word ≡ Some place.starts) × (number_in names.variables word ≡ Some n)
unfolding start_variable
variable_there names place word n e =
    let s = next_ok (name word) _ n e in
    let t = then_ok (is_numbered names.starts word place.starts) _ DoubleName n s.2 in
    (numbered_here names.starts word place.starts t.0, found_ok (number_in names.variables word) UnknownWord n t.1)

abbrev HasSmallUser : ℕ × ℕ → Type 0
HasSmallUser u = IsSmall u.0

user_fits : (row : Row) → Gives (user row) HasSmallUser
unfolding user
user_fits row =
    choice (is_same (word_at row 4) (codes "uid")) _ _ HasSmallUser (λ _.
    next (number (word_at row 5)) _ IsSmall HasSmallUser (number_fits (word_at row 5)) (λ n h. gives (n, 6) HasSmallUser h)) (λ _.
    gives (0, 4) HasSmallUser (omega arith))

earlier_fits : (names : Names) (place : Place) (word : Word) → Gives (earlier_start names place word) (λ j. j < place.starts)
unfolding earlier_start
earlier_fits names place word =
    next (name word) _ _ Earlier (anything (name word)) (λ u _.
    next (found (number_in names.starts word) UnknownWord) _ _ Earlier (anything (found (number_in names.starts word) UnknownWord)) (λ n _.
    choice (nat_lt n place.starts) _ _ Earlier (λ e. gives n Earlier (ltb-true n place.starts e)) (λ _. fails UnknownWord Earlier)))
  where
    Earlier : ℕ → Type 0
    Earlier j = j < place.starts

abbrev IsJoined : Place → Option ℕ → Type 0
IsJoined place o = IfSome o (λ j. j < place.starts)

joined_fits : (names : Names) (place : Place) (count : ℕ) (row : Row) → Gives (joined names place count row) (IsJoined place)
unfolding joined
joined_fits names place count row =
    choice (nat_le (length row) count) _ _ (IsJoined place) (λ _. gives None (IsJoined place) tt) (λ _.
    choice (is_same (word_at row count) (codes "with")) _ _ (IsJoined place) (λ _.
    next (earlier_start names place (word_at row (count + 1))) _ _ (IsJoined place) (earlier_fits names place (word_at row (count + 1))) (λ n h. ended_here row (count + 2) (Some n) (IsJoined place) h)) (λ _.
    fails UnknownWord (IsJoined place)))

pub item_same : (a b : Item) → ◌≡◌ {A = Result Item Kind} (Ok a) (Ok b) → a ≡ b
item_same a b e = cc

-- ---- one element more
pub pushed : {X : Type 0} (xs : List X) (x : X) (k : ℕ) (y : X) → slice_get (xs ++ x ∷ []) k ≡ Some y → ((slice_get xs k ≡ Some y) × (k < length xs)) ⊎ ((k ≡ length xs) × (x ≡ y))
pushed [] x zero y e = inr (refl, cc)
pushed [] x (suc k) y e = cc
pushed (z ∷ xs) x zero y e = inl (e, omega arith)
pushed (z ∷ xs) x (suc k) y e = elim (pushed xs x k y e) [ inl h ↦ inl (h.0, omega arith) | inr h ↦ inr (ap (λ m. suc m) h.0, h.1) ]

take_before : {X : Type 0} (xs : List X) (x : X) (k : ℕ) → k < length xs → take k (xs ++ x ∷ []) ≡ take k xs
take_before xs x k lt = take-append-le k xs (x ∷ []) (omega arith)

take_whole : {X : Type 0} (xs : List X) (x : X) (k : ℕ) → k ≡ length xs → take k (xs ++ x ∷ []) ≡ xs
take_whole xs x k e = rw (e, take-append-le (length xs) xs (x ∷ []) (omega arith)) (take_all (length xs) xs (omega arith))

-- ---- starts
module _ (names : Names) (world : World) (works : List Work) (variables : IsListed names.variables) (vars : world.vars ≡ length names.variables) (scripts : AreBelow names.scripts (length world.scripts)) where
  -- the word of the i-th start
  pub record IsNamed (i : ℕ) (s : Start) : Type 0 where
    pub word : Word
    pub number : number_in names.starts word ≡ Some i
    pub var : number_in names.variables word ≡ Some s.var

  -- the starts so far
  pub record AreStarted (earlier : List Start) (place : Place) : Type 0 where
    pub count : length earlier ≡ place.starts
    pub few : place.starts ≤ MOST_STARTS
    pub each : EachAt (λ k. IsStart world (take k earlier)) earlier
    pub named : EachAt IsNamed earlier
    pub users : All (λ s. IsSmall s.uid) earlier
    pub work : is_little (total_work works earlier) ≡ true

  own : (earlier : List Start) (place : Place) (word : Word) (n : ℕ) → AreStarted earlier place → number_in names.starts word ≡ Some place.starts → number_in names.variables word ≡ Some n → All (λ other. other.var ≢ n) earlier
  own earlier place word n a s v = λ k d lt. λ e.
      let m = a.named k (get_or earlier k d) (slice_get-get_or earlier k d lt) in
      let same : m.word ≡ word = variables.one m.word word n (m.var ∙ ap (λ (x : ℕ). Some x) e) v in
      let h : number_in names.starts m.word ≡ Some place.starts = ap (number_in names.starts) same ∙ s in
      differ k (sym m.number ∙ h) lt a.count
    where
      differ : (k : ℕ) → Some k ≡ Some place.starts → k < length earlier → length earlier ≡ place.starts → ⊥
      differ k e lt c = let is : k ≡ place.starts = cc in omega arith

  -- a start that is read is one of the world
  start_fits : (earlier : List Start) (place : Place) (row : Row) (s : StartLine) → AreStarted earlier place → place.nodes ≡ world.nodes → IsStartLine names place row s → IsStart world earlier (start_of earlier s)
  unfolding start_of
  start_fits earlier place row s a nodes l =
      let v = variable_there names place (word_at row 3) s.var l.var in
      record {
        node = subst (λ m. s.node < m) nodes ((node_fits place.nodes (word_at row 1)).fact s.node l.node);
        script = scripts.each (word_at row 2) s.script (script_there names.scripts (word_at row 2) s.script l.script);
        var = subst (λ m. s.var < m) (sym vars) (variables.below.each (word_at row 3) s.var v.1);
        pid = refl;
        own_var = own earlier place (word_at row 3) s.var a v.0 v.1;
        joined = subst (λ m. IfSome s.joined (λ j. j < m)) (sym a.count) ((joined_fits names place l.count row).fact s.joined l.joined);
      }

  one_more : (earlier : List Start) (place : Place) (row : Row) (s : StartLine) (now : Place) → AreStarted earlier place → place.nodes ≡ world.nodes → IsStartLine names place row s → (place.starts == MOST_STARTS) ≡ false → now.starts ≡ place.starts + 1
      → is_little (total_work works (with_start earlier s)) ≡ true → AreStarted (with_start earlier s) now
  unfolding start_of
  one_more earlier place row s now a nodes l room is e =
      let v = variable_there names place (word_at row 3) s.var l.var in
      record {
        count = length-append earlier (start_of earlier s ∷ []) ∙ ap (λ m. m + 1) a.count ∙ sym is;
        few = fits (eqb-false _ _ room) a.few;
        each = λ k x h. elim (pushed earlier (start_of earlier s) k x h) [
          | inl o ↦ subst (λ before. IsStart world before x) (sym (take_before earlier (start_of earlier s) k o.1)) (a.each k x o.0)
          | inr o ↦ subst (λ before. IsStart world before x) (sym (take_whole earlier (start_of earlier s) k o.0)) (subst (IsStart world earlier) o.1 (start_fits earlier place row s a nodes l))
        ];
        named = λ k x h. elim (pushed earlier (start_of earlier s) k x h) [
          | inl o ↦ a.named k x o.0
          | inr o ↦ record { word = word_at row 3; number = v.0 ∙ ap (λ (m : ℕ). Some m) (sym (o.0 ∙ a.count)); var = v.1 ∙ ap (λ (z : Start). Some z.var) o.1 }
        ];
        users = All-push (λ x. IsSmall x.uid) earlier (start_of earlier s) a.users ((user_fits row).fact (s.uid, l.count) l.uid);
        work = e;
      }
    where
      fits : (place.starts ≡ MOST_STARTS → ⊥) → place.starts ≤ MOST_STARTS → now.starts ≤ MOST_STARTS
      fits ne le = omega arith

  still : (earlier : List Start) (place now : Place) → now.starts ≡ place.starts → AreStarted earlier place → AreStarted earlier now
  still earlier place now e a = record { count = a.count ∙ sym e; few = omega (arith, a.few); each = a.each; named = a.named; users = a.users; work = a.work }

  step_started : (earlier : List Start) (place : Place) (row : Row) (i : Item) (now : Place) → Step names place row i now → (place.begun ≡ true → place.nodes ≡ world.nodes) → IsLittle works earlier i → AreStarted earlier place → AreStarted (starts_now earlier i) now
  step_started earlier place row i now (silent k e n) nodes l a = rw e (still earlier place now (ap (λ p. p.starts) n) a)
  step_started earlier place row i now (opens m k b w nu lo lo' hi e n) nodes l a = rw e (still earlier place now (ap (λ p. p.starts) n) a)
  step_started earlier place row i now (begins k b w c o nm d f e n) nodes l a = rw e (still earlier place now (ap (λ p. p.starts) n) a)
  step_started earlier place row i now (ends k b w o f e n) nodes l a = rw e (still earlier place now (ap (λ p. p.starts) n) a)
  step_started earlier place row i now (says v s k b w o c st e n) nodes l a = rw e (still earlier place now (ap (λ p. p.starts) n) a)
  step_started earlier place row i now (starts s k b w c o st e n) nodes l a = subst (λ x. AreStarted (starts_now earlier x) now) (sym e) (one_more earlier place row s now a (nodes b) st c (ap (λ p. p.starts) n) (subst (IsLittle works earlier) e l))

  pub starts_fit : (place : Place) (told : List Told) (earlier : List Start) (line : ℕ) (all : List Start) → Walk names place told → (place_behind place told).nodes ≡ world.nodes → judged works earlier line told ≡ Ok all → AreStarted earlier place → AreStarted all (place_behind place told)
  unfolding place_behind judged
  starts_fit place [] earlier line all w total e a = let is : earlier ≡ all = cc in subst (λ x. AreStarted x place) is a
  starts_fit place (t ∷ rest) earlier line all w total e a =
      let j = judged_next works earlier line t.0 t.1 rest all e in
      let same : w.0 ≡ j.i = item_same w.0 j.i (sym w.1 ∙ j.read) in
      let nodes = λ (b : place.begun ≡ true). sym ((nodes_stay names place (t ∷ rest) w b).0) ∙ total in
      let here = step_started earlier place t.0 w.0 (place_after place t.0 t.1) w.2 nodes (subst (IsLittle works earlier) (sym same) j.little) a in
      starts_fit (place_after place t.0 t.1) rest (starts_now earlier w.0) (line + 1) all w.3 total (subst (λ x. judged works (starts_now earlier x) (line + 1) rest ≡ Ok all) (sym same) j.later) here
