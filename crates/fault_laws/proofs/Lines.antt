-- the lines of the cluster, of a script and of a start: behind the first word they are as their forms have them, or the fault is that of the first wrong word
use Rattle.std.proofs.Common.{◌≡◌, ◌&&◌, inl, inr, ℕ, suc, ◌+◌, ◌<◌, ◌≤◌, Bool, true, false, cond, List, [], drop, refl, sym, ap, ◌∙◌, subst, arith, Some, None, Result, Ok, Err}
use Rattle.std.specs.Prelude.{codes, nat_le, nat_lt}
use Rattle.std.specs.Str.Parse.{digits_value}
use Rattle.std.proofs.lemmas.Bool.{ltb-true, ltb-false, leb-true, leb-false, and_parts}
use Rattle.byte_ends.specs.Text.{IsNumber}
use Rattle.script_words.specs.declared.faults.Kind.{Kind}
use Rattle.script_words.specs.declared.faults.Kind.TheVariants.{UnknownWord, TooManyNodes, DoubleName}
use Rattle.script_words.specs.Words.{Row, ◌>>=◌, word_at, name, has_name_form, number, ended}
use Rattle.script_reader.specs.declared.names.Names.{Names}
use Rattle.script_reader.specs.declared.places.Place.{Place}
use Rattle.script_reader.specs.declared.lines.Item.{Item}
use Rattle.script_reader.specs.declared.lines.Item.TheVariants as item
use Rattle.script_reader.specs.Lines.{is_numbered, start_variable, user, earlier_start, joined, start_words}
use Rattle.script_reader.specs.Files.{begins_with}
use Rattle.script_laws.specs.Grammar.{IsName}
use Rattle.fault_laws.specs.Slots as slot
use Rattle.fault_laws.specs.Slots.{IsTotal, Misfits, IsNoName}
use Rattle.fault_laws.specs.Patterns.{Pattern, ends, needs, may, joining, start_form}
use Rattle.fault_laws.proofs.Tells.{tells_next, tells_choice}
use Rattle.fault_laws.proofs.Knows.{AreWords, Knows}
use Rattle.fault_laws.proofs.Readings.{number_told, name_told, new_start_told, earlier_start_told}
use Rattle.fault_laws.proofs.Shapes.{bind_assoc, Reads, map_told, read_so, fitting, misfitting, needs_all, needs_told, ended_told, may_told, may_or}
use Rattle.fault_laws.proofs.Statements.{name_none, number_none, number_at, node_at, any_script_at}
use Rattle.unix_calls.specs.declared.limits.TheConstants.{MOST_NODES}

-- ---- the cluster's line
module _ (rows before : List Row) (row : Row) (are : AreWords row) where
  -- the number of nodes, behind the cluster's word
  abbrev pub nodes_read : Result Item Kind
  nodes_read = number (word_at row 1) >>= λ n. cond (nat_lt 0 n && nat_le n MOST_NODES) (ended {A = Unit {0}} row 2 tt >>= λ _. Ok (item.Nodes n)) (Err TooManyNodes)

  total_of : (n : ℕ) → (nat_lt 0 n && nat_le n MOST_NODES) ≡ true → IsTotal n
  total_of n e = let p = and_parts (nat_lt 0 n) (nat_le n MOST_NODES) e in (ltb-true 0 n p.0, leb-true n MOST_NODES p.1)

  total_not : (n : ℕ) → (nat_lt 0 n && nat_le n MOST_NODES) ≡ false → ¬ IsTotal n
  total_not n e t = go (nat_lt 0 n) (nat_le n MOST_NODES) refl refl e
    where
      go : (a b : Bool) → nat_lt 0 n ≡ a → nat_le n MOST_NODES ≡ b → (a && b) ≡ false → ⊥
      go true true x y h = cc
      go true false x y h = let lt : MOST_NODES < n = leb-false n MOST_NODES y in omega (arith, t.1)
      go false b x y h = let le : n ≤ 0 = ltb-false 0 n x in omega (arith, t.0)

  pub nodes_told : Reads rows before row are nodes_read (needs slot.total ends) 1
  nodes_told =
      needs_all rows before row are slot.total ends 1 nodes_read (λ e. ap (λ w. number w >>= f) e ∙ ap (λ r. r >>= f) number_none) (λ some.
      tells_next (number (word_at row 1)) f (λ n. IsNumber (word_at row 1) × (digits_value 10 (word_at row 1) ≡ n)) (Misfits [] [] slot.number (word_at row 1)) _ _ (number_told (word_at row 1) some) (λ n e is.
      tells_choice (nat_lt 0 n && nat_le n MOST_NODES) _ _ _ _
      (λ t. fitting rows before row are slot.total ends 1 _ (is.0, subst IsTotal (sym is.1) (total_of n t)) (map_told rows before (ended {A = Unit {0}} row 2 tt) (λ _. item.Nodes n) ends (drop 2 row) (ended_told rows before row are 2 tt)))
      (λ t. misfitting rows before row are slot.total ends 1 TooManyNodes (inr (refl, is.0, λ total. total_not n t (subst IsTotal is.1 total)))))
      (λ kind m. inl (inl m)))
    where
      f : ℕ → Result Item Kind
      f n = cond (nat_lt 0 n && nat_le n MOST_NODES) (ended {A = Unit {0}} row 2 tt >>= λ _. Ok (item.Nodes n)) (Err TooManyNodes)

-- ---- lines behind that one
module _ (names : Names) (place : Place) (rows before : List Row) (row : Row) (knows : Knows names place rows before row) (are : AreWords row) where
  -- the name of a script, behind the script's word
  abbrev pub title_read : Result Item Kind
  title_read = name (word_at row 1) >>= λ _. cond (is_numbered names.scripts (word_at row 1) place.scripts) (ended {A = Unit {0}} row 2 tt >>= λ _. Ok item.ScriptBegins) (Err DoubleName)

  pub title_told : begins_with (codes "script") row ≡ true → Reads rows before row are title_read (needs slot.new_script ends) 1
  title_told begins =
      needs_all rows before row are slot.new_script ends 1 title_read (λ e. ap (λ w. name w >>= f) e ∙ ap (λ r. r >>= f) name_none) (λ some.
      tells_next (name (word_at row 1)) f (λ u. IsName (word_at row 1)) (IsNoName (word_at row 1)) _ _ (name_told (word_at row 1)) (λ u e is.
      tells_choice (is_numbered names.scripts (word_at row 1) place.scripts) _ _ _ _
      (λ t. fitting rows before row are slot.new_script ends 1 _ (is, knows.script_new begins t) (map_told rows before (ended {A = Unit {0}} row 2 tt) (λ _. item.ScriptBegins) ends (drop 2 row) (ended_told rows before row are 2 tt)))
      (λ t. misfitting rows before row are slot.new_script ends 1 DoubleName (inr (refl, is, knows.script_old begins t))))
      (λ kind m. inl (inl m)))
    where
      f : Unit {0} → Result Item Kind
      f u = cond (is_numbered names.scripts (word_at row 1) place.scripts) (ended {A = Unit {0}} row 2 tt >>= λ _. Ok item.ScriptBegins) (Err DoubleName)

  -- ---- starts
  start_variable_none : start_variable names place [] ≡ Err UnknownWord
  unfolding start_variable name has_name_form
  start_variable_none = refl

  earlier_start_none : earlier_start names place [] ≡ Err UnknownWord
  unfolding earlier_start name has_name_form
  earlier_start_none = refl

  abbrev Here : {A : Type 0} → Result A Kind → Pattern → ℕ → Type 0
  Here r form k = Reads rows before row are r form k

  -- the start that is joined, behind so many words
  joined_told : (k : ℕ) → Here (joined names place k row) joining k
  unfolding joined ended
  joined_told k =
      may_or rows before row are (codes "with") (needs slot.earlier_start ends) ends k None _ (Err UnknownWord) (λ e. cc)
      (read_so rows before row are _ (earlier_start names place (word_at row (suc k)) >>= λ n. ended row (suc (suc k)) (Some n)) (needs slot.earlier_start ends) (suc k) same
      (needs_told rows before row are slot.earlier_start ends (suc k) (earlier_start names place (word_at row (suc k))) _ (λ e. ap (earlier_start names place) e ∙ earlier_start_none)
      (λ some. earlier_start_told names place rows before row knows (word_at row (suc k))) (λ n. ended_told rows before row are (suc (suc k)) (Some n))))
      (ended_told rows before row are k None)
    where
      one : k + 1 ≡ suc k
      one = omega arith

      two : k + 2 ≡ suc (suc k)
      two = omega arith

      same : (earlier_start names place (word_at row (k + 1)) >>= λ n. ended row (k + 2) (Some n)) ≡ (earlier_start names place (word_at row (suc k)) >>= λ n. ended row (suc (suc k)) (Some n))
      same = rw (one, two) refl

  module _ (begun : place.begun ≡ true) where
    -- the user, where one is given, and what is read behind so many words
    user_told : {A : Type 0} (g : ℕ → ℕ → Result A Kind) → ((n k : ℕ) → Here (g n k) joining k) → Here (user row >>= λ u. g u.0 u.1) (may (codes "uid") (needs slot.number joining) joining) 4
    unfolding user
    user_told g rest =
        may_told rows before row are (codes "uid") (needs slot.number joining) joining 4 _ (λ e. cc)
        (λ s m. read_so rows before row are _ (number (word_at row 5) >>= λ n. g n 6) (needs slot.number joining) 5 (rw s (bind_assoc (number (word_at row 5)) (λ n. Ok (n, 6)) (λ u. g u.0 u.1))) (number_at names place rows before row knows are begun joining 5 (λ n. g n 6) (λ n. rest n 6)))
        (λ s. read_so rows before row are _ (g 0 4) joining 4 (rw s refl) (rest 0 4))

    -- the user of a start and the start that it joins, where they are given
    abbrev Options : Pattern
    Options = may (codes "uid") (needs slot.number joining) joining

    -- the words behind the start's word
    pub start_words_told : begins_with (codes "start") row ≡ true → Here (start_words names place row) start_form 1
    unfolding start_words
    start_words_told starts =
        node_at names place rows before row knows are begun (needs slot.any_script (needs slot.new_start Options)) 1 _ (λ site.
        any_script_at names place rows before row knows are begun (needs slot.new_start Options) 2 _ (λ runs.
        needs_told rows before row are slot.new_start Options 3 (start_variable names place (word_at row 3)) _ (λ e. ap (start_variable names place) e ∙ start_variable_none) (λ some. new_start_told names place rows before row knows starts) (λ var.
        user_told (λ n k. joined names place k row >>= λ other. Ok (item.Starts (record { node = site; script = runs; var = var; uid = n; joined = other })))
        (λ n k. map_told rows before (joined names place k row) (λ other. item.Starts (record { node = site; script = runs; var = var; uid = n; joined = other })) joining (drop k row) (joined_told k)))))
