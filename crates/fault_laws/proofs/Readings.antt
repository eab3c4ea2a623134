-- each reading of a word: what it reads fits the place, and its fault is what is wrong with the word
use Rattle.std.proofs.Common.{◌≡◌, ◌==◌, ◌&&◌, ◌⊎◌, inl, inr, ℕ, ◌-◌, ◌<◌, ◌≤◌, true, false, not, List, [], ◌∷◌, length, refl, sym, ap, ◌∙◌, subst, Option, Some, None, Result, Ok, Err, arith}
use Rattle.std.specs.Prelude.{codes, nat_le, nat_lt, Contains}
use Rattle.std.specs.Str.Parse.{digits_value}
use Rattle.std.proofs.lemmas.Bool.{leb-true, leb-false, ltb-true, ltb-false, eqb-true, eqb-false}
use Rattle.byte_ends.specs.Text.{IsNumber}
use Rattle.unix_names.specs.declared.Signal.{Signal}
use Rattle.unix_names.specs.declared.Act.{Act}
use Rattle.unix_names.specs.Signals.{number_of, word_of, signal_of, signal_named}
use Rattle.unix_names.proofs.SignalLaws.{number_of-signal_of, signal_of-number_of, word_of-signal_named}
use Rattle.unix_calls.specs.declared.Arg.TheVariants.{Zero, One, Nobody, Own, Maker, Var}
use Rattle.script_words.specs.declared.faults.Kind.{Kind}
use Rattle.script_words.specs.declared.faults.Kind.TheVariants.{UnknownWord, UnknownScript, LaterScript, BadNumber, NoSuchNode, DoubleName, LongName}
use Rattle.script_words.specs.Words.{Word, Row, ◌>>=◌, found, is_same, word_at, has_name_form, is_reserved, name, is_number, number, node, begins_with_digit, signal_number, signal, is_minus_digits}
use Rattle.script_words.specs.Table.{act_named}
use Rattle.script_words.proofs.Numbers.{is_number-decides}
use Rattle.script_words.proofs.Spelled.{act_named-act_word}
use Rattle.script_reader.specs.declared.names.Names.{Names}
use Rattle.script_reader.specs.declared.places.Place.{Place}
use Rattle.script_reader.specs.Names.{Table, number_in}
use Rattle.script_reader.specs.Lines.{is_numbered, start_variable, earlier_start}
use Rattle.script_reader.specs.Statements.{own_variable, script, earlier_script, variable, group, process, target, wanted_group, selector, act}
use Rattle.script_reader.specs.Files.{begins_with}
use Rattle.script_laws.specs.Grammar.{IsName, IsFor, IsForSignal, act_word}
use Rattle.script_laws.proofs.Words.{same_words, act_spelled}
use Rattle.script_laws.proofs.Understood.{act_is}
use Rattle.script_laws.proofs.Reading.{name_read}
use Rattle.fault_laws.specs.Context.{nodes_in, variable_names}
use Rattle.fault_laws.specs.Slots as slot
use Rattle.fault_laws.specs.Slots.{Fits, Misfits, IsNoName, IsNoTarget, NamesGroup, NamesProcess, NamesTarget}
use Rattle.fault_laws.proofs.Words.{differ, not_both, form_known, form_passes, one_first, process_first, minus_digits_not, rest_same, digit_no_signal, named_not, number_digit}
use Rattle.fault_laws.proofs.Tells.{Tells, tells_ok, tells_err, tells_next, tells_choice, tells_weaker}
use Rattle.fault_laws.proofs.Knows.{Knows}
use Rattle.script_words.specs.declared.limits.TheConstants.{LONGEST_NAME}

-- what is found, or nothing is
found_told : {A : Type 0} (o : Option A) (kind : Kind) → Tells (found o kind) (λ x. o ≡ Some x) (λ k. (k ≡ kind) × (o ≡ None))
found_told (Some x) kind = tells_ok x _ _ refl
found_told None kind = tells_err kind _ _ (refl, refl)

-- ---- numbers and names
pub number_told : (word : Word) → ¬ (word ≡ []) → Tells (number word) (λ n. IsNumber word × (digits_value 10 word ≡ n)) (λ kind. Misfits [] [] slot.number word kind)
unfolding number
number_told word some =
    tells_choice (length word == 0) _ _ _ _ (λ e. absurd (empty word some (eqb-true (length word) 0 e))) (λ _.
    tells_choice (is_number word) _ _ _ _
    (λ e. tells_ok (digits_value 10 word) _ _ ((is_number-decides word).0 e, refl))
    (λ e. tells_err BadNumber _ _ (refl, λ n. not_both (is_number word) ((is_number-decides word).1 n) e)))
  where
    empty : (w : Word) → ¬ (w ≡ []) → length w ≡ 0 → ⊥
    empty [] s e = s refl
    empty (b ∷ bs) s e = omega arith

pub name_told : (word : Word) → Tells (name word) (λ u. IsName word) (IsNoName word)
unfolding name
name_told word =
    tells_choice (has_name_form word && not (is_reserved word)) _ _ _ _
    (λ e. tells_choice (nat_le (length word) LONGEST_NAME) _ _ _ _
    (λ few. tells_ok tt _ _ (record { form = form_known word e; few = leb-true (length word) LONGEST_NAME few }))
    (λ many. tells_err LongName _ _ (inr (refl, form_known word e, leb-false (length word) LONGEST_NAME many))))
    (λ e. tells_err UnknownWord _ _ (inl (refl, λ f. not_both _ (form_passes word f) e)))

-- a name that a table may have
table_told : (t : Table) (word : Word) (kind : Kind)
    → Tells (name word >>= λ u. found (number_in t word) kind) (λ n. IsName word × (number_in t word ≡ Some n)) (λ k. IsNoName word k ⊎ ((k ≡ kind) × IsName word × (number_in t word ≡ None)))
table_told t word kind =
    tells_next (name word) _ (λ u. IsName word) (IsNoName word) _ _ (name_told word)
    (λ u e n. tells_weaker (found (number_in t word) kind) _ _ _ _ (found_told (number_in t word) kind) (λ x e. (n, e)) (λ k e. inr (e.0, n, e.1)))
    (λ k e. inl e)

-- ---- signals and actions
pub signal_number_told : (rows before : List Row) (word : Word) → ¬ (word ≡ []) → Tells (signal_number word) (λ n. Fits rows before slot.signal_number word) (Misfits rows before slot.signal_number word)
unfolding signal_number
signal_number_told rows before word some =
    tells_choice (begins_with_digit word) _ _ _ _
    (λ e. tells_weaker (number word) _ _ _ _ (number_told word some) (λ n h. inr h.0) (λ kind h. inl (h.0, e, λ f. elim f [ inl s ↦ digit_no_signal word e s | inr n ↦ h.1 n ])))
    (λ e. tells_next (found (signal_named word) UnknownWord) _ (λ s. signal_named word ≡ Some s) (λ kind. (kind ≡ UnknownWord) × (signal_named word ≡ None)) _ _ (found_told (signal_named word) UnknownWord)
    (λ s _ h. tells_ok (number_of s) _ _ (inl (s, sym (word_of-signal_named word s h))))
    (λ kind h. inr (h.0, e, λ f. elim f [ inl s ↦ named_not word h.1 s | inr n ↦ not_both (begins_with_digit word) (number_digit word n) e ])))

-- a signal's number, where the word begins with a digit, and otherwise its word
by_number : (word : Word) → begins_with_digit word ≡ true → (s : Signal) → IsForSignal word s → IsFor word (number_of s)
by_number word e s (inl w) = absurd (digit_no_signal word e (s, w))
by_number word e s (inr f) = f

by_word : (word : Word) → begins_with_digit word ≡ false → (s : Signal) → IsForSignal word s → word ≡ word_of s
by_word word e s (inl w) = w
by_word word e s (inr f) = absurd (not_both (begins_with_digit word) (number_digit word f.0) e)

-- no signal has a number that none is found by
no_signal : (n m : ℕ) (s : Signal) → m ≡ n → m ≡ number_of s → signal_of n ≡ None → ⊥
no_signal n m s e f h = let q : signal_of n ≡ Some s = subst (λ k. signal_of k ≡ Some s) (sym f ∙ e) (signal_of-number_of s) in cc

pub signal_told : (rows before : List Row) (word : Word) → ¬ (word ≡ []) → Tells (signal word) (λ s. Fits rows before slot.signal word) (Misfits rows before slot.signal word)
unfolding signal
signal_told rows before word some =
    tells_choice (begins_with_digit word) _ _ _ _
    (λ e. tells_next (number word) _ (λ n. IsNumber word × (digits_value 10 word ≡ n)) (λ kind. (kind ≡ BadNumber) × ¬ IsNumber word) _ _ (number_told word some)
    (λ n _ f. tells_weaker (found (signal_of n) BadNumber) _ _ _ _ (found_told (signal_of n) BadNumber)
    (λ s h. (s, inr (f.0, f.1 ∙ sym (number_of-signal_of n s h))))
    (λ kind h. inl (h.0, e, λ g. no_signal n (digits_value 10 word) g.0 f.1 (by_number word e g.0 g.1).1 h.1)))
    (λ kind h. inl (h.0, e, λ g. h.1 (by_number word e g.0 g.1).0)))
    (λ e. tells_weaker (found (signal_named word) UnknownWord) _ _ _ _ (found_told (signal_named word) UnknownWord)
    (λ s h. (s, inl (sym (word_of-signal_named word s h))))
    (λ kind h. inr (h.0, e, λ g. named_not word h.1 (g.0, by_word word e g.0 g.1))))

pub act_told : (rows before : List Row) (word : Word) → Tells (act word) (λ a. Fits rows before slot.action word) (Misfits rows before slot.action word)
unfolding act
act_told rows before word =
    tells_weaker (found (act_named word) UnknownWord) _ _ _ _ (found_told (act_named word) UnknownWord)
    (λ a e. (a, act_spelled word a e ∙ act_is a))
    (λ kind h. (h.0, λ a. none h.1 a.0 a.1))
  where
    none : act_named word ≡ None → (a : Act) → word ≡ act_word a → ⊥
    none n a e = let named : act_named word ≡ Some a = ap act_named (e ∙ sym (act_is a)) ∙ act_named-act_word a in cc

-- a number that is less than another, and one that is not
within : (a n b c : ℕ) → a ≡ n → b ≡ c → n < b → a < c
within a n b c e f lt = omega arith

beyond : (a n b c : ℕ) → a ≡ n → b ≡ c → b ≤ n → c ≤ a
beyond a n b c e f le = omega arith

module _ (names : Names) (place : Place) (rows before : List Row) (row : Row) (knows : Knows names place rows before row) where
  pub node_told : (word : Word) → ¬ (word ≡ []) → place.begun ≡ true → Tells (node place.nodes word) (λ n. Fits rows before slot.node word) (Misfits rows before slot.node word)
  unfolding node
  node_told word some begun =
      tells_next (number word) _ (λ n. IsNumber word × (digits_value 10 word ≡ n)) (λ kind. (kind ≡ BadNumber) × ¬ IsNumber word) _ _ (number_told word some)
      (λ n _ f. tells_choice (nat_lt n place.nodes) _ _ _ _
      (λ e. tells_ok n _ _ (f.0, within _ n place.nodes (nodes_in rows) f.1 (knows.nodes begun) (ltb-true n place.nodes e)))
      (λ e. tells_err NoSuchNode _ _ (inr (refl, f.0, beyond _ n place.nodes (nodes_in rows) f.1 (knows.nodes begun) (ltb-false n place.nodes e)))))
      (λ kind h. inl h)

  -- ---- scripts, variables and starts
  pub any_script_told : (word : Word) → Tells (script names.scripts word) (λ n. Fits rows before slot.any_script word) (Misfits rows before slot.any_script word)
  unfolding script
  any_script_told word =
      tells_weaker (script names.scripts word) _ _ _ _ (table_told names.scripts word UnknownScript)
      (λ n h. (h.0, knows.script_known word n h.1))
      (λ kind h. elim h [ inl a ↦ inl a | inr b ↦ inr (b.0, b.1, knows.script_unknown word b.2) ])

  pub earlier_script_told : (word : Word) → Tells (earlier_script names place word) (λ n. Fits rows before slot.earlier_script word) (Misfits rows before slot.earlier_script word)
  unfolding earlier_script script
  earlier_script_told word =
      tells_next (script names.scripts word) _ _ _ _ _ (table_told names.scripts word UnknownScript)
      (λ n _ h. tells_choice (nat_lt n (place.scripts - 1)) _ _ _ _
      (λ e. tells_ok n _ _ (h.0, knows.script_known word n h.1, knows.script_earlier word n h.1 (ltb-true n (place.scripts - 1) e)))
      (λ e. tells_err LaterScript _ _ (inr (inr (refl, h.0, knows.script_known word n h.1, knows.script_later word n h.1 (ltb-false n (place.scripts - 1) e))))))
      (λ kind h. elim h [ inl a ↦ inl a | inr b ↦ inr (inl (b.0, b.1, knows.script_unknown word b.2)) ])

  pub variable_told : begins_with (codes "fork") row ≡ true → Tells (own_variable names.variables (word_at row 1)) (λ n. Fits rows before slot.variable (word_at row 1)) (Misfits rows before slot.variable (word_at row 1))
  unfolding own_variable
  variable_told fork =
      tells_weaker (own_variable names.variables (word_at row 1)) _ _ _ _ (table_told names.variables (word_at row 1) UnknownWord)
      (λ n h. h.0)
      (λ kind h. elim h [ inl a ↦ a | inr b ↦ absurd (knows.forked fork b.2) ])

  pub new_start_told : begins_with (codes "start") row ≡ true → Tells (start_variable names place (word_at row 3)) (λ n. Fits rows before slot.new_start (word_at row 3)) (Misfits rows before slot.new_start (word_at row 3))
  unfolding start_variable
  new_start_told start =
      tells_next (name (word_at row 3)) _ (λ u. IsName (word_at row 3)) (IsNoName (word_at row 3)) _ _ (name_told (word_at row 3))
      (λ u _ n. tells_choice (is_numbered names.starts (word_at row 3) place.starts) _ _ _ _
      (λ e. tells_weaker (found (number_in names.variables (word_at row 3)) UnknownWord) _ _ _ _ (found_told (number_in names.variables (word_at row 3)) UnknownWord)
      (λ v _. (n, knows.start_new start e))
      (λ kind h. absurd (knows.started start h.1)))
      (λ e. tells_err DoubleName _ _ (inr (refl, n, knows.start_old start e))))
      (λ kind h. inl h)

  pub earlier_start_told : (word : Word) → Tells (earlier_start names place word) (λ n. Fits rows before slot.earlier_start word) (Misfits rows before slot.earlier_start word)
  unfolding earlier_start
  earlier_start_told word =
      tells_next (name word) _ (λ u. IsName word) (IsNoName word) _ _ (name_told word)
      (λ u _ n. tells_next (found (number_in names.starts word) UnknownWord) _ (λ x. number_in names.starts word ≡ Some x) (λ k. (k ≡ UnknownWord) × (number_in names.starts word ≡ None)) _ _ (found_told (number_in names.starts word) UnknownWord)
      (λ x _ h. tells_choice (nat_lt x place.starts) _ _ _ _
      (λ e. tells_ok x _ _ (n, knows.start_earlier word x h (ltb-true x place.starts e)))
      (λ e. tells_err UnknownWord _ _ (inr (refl, n, knows.start_later word x h (ltb-false x place.starts e)))))
      (λ kind h. inr (h.0, n, knows.start_unknown word h.1)))
      (λ kind h. inl h)

  -- ---- processes and groups
  -- a name that some line gives to a variable
  abbrev IsVariable : Word → Type 0
  IsVariable word = IsName word × Contains (variable_names rows) word

  var_told : (word : Word) → Tells (variable names.variables word) (λ a. IsVariable word) (λ kind. (kind ≡ UnknownWord) × ¬ IsVariable word)
  unfolding variable
  var_told word = go (name word) refl
    where
      there : IsName word → Tells (found (number_in names.variables word) UnknownWord >>= λ n. Ok (Var n)) (λ a. IsVariable word) (λ kind. (kind ≡ UnknownWord) × ¬ IsVariable word)
      there n =
          tells_next (found (number_in names.variables word) UnknownWord) _ (λ v. number_in names.variables word ≡ Some v) (λ k. (k ≡ UnknownWord) × (number_in names.variables word ≡ None)) _ _ (found_told (number_in names.variables word) UnknownWord)
          (λ v _ h. tells_ok (Var v) _ _ (n, knows.variable_known word v h))
          (λ kind h. (h.0, λ v. knows.variable_unknown word h.1 v.1))

      go : (r : Result (Unit {0}) Kind) → name word ≡ r → Tells (variable names.variables word) (λ a. IsVariable word) (λ kind. (kind ≡ UnknownWord) × ¬ IsVariable word)
      go (Ok u) e = rw e (there ((name_told word).ok u e))
      go (Err kind) e = rw e (tells_err UnknownWord _ _ (refl, λ v. let yes : name word ≡ Ok tt = name_read word v.0 in cc))

  group_told : (word : Word) → Tells (group names.variables word) (λ a. NamesGroup rows word) (λ kind. (kind ≡ UnknownWord) × ¬ NamesGroup rows word)
  unfolding group
  group_told word =
      tells_choice (is_same word (codes "none")) _ _ _ _ (λ e. tells_ok Nobody _ _ (inl (same_words word (codes "none") e))) (λ a.
      tells_choice (is_same word (codes "self")) _ _ _ _ (λ e. tells_ok Own _ _ (inr (inl (same_words word (codes "self") e)))) (λ b.
      tells_choice (is_same word (codes "maker")) _ _ _ _ (λ e. tells_ok Maker _ _ (inr (inr (inl (same_words word (codes "maker") e))))) (λ c.
      tells_weaker (variable names.variables word) _ _ _ _ (var_told word) (λ _ v. inr (inr (inr v))) (λ kind h. (h.0, none a b c h.1)))))
    where
      none : is_same word (codes "none") ≡ false → is_same word (codes "self") ≡ false → is_same word (codes "maker") ≡ false → ¬ IsVariable word → ¬ NamesGroup rows word
      none a b c n (inl e) = differ word (codes "none") a e
      none a b c n (inr (inl e)) = differ word (codes "self") b e
      none a b c n (inr (inr (inl e))) = differ word (codes "maker") c e
      none a b c n (inr (inr (inr v))) = n v

  pub process_told : (word : Word) → Tells (process names.variables word) (λ a. Fits rows before slot.process word) (Misfits rows before slot.process word)
  unfolding process
  process_told word =
      tells_choice (is_same word (codes "0")) _ _ _ _ (λ e. tells_ok Zero _ _ (inl (same_words word (codes "0") e))) (λ a.
      tells_choice (is_same word (codes "1")) _ _ _ _ (λ e. tells_ok One _ _ (inr (inl (same_words word (codes "1") e)))) (λ b.
      tells_weaker (group names.variables word) _ _ _ _ (group_told word) (λ _ g. inr (inr g)) (λ kind h. (h.0, none a b h.1))))
    where
      none : is_same word (codes "0") ≡ false → is_same word (codes "1") ≡ false → ¬ NamesGroup rows word → ¬ NamesProcess rows word
      none a b n (inl e) = differ word (codes "0") a e
      none a b n (inr (inl e)) = differ word (codes "1") b e
      none a b n (inr (inr g)) = n g

  pub target_told : (word : Word) → ¬ (word ≡ []) → Tells (target names.variables word) (λ t. Fits rows before slot.target word) (Misfits rows before slot.target word)
  unfolding target
  target_told [] some = absurd (some refl)
  target_told (b ∷ bs) some =
      tells_choice (is_minus_digits (b ∷ bs)) _ _ _ _ (λ m. tells_err BadNumber _ _ (inl (refl, m, minus_digits_not rows (b ∷ bs) m))) (λ m.
      tells_choice (b == 45) _ _ _ _
      (λ e. tells_next (group names.variables bs) _ (λ a. NamesGroup rows bs) (λ kind. (kind ≡ UnknownWord) × ¬ NamesGroup rows bs) _ _ (group_told bs)
      (λ arg _ g. tells_ok (true, arg) _ _ (inr (bs, minus e, g)))
      (λ kind h. inr (h.0, m, no_group (minus e) h.1)))
      (λ e. tells_next (process names.variables (b ∷ bs)) _ (λ a. NamesProcess rows (b ∷ bs)) (λ kind. (kind ≡ UnknownWord) × ¬ NamesProcess rows (b ∷ bs)) _ _ (process_told (b ∷ bs))
      (λ arg _ p. tells_ok (false, arg) _ _ (inl p))
      (λ kind h. inr (h.0, m, no_process e h.1))))
    where
      minus : (b == 45) ≡ true → b ∷ bs ≡ 45 ∷ bs
      minus e = ap (λ (c : ℕ). c ∷ bs) (eqb-true b 45 e)

      no_group : b ∷ bs ≡ 45 ∷ bs → ¬ NamesGroup rows bs → ¬ NamesTarget rows (b ∷ bs)
      no_group e n (inl p) = process_first rows (b ∷ bs) bs e p
      no_group e n (inr g) = n (subst (NamesGroup rows) (rest_same b 45 bs g.0 g.1) g.2)

      no_process : (b == 45) ≡ false → ¬ NamesProcess rows (b ∷ bs) → ¬ NamesTarget rows (b ∷ bs)
      no_process e n (inl p) = n p
      no_process e n (inr g) = eqb-false b 45 e (one_first (b ∷ bs) b 45 bs g.0 refl g.1)

  -- a word that is no target, and not the one that may stand there beside targets
  other_target : (given word : Word) (kind : Kind) → is_same word given ≡ false → IsNoTarget (NamesTarget rows) word kind → IsNoTarget (λ w. (w ≡ given) ⊎ NamesTarget rows w) word kind
  other_target given word kind e (inl h) = inl (h.0, h.1, λ f. elim f [ inl s ↦ differ word given e s | inr t ↦ h.2 t ])
  other_target given word kind e (inr h) = inr (h.0, h.1, λ f. elim f [ inl s ↦ differ word given e s | inr t ↦ h.2 t ])

  pub wanted_told : (word : Word) → ¬ (word ≡ []) → Tells (wanted_group names.variables word) (λ t. Fits rows before slot.wanted word) (Misfits rows before slot.wanted word)
  unfolding wanted_group
  wanted_told word some =
      tells_choice (is_same word (codes "-1")) _ _ _ _ (λ e. tells_ok (true, One) _ _ (inl (same_words word (codes "-1") e))) (λ e.
      tells_weaker (target names.variables word) _ _ _ _ (target_told word some) (λ _ t. inr t) (λ kind h. other_target (codes "-1") word kind e h))

  pub selector_told : (word : Word) → ¬ (word ≡ []) → Tells (selector names.variables word) (λ t. Fits rows before slot.selector word) (Misfits rows before slot.selector word)
  unfolding selector
  selector_told word some =
      tells_choice (is_same word (codes "any")) _ _ _ _ (λ e. tells_ok (true, false, Nobody) _ _ (inl (same_words word (codes "any") e))) (λ e.
      tells_next (target names.variables word) _ (λ t. NamesTarget rows word) (IsNoTarget (NamesTarget rows) word) _ _ (target_told word some)
      (λ t _ h. tells_ok (false, t.0, t.1) _ _ (inr h))
      (λ kind h. other_target (codes "any") word kind e h))
