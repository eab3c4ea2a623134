-- words of the grammar are read as what they spell
use Rattle.std.proofs.Common.{◌≡◌, ◌==◌, ◌&&◌, inl, inr, ℕ, ◌<◌, ◌≤◌, ◌^◌, Bool, true, false, ltb, List, [], ◌∷◌, length, refl, sym, ap, ◌∙◌, subst, arith, Some, Ok, All}
use Rattle.std.specs.Prelude.{codes, nat_le, nat_lt, fold}
use Rattle.std.specs.List.{list_any, list_all, AllZip}
use Rattle.std.specs.Str.Parse.{digits_value}
use Rattle.std.proofs.lemmas.Bool.{le-leb, lt-ltb, and_parts, eqb-true, leb-true, lt-leb}
use Rattle.std.proofs.lemmas.List.Elements.{All-head, All-tail}
use Rattle.unix_names.specs.declared.Signal.{Signal}
use Rattle.unix_names.specs.declared.Signal.TheVariants.{Hup}
use Rattle.unix_names.specs.declared.Act.{Act}
use Rattle.unix_names.specs.declared.Act.TheVariants.{Default, Ignore, Catch}
use Rattle.unix_names.specs.Signals.{number_of, word_of, signal_named}
use Rattle.unix_names.specs.Sets.{added}
use Rattle.unix_names.proofs.SignalLaws.{signal_of-number_of, signal_named-word_of}
use Rattle.unix_calls.specs.declared.Arg.{Arg}
use Rattle.unix_calls.specs.declared.Arg.TheVariants.{Zero, One, Nobody, Own, Maker, Var}
use Rattle.script_words.specs.Words.{Word, Row, ◌>>=◌, is_same, is_digit, is_lower, has_name_form, reserved, is_reserved, name, is_number, number, begins_with_digit, signal_number, signal, is_minus_digits, node}
use Rattle.script_reader.specs.Names.{Table, number_in}
use Rattle.script_words.specs.Table.{act_named, changes_in}
use Rattle.script_reader.specs.Statements.{own_variable, variable, group, process, target, wanted_group, selector, changes, act, signals}
use Rattle.script_words.proofs.Numbers.{is_number-decides}
use Rattle.list_laws.proofs.Filters.{and_false}
use Rattle.script_laws.specs.Writable.{IsTarget}
use Rattle.script_laws.specs.Grammar.{HasNameForm, change_words, act_word, IsName, Naming, IsCalled, IsFor, IsArg, Targets, Wants, Selects, IsForSignal, IsForSignalNumber, AreForSet}
use Rattle.script_laws.proofs.Words.{same_words}
use Rattle.script_words.specs.declared.limits.TheConstants.{LONGEST_NAME}

-- ---- words that differ
pub not_same : (a b : Word) → (a ≡ b → ⊥) → is_same a b ≡ false
not_same a b ne = go (is_same a b) refl
  where
    go : (c : Bool) → is_same a b ≡ c → c ≡ false
    go true e = absurd (ne (same_words a b e))
    go false e = refl

pub not_equal : (a b : ℕ) → (a ≡ b → ⊥) → (a == b) ≡ false
not_equal a b ne = go (a == b) refl
  where
    go : (c : Bool) → (a == b) ≡ c → c ≡ false
    go true e = absurd (ne (eqb-true a b e))
    go false e = refl

-- ---- names
none_of : (word : Word) (rs : List Word) → All (λ r. word ≡ r → ⊥) rs → list_any (is_same word) rs ≡ false
none_of word [] all = refl
none_of word (r ∷ rs) all = rw (not_same word r (All-head (λ r. word ≡ r → ⊥) r rs all), none_of word rs (All-tail (λ r. word ≡ r → ⊥) r rs all)) refl

pub name_form : (word : Word) → HasNameForm word → has_name_form word ≡ true
unfolding has_name_form
name_form word n = rw (n.is, n.lower, n.each) refl

pub name_read : (word : Word) → IsName word → name word ≡ Ok tt
unfolding name is_reserved
name_read word n = rw (name_form word n.form, none_of word reserved n.form.free, le-leb (length word) LONGEST_NAME n.few) refl

-- a name is no word that begins otherwise
pub name_first : (word : Word) (b : ℕ) (bs : Word) → IsName word → is_lower b ≡ false → word ≡ b ∷ bs → ⊥
name_first word b bs n e h = go n.form.letter n.form.others b bs (sym n.form.is ∙ h) n.form.lower e
  where
    go : (c : ℕ) (cs : Word) (b : ℕ) (bs : Word) → c ∷ cs ≡ b ∷ bs → is_lower c ≡ true → is_lower b ≡ false → ⊥
    go c cs b bs s l e = let is : c ≡ b = cc in let m : is_lower b ≡ true = subst (λ z. is_lower z ≡ true) is l in cc

-- ---- numbers
pub number_read : (word : Word) (n : ℕ) → IsFor word n → number word ≡ Ok n
unfolding number
number_read word n f =
    let some : (length word == 0) ≡ false = not_equal (length word) 0 (positive (length word) f.0.some) in
    rw (some, (is_number-decides word).1 f.0, f.1) refl
  where
    positive : (m : ℕ) → 1 ≤ m → m ≡ 0 → ⊥
    positive m le e = omega arith

pub node_read : (nodes : ℕ) (word : Word) (n : ℕ) → IsFor word n → n < nodes → node nodes word ≡ Ok n
unfolding node
node_read nodes word n f lt = rw (number_read word n f, lt-ltb n nodes lt) refl

-- a number begins with a digit
pub number_first : (word : Word) (n : ℕ) → IsFor word n → begins_with_digit word ≡ true
unfolding begins_with_digit is_number
number_first [] n f = absurd (none f.0.some)
  where
    none : 1 ≤ 0 → ⊥
    none le = omega arith
number_first (b ∷ bs) n f = go ((is_number-decides (b ∷ bs)).1 f.0)
  where
    go : is_number (b ∷ bs) ≡ true → is_digit b ≡ true
    go e =
        let p = and_parts (ltb 0 (length (b ∷ bs)) && nat_le (length (b ∷ bs)) 10 && list_all is_digit (b ∷ bs)) (ltb (digits_value 10 (b ∷ bs)) (2 ^ 32)) e in
        let q = and_parts (ltb 0 (length (b ∷ bs)) && nat_le (length (b ∷ bs)) 10) (list_all is_digit (b ∷ bs)) p.0 in
        (and_parts (is_digit b) (list_all is_digit bs) q.1).0

-- ---- signals
signal_word : (s : Signal) → (begins_with_digit (word_of s) ≡ false) × (signal_named (word_of s) ≡ Some s)
unfolding begins_with_digit
signal_word Hup = (refl, signal_named-word_of Hup)
signal_word _ = (refl, signal_named-word_of _)

pub signal_number_read : (word : Word) (n : ℕ) → IsForSignalNumber word n → signal_number word ≡ Ok n
unfolding signal_number
signal_number_read word n (inl h) = let w = signal_word h.0 in rw (h.1, w.0, w.1, h.2) refl
signal_number_read word n (inr h) = rw (number_first word n h) (number_read word n h)

pub signal_read : (word : Word) (s : Signal) → IsForSignal word s → signal word ≡ Ok s
unfolding signal
signal_read word s (inl h) = let w = signal_word s in rw (h, w.0, w.1) refl
signal_read word s (inr h) = rw (number_first word (number_of s) h, number_read word (number_of s) h, signal_of-number_of s) refl

signals_read : (row : Row) (ss : List Signal) (set : ℕ) → AllZip IsForSignal row ss → signals set row ≡ Ok (fold added set ss)
unfolding signals
signals_read [] [] set z = refl
signals_read [] (s ∷ ss) set z = absurd z
signals_read (w ∷ ws) [] set z = absurd z
signals_read (w ∷ ws) (s ∷ ss) set z = rw (signal_read w s z.0) (signals_read ws ss (added set s) z.1)

pub set_read : (row : Row) (set : ℕ) → AreForSet row set → signals 0 row ≡ Ok set
set_read row set f = signals_read row f.0 0 f.1 ∙ ap (λ (n : ℕ). Ok n) f.2

-- ---- processes
-- a table has the numbers of these names
pub record Agrees (t : Table) (names : List Word) : Type 0 where
  pub each : (word : Word) (n : ℕ) → IsCalled names word n → number_in t word ≡ Some n
  pub name : (word : Word) (n : ℕ) → IsCalled names word n → IsName word

-- a lower-case letter is no digit and no minus
lower_digit : (b : ℕ) → is_lower b ≡ true → is_digit b ≡ false
lower_digit b e = let p = and_parts (nat_le 97 b) (nat_le b 122) e in let m : 97 ≤ b = leb-true 97 b p.0 in rw (lt-leb b 57 (omega arith)) (and_false (nat_le 48 b))

no_45 : (b : ℕ) → is_lower b ≡ true → b ≡ 45 → ⊥
no_45 b e h = let p = and_parts (nat_le 97 b) (nat_le b 122) e in let m : 97 ≤ b = leb-true 97 b p.0 in omega arith

letters : (b : ℕ) (bs : Word) → is_lower b ≡ true → (true && nat_lt 0 (length (b ∷ bs)) && list_all is_digit (b ∷ bs)) ≡ false
letters b bs e = rw (lower_digit b e, and_false (nat_lt 0 (length (b ∷ bs)))) refl

rest_same : {a b : ℕ} {cs bs : Word} → a ∷ cs ≡ b ∷ bs → cs ≡ bs
rest_same e = cc

module _ (t : Table) (naming : Naming) (agrees : Agrees t naming.variables) where
  variable_read : (word : Word) (n : ℕ) → IsCalled naming.variables word n → variable t word ≡ Ok (Var n)
  unfolding variable
  variable_read word n c = rw (name_read word (agrees.name word n c), agrees.each word n c) refl

  pub own_read : (word : Word) (n : ℕ) → IsCalled naming.variables word n → own_variable t word ≡ Ok n
  unfolding own_variable
  own_read word n c = rw (name_read word (agrees.name word n c), agrees.each word n c) refl

  var_group : (word : Word) (v : ℕ) → IsCalled naming.variables word v → group t word ≡ Ok (Var v)
  unfolding group
  var_group word v h =
      let n = agrees.name word v h in
      let none : is_same word (codes "none") ≡ false = not_same word (codes "none") (n.form.free 2 [] (omega arith)) in
      let self : is_same word (codes "self") ≡ false = not_same word (codes "self") (n.form.free 0 [] (omega arith)) in
      let maker : is_same word (codes "maker") ≡ false = not_same word (codes "maker") (n.form.free 1 [] (omega arith)) in
      rw (none, self, maker) (variable_read word v h)

  -- a variable is neither a number nor a word with a meaning of its own
  no_digit : (word : Word) (b : ℕ) → IsName word → is_lower b ≡ false → is_same word (b ∷ []) ≡ false
  no_digit word b n e = not_same word (b ∷ []) (name_first word b [] n e)

  var_process : (word : Word) (v : ℕ) → IsCalled naming.variables word v → process t word ≡ Ok (Var v)
  unfolding process
  var_process word v h =
      let n = agrees.name word v h in
      let zero : is_same word (codes "0") ≡ false = no_digit word 48 n refl in
      let one : is_same word (codes "1") ≡ false = no_digit word 49 n refl in
      rw (zero, one) (var_group word v h)

  pub group_read : (word : Word) (arg : Arg) → IsArg naming word arg → IsTarget true arg → group t word ≡ Ok arg
  unfolding group is_same
  group_read word Zero h g = absurd g
  group_read word One h g = absurd g
  group_read word Nobody h g = rw h refl
  group_read word Own h g = rw h refl
  group_read word Maker h g = rw h refl
  group_read word (Var v) h g = var_group word v h

  pub process_read : (word : Word) (arg : Arg) → IsArg naming word arg → process t word ≡ Ok arg
  unfolding process is_same
  process_read word Zero h = rw h refl
  process_read word One h = rw h refl
  process_read word Nobody h = rw h (group_read (codes "none") Nobody refl tt)
  process_read word Own h = rw h (group_read (codes "self") Own refl tt)
  process_read word Maker h = rw h (group_read (codes "maker") Maker refl tt)
  process_read word (Var v) h = var_process word v h

  -- a minus stands before no digit, and nothing else begins with a minus
  minus_name : (name : Word) (arg : Arg) → IsArg naming name arg → IsTarget true arg → is_minus_digits (45 ∷ name) ≡ false
  unfolding is_minus_digits
  minus_name name Zero h g = absurd g
  minus_name name One h g = absurd g
  minus_name name Nobody h g = rw h refl
  minus_name name Own h g = rw h refl
  minus_name name Maker h g = rw h refl
  minus_name name (Var v) h g = let n = agrees.name name v h in rw n.form.is (letters n.form.letter n.form.others n.form.lower)

  no_minus : (word : Word) (arg : Arg) → IsArg naming word arg → target t word ≡ (process t word >>= λ a. Ok (false, a))
  unfolding target is_minus_digits
  no_minus word Zero h = rw h refl
  no_minus word One h = rw h refl
  no_minus word Nobody h = rw h refl
  no_minus word Own h = rw h refl
  no_minus word Maker h = rw h refl
  no_minus word (Var v) h = let n = agrees.name word v h in rw (n.form.is, not_equal n.form.letter 45 (no_45 n.form.letter n.form.lower)) refl

  pub target_read : (word : Word) (minus : Bool) (arg : Arg) → Targets naming word minus arg → target t word ≡ Ok (minus, arg)
  unfolding target
  target_read word false arg h = no_minus word arg h ∙ rw (process_read word arg h) refl
  target_read word true arg h = rw (h.1, minus_name h.0 arg h.2 h.3, group_read h.0 arg h.2 h.3) refl

  not_one : (word : Word) (minus : Bool) (arg : Arg) → Targets naming word minus arg → is_same word (codes "-1") ≡ false
  unfolding is_same
  not_one word false Zero h = rw h refl
  not_one word false One h = rw h refl
  not_one word false Nobody h = rw h refl
  not_one word false Own h = rw h refl
  not_one word false Maker h = rw h refl
  not_one word false (Var v) h = not_same word (codes "-1") (name_first word 45 (codes "1") (agrees.name word v h) refl)
  not_one word true Zero h = absurd h.3
  not_one word true One h = absurd h.3
  not_one word true Nobody h = rw (h.1, h.2) refl
  not_one word true Own h = rw (h.1, h.2) refl
  not_one word true Maker h = rw (h.1, h.2) refl
  not_one word true (Var v) h = rw h.1 (not_same (45 ∷ h.0) (codes "-1") (λ e. name_first h.0 49 [] (agrees.name h.0 v h.2) refl (rest_same e)))

  pub wanted_read : (word : Word) (minus : Bool) (arg : Arg) → Wants naming word minus arg → wanted_group t word ≡ Ok (minus, arg)
  unfolding wanted_group is_same
  wanted_read word true One h = rw h refl
  wanted_read word true Zero h = absurd h.3
  wanted_read word true Nobody h = rw (not_one word true Nobody h) (target_read word true Nobody h)
  wanted_read word true Own h = rw (not_one word true Own h) (target_read word true Own h)
  wanted_read word true Maker h = rw (not_one word true Maker h) (target_read word true Maker h)
  wanted_read word true (Var v) h = rw (not_one word true (Var v) h) (target_read word true (Var v) h)
  wanted_read word false arg h = rw (not_one word false arg h) (target_read word false arg h)

  not_any : (word : Word) (minus : Bool) (arg : Arg) → Targets naming word minus arg → is_same word (codes "any") ≡ false
  unfolding is_same
  not_any word false Zero h = rw h refl
  not_any word false One h = rw h refl
  not_any word false Nobody h = rw h refl
  not_any word false Own h = rw h refl
  not_any word false Maker h = rw h refl
  not_any word false (Var v) h = not_same word (codes "any") ((agrees.name word v h).form.free 3 [] (omega arith))
  not_any word true arg h = rw h.1 refl

  pub selector_read : (word : Word) (any minus : Bool) (arg : Arg) → Selects naming word any minus arg → selector t word ≡ Ok (any, minus, arg)
  unfolding selector is_same
  selector_read word true minus arg h = rw (h.0, h.1, h.2) refl
  selector_read word false minus arg h = rw (not_any word minus arg h, target_read word minus arg h) refl

-- ---- other words
pub act_read : (act' : Act) → act (act_word act') ≡ Ok act'
unfolding act act_named is_same
act_read Default = refl
act_read Ignore = refl
act_read Catch = refl

pub changes_read : (first word : Word) (stopped continued : Bool) → changes (first ∷ word ∷ change_words stopped continued) ≡ Ok (stopped, continued)
unfolding changes changes_in is_same
changes_read first word false false = refl
changes_read first word true false = refl
changes_read first word false true = refl
changes_read first word true true = refl
