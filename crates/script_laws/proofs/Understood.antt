-- words that are read are words of the grammar
use Rattle.std.proofs.Common.{◌≡◌, ◌==◌, ◌&&◌, inl, inr, ℕ, Bool, true, false, cond, not, List, [], ◌∷◌, length, refl, sym, ap, ◌∙◌, Some, Result, Ok, Err, All}
use Rattle.std.specs.Prelude.{codes, nat_le, nat_lt, fold}
use Rattle.std.specs.List.{list_any, list_all, AllZip}
use Rattle.std.specs.Str.Parse.{digits_value}
use Rattle.std.proofs.lemmas.Bool.{leb-true, and_parts, eqb-true, or_parts}
use Rattle.std.proofs.lemmas.List.Elements.{All-nil, All-cons}
use Rattle.unix_names.specs.declared.Signal.{Signal}
use Rattle.unix_names.specs.declared.Act.{Act}
use Rattle.unix_names.specs.declared.Act.TheVariants.{Default, Ignore, Catch}
use Rattle.unix_names.specs.Signals.{number_of, word_of, signal_of, signal_named}
use Rattle.unix_names.specs.Sets.{added}
use Rattle.unix_names.proofs.SignalLaws.{number_of-signal_of, word_of-signal_named}
use Rattle.unix_calls.specs.declared.Arg.{Arg}
use Rattle.unix_calls.specs.declared.Arg.TheVariants.{Zero, One, Nobody, Own, Maker, Var}
use Rattle.script_words.specs.declared.faults.Kind.{Kind}
use Rattle.script_words.specs.declared.faults.Kind.TheVariants.{UnknownWord, BadNumber, LongName, NoSuchNode}
use Rattle.script_words.specs.Words.{Word, Row, ◌>>=◌, found, is_same, is_lower, is_name_byte, has_name_form, reserved, is_reserved, name, is_number, number, begins_with_digit, signal_number, signal, is_minus_digits, node}
use Rattle.script_words.specs.Table.{act_word as word_of_act, act_named}
use Rattle.script_reader.specs.Names.{Table, number_in}
use Rattle.script_reader.specs.Statements.{own_variable, variable, group, process, target, wanted_group, selector, act, signals}
use Rattle.script_words.proofs.Numbers.{is_number-decides}
use Rattle.script_laws.specs.Writable.{IsTarget}
use Rattle.script_laws.specs.Grammar.{act_word, IsName, Naming, IsCalled, IsFor, IsArg, Targets, Wants, Selects, IsForSignal, IsForSignalNumber, AreForSet}
use Rattle.script_laws.proofs.Results.{Gives, next, choice, gives, fails, found_there, weaker, anything, then_ok}
use Rattle.script_laws.proofs.Words.{same_words, words_same, act_spelled}
use Rattle.script_words.specs.declared.limits.TheConstants.{LONGEST_NAME}

-- ---- names
none_any : (word : Word) (rs : List Word) → list_any (is_same word) rs ≡ false → All (λ r. word ≡ r → ⊥) rs
none_any word [] e = All-nil (λ r. word ≡ r → ⊥)
none_any word (r ∷ rs) e =
    let p = or_parts (is_same word r) (list_any (is_same word) rs) e in
    All-cons (λ r. word ≡ r → ⊥) r rs (λ s. differ r (words_same word r s) p.0) (none_any word rs p.1)
  where
    differ : (r : Word) → is_same word r ≡ true → is_same word r ≡ false → ⊥
    differ r a b = cc

no_true : (b : Bool) → not b ≡ true → b ≡ false
no_true true e = cc
no_true false e = refl

pub name_understood : (word : Word) (u : Unit {0}) → name word ≡ Ok u → IsName word
unfolding name has_name_form is_reserved
name_understood [] u e = cc
name_understood (b ∷ bs) u e =
    let a = then_ok (has_name_form (b ∷ bs) && not (is_reserved (b ∷ bs))) (cond (nat_le (length (b ∷ bs)) LONGEST_NAME) (Ok tt) (Err LongName)) UnknownWord u e in
    let f = and_parts (has_name_form (b ∷ bs)) (not (is_reserved (b ∷ bs))) a.0 in
    let l = and_parts (is_lower b) (list_all is_name_byte (b ∷ bs)) f.0 in
    let few = then_ok (nat_le (length (b ∷ bs)) LONGEST_NAME) (Ok tt) LongName u a.1 in
    record {
      form = record {
        letter = b;
        others = bs;
        is = refl;
        lower = l.0;
        each = (and_parts (is_name_byte b) (list_all is_name_byte bs) l.1).1;
        free = none_any (b ∷ bs) reserved (no_true (list_any (is_same (b ∷ bs)) reserved) f.1);
      };
      few = leb-true (length (b ∷ bs)) LONGEST_NAME few.0;
    }

-- ---- numbers
pub number_understood : (word : Word) → Gives (number word) (IsFor word)
unfolding number
number_understood word =
    choice (length word == 0) _ _ (IsFor word) (λ _. fails UnknownWord (IsFor word)) (λ _.
    choice (is_number word) _ _ (IsFor word) (λ e. gives (digits_value 10 word) (IsFor word) ((is_number-decides word).0 e, refl)) (λ _. fails BadNumber (IsFor word)))

pub node_understood : (nodes : ℕ) (word : Word) → Gives (node nodes word) (IsFor word)
unfolding node
node_understood nodes word = next (number word) _ (IsFor word) (IsFor word) (number_understood word) (λ n f. choice (nat_lt n nodes) _ _ (IsFor word) (λ _. gives n (IsFor word) f) (λ _. fails NoSuchNode (IsFor word)))

-- ---- signals
named_word : (word : Word) (s : Signal) → signal_named word ≡ Some s → word ≡ word_of s
named_word word s e = sym (word_of-signal_named word s e)

pub signal_number_understood : (word : Word) → Gives (signal_number word) (IsForSignalNumber word)
unfolding signal_number
signal_number_understood word =
    choice (begins_with_digit word) (number word) _ (IsForSignalNumber word) (λ _. weaker (number word) (IsFor word) (IsForSignalNumber word) (number_understood word) (λ n f. inr f)) (λ _.
    next (found (signal_named word) UnknownWord) _ (λ s. signal_named word ≡ Some s) (IsForSignalNumber word) (found_there (signal_named word) UnknownWord) (λ s e. gives (number_of s) (IsForSignalNumber word) (inl (s, named_word word s e, refl))))

pub signal_understood : (word : Word) → Gives (signal word) (IsForSignal word)
unfolding signal
signal_understood word =
    choice (begins_with_digit word) _ _ (IsForSignal word) (λ _.
    next (number word) _ (IsFor word) (IsForSignal word) (number_understood word) (λ n f.
    weaker (found (signal_of n) BadNumber) (λ s. signal_of n ≡ Some s) (IsForSignal word) (found_there (signal_of n) BadNumber) (λ s e. inr (f.0, f.1 ∙ sym (number_of-signal_of n s e))))) (λ _.
    weaker (found (signal_named word) UnknownWord) (λ s. signal_named word ≡ Some s) (IsForSignal word) (found_there (signal_named word) UnknownWord) (λ s e. inl (named_word word s e)))

-- words of signals that lead from one set to another
abbrev Leads : ℕ → Row → ℕ → Type 0
Leads from row to = (signals : List Signal) × AllZip IsForSignal row signals × (fold added from signals ≡ to)

signals_understood : (set : ℕ) (row : Row) → Gives (signals set row) (Leads set row)
unfolding signals
signals_understood set [] = gives set (Leads set []) ([], tt, refl)
signals_understood set (word ∷ words) =
    next (signal word) _ (IsForSignal word) (Leads set (word ∷ words)) (signal_understood word) (λ s f.
    weaker (signals (added set s) words) (Leads (added set s) words) (Leads set (word ∷ words)) (signals_understood (added set s) words) (λ to l. (s ∷ l.0, (f, l.1), l.2)))

pub set_understood : (row : Row) → Gives (signals 0 row) (AreForSet row)
set_understood row = signals_understood 0 row

-- ---- processes
module _ (t : Table) (naming : Naming) (called : (word : Word) (n : ℕ) → number_in t word ≡ Some n → IsCalled naming.variables word n) where
  pub own_understood : (word : Word) → Gives (own_variable t word) (IsCalled naming.variables word)
  unfolding own_variable
  own_understood word = next (name word) _ _ (IsCalled naming.variables word) (anything (name word)) (λ u _. weaker (found (number_in t word) UnknownWord) (λ n. number_in t word ≡ Some n) (IsCalled naming.variables word) (found_there (number_in t word) UnknownWord) (called word))

  abbrev IsGroup : Word → Arg → Type 0
  IsGroup word arg = IsArg naming word arg × IsTarget true arg

  variable_understood : (word : Word) → Gives (variable t word) (IsGroup word)
  unfolding variable
  variable_understood word = go (name word) refl
    where
      there : Gives (found (number_in t word) UnknownWord >>= λ n. Ok (Var n)) (IsGroup word)
      there = next (found (number_in t word) UnknownWord) _ (λ n. number_in t word ≡ Some n) (IsGroup word) (found_there (number_in t word) UnknownWord) (λ n e. gives (Var n) (IsGroup word) (called word n e, tt))

      go : (r : Result (Unit {0}) Kind) → name word ≡ r → Gives (variable t word) (IsGroup word)
      go (Ok u) e = rw e there
      go (Err k) e = rw e (fails UnknownWord (IsGroup word))

  group_understood : (word : Word) → Gives (group t word) (IsGroup word)
  unfolding group
  group_understood word =
      choice (is_same word (codes "none")) _ _ (IsGroup word) (λ e. gives Nobody (IsGroup word) (same_words word (codes "none") e, tt)) (λ _.
      choice (is_same word (codes "self")) _ _ (IsGroup word) (λ e. gives Own (IsGroup word) (same_words word (codes "self") e, tt)) (λ _.
      choice (is_same word (codes "maker")) _ _ (IsGroup word) (λ e. gives Maker (IsGroup word) (same_words word (codes "maker") e, tt)) (λ _.
      variable_understood word)))

  pub process_understood : (word : Word) → Gives (process t word) (IsArg naming word)
  unfolding process
  process_understood word =
      choice (is_same word (codes "0")) _ _ (IsArg naming word) (λ e. gives Zero (IsArg naming word) (same_words word (codes "0") e)) (λ _.
      choice (is_same word (codes "1")) _ _ (IsArg naming word) (λ e. gives One (IsArg naming word) (same_words word (codes "1") e)) (λ _.
      weaker (group t word) (IsGroup word) (IsArg naming word) (group_understood word) (λ arg g. g.0)))

  abbrev pub TargetsAs : Word → Bool × Arg → Type 0
  TargetsAs word x = Targets naming word x.0 x.1

  pub target_understood : (word : Word) → Gives (target t word) (TargetsAs word)
  unfolding target
  target_understood [] = fails UnknownWord (TargetsAs [])
  target_understood (b ∷ bs) =
      choice (is_minus_digits (b ∷ bs)) _ _ (TargetsAs (b ∷ bs)) (λ _. fails BadNumber (TargetsAs (b ∷ bs))) (λ _.
      choice (b == 45) _ _ (TargetsAs (b ∷ bs)) (λ e.
      next (group t bs) _ (IsGroup bs) (TargetsAs (b ∷ bs)) (group_understood bs) (λ arg g. gives (true, arg) (TargetsAs (b ∷ bs)) (bs, ap (λ (c : ℕ). c ∷ bs) (eqb-true b 45 e), g.0, g.1))) (λ _.
      next (process t (b ∷ bs)) _ (IsArg naming (b ∷ bs)) (TargetsAs (b ∷ bs)) (process_understood (b ∷ bs)) (λ arg a. gives (false, arg) (TargetsAs (b ∷ bs)) a)))

  abbrev pub WantsAs : Word → Bool × Arg → Type 0
  WantsAs word x = Wants naming word x.0 x.1

  wanted_as : (word : Word) (minus : Bool) (arg : Arg) → Targets naming word minus arg → Wants naming word minus arg
  wanted_as word true One h = absurd h.3
  wanted_as word true Zero h = h
  wanted_as word true Nobody h = h
  wanted_as word true Own h = h
  wanted_as word true Maker h = h
  wanted_as word true (Var v) h = h
  wanted_as word false arg h = h

  pub wanted_understood : (word : Word) → Gives (wanted_group t word) (WantsAs word)
  unfolding wanted_group
  wanted_understood word =
      choice (is_same word (codes "-1")) _ _ (WantsAs word) (λ e. gives (true, One) (WantsAs word) (same_words word (codes "-1") e)) (λ _.
      weaker (target t word) (TargetsAs word) (WantsAs word) (target_understood word) (λ x h. wanted_as word x.0 x.1 h))

  abbrev pub SelectsAs : Word → Bool × Bool × Arg → Type 0
  SelectsAs word x = Selects naming word x.0 x.1 x.2

  pub selector_understood : (word : Word) → Gives (selector t word) (SelectsAs word)
  unfolding selector
  selector_understood word =
      choice (is_same word (codes "any")) _ _ (SelectsAs word) (λ e. gives (true, false, Nobody) (SelectsAs word) (same_words word (codes "any") e, refl, refl)) (λ _.
      next (target t word) _ (TargetsAs word) (SelectsAs word) (target_understood word) (λ x h. gives (false, x.0, x.1) (SelectsAs word) h))

-- the word of an action by the grammar is that of the table
pub act_is : (a : Act) → word_of_act a ≡ act_word a
act_is Default = refl
act_is Ignore = refl
act_is Catch = refl

pub act_understood : (word : Word) → Gives (act word) (λ a. word ≡ act_word a)
unfolding act
act_understood word =
    weaker (found (act_named word) UnknownWord) (λ a. act_named word ≡ Some a) (λ a. word ≡ act_word a) (found_there (act_named word) UnknownWord) (λ a e. act_spelled word a e ∙ act_is a)
