-- a set is spelled by the words of its signals
use Rattle.std.proofs.Common.{inl, ℕ, List, [], ◌∷◌, refl}
use Rattle.std.specs.Prelude.{filter, map}
use Rattle.std.specs.List.{AllZip}
use Rattle.unix_names.specs.declared.Signal.{Signal}
use Rattle.unix_names.specs.Signals.{word_of, all_signals}
use Rattle.unix_names.specs.Sets.{has, IsSignals}
use Rattle.script_words.proofs.Members.{members-all}
use Rattle.script_laws.specs.Grammar.{IsForSignal, AreForSet}

words_spell : (ss : List Signal) → AllZip IsForSignal (map word_of ss) ss
words_spell [] = tt
words_spell (s ∷ ss) = (inl refl, words_spell ss)

-- the words of its signals spell a set
pub set_spelled : (set : ℕ) → IsSignals set → AreForSet (map word_of (filter (has set) all_signals)) set
set_spelled set h = (filter (has set) all_signals, words_spell (filter (has set) all_signals), members-all set h)
