use Rattle.unix_names.proofs.SignalLaws.{signal_of-is, signal_of-none, signal_named-is, signal_named-none}
use Rattle.unix_names.proofs.laws.numbers_and_words.Goals as goal

pub returns : goal.returns
returns c = record { number = signal_of-is; no_number = signal_of-none; word = signal_named-is; no_word = signal_named-none }
