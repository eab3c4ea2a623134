use Rattle.std.proofs.Common.{◌≡◌, ◌++◌, take, map, filter}
use Rattle.std.specs.String.{string_bytes}
use Rattle.unix_names.specs.Signals.{word_of}
use Rattle.unix_names.specs.Sets.{has}
use Rattle.script_words.specs.Writing.{spaced}
use Rattle.script_words.proofs.writing.put_those_in.Given as goal

abbrev pub invariant-loop-signal : goal.invariant-loop-signal
invariant-loop-signal l = string_bytes l.text ≡ string_bytes l.initial.text ++ spaced (map word_of (filter (has l.set) (take l.signal-index l.signals)))
