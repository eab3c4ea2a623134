use Rattle.std.specs.Prelude.{ℕ, ◌==◌, List, [], ◌∷◌, Option, find, codes}
use Rattle.std.specs.Str.{bytes_eq}
use Rattle.unix_names.specs.declared.signals.Signal.{Signal}
use Rattle.unix_names.specs.declared.signals.Signal.TheVariants.{Hup, Int, Quit, Abrt, Kill, Usr1, Usr2, Pipe, Alrm, Term, Chld, Cont, Stop, Tstp, Ttin, Ttou, Urg}
use Rattle.unix_names.specs.declared.signals.DefaultAct.{DefaultAct}
use Rattle.unix_names.specs.declared.signals.DefaultAct.TheVariants.{End, Ignore, StopIt, ContinueIt}

-- a signal's number
abbrev pub number_of : Signal → ℕ
number_of Hup = 1
number_of Int = 2
number_of Quit = 3
number_of Abrt = 6
number_of Kill = 9
number_of Usr1 = 10
number_of Usr2 = 12
number_of Pipe = 13
number_of Alrm = 14
number_of Term = 15
number_of Chld = 17
number_of Cont = 18
number_of Stop = 19
number_of Tstp = 20
number_of Ttin = 21
number_of Ttou = 22
number_of Urg = 23

-- a signal's word
abbrev pub word_of : Signal → List ℕ
word_of Hup = codes "HUP"
word_of Int = codes "INT"
word_of Quit = codes "QUIT"
word_of Abrt = codes "ABRT"
word_of Kill = codes "KILL"
word_of Usr1 = codes "USR1"
word_of Usr2 = codes "USR2"
word_of Pipe = codes "PIPE"
word_of Alrm = codes "ALRM"
word_of Term = codes "TERM"
word_of Chld = codes "CHLD"
word_of Cont = codes "CONT"
word_of Stop = codes "STOP"
word_of Tstp = codes "TSTP"
word_of Ttin = codes "TTIN"
word_of Ttou = codes "TTOU"
word_of Urg = codes "URG"

-- what a signal does by default
abbrev pub default_of : Signal → DefaultAct
default_of Chld = Ignore
default_of Urg = Ignore
default_of Cont = ContinueIt
default_of Stop = StopIt
default_of Tstp = StopIt
default_of Ttin = StopIt
default_of Ttou = StopIt
default_of Hup = End
default_of Int = End
default_of Quit = End
default_of Abrt = End
default_of Kill = End
default_of Usr1 = End
default_of Usr2 = End
default_of Pipe = End
default_of Alrm = End
default_of Term = End

-- the signals in order of their numbers
abbrev pub all_signals : List Signal
all_signals = Hup ∷ Int ∷ Quit ∷ Abrt ∷ Kill ∷ Usr1 ∷ Usr2 ∷ Pipe ∷ Alrm ∷ Term ∷ Chld ∷ Cont ∷ Stop ∷ Tstp ∷ Ttin ∷ Ttou ∷ Urg ∷ []

-- the signal of a number, if one has it
unfoldable pub signal_of : ℕ → Option Signal
signal_of n = find (λ s. number_of s == n) all_signals

-- the signal of a word, if one has it
unfoldable pub signal_named : List ℕ → Option Signal
signal_named word = find (λ s. bytes_eq (word_of s) word) all_signals
