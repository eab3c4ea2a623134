-- a set of signals as the number whose bits they are
use Rattle.std.specs.Prelude.{◌≡◌, ◌≤◌, ℕ, Bool, ◌==◌, ◌^◌, ◌-◌, bit_and, bit_or, bit_xor, IsTrue, IsSome}
use Rattle.std.specs.Int.{bit_at}
use Rattle.unix_names.specs.declared.signals.Signal.{Signal}
use Rattle.unix_names.specs.Signals.{number_of, signal_of}

-- each bit of a set is the number of a signal
abbrev pub IsSignals : ℕ → Type 0
IsSignals set = (k : ℕ) → bit_at set k ≡ 1 → IsSome (signal_of k)

-- a set has the signals whose bits are 1
abbrev pub has : ℕ → Signal → Bool
has set s = bit_at set (number_of s) == 1

-- a set and one signal more
unfoldable pub added : ℕ → Signal → ℕ
added set s = bit_or set (2 ^ number_of s)

-- a set without one signal
unfoldable pub removed : ℕ → Signal → ℕ
removed set s = bit_and set (2 ^ 32 - 1 - 2 ^ number_of s)

-- the signals of a set that another has not: those in which the two differ, and that the first has
unfoldable pub minus : ℕ → ℕ → ℕ
minus set other = bit_and set (bit_xor set other)

-- a signal of the set that has no greater number than any other
pub record IsLeast (set : ℕ) (s : Signal) : Type 0 where
  pub member : IsTrue (has set s)
  pub least : (t : Signal) → IsTrue (has set t) → number_of s ≤ number_of t
