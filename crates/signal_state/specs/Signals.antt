-- the signals of a process, as contracts see them
use Rattle.std.specs.Prelude.{ℕ, Bool, true, false, ◌≡◌}
use Rattle.unix_names.specs.declared.Signal.{Signal}
use Rattle.unix_names.specs.declared.Signal.TheVariants.{Kill, Stop}
use Rattle.unix_names.specs.Sets.{has}

pub record Signals : Type 0 where
  pub pending : ℕ
  pub mask : ℕ
  pub ignored : ℕ
  pub caught : ℕ
  pub stopped : Bool
  pub due : Bool

-- no signal is in both
abbrev pub AreDisjoint : ℕ → ℕ → Type 0
AreDisjoint a b = (s : Signal) → has a s ≡ true → has b s ≡ false

-- neither the kill signal nor the stop signal
abbrev pub IsWithoutFixed : ℕ → Type 0
IsWithoutFixed a = (has a Kill ≡ false) × (has a Stop ≡ false)

-- what is always so of a process's signals
pub record IsKept (x : Signals) : Type 0 where
  pub not_ignored : AreDisjoint x.pending x.ignored
  pub one_action : AreDisjoint x.ignored x.caught
  pub mask_allowed : IsWithoutFixed x.mask
  pub ignored_allowed : IsWithoutFixed x.ignored
  pub caught_allowed : IsWithoutFixed x.caught
  pub due_stopped : x.due ≡ true → x.stopped ≡ true
