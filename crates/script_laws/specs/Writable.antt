-- Worlds that files describe.
use Rattle.std.specs.Prelude.{◌≡◌, ◌⊎◌, ℕ, ◌+◌, ◌<◌, ◌≤◌, ◌^◌, Bool, true, false, Option, Some, None, List, [], ◌∷◌, ◌++◌, length, map, All}
use Rattle.std.specs.List.{flat_map, filter_map}
use Rattle.unix_names.specs.Sets.{IsSignals}
use Rattle.unix_calls.specs.declared.world.Arg.{Arg}
use Rattle.unix_calls.specs.declared.world.Arg.TheVariants.{Zero, One, Nobody}
use Rattle.unix_calls.specs.declared.world.Statement.{Statement}
use Rattle.unix_calls.specs.declared.world.Statement.TheVariants.{Fork, Exit, Wait, Kill, Setpgid, Action, Mask}
use Rattle.unix_calls.specs.declared.world.Script.{Script}
use Rattle.unix_calls.specs.declared.world.World.{World}
use Rattle.unix_calls.specs.Valid.{IsValid}

-- what stands behind a minus is no 0 and no 1
abbrev pub IsTarget : Bool → Arg → Type 0
IsTarget true Zero = ⊥
IsTarget true One = ⊥
IsTarget _ _ = Unit {0}

-- the group that a setpgid asks for may also be -1
abbrev pub IsWanted : Bool → Arg → Type 0
IsWanted true One = Unit {0}
IsWanted minus arg = IsTarget minus arg

-- `any` has no minus and names nobody
abbrev pub IsSelector : Bool → Bool → Arg → Type 0
IsSelector true minus arg = (minus ≡ false) × (arg ≡ Nobody)
IsSelector false minus arg = IsTarget minus arg

-- numbers are below 2^32, a mask is a set of signals, and what a minus stands before can be a group
abbrev pub IsWrittenStatement : Statement → Type 0
IsWrittenStatement (Exit n) = n < 2 ^ 32
IsWrittenStatement (Wait sleeps any minus arg stopped continued) = IsSelector any minus arg
IsWrittenStatement (Kill minus arg sig) = IsTarget minus arg × (sig < 2 ^ 32)
IsWrittenStatement (Setpgid pid minus pgid) = IsWanted minus pgid
IsWrittenStatement (Action sig act) = sig < 2 ^ 32
IsWrittenStatement (Mask set) = IsSignals set
IsWrittenStatement _ = Unit {0}

-- the variable that a statement assigns
abbrev pub assigned : Statement → Option ℕ
assigned (Fork var script at) = Some var
assigned _ = None

abbrev pub assigned_by : Script → List ℕ
assigned_by script = filter_map assigned script.statements

-- the variables of forks in order, then those of starts
abbrev pub variables_of : World → List ℕ
variables_of world = flat_map assigned_by world.scripts ++ map (λ start. start.var) world.starts

-- where the numbers below n are taken: each number is taken, or the next one, and at the end those below a total are taken
abbrev pub AreInOrder : ℕ → List ℕ → ℕ → Type 0
AreInOrder n [] total = n ≡ total
AreInOrder n (v ∷ vs) total = ((v < n) × AreInOrder n vs total) ⊎ ((v ≡ n) × AreInOrder (n + 1) vs total)

-- A world that some file describes: it can be run, and it is numbered as files number.
pub record IsWritable (world : World) : Type 0 where
  pub valid : IsValid world
  pub statements : All (λ script. All IsWrittenStatement script.statements) world.scripts
  pub users : All (λ start. start.uid < 2 ^ 32) world.starts
  pub some_start : 1 ≤ length world.starts
  pub variables : AreInOrder 0 (variables_of world) world.vars
