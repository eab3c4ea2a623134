-- Which fault of a part is told, and that a part has a meaning or a fault.
use Rattle.std.specs.Prelude.{◌≡◌, ◌⊎◌, ◌↔◌, ℕ, ◌+◌, ◌<◌, List, Err}
use Rattle.unix_calls.specs.declared.World.{World}
use Rattle.script_words.specs.declared.Fault.{Fault}
use Rattle.script_words.specs.declared.Kind.{Kind}
use Rattle.script_reader.specs.Files.{read_part}
use Rattle.script_laws.specs.Grammar.{IsFile}
use Rattle.fault_laws.specs.Faults.{Aspect, rank, HasFault}

-- one fault is this one, or stands behind it: at a later line, or at its line in a later aspect
abbrev pub IsNotBefore : ℕ → Aspect → Kind → ℕ → Aspect → Kind → Type 0
IsNotBefore k aspect kind k' aspect' kind' = (k < k') ⊎ ((k' ≡ k) × (rank aspect < rank aspect')) ⊎ ((k' ≡ k) × (aspect' ≡ aspect) × (kind' ≡ kind))

-- the least fault of a part, whose first line has this number
pub record IsLeastFault (first : ℕ) (lines : List (List ℕ)) (fault : Fault) : Type 0 where
  pub k : ℕ
  pub aspect : Aspect
  pub at_line : fault.line ≡ first + k
  pub is : HasFault lines k aspect fault.kind
  pub least : (k' : ℕ) (aspect' : Aspect) (kind' : Kind) → HasFault lines k' aspect' kind' → IsNotBefore k aspect fault.kind k' aspect' kind'

-- a part has no fault
abbrev pub HasNoFault : List (List ℕ) → Type 0
HasNoFault lines = (k : ℕ) (aspect : Aspect) (kind : Kind) → ¬ HasFault lines k aspect kind

-- the fault that is told is the least one, and the least one is told
abbrev pub LeastIsTold : Type 0
LeastIsTold = (first : ℕ) (lines : List (List ℕ)) (fault : Fault) → (read_part first lines ≡ Err fault) ↔ IsLeastFault first lines fault

-- a part of the grammar spells one world
pub record SpellsOne (lines : List (List ℕ)) (world : World) : Type 0 where
  pub spelled : IsFile lines world
  pub one : (other : World) → IsFile lines other → other ≡ world

-- one fault of a part is the least
pub record HasLeastFault (first : ℕ) (lines : List (List ℕ)) (fault : Fault) : Type 0 where
  pub least : IsLeastFault first lines fault
  pub one : (other : Fault) → IsLeastFault first lines other → other ≡ fault

-- either a part spells one world and has no fault; or it has one least fault and spells none
abbrev pub SpellsOrFails : Type 0
SpellsOrFails = (first : ℕ) (lines : List (List ℕ)) →
    ((world : World) × SpellsOne lines world × HasNoFault lines) ⊎ ((fault : Fault) × HasLeastFault first lines fault × ((world : World) → ¬ IsFile lines world))
