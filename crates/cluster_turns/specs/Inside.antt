-- that what a node sends goes to nodes
use Rattle.std.specs.Prelude.{ℕ, ◌≡◌, ◌<◌, All, Some}
use Rattle.unix_names.specs.declared.Name.{Name}
use Rattle.vproc_record.specs.declared.Vproc.{Vproc}
use Rattle.record_bag.specs.declared.Held.{Held}
use Rattle.record_bag.specs.declared.Held.TheVariants as held
use Rattle.record_table.specs.declared.Slot.TheVariants.{Home}
use Rattle.record_table.specs.Slots.{slot_at}
use Rattle.node_state.specs.declared.Sent.{Sent}
use Rattle.node_state.specs.declared.State.{State}

-- the place that a process's record names is one of so many nodes
abbrev pub HeldInside : ℕ → Held → Type 0
HeldInside nodes h = (v : Vproc) → h ≡ held.V (Some v) → v.loc.0 < nodes

abbrev pub GoesInside : ℕ → Sent → Type 0
GoesInside nodes m = m.to < nodes

-- a node of so many: what it is to send goes to nodes, and so do the processes whose records rest there
pub record IsInside (nodes : ℕ) (s : State) : Type 0 where
  pub count : s.nodes ≡ nodes
  pub out : All (GoesInside nodes) s.out
  pub homes : (n : Name) (h : Held) → slot_at s.slots n ≡ Home h → HeldInside nodes h
