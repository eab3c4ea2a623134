-- what the code of a decision is called on
use Rattle.std.specs.Prelude.{◌≡◌, ◌≤◌, length, All, [], ◌∷◌, Option, None, Some}
use Rattle.unix_names.specs.declared.Pid.{Pid}
use Rattle.signal_state.specs.declared.Own.{Own}
use Rattle.vproc_record.specs.declared.Vproc.{Vproc}
use Rattle.group_record.specs.declared.Group.{Group}
use Rattle.sig_stream.specs.Streams.{IsListed, stream}
use Rattle.record_bag.specs.declared.bag.Bag.{Bag}
use Rattle.decide_law.specs.Agrees.{vproc_at, group_at}
use Rattle.record_bag.specs.Bags.{vproc_in, group_in}
use Rattle.record_bag.specs.declared.vector.Outcome.{Outcome}
use Rattle.record_bag.specs.declared.vector.Outcome.TheVariants.{Need}
use Rattle.unix_names.specs.declared.Name.{Name}
use Rattle.unix_names.specs.declared.Name.TheVariants.{V, G}
use Rattle.decide_law.specs.Effects.{folded}

-- the process is a member of its group, and both are held
pub record HasBase (own : Own) (p : Pid) (bag : Bag) : Type 0 where
  pub vproc : Vproc
  pub group : Group
  pub vproc_is : vproc_at bag p ≡ Some (Some vproc)
  pub group_is : group_at bag vproc.group ≡ Some (Some group)
  pub pid : vproc.pid ≡ p
  pub listed : IsListed vproc group
  pub taken : own.taken ≤ length (stream vproc group)
  pub within : All (λ m. m.from ≤ length group.log) group.members

-- what is asked for where one of the two lacks
abbrev pub base_name : Pid → Option Vproc → Name
base_name p None = V p
base_name p (Some v) = G v.group

abbrev pub base_outcome : Pid → Bag → Outcome
base_outcome p bag = Need (base_name p (vproc_in bag p) ∷ [])

-- what the process carries once it has taken its whole stream, where both are held
abbrev pub folded_on : Own → Vproc → Option Group → Option Own
folded_on own v None = None
folded_on own v (Some g) = Some (folded own v g)

abbrev pub folded_by : Own → Bag → Option Vproc → Option Own
folded_by own bag None = None
folded_by own bag (Some v) = folded_on own v (group_in bag v.group)

abbrev pub folded_in : Own → Pid → Bag → Option Own
folded_in own p bag = folded_by own bag (vproc_in bag p)
