-- how a courier stays sound
use Rattle.std.proofs.Common.{◌≡◌, List, ◌++◌, Some, refl}
use Rattle.unix_names.specs.declared.Name.{Name}
use Rattle.unix_calls.specs.declared.Job.{Job}
use Rattle.proc_image.specs.declared.Image.{Image}
use Rattle.record_bag.specs.declared.Held.{Held}
use Rattle.record_bag.specs.Bags.{held_names}
use Rattle.courier_core.specs.declared.Courier.{Courier}
use Rattle.courier_core.specs.Wants.{all_added}
use Rattle.courier_core.specs.Couriers.{next_want}
use Rattle.courier_core.proofs.Keeping.{taking-keeps, nothing-below}
use Rattle.node_core.specs.Advance.{empty_bag}
use Rattle.node_core.specs.Turns.{courier_with}
use Rattle.node_laws.specs.Couriers.{IsSound, WaitsFor, given}
use Rattle.node_laws.proofs.Once.{once-all}

-- who is made of an image
pub fresh-sound : (image : Image) (job : Job) → IsSound (courier_with image job)
fresh-sound image job = record { below = nothing-below (courier_with image job) refl; once = tt }

-- who takes the next name that it lacks
pub taking-sound : (c : Courier) (need : List Name) (x : Name) (h : Held) → IsSound c → next_want c need ≡ Some x → IsSound (given c x h)
taking-sound c need x h sound next = record { below = taking-keeps c need x h sound.below next; once = sound.once }

-- who waits for it
pub waiting-sound : (c : Courier) (need : List Name) (x : Name) → IsSound c → next_want c need ≡ Some x → WaitsFor x c
waiting-sound c need x sound next = record { sound = sound; served = λ h. taking-sound c need x h sound next }

-- who begins anew
pub restart-sound : (c : Courier) (names : List Name) → IsSound c → IsSound (record c { wants = all_added c.wants (names ++ held_names c.bag); bag = empty_bag })
restart-sound c names sound = record {
  below = nothing-below (record c { wants = all_added c.wants (names ++ held_names c.bag); bag = empty_bag }) refl;
  once = once-all c.wants (names ++ held_names c.bag) sound.once;
}
