-- numbers of a call that fit in 32 bits can be names
use Rattle.std.proofs.Common.{◌<◌, ◌^◌, ℕ, suc, ℤ, pos, negsuc, le→leb, List, refl, arith, inr, Option}
use Rattle.unix_names.specs.declared.Pid.{Pid}
use Rattle.unix_names.specs.declared.NodeId.{NodeId}
use Rattle.unix_calls.specs.declared.Call.{Call}
use Rattle.unix_calls.specs.declared.Call.TheVariants as calls
use Rattle.unix_calls.specs.declared.Job.TheVariants.{Ask}
use Rattle.unix_calls.specs.Calls.{IsName, HasNames}
use Rattle.process_table.specs.declared.Row.{Row}
use Rattle.decide_law.specs.Needs.{size, IsNamed, OfJob}

name_fits : (z : ℤ) → size z < 2 ^ 32 → IsName z
name_fits (pos n) h = let few : n < 4294967296 = h in (record { le = tt }, record { le = le→leb n 4294967295 (omega arith) })
name_fits (negsuc n) h = let few : suc n < 4294967296 = h in (record { le = le→leb n 4294967294 (omega arith) }, record { le = tt })

pub has_names : (rows : List Row) (p : Pid) (call : Call) (at : Option NodeId) → ((n : ℕ) → IsNamed rows p (Ask call at) n → n < 2 ^ 32) → HasNames call
has_names rows p (calls.Waitpid sel stopped continued) at few = name_fits sel (few (size sel) (OfJob refl))
has_names rows p (calls.Kill target s) at few = name_fits target (few (size target) (OfJob refl))
has_names rows p (calls.Setpgid t q) at few = name_fits q (few (size q) (OfJob (inr refl)))
has_names rows p _ at few = tt
