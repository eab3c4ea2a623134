-- names that the code gathered, and the answer that asks for them
use Rattle.std.proofs.Common.{◌≡◌, Bool, true, false, List, [], ◌∷◌, refl, sym, ap, ◌∙◌, Some}
use Rattle.unix_names.specs.declared.Pid.{Pid}
use Rattle.unix_names.specs.declared.Name.{Name}
use Rattle.vproc_record.specs.declared.Vproc.{Vproc}
use Rattle.record_bag.specs.declared.bag.Bag.{Bag}
use Rattle.record_bag.specs.declared.vector.Outcome.TheVariants as outcome
use Rattle.record_bag.specs.Decisions.{answered}
use Rattle.std.specs.Prelude.{if◌then◌else◌}
use Rattle.decide_law.specs.Effects.{Effect, done_by, settled_in, folded, emptied}
use Rattle.decide_law.specs.Footprints.{lacking, is_none, in_order, needed, call_footprint}
use Rattle.decide_law.specs.Answer.{on_footprint}
use Rattle.decide_law.specs.MethodNeeds.{wanted}
use Rattle.decide_law.proofs.Needed.{order_some}
use Rattle.decide_law.proofs.Gathered.{wanted_needed}
use Rattle.unix_calls.specs.declared.Call.{Call}
use Rattle.signal_state.specs.declared.Own.{Own}
use Rattle.group_record.specs.declared.Group.{Group}
use Rattle.decide_law.specs.Agrees.{vproc_at, group_at}
use Rattle.decide_law.specs.Parts.{CallEffect, answer_by, decide_by}
use Rattle.decide_law.proofs.RoundParts.{base_answer}

order_none : (ns : List Name) (b : Bool) → is_none ns ≡ b → is_none (in_order ns) ≡ b
order_none [] true e = refl
order_none [] false e = cc
order_none (n ∷ ns) true e = cc
order_none (n ∷ ns) false e = order_some (n ∷ ns) refl

-- none was gathered exactly where none lacks
pub wanted_none : (bag : Bag) (names : List Name) → is_none (wanted bag names []) ≡ is_none (lacking bag names)
wanted_none bag names = ap is_none (wanted_needed bag names) ∙ order_none (lacking bag names) (is_none (lacking bag names)) refl

-- where some were gathered, they are asked for
pub asked_for : (names gathered : List Name) (p : Pid) (v : Vproc) (bag : Bag) (x : Effect) → gathered ≡ wanted bag names [] → is_none gathered ≡ false → answered (outcome.Need gathered) bag ≡ on_footprint names p v bag x
asked_for names gathered p v bag x is some =
    ap (λ (l : List Name). answered (outcome.Need l) bag) (is ∙ wanted_needed bag names)
    ∙ sym (ap (λ (b : Bool). if b then done_by p v bag x else answered (outcome.Need (needed bag names)) bag) (sym (wanted_none bag names) ∙ sym (ap is_none is) ∙ some))

-- where none was, it is done
pub all_held : (names gathered : List Name) (p : Pid) (v : Vproc) (bag : Bag) (x : Effect) → gathered ≡ wanted bag names [] → is_none gathered ≡ true → done_by p v bag x ≡ on_footprint names p v bag x
all_held names gathered p v bag x is none = sym (ap (λ (b : Bool). if b then done_by p v bag x else answered (outcome.Need (needed bag names)) bag) (sym (wanted_none bag names) ∙ sym (ap is_none is) ∙ none))

-- ---- the same of a call, on a base that is there
pub call_asks : (call : Call) (effect : CallEffect) (p : Pid) (own : Own) (bag : Bag) (v : Vproc) (g : Group) (gathered : List Name) → vproc_at bag p ≡ Some (Some v) → group_at bag v.group ≡ Some (Some g) → gathered ≡ wanted bag (call_footprint bag v call) [] → is_none gathered ≡ false →
    answered (outcome.Need gathered) bag ≡ decide_by call effect p own bag
call_asks call effect p own bag v g gathered ev eg is some =
    asked_for (call_footprint bag v call) gathered p v bag (effect (settled_in p v.group bag) (folded own v g).sig p (emptied v)) is some ∙ sym (base_answer (answer_by call effect own bag p) p bag v g ev eg)

pub call_held : (call : Call) (effect : CallEffect) (p : Pid) (own : Own) (bag : Bag) (v : Vproc) (g : Group) (gathered : List Name) → vproc_at bag p ≡ Some (Some v) → group_at bag v.group ≡ Some (Some g) → gathered ≡ wanted bag (call_footprint bag v call) [] → is_none gathered ≡ true →
    done_by p v bag (effect (settled_in p v.group bag) (folded own v g).sig p (emptied v)) ≡ decide_by call effect p own bag
call_held call effect p own bag v g gathered ev eg is none =
    all_held (call_footprint bag v call) gathered p v bag (effect (settled_in p v.group bag) (folded own v g).sig p (emptied v)) is none ∙ sym (base_answer (answer_by call effect own bag p) p bag v g ev eg)
