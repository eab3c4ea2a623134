-- an exec, as the code makes it, is the whole decision
use Rattle.std.proofs.Common.{◌≡◌, [], refl, sym, ap, ◌∙◌, None, Some}
use Rattle.std.specs.Option.{option_map}
use Rattle.unix_names.specs.declared.Pid.{Pid}
use Rattle.unix_calls.specs.declared.Call.TheVariants.{Exec}
use Rattle.unix_calls.specs.declared.Reply.TheVariants.{Fine}
use Rattle.unix_calls.specs.declared.Entry.TheVariants.{Called}
use Rattle.unix_calls.specs.declared.Phase.TheVariants as phase
use Rattle.signal_state.specs.Sig.{after_exec}
use Rattle.signal_state.specs.declared.Own.{Own}
use Rattle.record_bag.specs.declared.bag.Bag.{Bag}
use Rattle.record_bag.specs.declared.vector.Outcome.{Outcome}
use Rattle.record_bag.specs.declared.vector.Outcome.TheVariants as outcome
use Rattle.record_bag.specs.Decisions.{answered}
use Rattle.decide_law.specs.Base.{HasBase}
use Rattle.decide_law.specs.Effects.{only, same, changed, folded, settled_in, trimmed_in}
use Rattle.decide_law.specs.Parts.{decide_by}
use Rattle.decide_law.proofs.RoundParts.{parts_whole, call_done}
use Rattle.ops_exit_wait.specs.Exec.{execed_record, exec_effect}
use Rattle.ops_exit_wait.specs.Decide.{effect_of}

pub exec_whole : (p id : Pid) (own taken carried : Own) (bag settled wrote left : Bag) (base : HasBase own p bag) (o : Outcome) → id ≡ base.vproc.group → settled ≡ settled_in p base.vproc.group bag → taken ≡ folded own base.vproc base.group →
    carried ≡ record taken { sig = after_exec taken.sig } → wrote ≡ changed (only p (option_map execed_record)) same settled → left ≡ trimmed_in id wrote →
    o ≡ outcome.Done (record { entry = Some (Called p Exec Fine); own = carried; phase = phase.Ready; born = None; nudges = [] }) → answered o left ≡ decide_by Exec (effect_of Exec) p own bag
exec_whole p id own taken carried bag settled wrote left base o at was took runs writes trimmed out =
    let sig = (folded own base.vproc base.group).sig in
    let kept : carried ≡ record { sig = after_exec sig; taken = 0 } = runs ∙ ap (λ (x : Own). record x { sig = after_exec x.sig }) took in
    parts_whole (exec_effect sig p) p id base.vproc o bag settled wrote left at was writes trimmed
    (out ∙ ap (λ (x : Own). outcome.Done (record { entry = Some (Called p Exec Fine); own = x; phase = phase.Ready; born = None; nudges = [] })) kept)
    ∙ sym (call_done Exec (effect_of Exec) p own bag base.vproc base.group base.vproc_is base.group_is refl)
