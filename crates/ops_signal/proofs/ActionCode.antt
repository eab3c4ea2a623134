-- an action that is set, as the code makes it, is the whole decision
use Rattle.std.proofs.Common.{◌≡◌, ℕ, Bool, List, [], refl, sym, ap, ◌∙◌, Option, None, Some}
use Rattle.std.specs.Option.{option_map}
use Rattle.unix_names.specs.declared.Pid.{Pid}
use Rattle.unix_names.specs.declared.Act.{Act}
use Rattle.unix_names.specs.declared.Errno.{Errno}
use Rattle.unix_names.specs.declared.Errno.TheVariants.{EINVAL}
use Rattle.unix_names.specs.declared.Signal.{Signal}
use Rattle.unix_names.specs.declared.Signal.TheVariants.{Chld}
use Rattle.unix_names.specs.Sets.{has}
use Rattle.unix_names.specs.Signals.{signal_of}
use Rattle.unix_calls.specs.declared.Call.TheVariants.{Action}
use Rattle.unix_calls.specs.declared.Reply.TheVariants.{Fine, Refused}
use Rattle.unix_calls.specs.declared.Entry.TheVariants.{Called}
use Rattle.unix_calls.specs.declared.Phase.TheVariants as phase
use Rattle.signal_state.specs.Signals.{Signals}
use Rattle.signal_state.specs.Sig.{with_action}
use Rattle.signal_state.specs.declared.Own.{Own}
use Rattle.record_bag.specs.declared.bag.Bag.{Bag}
use Rattle.record_bag.specs.declared.vector.Outcome.{Outcome}
use Rattle.record_bag.specs.declared.vector.Outcome.TheVariants as outcome
use Rattle.record_bag.specs.Decisions.{answered}
use Rattle.kernel_rules.specs.Action.{action_refusal}
use Rattle.decide_law.specs.Base.{HasBase}
use Rattle.decide_law.specs.Effects.{only, same, changed, folded, settled_in, trimmed_in, written, quiet, unless_refused, done_by}
use Rattle.decide_law.specs.Parts.{decide_by}
use Rattle.decide_law.proofs.RoundParts.{parts_whole, call_done}
use Rattle.ops_signal.specs.Actions.{set_action, action_effect}
use Rattle.ops_signal.specs.Decide.{effect_of}
use Rattle.ops_signal.specs.MethodActions.{telling, acted_on, acted}

-- where it is refused
pub refused_effect : (sig : Signals) (p : Pid) (s : ℕ) (act : Act) (e : Errno) → action_refusal (signal_of s) ≡ Some e → action_effect sig p s act ≡ quiet (Some (Called p (Action s act) (Refused e))) sig phase.Ready
refused_effect sig p s act e is = ap (λ (o : Option Errno). unless_refused o p (Action s act) sig (set_action sig p s act (signal_of s))) is

-- where it is set
pub action_whole : (p id : Pid) (s : ℕ) (act : Act) (own taken carried : Own) (bag settled wrote left : Bag) (base : HasBase own p bag) (o : Outcome) → action_refusal (signal_of s) ≡ None → id ≡ base.vproc.group → settled ≡ settled_in p base.vproc.group bag →
    taken ≡ folded own base.vproc base.group → carried ≡ acted s act taken → wrote ≡ changed (only p (option_map (telling (has carried.sig.ignored Chld)))) same settled → left ≡ trimmed_in id wrote →
    o ≡ outcome.Done (record { entry = Some (Called p (Action s act) Fine); own = carried; phase = phase.Ready; born = None; nudges = [] }) → answered o left ≡ decide_by (Action s act) (effect_of (Action s act)) p own bag
action_whole p id s act own taken carried bag settled wrote left base o fine at was took acts writes trimmed out = go (signal_of s) refl
  where
    go : (signal : Option Signal) → signal_of s ≡ signal → answered o left ≡ decide_by (Action s act) (effect_of (Action s act)) p own bag
    go None is = let no_signal : Some EINVAL ≡ None = ap action_refusal (sym is) ∙ fine in absurd (cc no_signal)
    go (Some signal) is =
        let sig = (folded own base.vproc base.group).sig in
        let kept : carried ≡ record { sig = with_action sig signal act; taken = 0 } = acts ∙ ap (λ (g : Option Signal). acted_on g act taken) is ∙ ap (acted_on (Some signal) act) took in
        let effect : action_effect sig p s act ≡ set_action sig p s act (Some signal) = ap (λ (r : Option Errno). unless_refused r p (Action s act) sig (set_action sig p s act (signal_of s))) fine ∙ ap (set_action sig p s act) is in
        parts_whole (set_action sig p s act (Some signal)) p id base.vproc o bag settled wrote left at was (writes ∙ ap (λ (x : Own). changed (only p (option_map (telling (has x.sig.ignored Chld)))) same settled) kept) trimmed
        (out ∙ ap (λ (x : Own). outcome.Done (record { entry = Some (Called p (Action s act) Fine); own = x; phase = phase.Ready; born = None; nudges = [] })) kept)
        ∙ sym (call_done (Action s act) (effect_of (Action s act)) p own bag base.vproc base.group base.vproc_is base.group_is refl ∙ ap (done_by p base.vproc bag) effect)
