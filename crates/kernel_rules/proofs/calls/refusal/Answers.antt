use Rattle.std.proofs.Common.{◌∙◌, ap, sym, subst, rules}
use Rattle.std.proofs.lemmas.Int.{to_z-of_z}
use mir.Val.{SFits}
use mir.Syntax.{w64}
use Rattle.unix_calls.specs.Calls.{IsName, HasNames, target_of}
use Rattle.kernel_rules.specs.Kill.{kill_refusal}
use Rattle.kernel_rules.specs.Calls.{refusal}
use Rattle.kernel_rules.proofs.calls.refusal.Goals as goal

pub returns-in-Kill : goal.returns-in-Kill
returns-in-Kill c =
    let names : IsName c.in-Kill.target = subst HasNames c.in-Kill.is c.requires in
    let fits : SFits w64 c.in-Kill.target = search rules in
    c.kill_refusal.ensures
    ∙ ap (λ rows. kill_refusal rows c.args.caller.now c.target_of.result c.in-Kill.sig) c.rows-rows.ensures
    ∙ ap (λ t. kill_refusal c.args.table.now c.args.caller.now t c.in-Kill.sig) (c.target_of.ensures ∙ ap target_of (to_z-of_z w64 _ fits))
    ∙ sym (ap (λ call. refusal c.args.table.now c.args.caller.now call) c.in-Kill.is)
