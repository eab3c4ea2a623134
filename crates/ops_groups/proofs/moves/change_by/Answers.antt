use Rattle.std.proofs.Common.{ℤ, sym, subst, rules}
use mir.Val.{SFits}
use mir.Syntax.{w64}
use Rattle.std.proofs.lemmas.Int.{to_z-of_z}
use Rattle.unix_calls.specs.declared.Call.{Call}
use Rattle.unix_calls.specs.declared.Call.TheVariants.{Setpgid}
use Rattle.ops_groups.specs.Decide.{effect_of}
use Rattle.ops_groups.specs.Setpgid.{setpgid_effect}
use Rattle.ops_groups.specs.MethodMove.{group_settled, ChangesAs}
use Rattle.ops_groups.proofs.ChangeCode.{if_ok}
use Rattle.ops_groups.proofs.moves.change_by.Goals as goal

pub returns-in-Setsid-clause-ok : goal.returns-in-Setsid-clause-ok
returns-in-Setsid-clause-ok c = λ v there.
    let settled = group_settled c.args.by.pid c.args.by.group c.args.bag.now in
    if_ok c.setsid_change.result (λ change made. subst (λ (call : Call). ChangesAs settled c.setsid_change.new.bag c.args.by.pid call (λ sig. effect_of call settled sig c.args.by.pid v) change) (sym c.in-Setsid.is) made) (c.setsid_change.ensures.ok v there)

pub returns-in-Setpgid-clause-ok : goal.returns-in-Setpgid-clause-ok
returns-in-Setpgid-clause-ok c = λ v there.
    let settled = group_settled c.args.by.pid c.args.by.group c.args.bag.now in
    let fits : SFits w64 c.in-Setpgid.pgid = search rules in
    let back = to_z-of_z w64 c.in-Setpgid.pgid fits in
    if_ok c.setpgid_change.result (λ change made. subst (λ (call : Call). ChangesAs settled c.setpgid_change.new.bag c.args.by.pid call (λ sig. effect_of call settled sig c.args.by.pid v) change) (sym c.in-Setpgid.is)
    (subst (λ (z : ℤ). ChangesAs settled c.setpgid_change.new.bag c.args.by.pid (Setpgid c.in-Setpgid.target z) (λ sig. setpgid_effect settled sig c.args.by.pid v c.in-Setpgid.target z) change) back made)) (c.setpgid_change.ensures.ok v there)
