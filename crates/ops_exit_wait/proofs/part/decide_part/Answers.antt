use Rattle.std.proofs.Common.{◌≡◌, ◌∙◌, ℤ, sym, ap, subst, rules, w64, SFits}
use Rattle.std.specs.Prelude.{IfOk}
use Rattle.std.proofs.lemmas.Int.{to_z-of_z}
use Rattle.unix_calls.specs.declared.Call.{Call}
use Rattle.unix_calls.specs.declared.Call.TheVariants.{Waitpid}
use Rattle.unix_calls.specs.Calls.{IsName, HasNames}
use Rattle.record_bag.specs.Decisions.{answered}
use Rattle.decide_law.specs.Parts.{decide_by}
use Rattle.ops_exit_wait.specs.Decide.{effect_of}
use Rattle.ops_exit_wait.proofs.PartCode.{one_of_three}
use Rattle.ops_exit_wait.proofs.part.decide_part.Goals as goal

pub unreachable-requires : goal.unreachable-requires
unreachable-requires c = one_of_three c.args.call.now c.requires.part c.in_default.not-Exec c.in_default.not-Exit c.in_default.not-Waitpid

pub returns-in-Exec-clause-answer : goal.returns-in-Exec-clause-answer
returns-in-Exec-clause-answer c = subst (λ (k : Call). answered c.decide_exec.result c.decide_exec.new.bag ≡ decide_by k (effect_of k) c.args.pid c.args.own.now c.args.bag.now) (sym c.in-Exec.is) c.decide_exec.ensures

pub returns-in-Exit-clause-answer : goal.returns-in-Exit-clause-answer
returns-in-Exit-clause-answer c = subst (λ (k : Call). IfOk c.decide_exit.result (λ o. answered o c.decide_exit.new.bag ≡ decide_by k (effect_of k) c.args.pid c.args.own.now c.args.bag.now)) (sym c.in-Exit.is) c.decide_exit.ensures.answer

pub decide_waitpid-requires-clause-name : goal.decide_waitpid-requires-clause-name
decide_waitpid-requires-clause-name c = let fits : SFits w64 c.in-Waitpid.sel = search rules in subst IsName (sym (to_z-of_z w64 c.in-Waitpid.sel fits)) (subst HasNames c.in-Waitpid.is c.requires.names)

pub returns-in-Waitpid-clause-answer : goal.returns-in-Waitpid-clause-answer
returns-in-Waitpid-clause-answer c =
    let fits : SFits w64 c.in-Waitpid.sel = search rules in
    subst (λ (k : Call). IfOk c.decide_waitpid.result (λ o. answered o c.decide_waitpid.new.bag ≡ decide_by k (effect_of k) c.args.pid c.args.own.now c.args.bag.now))
    (ap (λ (z : ℤ). Waitpid z c.in-Waitpid.stopped c.in-Waitpid.continued) (to_z-of_z w64 c.in-Waitpid.sel fits) ∙ sym c.in-Waitpid.is) c.decide_waitpid.ensures.answer
