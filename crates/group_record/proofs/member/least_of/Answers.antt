use Rattle.std.proofs.Common.{◌∙◌, ◌-◌, ap, sym, length, length-take, arith}
use Rattle.group_record.specs.Members.{least_of}
use Rattle.group_record.proofs.MemberLaws.{least_of-zero, least_of-four}
use Rattle.group_record.proofs.member.least_of.Goals as goal

pub returns-then-least-eq0 : goal.returns-then-least-eq0
returns-then-least-eq0 c =
    sym (least_of-zero c.loop-rest.rest.now) ∙ ap (λ n. least_of n c.loop-rest.rest.now) (sym c.if-least-eq0.true) ∙ c.loop-rest.invariant.0

pub loop-rest-preserved : goal.loop-rest-preserved
loop-rest-preserved c =
    let rest = c.loop-rest.rest.now in
    let short = length-take (length rest - 4) rest in (
      least_of-four c.loop-rest.least _ _ _ _ rest (record { pid = record { 0 = 0 }; from = 0; uid = 0 }) c.in-len4-up.len_at_least c.min.ensures c.min-in-len4-up.ensures c.min-in-len4-up-2.ensures c.min-least.ensures ∙ c.loop-rest.invariant.0,
      omega arith,
    )
