use Rattle.std.proofs.Common.{◌∙◌, ap, length, arith}
use Rattle.group_record.specs.MethodPlaces.{others_first}
use Rattle.group_record.proofs.PlaceLaws.{place-within, found-early, found-late}
use Rattle.group_record.proofs.members.Members.place.Goals as goal

pub returns-then-early-few-clause-place : goal.returns-then-early-few-clause-place
returns-then-early-few-clause-place c =
    found-early c.args.p c.min-few.result c.as_slice-members.result.now c.place_of-early.result (omega (arith, c.min-few.ensures)) c.place_of-early.ensures c.if-early-few.true
    ∙ ap (others_first c.args.p) (c.as_slice-members.ensures ∙ c.self.view_is)

pub overflow_add-result : goal.overflow_add-result
overflow_add-result c =
    let ms = c.as_slice-members.result.now in
    let is = found-late c.args.p c.min-few.result ms c.place_of-early.result c.place_of.result (omega (arith, c.min-few.ensures)) c.place_of-early.ensures (omega (arith, c.if-early-few.false)) c.place_of.ensures in
    let within = place-within c.args.p ms in
    omega arith

pub returns-in-None-clause-place : goal.returns-in-None-clause-place
returns-in-None-clause-place c =
    found-late c.args.p c.min-few.result c.as_slice-members.result.now c.place_of-early.result c.place_of.result (omega (arith, c.min-few.ensures)) c.place_of-early.ensures (omega (arith, c.if-early-few.false)) c.place_of.ensures
    ∙ ap (others_first c.args.p) (c.as_slice-members.ensures ∙ c.self.view_is)

pub returns-in-Some-clause-within : goal.returns-in-Some-clause-within
returns-in-Some-clause-within c = omega (arith, c.in-Some.ensures, place-within c.args.p c.args.self.now)

pub returns-in-None-clause-within : goal.returns-in-None-clause-within
returns-in-None-clause-within c =
    let is = found-late c.args.p c.min-few.result c.as_slice-members.result.now c.place_of-early.result c.place_of.result (omega (arith, c.min-few.ensures)) c.place_of-early.ensures (omega (arith, c.if-early-few.false)) c.place_of.ensures in
    let same = ap length (c.as_slice-members.ensures ∙ c.self.view_is) in
    let within = place-within c.args.p c.as_slice-members.result.now in
    omega arith
