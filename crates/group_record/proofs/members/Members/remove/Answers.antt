use Rattle.std.proofs.Common.{◌≤◌, ◌<◌, ◌∙◌, sym, ap, length, arith}
use Rattle.std.specs.Prelude.{is_some, remove}
use Rattle.group_record.specs.MethodPlaces.{others_first}
use Rattle.group_record.proofs.PlaceLaws.{place-absent, place-present}
use Rattle.group_record.proofs.DistinctLaws.{removed-left, unmoved-left}
use Rattle.group_record.proofs.members.Members.remove.Goals as goal

pub returns-then-at-len-clause-was : goal.returns-then-at-len-clause-was
returns-then-at-len-clause-was c =
    let past : length c.args.self.now ≤ others_first c.args.p c.args.self.now = omega (arith, c.place-at.ensures.place, c.len.ensures, c.if-at-len.true) in
    sym (ap is_some (place-absent c.args.p c.args.self.now past))

pub returns-then-at-len-clause-left : goal.returns-then-at-len-clause-left
returns-then-at-len-clause-left c =
    let past : length c.args.self.now ≤ others_first c.args.p c.args.self.now = omega (arith, c.place-at.ensures.place, c.len.ensures, c.if-at-len.true) in
    unmoved-left c.args.p c.args.self.now (place-absent c.args.p c.args.self.now past)

pub remove_at-requires : goal.remove_at-requires
remove_at-requires c = omega (arith, c.place-at.ensures.within, c.len.ensures, c.if-at-len.false)

pub returns-clause-was : goal.returns-clause-was
returns-clause-was c =
    let within : others_first c.args.p c.args.self.now < length c.args.self.now = omega (arith, c.place-at.ensures.place, c.place-at.ensures.within, c.len.ensures, c.if-at-len.false) in
    sym (place-present c.args.p c.args.self.now (record { pid = c.args.p; from = 0; uid = 0 }) within)

pub returns-clause-left : goal.returns-clause-left
returns-clause-left c =
    let within : others_first c.args.p c.args.self.now < length c.args.self.now = omega (arith, c.place-at.ensures.place, c.place-at.ensures.within, c.len.ensures, c.if-at-len.false) in
    c.remove_at.ensures ∙ ap (remove c.args.self.now) c.place-at.ensures.place ∙ removed-left c.args.p c.args.self.now c.place-at.ensures.distinct within
