use Rattle.std.proofs.Common.{◌≤◌, length, slice_index_or, arith}
use Rattle.std.proofs.lemmas.Option.{slice_get-get_or}
use Rattle.group_record.specs.declared.member.Member.{Member}
use Rattle.group_record.specs.MethodPlaces.{others_first}
use Rattle.group_record.proofs.PlaceLaws.{place-absent}
use Rattle.group_record.proofs.DistinctLaws.{set-begun-at, unmoved-begun}
use Rattle.group_record.proofs.member.begin_at.Goals as goal

pub returns-then-at-members : goal.returns-then-at-members
returns-then-at-members c =
    let ms = c.args.members.now in
    let x : Member = slice_index_or ms c.args.at (record { pid = record { 0 = 0 }; from = 0; uid = 0 }) in
    set-begun-at c.args.from c.args.p ms c.args.at x c.requires.distinct c.requires.place (slice_get-get_or ms c.args.at _ c.if-at-members.true)

pub returns-else-at-members : goal.returns-else-at-members
returns-else-at-members c =
    let past : length c.args.members.now ≤ others_first c.args.p c.args.members.now = omega (arith, c.requires.place, c.if-at-members.false) in
    unmoved-begun c.args.from c.args.p c.args.members.now (place-absent c.args.p c.args.members.now past)
