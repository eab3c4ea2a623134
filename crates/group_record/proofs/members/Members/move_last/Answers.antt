use Rattle.std.proofs.Common.{◌≤◌, ◌∙◌, ◌∷◌, ◌++◌, [], ap, length, arith}
use Rattle.std.specs.Prelude.{is_some}
use Rattle.std.proofs.lemmas.Result.{on_ok_weaker}
use Rattle.group_record.specs.MethodPlaces.{others_first}
use Rattle.group_record.proofs.PlaceLaws.{place-absent}
use Rattle.group_record.proofs.DistinctLaws.{unmoved-left}
use Rattle.group_record.proofs.members.Members.move_last.Goals as goal

pub add-requires : goal.add-requires
add-requires c =
    let past : length c.args.self.now ≤ others_first c.args.m.pid c.args.self.now = omega (arith, c.place-at.ensures.place, c.len.ensures, c.if-at-len.true) in
    ap is_some (place-absent c.args.m.pid c.args.self.now past)

pub returns-then-at-len-clause-ok : goal.returns-then-at-len-clause-ok
returns-then-at-len-clause-ok c =
    let past : length c.args.self.now ≤ others_first c.args.m.pid c.args.self.now = omega (arith, c.place-at.ensures.place, c.len.ensures, c.if-at-len.true) in
    on_ok_weaker c.add.result (λ e. e ∙ ap (λ l. l ++ c.args.m ∷ []) (unmoved-left c.args.m.pid c.args.self.now (place-absent c.args.m.pid c.args.self.now past))) c.add.ensures.ok

pub move_to_end-requires-clause-within : goal.move_to_end-requires-clause-within
move_to_end-requires-clause-within c = omega (arith, c.place-at.ensures.within, c.len.ensures, c.if-at-len.false)
