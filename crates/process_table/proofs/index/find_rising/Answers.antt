use Rattle.std.proofs.Common.{◌∙◌, sym, refl, None, Some, ltb-true}
use Rattle.std.proofs.lemmas.Bool.{cond-true, cond-false}
use Rattle.std.proofs.lemmas.Option.{slice_get_read, slice_get_past}
use Rattle.process_table.proofs.RisingLaws.{row-at_place}
use Rattle.process_table.proofs.index.find_rising.Goals.{in_default-via-in-Some+else-eq, in_default-via-in_default}
use Rattle.process_table.proofs.index.find_rising.Goals as goal

pub returns-in-Some : goal.returns-in-Some
returns-in-Some c =
    let there = slice_get_read c.args.rows.now _ _ c.in-Some.row.now refl (ltb-true _ _ (sym c.in-Some.ensures.lookup.0)) c.in-Some.ensures.lookup.1 in
    sym (row-at_place c.args.rows.now c.args.pid _ (Some c.in-Some.row.now) c.requires c.place.ensures there ∙ cond-true _ _ _ (sym c.eq.ensures ∙ c.if-eq.true))

pub returns-in_default : goal.returns-in_default
returns-in_default c = elim c.in_default.branch [
  | in_default-via-in-Some+else-eq w ↦
      let there = slice_get_read c.args.rows.now _ _ w.in-Some.row.now refl (ltb-true _ _ (sym w.in-Some.ensures.lookup.0)) w.in-Some.ensures.lookup.1 in
      sym (row-at_place c.args.rows.now c.args.pid _ (Some w.in-Some.row.now) c.requires c.place.ensures there ∙ cond-false _ _ _ (sym w.eq.ensures ∙ w.if-eq.false))
  | in_default-via-in_default w ↦
      sym (row-at_place c.args.rows.now c.args.pid _ None c.requires c.place.ensures (slice_get_past c.args.rows.now _ w.in_default.ensures.lookup.3))
]
