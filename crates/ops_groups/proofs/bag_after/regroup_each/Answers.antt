use Rattle.std.proofs.Common.{◌∙◌, ◌<◌, get_or, length, refl, sym, ap, subst, arith}
use Rattle.std.specs.Prelude.{slice_get}
use Rattle.std.proofs.lemmas.Option.{slice_get_read}
use Rattle.ops_groups.specs.MethodMove.{IsCountedIn, regrouped_by}
use Rattle.ops_groups.specs.declared.tallies.Counts.{Counts}
use Rattle.ops_groups.proofs.CountedTables.{got_at, counted_length, counted_there, counted_next, replaced_length}
use Rattle.ops_groups.proofs.MovedCode.{counted_entry}
use Rattle.ops_groups.proofs.bag_after.regroup_each.Goals as goal

pub bounds-as_slice-at : goal.bounds-as_slice-at
bounds-as_slice-at c =
    let all = ap length (c.as_slice.ensures.entries ∙ c.loop-at.invariant) ∙ counted_length (λ (counts : Counts). regrouped_by counts c.args.later.now c.args.m.now c.args.to) _ c.args.groups.now in
    let end = ap length c.as_slice-at-end.ensures.entries in
    let lt = c.loop-at-test.true in
    omega arith

pub bounds-as_slice-at-in-loop-at : goal.bounds-as_slice-at-in-loop-at
bounds-as_slice-at-in-loop-at c =
    let all = ap length (c.as_slice.ensures.entries ∙ c.loop-at.invariant) ∙ counted_length (λ (counts : Counts). regrouped_by counts c.args.later.now c.args.m.now c.args.to) _ c.args.groups.now in
    let end = ap length c.as_slice-at-end.ensures.entries in
    let lt = c.loop-at-test.true in
    omega arith

pub replace_at-held-requires : goal.replace_at-held-requires
replace_at-held-requires c =
    let all = ap length c.loop-at.invariant ∙ counted_length (λ (counts : Counts). regrouped_by counts c.args.later.now c.args.m.now c.args.to) _ c.args.groups.now in
    let end = ap length c.as_slice-at-end.ensures.entries in
    let lt = c.loop-at-test.true in
    omega arith

pub replace_at-requires : goal.replace_at-requires
replace_at-requires c =
    let kept = replaced_length c.loop-at.at c.loop-at.groups c.replace_at-held.new.self _ _ c.replace_at-held.ensures in
    let all = ap length c.loop-at.invariant ∙ counted_length (λ (counts : Counts). regrouped_by counts c.args.later.now c.args.m.now c.args.to) _ c.args.groups.now in
    let end = ap length c.as_slice-at-end.ensures.entries in
    let lt = c.loop-at-test.true in
    omega arith

pub regrouped-left-requires-clause-counted : goal.regrouped-left-requires-clause-counted
regrouped-left-requires-clause-counted c =
    let there = counted_there (λ (counts : Counts). regrouped_by counts c.args.later.now c.args.m.now c.args.to) c.args.before.now c.args.groups.now c.loop-at.groups c.replace_at-held.new.self c.loop-at.at c.replace_at-held.result _ c.loop-at.invariant c.replace_at-held.ensures in
    subst IsCountedIn there.2 (counted_entry c.args.groups.now c.loop-at.at there.0 c.as_slice-at-end.ensures.rising there.1 c.requires.counted)

pub loop-at-preserved : goal.loop-at-preserved
loop-at-preserved c =
    let lt : c.loop-at.at < length c.args.before.now = let end = ap length c.as_slice-at-end.ensures.entries in let each = c.requires.each in let lt = c.loop-at-test.true in omega arith in
    let within : c.loop-at.at < length c.as_slice.result.now =
    let all = ap length (c.as_slice.ensures.entries ∙ c.loop-at.invariant) ∙ counted_length (λ (counts : Counts). regrouped_by counts c.args.later.now c.args.m.now c.args.to) _ c.args.groups.now in
    let each = c.requires.each in
    omega arith in
    let read = ap (λ es. slice_get es c.loop-at.at) (sym c.as_slice.ensures.entries) ∙ slice_get_read c.as_slice.result.now (length c.as_slice.result.now) c.loop-at.at c.index-as_slice-at.result refl within c.index-as_slice-at.is in
    counted_next (λ (counts : Counts). regrouped_by counts c.args.later.now c.args.m.now c.args.to) c.args.before.now c.args.groups.now c.loop-at.groups c.replace_at-held.new.self c.replace_at.new.self c.loop-at.at
    (get_or c.args.before.now c.loop-at.at (record { links = 0; stopped = 0 })) _ c.index-as_slice-at.result c.replace_at-held.result _ _ c.regrouped-left.result c.loop-at.invariant (got_at c.args.before.now c.loop-at.at _ lt) read
    (ap (λ e. e.pid) (sym c.index-as_slice-at.is)) c.replace_at-held.ensures c.regrouped-left.ensures c.replace_at.ensures
