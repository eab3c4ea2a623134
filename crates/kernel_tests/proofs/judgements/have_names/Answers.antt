use Rattle.std.proofs.Common.{◌<◌, All, length, rules, subst, arith}
use Rattle.std.proofs.lemmas.List.{take_all}
use Rattle.std.proofs.lemmas.List.Elements.{All-more}
use Rattle.unix_calls.specs.declared.Entry.{Entry}
use Rattle.unix_calls.specs.Calls.{EntryHasNames}
use Rattle.kernel_tests.proofs.judgements.have_names.Goals as goal

pub loop-entry-preserved : goal.loop-entry-preserved
loop-entry-preserved c =
    let within : c.loop-entry.entry-index < length c.args.entries.now = omega arith in
    All-more EntryHasNames c.args.entries.now c.loop-entry.entry-index c.entry-item.result within c.loop-entry.invariant
    (subst (λ (e : Entry). EntryHasNames e) c.entry-item.is (c.has_names.ensures (search rules)))

pub returns : goal.returns
returns c = λ told. subst (All EntryHasNames) (take_all c.loop-entry.entry-index c.args.entries.now c.loop-entry-test.false) c.loop-entry.invariant
