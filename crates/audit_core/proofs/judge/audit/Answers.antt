use Rattle.std.proofs.Common.{◌≡◌, ◌<◌, ◌+◌, ◌++◌, [], ◌∷◌, Ok, length, take, ◌∙◌, ap, sym, arith}
use Rattle.std.proofs.lemmas.List.{take_more}
use Rattle.unix_calls.specs.declared.Entry.{Entry}
use Rattle.audit_core.specs.Table.{running_of}
use Rattle.audit_core.proofs.Judgements.{grown_there}
use Rattle.audit_core.proofs.judge.audit.Goals as goal

-- the entry is legal and in order, so the history that was read has grown by it
pub loop-i-preserved : goal.loop-i-preserved
loop-i-preserved c =
    let world = c.args.world.now in
    let entries = c.args.entries.now in
    let e = c.index-entries-i.result in
    let h = take c.loop-i.i entries in
    let within : c.loop-i.i < length entries = omega arith in
    let longer : take (c.loop-i.i + 1) entries ≡ h ++ e ∷ [] = take_more entries c.loop-i.i e within ∙ ap (λ (x : Entry). h ++ x ∷ []) (sym c.index-entries-i.is) in
    let read = c.loop-i.invariant in
    let more = grown_there world h (take (c.loop-i.i + 1) entries) e c.loop-i.judge.kernel (running_of c.loop-i.judge.images) c.in_ok-step.field-0 longer read.legal read.follows read.kernel read.running
    c.in_ok-step.ensures.verdict c.in-None.is in
    let done = c.in_ok-step.was ∙ ap Ok c.in-None.is in record {
      kernel = c.step.ensures.kernel done ∙ more.table;
      running = c.step.ensures.running done ∙ more.progress;
      kept = c.step.ensures.kept done;
      legal = more.legal;
      follows = more.follows;
    }
