use Rattle.std.proofs.Common.{◌≡◌, ◌<◌, ◌+◌, ◌++◌, [], ◌∷◌, Ok, length, take, ◌∙◌, ap, sym, arith}
use Rattle.std.proofs.lemmas.List.{take_more}
use Rattle.histories.specs.declared.Stamped.{Stamped}
use Rattle.audit_core.specs.Table.{running_of}
use Rattle.audit_core.proofs.StampedHistories.{grown_two_there}
use Rattle.audit_core.proofs.stamps.audit_two.Goals as goal

-- the entry keeps every rule, so the history that was read has grown by it
pub loop-i-preserved : goal.loop-i-preserved
loop-i-preserved c =
    let world = c.args.world.now in
    let entries = c.args.entries.now in
    let s = c.index-entries-i.result in
    let h = take c.loop-i.i entries in
    let within : c.loop-i.i < length entries = omega arith in
    let longer : take (c.loop-i.i + 1) entries ≡ h ++ s ∷ [] = take_more entries c.loop-i.i s within ∙ ap (λ (x : Stamped). h ++ x ∷ []) (sym c.index-entries-i.is) in
    let read = c.loop-i.invariant in
    let more = grown_two_there world h (take (c.loop-i.i + 1) entries) s c.loop-i.last c.loop-i.judge.kernel (running_of c.loop-i.judge.images) c.in_ok-step_two.field-0 longer read.legal read.last read.kernel read.running
    c.in_ok-step_two.ensures.verdict c.in-None.is in
    let done = c.in_ok-step_two.was ∙ ap Ok c.in-None.is in record {
      last = more.last;
      kernel = c.step_two.ensures.kernel done ∙ more.table;
      running = c.step_two.ensures.running done ∙ more.progress;
      kept = c.step_two.ensures.kept done;
      legal = more.legal;
    }
