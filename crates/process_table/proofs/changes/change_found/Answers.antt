use Rattle.std.proofs.Common.{◌≡◌, ◌∙◌, arith, ap, sym}
use Rattle.process_table.specs.MethodIndex.{place}
use Rattle.process_table.proofs.IndexLaws.{map-none, stay-at}
use Rattle.process_table.specs.Changes.{changed_at}
use Rattle.process_table.proofs.ChangeLaws.{changed_elsewhere}
use Rattle.process_table.proofs.StayLaws.{changed-at}
use Rattle.process_table.proofs.changes.change_found.Goals as goal

pub returns-then-at-len-clause-rows : goal.returns-then-at-len-clause-rows
returns-then-at-len-clause-rows c =
    let at : c.place-at.result ≡ place c.args.rows.now.items c.args.pid = c.place-at.ensures ∙ ap (λ rows. place rows c.args.pid) c.deref.ensures.value in
    changed-at c.args.rows.now.items c.change_at.new.rows.items c.args.pid (changed_at c.args.pid c.args.change.now) c.place-at.result c.requires.rising (changed_elsewhere c.args.pid c.args.change.now) at (omega arith) c.change_at.ensures.rows

pub returns-then-at-len-clause-stays : goal.returns-then-at-len-clause-stays
returns-then-at-len-clause-stays c =
    let at : c.place-at.result ≡ place c.args.rows.now.items c.args.pid = c.place-at.ensures ∙ ap (λ rows. place rows c.args.pid) c.deref.ensures.value in
    λ stays. stay-at c.args.rows.now.items c.args.pid (changed_at c.args.pid c.args.change.now) c.place-at.result c.requires.rising (changed_elsewhere c.args.pid c.args.change.now) at (λ d lt. sym (c.change_at.ensures.stays d) ∙ stays)

pub returns-else-at-len-clause-rows : goal.returns-else-at-len-clause-rows
returns-else-at-len-clause-rows c =
    let at : c.place-at.result ≡ place c.args.rows.now.items c.args.pid = c.place-at.ensures ∙ ap (λ rows. place rows c.args.pid) c.deref.ensures.value in
    sym (map-none c.args.rows.now.items c.args.pid (changed_at c.args.pid c.args.change.now) c.place-at.result c.requires.rising (changed_elsewhere c.args.pid c.args.change.now) at (omega arith))

pub returns-else-at-len-clause-stays : goal.returns-else-at-len-clause-stays
returns-else-at-len-clause-stays c =
    let at : c.place-at.result ≡ place c.args.rows.now.items c.args.pid = c.place-at.ensures ∙ ap (λ rows. place rows c.args.pid) c.deref.ensures.value in
    λ stays. stay-at c.args.rows.now.items c.args.pid (changed_at c.args.pid c.args.change.now) c.place-at.result c.requires.rising (changed_elsewhere c.args.pid c.args.change.now) at (λ d lt. absurd (omega arith))
