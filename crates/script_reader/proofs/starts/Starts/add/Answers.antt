use Rattle.std.proofs.Common.{◌≡◌, sym, ap, ◌∙◌}
use Rattle.unix_calls.specs.Work.{together, total_work, is_little}
use Rattle.script_words.specs.declared.faults.Kind.TheVariants.{TooMuchWork}
use Rattle.script_words.specs.Kinds.{fault_at}
use Rattle.script_reader.specs.Files.{with_start}
use Rattle.script_reader.proofs.Steps.{total-with}
use Rattle.script_reader.proofs.starts.Starts.add.Goals as goal

pub returns-then-not-is_little-clause-bad : goal.returns-then-not-is_little-clause-bad
returns-then-not-is_little-clause-bad c = λ fault e.
    let sum : c.and-total.result ≡ total_work c.args.works.now (with_start c.args.self.now.list c.args.start.line) = c.and-total.ensures ∙ ap (together c.args.self.now.total) c.work_of.ensures ∙ total-with c.args.works.now c.args.self.now.list c.args.start.line c.args.self.now.total c.requires.total in
    let same : fault_at c.args.start.number TooMuchWork ≡ fault = cc (e, c.bad.ensures) in
    (sym same, ap is_little (sym sum) ∙ sym c.is_little.ensures ∙ c.if-not-is_little.true)

pub returns-clause-total : goal.returns-clause-total
returns-clause-total c =
    let sum : c.and-total.result ≡ total_work c.args.works.now (with_start c.args.self.now.list c.args.start.line) = c.and-total.ensures ∙ ap (together c.args.self.now.total) c.work_of.ensures ∙ total-with c.args.works.now c.args.self.now.list c.args.start.line c.args.self.now.total c.requires.total in
    let pushed : c.push.new.self ≡ with_start c.args.self.now.list c.args.start.line = cc (c.in_ok-push.ensures.ok, c.start_of-next.ensures, c.as_slice.ensures) in
    sum ∙ ap (total_work c.args.works.now) (sym pushed)

pub returns-clause-little : goal.returns-clause-little
returns-clause-little c =
    let sum : c.and-total.result ≡ total_work c.args.works.now (with_start c.args.self.now.list c.args.start.line) = c.and-total.ensures ∙ ap (together c.args.self.now.total) c.work_of.ensures ∙ total-with c.args.works.now c.args.self.now.list c.args.start.line c.args.self.now.total c.requires.total in
    ap is_little (sym sum) ∙ sym c.is_little.ensures ∙ c.if-not-is_little.false
