use Rattle.std.proofs.Common.{◌≡◌, [], ◌∷◌, length, length-append, Option, sym, ap, ◌∙◌, arith, Err}
use Rattle.std.proofs.lemmas.Result.{err_from_is_err_and}
use Rattle.script_words.specs.declared.faults.Fault.{Fault}
use Rattle.script_reader.specs.MethodReading.{judged_with}
use Rattle.script_reader.proofs.Steps.{start-taken, start-crowds, starts-all, ends-bad, ends-fine}
use Rattle.script_reader.proofs.starts.judged.Goals as goal

pub loop-start-preserved : goal.loop-start-preserved
loop-start-preserved c =
    let works = c.args.works.now in
    let marked = c.args.marked.now in
    let fault = c.args.fault in
    record {
      few = let grown = ap length c.in_ok-add.ensures.list ∙ length-append c.loop-start.starts.list (_ ∷ []) in omega (arith, grown, c.loop-start.invariant.few);
      total = c.in_ok-add.ensures.total;
      told = λ number. rw c.in_ok-add.ensures.list (start-taken works c.loop-start.starts.list marked c.loop-start.start-index _ fault number (judged_with works [] marked fault number []) c.loop-start-test.true c.in_ok-add.ensures.little (c.loop-start.invariant.told number));
    }

pub returns-in_err-add-clause-bad : goal.returns-in_err-add-clause-bad
returns-in_err-add-clause-bad c = λ least e number.
    let works = c.args.works.now in
    let marked = c.args.marked.now in
    let fault = c.args.fault in
    let p = err_from_is_err_and c.from_residual.result c.from_residual.ensures.1 in
    let b = c.in_err-add.ensures.bad least (cc (p.1, p.2, e)) in
    rw b.0 (sym (start-crowds works c.loop-start.starts.list marked c.loop-start.start-index _ fault number (judged_with works [] marked fault number []) c.loop-start-test.true b.1 (c.loop-start.invariant.told number)))

pub returns-in-Some-clause-bad : goal.returns-in-Some-clause-bad
returns-in-Some-clause-bad c = λ least e number.
    let works = c.args.works.now in
    let marked = c.args.marked.now in
    let list = c.loop-start.starts.list in
    let same : c.in-Some.fault ≡ least = cc in
    let all = starts-all works list marked c.loop-start.start-index c.args.fault number (judged_with works [] marked c.args.fault number []) c.loop-start-test.false (c.loop-start.invariant.told number) in
    sym all ∙ ap (λ (f : Option Fault). judged_with works list [] f number []) c.in-Some.is ∙ ends-bad works list c.in-Some.fault number ∙ ap (λ (f : Fault). Err f) same

pub returns-in-None-clause-starts : goal.returns-in-None-clause-starts
returns-in-None-clause-starts c = λ number.
    let works = c.args.works.now in
    let marked = c.args.marked.now in
    let list = c.loop-start.starts.list in
    let all = starts-all works list marked c.loop-start.start-index c.args.fault number (judged_with works [] marked c.args.fault number []) c.loop-start-test.false (c.loop-start.invariant.told number) in
    sym all ∙ ap (λ (f : Option Fault). judged_with works list [] f number []) c.in-None.is ∙ ends-fine works list number
