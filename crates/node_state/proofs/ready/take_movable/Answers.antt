use Rattle.std.proofs.Common.{◌≡◌, ◌++◌, ◌∷◌, ap, sym, ◌∙◌, false, true, refl}
use Rattle.node_state.specs.declared.ready.Waiting.TheVariants as waiting
use Rattle.node_state.specs.Ready.{is_stopped_phase, first_movable, without_movable}
use Rattle.node_state.proofs.CountLaws.{passed-counted, lost-counted}
use Rattle.node_state.proofs.QueueLaws.{image-leaves, others-stay, passes, stopped-more, courier-more, nobody-leaves}
use Rattle.node_state.proofs.ready.take_movable.Goals as goal

pub returns-then-not-is_stopped-clause-counted : goal.returns-then-not-is_stopped-clause-counted
returns-then-not-is_stopped-clause-counted c =
    let e = c.in-Some.ensures.some ∙ ap (λ w. w ∷ c.pop.new.self) c.in-Image.is in
    lost-counted c.loop-waiting.passed c.loop-waiting.others c.pop.new.self c.loop-waiting.passed c.loop-waiting.counts c.uncount.new.counts (waiting.Image c.in-Image.image) e refl c.uncount.ensures c.loop-waiting.invariant.counted

pub returns-then-not-is_stopped-clause-first : goal.returns-then-not-is_stopped-clause-first
returns-then-not-is_stopped-clause-first c =
    let e = c.in-Some.ensures.some ∙ ap (λ w. w ∷ c.pop.new.self) c.in-Image.is in
    let goes : is_stopped_phase c.in-Image.image.phase ≡ false = sym c.is_stopped.ensures ∙ c.if-not-is_stopped.true in
    sym (image-leaves c.loop-waiting.passed c.loop-waiting.others c.pop.new.self c.in-Image.image c.loop-waiting.invariant.passed e goes) ∙ ap first_movable c.loop-waiting.invariant.queue

pub returns-then-not-is_stopped-clause-rest : goal.returns-then-not-is_stopped-clause-rest
returns-then-not-is_stopped-clause-rest c =
    let e = c.in-Some.ensures.some ∙ ap (λ w. w ∷ c.pop.new.self) c.in-Image.is in
    let goes : is_stopped_phase c.in-Image.image.phase ≡ false = sym c.is_stopped.ensures ∙ c.if-not-is_stopped.true in
    sym (others-stay c.loop-waiting.passed c.loop-waiting.others c.pop.new.self c.in-Image.image c.loop-waiting.invariant.passed e goes) ∙ ap without_movable c.loop-waiting.invariant.queue

pub loop-waiting-preserved-in-Continue-1 : goal.loop-waiting-preserved-in-Continue-1
loop-waiting-preserved-in-Continue-1 c =
    let e = c.in-Some.ensures.some ∙ ap (λ w. w ∷ c.pop.new.self) c.in-Image.is in
    let stays : is_stopped_phase c.in-Image.image.phase ≡ true = sym c.is_stopped.ensures ∙ c.if-not-is_stopped.false in
    let ok = c.in_ok-join-in-Image.ensures.ok in
    let same = ap (λ q. q ++ c.pop.new.self) ok ∙ passes c.loop-waiting.passed c.loop-waiting.others c.pop.new.self (waiting.Image c.in-Image.image) e in
    record {
      passed = ap first_movable ok ∙ stopped-more c.loop-waiting.passed c.in-Image.image c.loop-waiting.invariant.passed stays;
      counted = passed-counted c.loop-waiting.passed c.loop-waiting.others c.pop.new.self c.join.new.queue c.loop-waiting.counts c.join.new.counts (waiting.Image c.in-Image.image) same c.in_ok-join-in-Image.ensures.counted c.loop-waiting.invariant.counted;
      queue = same ∙ c.loop-waiting.invariant.queue;
    }

pub returns-in_err-join-in-Image-clause-counted : goal.returns-in_err-join-in-Image-clause-counted
returns-in_err-join-in-Image-clause-counted c =
    let e = c.in-Some.ensures.some ∙ ap (λ w. w ∷ c.pop.new.self) c.in-Image.is in
    lost-counted c.loop-waiting.passed c.loop-waiting.others c.pop.new.self c.join.new.queue c.loop-waiting.counts c.join.new.counts (waiting.Image c.in-Image.image) e c.in_err-join-in-Image.ensures.err c.in_err-join-in-Image.ensures.uncounted c.loop-waiting.invariant.counted

pub loop-waiting-preserved : goal.loop-waiting-preserved
loop-waiting-preserved c =
    let e = c.in-Some.ensures.some ∙ ap (λ w. w ∷ c.pop.new.self) c.in-Courier.is in
    let ok = c.in_ok-join-in-Courier.ensures.ok in
    let same = ap (λ q. q ++ c.pop.new.self) ok ∙ passes c.loop-waiting.passed c.loop-waiting.others c.pop.new.self (waiting.Courier c.in-Courier.courier) e in
    record {
      passed = ap first_movable ok ∙ courier-more c.loop-waiting.passed (waiting.Courier c.in-Courier.courier) c.loop-waiting.invariant.passed refl;
      counted = passed-counted c.loop-waiting.passed c.loop-waiting.others c.pop.new.self c.join-in-Courier.new.queue c.loop-waiting.counts c.join-in-Courier.new.counts (waiting.Courier c.in-Courier.courier) same c.in_ok-join-in-Courier.ensures.counted c.loop-waiting.invariant.counted;
      queue = same ∙ c.loop-waiting.invariant.queue;
    }

pub returns-in_err-join-in-Courier-clause-counted :
    goal.returns-in_err-join-in-Courier-clause-counted
returns-in_err-join-in-Courier-clause-counted c =
    let e = c.in-Some.ensures.some ∙ ap (λ w. w ∷ c.pop.new.self) c.in-Courier.is in
    lost-counted c.loop-waiting.passed c.loop-waiting.others c.pop.new.self c.join-in-Courier.new.queue c.loop-waiting.counts c.join-in-Courier.new.counts (waiting.Courier c.in-Courier.courier) e c.in_err-join-in-Courier.ensures.err c.in_err-join-in-Courier.ensures.uncounted c.loop-waiting.invariant.counted

pub returns-clause-rest : goal.returns-clause-rest
returns-clause-rest c =
    nobody-leaves c.loop-waiting.passed c.loop-waiting.others c.pop.new.self c.loop-waiting.invariant.passed c.in_default.ensures.none c.in_default.ensures.none_new ∙ ap without_movable c.loop-waiting.invariant.queue
