use Rattle.std.proofs.Common.{sym, ap, ◌∙◌, ◌+◌, ◌++◌, true, false}
use Rattle.std.proofs.lemmas.Result.{on_ok_weaker}
use Rattle.proc_image.specs.Images.{start_image}
use Rattle.node_state.specs.declared.Waiting.TheVariants as waiting
use Rattle.node_core.specs.First.{is_at, ready_from}
use Rattle.node_core.proofs.FirstLaws.{at-place, place-more, place-same}
use Rattle.node_core.proofs.first.add_start.Goals as goal

pub returns-then-not-is_at : goal.returns-then-not-is_at
returns-then-not-is_at c =
    place-same (λ start. waiting.Image (start_image c.args.world.now start)) (is_at c.args.id) c.args.world.now.starts c.args.k c.args.ready.now
    (at-place (is_at c.args.id) c.args.world.now.starts c.args.k false c.requires.start (sym c.if-not-is_at.true ∙ c.is_at.ensures))

pub returns : goal.returns
returns c =
    on_ok_weaker c.push.result
    (λ e. ap (λ q. q ++ ready_from c.args.world.now c.args.id (c.args.k + 1)) e
    ∙ place-more (start_image c.args.world.now) waiting.Image (is_at c.args.id) c.args.world.now.starts c.args.k c.in_ok-image.image c.args.ready.now
    (at-place (is_at c.args.id) c.args.world.now.starts c.args.k true c.requires.start (sym c.if-not-is_at.false ∙ c.is_at.ensures)) c.in_ok-image.ensures.image)
    c.push.ensures.ok
