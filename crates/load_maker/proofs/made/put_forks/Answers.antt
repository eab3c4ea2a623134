use Rattle.std.proofs.Common.{◌+◌, ◌∷◌, [], codes}
use Rattle.std.specs.Fmt.{decimal}
use Rattle.std.specs.List.{flat_map}
use Rattle.std.specs.String.{string_bytes}
use Rattle.load_maker.specs.Made.{child_name, worker_name, line_of, fork_rows}
use Rattle.load_maker.proofs.Lines.{appended, fork_more_at, child_more}
use Rattle.load_maker.proofs.made.put_forks.Goals as goal

pub loop-number-preserved : goal.loop-number-preserved
loop-number-preserved c =
    let x = c.args.draws.now.state in
    let i = c.loop-number.number in
    let s = c.loop-number.draws.state in
    let s1 = c.draw-worker.new.self.state in
    let s2 = c.draw-node.new.self.state in
    let forks = flat_map line_of (fork_rows c.args.workers c.args.nodes i x) in
    let more = line_of (codes "fork" ∷ child_name i ∷ worker_name c.draw-worker.result ∷ codes "at" ∷ decimal c.draw-node.result ∷ []) in (
      appended (string_bytes c.args.text.now) forks more (flat_map line_of (fork_rows c.args.workers c.args.nodes (i + 1) x)) (string_bytes c.loop-number.text) (string_bytes c.put_fork.new.text)
          c.loop-number.invariant.0 c.in_ok-put_fork.ensures
          (fork_more_at c.args.workers c.args.nodes i x s s1 s2 c.draw-worker.result c.draw-node.result c.loop-number.invariant.1 c.draw-worker.ensures.state c.draw-node.ensures.state c.draw-worker.ensures.number c.draw-node.ensures.number),
      child_more i x s s1 s2 c.loop-number.invariant.1 c.draw-worker.ensures.state c.draw-node.ensures.state,
    )
