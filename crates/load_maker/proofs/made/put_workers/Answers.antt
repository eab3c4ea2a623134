use Rattle.std.proofs.Common.{◌+◌, ◌∙◌}
use Rattle.std.specs.List.{flat_map}
use Rattle.std.specs.String.{string_bytes}
use Rattle.load_maker.specs.Made.{line_of, worker_rows, all_workers}
use Rattle.load_maker.proofs.Lines.{appended, worker_more, worker_state_more}
use Rattle.load_maker.proofs.made.put_workers.Goals as goal

pub loop-number-preserved : goal.loop-number-preserved
loop-number-preserved c =
    let x = c.args.draws.now.state in
    let i = c.loop-number.number in
    let s = c.loop-number.draws.state in (
      appended (string_bytes c.args.text.now) (flat_map line_of (all_workers c.args.nodes i x)) (flat_map line_of (worker_rows c.args.nodes i s)) (flat_map line_of (all_workers c.args.nodes (i + 1) x))
          (string_bytes c.loop-number.text) (string_bytes c.put_worker.new.text)
          c.loop-number.invariant.0 c.in_ok-put_worker.ensures.text (worker_more c.args.nodes i x s c.loop-number.invariant.1),
      c.in_ok-put_worker.ensures.state ∙ worker_state_more i x s c.loop-number.invariant.1,
    )
