use Rattle.std.proofs.Common.{◌≡◌, ◌+◌, ℕ, List, length, sym, ap, ◌∙◌, arith}
use Rattle.unix_calls.specs.declared.Turn.{Turn}
use Rattle.commit_log.specs.Passes.{Known, first_passes}
use Rattle.node_workers.proofs.Writing.{many_passes}
use Rattle.node_workers.proofs.stations.first_stations.Goals as goal

pub loop-pass-init : goal.loop-pass-init
loop-pass-init g c =
    let n = c.args.world.now.nodes in
    let all = c.from_vec-rest.ensures.items ∙ c.requires.passes in
    let many = ap (λ (l : List (Known Turn)). length l) all ∙ many_passes Turn g.J.LogName.log 0 n in
    record {
      many = omega (arith, many);
      left = all ∙ ap (λ (k : ℕ). first_passes g.J.LogName.log 0 k) (sym many);
      made = omega arith;
    }
