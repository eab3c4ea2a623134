use Rattle.std.proofs.Common.{length}
use Rattle.node_workers.proofs.serving.post.Given as goal

abbrev pub decreases-loop-letter : goal.decreases-loop-letter
decreases-loop-letter g l = length l.letters
