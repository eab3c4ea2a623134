use Rattle.std.proofs.Common.{◌≡◌, drop}
use Rattle.audit_core.specs.Table.{running_of, started_from, IsKept}
use Rattle.audit_core.proofs.scripts.first_images.Given as goal

-- the starts from k on have their images
abbrev pub invariant-loop-k : goal.invariant-loop-k
invariant-loop-k l = record {
  running : running_of l.images ≡ started_from l.world (drop l.k l.world.starts);
  kept : IsKept l.world l.images;
}
