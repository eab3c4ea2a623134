use Rattle.std.proofs.Common.{◌≡◌, take}
use Rattle.kernel_model.specs.Legal.{after_all, IsLegal}
use Rattle.proc_image.specs.Follows.{Follows, running_after}
use Rattle.audit_core.specs.Table.{running_of, IsKept}
use Rattle.audit_core.proofs.judge.audit.Given as goal

-- the entries so far are legal and in order, and the judge is as they leave it
abbrev pub invariant-loop-i : goal.invariant-loop-i
invariant-loop-i l = record {
  kernel : l.judge.kernel ≡ after_all l.world (take l.i l.entries);
  running : running_of l.judge.images ≡ running_after l.world (take l.i l.entries);
  kept : IsKept l.world l.judge.images;
  legal : IsLegal l.world (take l.i l.entries);
  follows : Follows l.world (take l.i l.entries);
}
