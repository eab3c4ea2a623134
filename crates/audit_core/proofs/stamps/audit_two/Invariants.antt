use Rattle.std.proofs.Common.{◌≡◌, take}
use Rattle.kernel_model.specs.Legal.{after_all}
use Rattle.proc_image.specs.Follows.{running_after}
use Rattle.audit_core.specs.Table.{running_of, IsKept}
use Rattle.audit_core.specs.Stamped.{entries_of, last_place, IsLegalTwo}
use Rattle.audit_core.proofs.stamps.audit_two.Given as goal

-- the entries so far keep every rule, and the judge is as they leave it
abbrev pub invariant-loop-i : goal.invariant-loop-i
invariant-loop-i l = record {
  last : l.last ≡ last_place (take l.i l.entries);
  kernel : l.judge.kernel ≡ after_all l.world (entries_of (take l.i l.entries));
  running : running_of l.judge.images ≡ running_after l.world (entries_of (take l.i l.entries));
  kept : IsKept l.world l.judge.images;
  legal : IsLegalTwo l.world (take l.i l.entries);
}
