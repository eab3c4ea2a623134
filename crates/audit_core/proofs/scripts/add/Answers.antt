use Rattle.std.proofs.Common.{refl}
use Rattle.audit_core.proofs.Running.{kept-put}
use Rattle.audit_core.proofs.scripts.add.Goals as goal

pub returns-in-Ok-clause-kept : goal.returns-in-Ok-clause-kept
returns-in-Ok-clause-kept c = λ world before fit. kept-put world c.args.images.now c.put.new.self c.args.image.pid c.args.image c.in-Ok.ensures.found c.in-Ok.ensures.others (record { own_pid = refl; fits = fit }) before
