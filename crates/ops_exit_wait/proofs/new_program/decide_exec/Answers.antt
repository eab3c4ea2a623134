use Rattle.std.proofs.Common.{ap}
use Rattle.signal_state.specs.Signals.{Signals}
use Rattle.ops_exit_wait.proofs.ExecCode.{exec_whole}
use Rattle.ops_exit_wait.proofs.new_program.decide_exec.Goals as goal

pub returns : goal.returns
returns c =
    let b = c.requires in
    exec_whole c.args.pid c.settle_in-group.result c.args.own.now c.settle_in-group.new.own _ c.args.bag.now _ _ _ b _ (c.settle_in-group.ensures.group b.vproc b.vproc_is) (c.settle_in-group.ensures.bag b.vproc b.vproc_is)
    (c.settle_in-group.ensures.own b.vproc b.group b.vproc_is b.group_is) (ap (λ (s : Signals). record { sig = s; taken = c.settle_in-group.new.own.taken }) c.after_exec.ensures) c.tell_execed.ensures.bag c.finish.ensures.bag c.finish.ensures.outcome
