use Rattle.std.specs.Option.{option_map}
use Rattle.vproc_record.specs.Vprocs.{without_child}
use Rattle.decide_law.specs.Effects.{only}
use Rattle.ops_exit_wait.proofs.TellCode.{vproc_kept, group_kept, take_whole}
use Rattle.std.proofs.Common.{None}
use Rattle.ops_exit_wait.proofs.taking.take_child.Goals as goal

pub forget-requires : goal.forget-requires
forget-requires c = vproc_kept (only c.args.pid (option_map (λ v. without_child v c.args.child))) c.args.bag.now _ c.args.child c.drop_child.ensures c.requires.child

pub leave-requires : goal.leave-requires
leave-requires c = group_kept (only c.args.child (λ x. None)) _ _ c.args.group c.forget.ensures (group_kept (only c.args.pid (option_map (λ v. without_child v c.args.child))) c.args.bag.now _ c.args.group c.drop_child.ensures c.requires.group)

pub returns : goal.returns
returns c = take_whole c.args.pid c.args.child c.args.group c.args.bag.now _ _ _ c.drop_child.ensures c.forget.ensures c.leave.ensures
