use Rattle.std.specs.Option.{option_map}
use Rattle.decide_law.proofs.Appended.{changed_vproc}
use Rattle.decide_law.proofs.Tables.{lent, not_lent}
use Rattle.ops_exit_wait.specs.Exec.{execed_record}
use Rattle.ops_exit_wait.proofs.new_program.tell_execed.Goals as goal

pub returns-in-Some-clause-bag : goal.returns-in-Some-clause-bag
returns-in-Some-clause-bag c =
    changed_vproc c.args.bag.now c.args.pid (option_map execed_record) _ (lent c.args.pid execed_record c.args.bag.now.vprocs c.in-Some.v.now _ c.record_mut.ensures.rising c.in-Some.ensures.value c.mark.ensures)

pub returns-in_default-clause-bag : goal.returns-in_default-clause-bag
returns-in_default-clause-bag c =
    changed_vproc c.args.bag.now c.args.pid (option_map execed_record) _ (not_lent c.args.pid execed_record c.args.bag.now.vprocs c.record_mut.ensures.rising c.requires c.in_default.ensures.value)
