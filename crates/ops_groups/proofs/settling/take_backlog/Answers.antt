use Rattle.std.proofs.Common.{◌∙◌, List, Option, None, Some, ap}
use Rattle.std.specs.Option.{option_map}
use Rattle.unix_names.specs.declared.Signal.{Signal}
use Rattle.vproc_record.specs.declared.Vproc.{Vproc}
use Rattle.ordered_table.specs.declared.Entry.{Entry}
use Rattle.ordered_table.specs.Entries.{with_value}
use Rattle.decide_law.specs.Effects.{emptied}
use Rattle.decide_law.proofs.Tables.{taken_and_put}
use Rattle.ops_groups.proofs.settling.take_backlog.Goals as goal

pub returns-clause-bag : goal.returns-clause-bag
returns-clause-bag c = ap (λ (vs : List (Entry (Option Vproc))). record c.args.bag.now { vprocs = vs })
    (taken_and_put c.args.pid (option_map emptied) c.args.bag.now.vprocs _ _ (Some c.in-Some.v) None c.take_out.ensures.rising c.in-Some.ensures.some c.in-Some.ensures.out
    (c.replace.ensures.after ∙ ap (λ (left : List Signal). with_value c.take_out.new.vprocs c.args.pid (Some (record c.in-Some.v { backlog = left }))) (c.replace-backlog.ensures.after ∙ c.new.ensures)))
