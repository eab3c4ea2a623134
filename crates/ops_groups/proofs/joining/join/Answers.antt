use Rattle.std.proofs.Common.{◌∙◌, List, Option, None, Some, sym, ap}
use Rattle.std.specs.Option.{option_map}
use Rattle.vproc_record.specs.declared.Vproc.{Vproc}
use Rattle.group_record.specs.declared.Group.{Group}
use Rattle.ordered_table.specs.declared.Entry.{Entry}
use Rattle.ordered_table.specs.Entries.{with_value, with_each}
use Rattle.decide_law.specs.Effects.{only, settled_for}
use Rattle.decide_law.proofs.Appended.{on_ok, put_same}
use Rattle.decide_law.proofs.Tables.{taken_and_put}
use Rattle.ops_groups.specs.Move.{moved_vproc}
use Rattle.ops_groups.specs.MethodMove.{in_session}
use Rattle.ops_groups.proofs.JoinedCode.{none_present, both_ok, both_err}
use Rattle.ops_groups.proofs.joining.join.Goals as goal

pub returns-in_default-clause-ok : goal.returns-in_default-clause-ok
returns-in_default-clause-ok c = λ old there. on_ok c.join_in.result (λ e.
    ap (λ (vs : List (Entry (Option Vproc))). record { vprocs = vs; groups = c.join_in.new.groups }) (c.in_default.ensures.same ∙ sym (none_present c.args.m.now.pid (moved_vproc (only c.args.by.group (settled_for c.args.by.pid) c.args.m.now.group old) (in_session c.args.to)) c.args.bag.now.vprocs c.take_out.ensures.rising c.in_default.ensures.none))
    ∙ ap (λ (gs : List (Entry (Option Group))). record { vprocs = with_each (only c.args.m.now.pid (option_map (moved_vproc (only c.args.by.group (settled_for c.args.by.pid) c.args.m.now.group old) (in_session c.args.to)))) c.args.bag.now.vprocs; groups = gs }) e) c.join_in.ensures.ok

pub returns-clause-ok : goal.returns-clause-ok
returns-clause-ok c = λ old there. both_ok c.go-gone.result (λ on_vproc on_groups.
    ap (λ (vs : List (Entry (Option Vproc))). record { vprocs = vs; groups = c.go-gone.new.groups })
    (taken_and_put c.args.m.now.pid (option_map (moved_vproc (only c.args.by.group (settled_for c.args.by.pid) c.args.m.now.group old) (in_session c.args.to))) c.args.bag.now.vprocs _ _ (Some c.in-Some.w) None c.take_out.ensures.rising c.in-Some.ensures.some c.in-Some.ensures.out
    (c.replace.ensures.after ∙ ap (λ (w : Vproc). with_value c.take_out.new.vprocs c.args.m.now.pid (Some w)) on_vproc))
    ∙ ap (λ (gs : List (Entry (Option Group))). record { vprocs = with_each (only c.args.m.now.pid (option_map (moved_vproc (only c.args.by.group (settled_for c.args.by.pid) c.args.m.now.group old) (in_session c.args.to)))) c.args.bag.now.vprocs; groups = gs }) on_groups)
    (c.go-gone.ensures.vproc old there) c.go-gone.ensures.groups

pub returns-clause-err : goal.returns-clause-err
returns-clause-err c = both_err c.go-gone.result (λ on_vproc on_groups.
    ap (λ (vs : List (Entry (Option Vproc))). record { vprocs = vs; groups = c.go-gone.new.groups })
    (c.replace.ensures.after ∙ ap (λ (w : Vproc). with_value c.take_out.new.vprocs c.args.m.now.pid (Some w)) on_vproc
    ∙ ap (λ l. with_value l c.args.m.now.pid (Some c.in-Some.w)) c.in-Some.ensures.out
    ∙ put_same c.args.m.now.pid c.args.bag.now.vprocs (Some c.in-Some.w) None c.take_out.ensures.rising c.in-Some.ensures.some)
    ∙ ap (λ (gs : List (Entry (Option Group))). record c.args.bag.now { groups = gs }) on_groups)
    c.go-gone.ensures.err_vproc c.go-gone.ensures.err_groups
