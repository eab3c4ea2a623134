-- the whole law of migrate and of a push
use Rattle.std.proofs.Common.{refl, Option}
use Rattle.unix_names.specs.declared.Pid.{Pid}
use Rattle.unix_names.specs.declared.NodeId.{NodeId}
use Rattle.unix_calls.specs.declared.Call.TheVariants.{Migrate}
use Rattle.unix_calls.specs.declared.Reply.TheVariants.{Fine}
use Rattle.unix_calls.specs.declared.Event.TheVariants.{Moved}
use Rattle.unix_calls.specs.declared.Entry.TheVariants.{Called, Happened}
use Rattle.unix_calls.specs.declared.Job.TheVariants.{Ask, Push}
use Rattle.signal_state.specs.declared.Own.{Own}
use Rattle.record_bag.specs.declared.bag.Bag.{Bag}
use Rattle.record_bag.specs.declared.vector.Site.{Site}
use Rattle.decide_law.specs.Places.{named_or}
use Rattle.decide_law.specs.Effects.{folded}
use Rattle.decide_law.specs.Parts.{IsLawfulFor}
use Rattle.decide_law.proofs.Answers.{on_base_right, runs_on, not_stopped}
use Rattle.decide_law.proofs.Arrivals.{can_work, done_at_answers}
use Rattle.migrate_core.specs.Moves.{arrival, migrate_answer, decide_migrate, push_answer, decide_push, MovesAnswered}
use Rattle.migrate_core.proofs.Ride.{migrate_law, push_law}

migrate_answered : (p : Pid) (at : Option NodeId) (own : Own) (bag : Bag) (site : Site) → IsLawfulFor p (Ask Migrate at) own bag site (decide_migrate at site p own bag).bag (decide_migrate at site p own bag).outcome
migrate_answered p at own bag site nodes rows a clear =
    let alive = runs_on nodes rows p Migrate at own bag site a in
    on_base_right nodes rows p (Ask Migrate at) own bag site a (migrate_answer at site own bag p) (λ v g b.
    let can = can_work rows p own bag a.row v g b alive (clear v g b.vproc b.group) in
    done_at_answers nodes rows p (Ask Migrate at) own bag site a v g (named_or at v.loc) (arrival (Called p Migrate Fine) (folded own v g).sig p site) b can refl refl
    (λ there. migrate_law rows p site at own bag a.row v g b alive can there))

push_answered : (p : Pid) (node : NodeId) (own : Own) (bag : Bag) (site : Site) → IsLawfulFor p (Push node) own bag site (decide_push node site p own bag).bag (decide_push node site p own bag).outcome
push_answered p node own bag site nodes rows a clear =
    let alive = not_stopped nodes rows p (Push node) own bag site a (λ e. cc) in
    on_base_right nodes rows p (Push node) own bag site a (push_answer node site own bag p) (λ v g b.
    let can = can_work rows p own bag a.row v g b alive (clear v g b.vproc b.group) in
    done_at_answers nodes rows p (Push node) own bag site a v g node (arrival (Happened p Moved) (folded own v g).sig p site) b can refl refl
    (λ there. push_law rows p site node own bag a.row v g b alive can there))

pub moves_answered : MovesAnswered
moves_answered = record { migrate = migrate_answered; push = push_answered }
