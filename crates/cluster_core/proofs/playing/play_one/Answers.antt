use Rattle.std.proofs.Common.{subst, Option, None, Some}
use Rattle.unix_calls.specs.declared.Entry.{Entry}
use Rattle.cluster_core.specs.MethodShows.{IsMade}
use Rattle.cluster_core.proofs.Orders.{not_made, was_made}
use Rattle.cluster_core.proofs.playing.play_one.Goals as goal

pub returns-in_ok-note : goal.returns-in_ok-note
returns-in_ok-note g c at =
    was_made g.O.OpVector.answer c.args.world.now at.shown c.args.this c.in-Some.line c.args.log.now c.note.new.self c.turn.new.places.items
    (subst (λ (made : Option (Option Entry)). IsMade g.O.OpVector.answer c.args.world.now c.args.this at.shown made c.turn.new.places.items) c.in-Some.is (c.in_ok-line.ensures at)) c.in_ok-note.ensures

pub returns-in_default : goal.returns-in_default
returns-in_default g c at =
    not_made g.O.OpVector.answer c.args.world.now at.shown c.args.this c.args.log.now c.turn.new.places.items
    (subst (λ (made : Option (Option Entry)). IsMade g.O.OpVector.answer c.args.world.now c.args.this at.shown made c.turn.new.places.items) c.in_default.is (c.in_ok-line.ensures at))
