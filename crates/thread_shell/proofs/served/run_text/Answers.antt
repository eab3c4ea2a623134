use Rattle.std.proofs.Common.{◌≡◌}
use Rattle.std.proofs.lemmas.Result.{IfOk-weaker}
use Rattle.thread_shell.specs.Served.{served_text, WritesServed}
use Rattle.thread_shell.proofs.Serving.{can_write_served, writes_served}
use Rattle.thread_shell.proofs.served.run_text.Goals as goal

pub served_text-requires : goal.served_text-requires
served_text-requires g c = (can_write_served c.args.world.now c.in_ok-played.played c.requires c.in_ok-played.ensures).entries

pub returns : goal.returns
returns g c =
    let played = c.in_ok-played.played in
    IfOk-weaker c.served_text.result (λ text. text.items ≡ served_text played.entries.items played.is_quiet played.steps.items) (λ text. WritesServed c.args.world.now text.items)
    (λ text e. writes_served c.args.world.now played text.items c.requires c.in_ok-played.ensures e) c.served_text.ensures
