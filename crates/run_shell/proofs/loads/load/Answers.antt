use Rattle.std.proofs.Common.{sym, subst, ◌∙◌, List}
use Rattle.std.proofs.lemmas.Result.{IfOk-weaker}
use Rattle.std.specs.Prelude.{IfOk}
use Rattle.unix_calls.specs.declared.Turn.{Turn}
use Rattle.unix_calls.specs.declared.World.{World}
use Rattle.unix_calls.specs.Valid.{IsValid}
use Rattle.load_laws.specs.Worlds.{made_world}
use Rattle.run_shell.specs.Load.{load_turns, CountsRun, Loads}
use Rattle.run_shell.proofs.LoadLaws.{valid_load, loads}
use Rattle.run_shell.proofs.loads.load.Goals as goal

pub counted-requires : goal.counted-requires
counted-requires c = subst IsValid (sym c.in_ok-world.ensures) (valid_load c.args.seed c.args.nodes c.args.size c.requires)

pub returns : goal.returns
returns c =
    IfOk-weaker c.counted.result (λ text. CountsRun (made_world c.args.seed c.args.nodes c.args.size) load_turns text.items) (λ text. Loads c.args.seed c.args.nodes c.args.size text.items)
    (λ text h. loads c.args.seed c.args.nodes c.args.size text.items c.requires h)
    (subst (λ (w : World). IfOk c.counted.result (λ text. CountsRun w load_turns text.items)) c.in_ok-world.ensures
    (subst (λ (ts : List Turn). IfOk c.counted.result (λ text. CountsRun c.in_ok-world.world ts text.items)) (c.as_slice.ensures ∙ c.in_ok-turns.ensures) c.counted.ensures))
