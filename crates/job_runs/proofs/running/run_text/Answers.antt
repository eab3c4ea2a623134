use Rattle.std.proofs.Common.{◌≡◌, map, ap, ◌∙◌, List, ℕ}
use Rattle.std.proofs.lemmas.Result.{IfOk-weaker}
use Rattle.unix_calls.specs.declared.Entry.{Entry}
use Rattle.run_shell.proofs.Runs.{may_decide}
use Rattle.job_runs.specs.Jobs.{jobs_text, RunsFile}
use Rattle.job_runs.proofs.Runs.{is_valid, runs_file}
use Rattle.job_runs.proofs.running.run_text.Goals as goal

pub run-requires-clause-valid : goal.run-requires-clause-valid
run-requires-clause-valid c = is_valid c.args.input.now c.args.file.now c.in_ok-world.world c.requires.read c.in_ok-world.ensures

pub run-requires-clause-decides : goal.run-requires-clause-decides
run-requires-clause-decides c = may_decide c.in_ok-world.world

pub returns : goal.returns
returns c =
    IfOk-weaker c.jobs_text.result (λ text. text.items ≡ jobs_text (map (λ w. w.now) c.deref.result.now) c.args.file.now c.deref-2.result.now c.in_ok-played.played.is_quiet) (λ text. RunsFile c.args.input.now text.items)
    (λ text h. runs_file c.args.input.now text.items c.args.file.now c.in_ok-world.world (map (λ w. w.now) c.in_ok-names.names.items) c.in_ok-played.played c.requires.read c.in_ok-world.ensures c.in_ok-names.ensures c.in_ok-played.ensures
    (h ∙ ap (λ ns. jobs_text (map (λ w. w.now) ns) c.args.file.now c.deref-2.result.now c.in_ok-played.played.is_quiet) c.deref.ensures.value
    ∙ ap (λ (es : List Entry). jobs_text (map (λ w. w.now) c.in_ok-names.names.items) c.args.file.now es c.in_ok-played.played.is_quiet) c.deref-2.ensures.value))
    c.jobs_text.ensures
