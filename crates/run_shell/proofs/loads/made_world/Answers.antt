use Rattle.std.proofs.Common.{◌≡◌, ◌<◌, ℕ, List, length, sym, ap, subst, ◌∙◌, Ok, Err}
use Rattle.byte_ends.specs.Text.{lines}
use Rattle.script_reader.specs.Files.{read_part}
use Rattle.run_shell.proofs.LoadLaws.{fits, no_fault, read_is, whole_slice}
use Rattle.run_shell.proofs.loads.made_world.Goals as goal

pub read_file-requires-clause-short : goal.read_file-requires-clause-short
read_file-requires-clause-short c =
    subst (λ (xs : List ℕ). length xs < 2147483648) (sym (c.deref.ensures.value ∙ c.in_ok-file.ensures)) (fits c.args.seed c.args.nodes c.args.size c.requires)

pub returns-in-Ok : goal.returns-in-Ok
returns-in-Ok c =
    let file = c.deref.ensures.value ∙ c.in_ok-file.ensures in
    let whole = whole_slice c.deref.result.now _ c.len.result file (c.len.ensures ∙ sym c.deref.ensures.len ∙ ap length file) in
    read_is c.args.seed c.args.nodes c.args.size c.in-Ok.world c.requires (subst (λ (xs : List ℕ). read_part 1 (lines xs) ≡ Ok c.in-Ok.world) whole c.in-Ok.ensures.world)

pub unreachable-requires : goal.unreachable-requires
unreachable-requires c =
    let file = c.deref.ensures.value ∙ c.in_ok-file.ensures in
    let whole = whole_slice c.deref.result.now _ c.len.result file (c.len.ensures ∙ sym c.deref.ensures.len ∙ ap length file) in
    no_fault c.args.seed c.args.nodes c.args.size c.in-Err-Bad.field-0-0 c.requires
    (subst (λ (xs : List ℕ). read_part 1 (lines xs) ≡ Err c.in-Err-Bad.field-0-0) whole (c.read_file.ensures.bad c.in-Err-Bad.field-0-0 cc))
