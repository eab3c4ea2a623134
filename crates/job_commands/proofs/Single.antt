-- One input has one answer.
use Rattle.std.proofs.Common.{◌≡◌, ℕ, List, refl, sym, ap, ◌∙◌}
use Rattle.byte_ends.specs.Text.{lines}
use Rattle.unix_calls.specs.declared.World.{World}
use Rattle.command_ends.specs.declared.status.Status.{Status}
use Rattle.command_ends.specs.declared.status.Status.TheVariants.{Done, BadFile}
use Rattle.command_ends.specs.Laws.{HasOneAnswer}
use Rattle.script_writer.specs.Written.{file_text}
use Rattle.job_plans.specs.Worlds.{world_of}
use Rattle.job_reading_laws.proofs.Either.{one_file, one_fault, no_file}
use Rattle.job_shell.specs.Compiled.{IsCompiled}
use Rattle.job_commands.specs.Compiling.{fault_line, Refuses, Compiles}

abbrev Text : Type 0
Text = List ℕ

one_text : (input text text' : Text) (world world' : World) → IsCompiled (lines input) world text → IsCompiled (lines input) world' text' → text ≡ text'
one_text input text text' world world' c c' =
    c.writes ∙ ap file_text c.becomes ∙ ap (λ f. file_text (world_of f)) (one_file (lines input) c'.file c.file c'.describes c.describes) ∙ sym (ap file_text c'.becomes) ∙ sym c'.writes

one_line : (input text text' : Text) → Refuses input text → Refuses input text' → text ≡ text'
one_line input text text' r r' = r.writes ∙ ap fault_line (one_fault (lines input) r'.fault r.fault r'.least r.least) ∙ sym r'.writes

not_both : (input text text' : Text) (world : World) → IsCompiled (lines input) world text → Refuses input text' → ⊥
not_both input text text' world c r = no_file (lines input) c.file r.fault c.describes r.least

by_done : (input text text' : Text) (status' : Status) (world : World) → IsCompiled (lines input) world text → Compiles status' input text' → (Done ≡ status') × (text ≡ text')
by_done input text text' Done world c p = (refl, one_text input text text' world p.0 c p.1)
by_done input text text' BadFile world c p = absurd (not_both input text text' world c p)
by_done input text text' _ world c p = absurd p

by_fault : (input text text' : Text) (status' : Status) → Refuses input text → Compiles status' input text' → (BadFile ≡ status') × (text ≡ text')
by_fault input text text' Done r p = absurd (not_both input text' text p.0 p.1 r)
by_fault input text text' BadFile r p = (refl, one_line input text text' r p)
by_fault input text text' _ r p = absurd p

pub one_answer : HasOneAnswer Compiles
one_answer input text text' Done status' p q = by_done input text text' status' p.0 p.1 q
one_answer input text text' BadFile status' p q = by_fault input text text' status' p q
one_answer input text text' _ status' p q = absurd p
