use Rattle.std.specs.Prelude.{IfOk, IsNone}
use Rattle.script_words.specs.Words.{Row}
use Rattle.histories.specs.declared.stamped.Stamped.{Stamped}
use Rattle.histories.specs.Stamped.{SpellsStamped}
use Rattle.std.proofs.Common.{subst}
use Rattle.histories.proofs.stamped.StampedMeaning.read.Goals as goal

pub returns-clause-none : goal.returns-clause-none
returns-clause-none c = subst (λ (row : Row). IfOk c.stamped_of.result (λ o. IsNone o → (s : Stamped) → SpellsStamped row s → ⊥)) c.requires c.stamped_of.ensures.none
