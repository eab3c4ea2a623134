-- histories with one entry more
use Rattle.std.proofs.Common.{◌≡◌, ◌++◌, List, [], ◌∷◌, refl}
use Rattle.unix_calls.specs.declared.Entry.{Entry}
use Rattle.process_table.specs.declared.Row.{Row}
use Rattle.kernel_model.specs.declared.verdict.Verdict.TheVariants.{Legal}
use Rattle.kernel_model.specs.Step.{verdict, after}
use Rattle.kernel_model.specs.Legal.{after_entries, IsLegalFrom}

pub table-push : (rows : List Row) (history : List Entry) (entry : Entry) → after_entries rows (history ++ entry ∷ []) ≡ after (after_entries rows history) entry
table-push rows [] entry = refl
table-push rows (first ∷ history) entry = table-push (after rows first) history entry

pub legal-push : (rows : List Row) (history : List Entry) (entry : Entry) → IsLegalFrom rows history → verdict (after_entries rows history) entry ≡ Legal → IsLegalFrom rows (history ++ entry ∷ [])
legal-push rows [] entry legal next = (next, tt)
legal-push rows (first ∷ history) entry legal next = (legal.0, legal-push (after rows first) history entry legal.1 next)
