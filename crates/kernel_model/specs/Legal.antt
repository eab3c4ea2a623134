-- the first table of a world, and legal histories
use Rattle.std.specs.Prelude.{ℕ, ◌≡◌, List, [], ◌∷◌, ◌++◌, Option, None, Some, slice_get, false}
use Rattle.unix_names.specs.declared.Pid.{Pid}
use Rattle.unix_names.specs.declared.Life.TheVariants.{Runs}
use Rattle.unix_calls.specs.declared.Entry.{Entry}
use Rattle.unix_calls.specs.declared.Start.{Start}
use Rattle.unix_calls.specs.declared.World.{World}
use Rattle.signal_state.specs.Sig.{fresh}
use Rattle.process_table.specs.declared.Row.{Row}
use Rattle.kernel_model.specs.declared.verdict.Verdict.TheVariants.{Legal}
use Rattle.process_table.specs.Rows.{pid}
use Rattle.kernel_model.specs.Step.{verdict, after}

-- the row of the start that a start joins
abbrev pub joined_row : List Row → Option ℕ → Option Row
joined_row earlier None = None
joined_row earlier (Some k) = slice_get earlier k

-- a start leads its own group, or has that of the start that it joins
abbrev pub first_group : Start → Option Row → Pid
first_group start None = start.pid
first_group start (Some joined) = joined.group

-- a start leads its own session, or has that of the start that it joins
abbrev pub first_session : Start → Option Row → Pid
first_session start None = start.pid
first_session start (Some joined) = joined.session

abbrev pub row_with : Start → Option Row → Row
row_with start joined = record {
  pid = start.pid;
  parent = pid 1;
  group = first_group start joined;
  session = first_session start joined;
  uid = start.uid;
  life = Runs;
  change = None;
  execed = false;
  sig = fresh;
}

-- the row of a start, whose earlier ones have these rows
abbrev pub first_row : List Row → Start → Row
first_row earlier start = row_with start (joined_row earlier start.joined)

abbrev pub booted : List Row → List Start → List Row
booted earlier [] = earlier
booted earlier (start ∷ starts) = booted (earlier ++ first_row earlier start ∷ []) starts

-- the first table of a world: a row for each start, in their order
abbrev pub boot : World → List Row
boot world = booted [] world.starts

abbrev pub after_entries : List Row → List Entry → List Row
after_entries rows [] = rows
after_entries rows (entry ∷ entries) = after_entries (after rows entry) entries

-- the table after a history
abbrev pub after_all : World → List Entry → List Row
after_all world history = after_entries (boot world) history

abbrev pub IsLegalFrom : List Row → List Entry → Type 0
IsLegalFrom rows [] = Unit {0}
IsLegalFrom rows (entry ∷ entries) = (verdict rows entry ≡ Legal) × IsLegalFrom (after rows entry) entries

-- no entry breaks a rule
abbrev pub IsLegal : World → List Entry → Type 0
IsLegal world history = IsLegalFrom (boot world) history
