-- The text of a table: a line for each row in order of creation, whose words stand one space apart.
use Rattle.std.specs.Prelude.{ℕ, List, [], ◌∷◌, ◌++◌, codes}
use Rattle.std.specs.List.{flat_map}
use Rattle.std.specs.Fmt.{decimal}
use Rattle.unix_names.specs.declared.Life.{Life}
use Rattle.unix_names.specs.declared.Life.TheVariants.{Runs, Stopped, Ended}
use Rattle.signal_state.specs.declared.Sig.{Sig}
use Rattle.process_table.specs.declared.Row.{Row}
use Rattle.script_words.specs.Words.{Row as Words}
use Rattle.script_words.specs.Writing.{spaced}
use Rattle.histories.specs.History.{set_words, status_words}

-- how a process is: it runs, is stopped, or has ended so
abbrev pub life_words : Life → Words
life_words Runs = codes "runs" ∷ []
life_words Stopped = codes "stopped" ∷ []
life_words (Ended status) = status_words status

-- the process, its parent, group, session and user
abbrev pub ids_text : Row → List ℕ
ids_text r = decimal r.pid.0 ++ (32 ∷ (decimal r.parent.0 ++ (32 ∷ (decimal r.group.0 ++ (32 ∷ (decimal r.session.0 ++ (32 ∷ decimal r.uid)))))))

-- the pending and the blocked signals
abbrev pub sets_text : ℕ → ℕ → List ℕ
sets_text pending mask = spaced (codes "pending" ∷ set_words pending) ++ spaced (codes "mask" ∷ set_words mask)

abbrev pub signals_text : Sig → List ℕ
signals_text sig = sets_text sig.pending sig.mask

-- the line of a row: who it is, how it is, and its signals
abbrev pub row_line : Row → List ℕ
row_line r = ids_text r ++ spaced (life_words r.life) ++ signals_text r.sig ++ 10 ∷ []

abbrev pub table_text : List Row → List ℕ
table_text rows = flat_map row_line rows
