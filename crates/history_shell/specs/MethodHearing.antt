-- method: what the code of a hearing goes through
use Rattle.std.specs.Prelude.{◌≡◌, ℕ, List, All}
use Rattle.unix_calls.specs.Calls.{EntryHasNames}
use Rattle.given_files.specs.declared.input.Given.{Given}
use Rattle.history_shell.specs.declared.hearing.Heard.{Heard}
use Rattle.history_shell.specs.declared.hearing.Heard.TheVariants.{Legal, Refused}
use Rattle.history_shell.specs.declared.hearing.Part.{Part}
use Rattle.history_shell.specs.declared.hearing.Part.TheVariants.{Plain, Stamped}
use Rattle.command_ends.specs.declared.status.Status.TheVariants.{Illegal}
use Rattle.history_shell.specs.Hearing.{History, plain, stamped, entries_in, IsGood, IsBad, HasLegal, IsRefusal}

-- the history that was read
abbrev pub history_read : Part → History
history_read (Plain entries) = plain entries.items
history_read (Stamped entries) = stamped entries.items

-- the numbers of each call of a history can be names
abbrev pub HaveNames : History → Type 0
HaveNames (plain entries) = All EntryHasNames entries
HaveNames (stamped entries) = All (λ s. EntryHasNames s.entry) entries

-- what is heard of this history, behind a world and a schedule
abbrev pub IsHeardOf : Given → History → Heard → Type 0
IsHeardOf given history (Legal g entries) = (g ≡ given) × (entries.items ≡ entries_in history) × IsGood given.world history
IsHeardOf given history (Refused answer) = (answer.status ≡ Illegal) × IsBad given.world history answer.text.items

-- what is heard of an input
abbrev pub IsHeard : List ℕ → Heard → Type 0
IsHeard input (Legal given entries) = HasLegal input given entries.items
IsHeard input (Refused answer) = IsRefusal answer.status input answer.text.items
