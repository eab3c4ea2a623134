-- what a turn of a locked node comes to
use Rattle.std.specs.Prelude.{ℕ, false, ◌≡◌, ◌≤◌, List, [], ◌∷◌, ◌++◌, length, map, Option, None, Some}
use Rattle.unix_calls.specs.declared.Entry.{Entry}
use Rattle.unix_calls.specs.declared.Turn.{Turn}
use Rattle.unix_calls.specs.declared.Turn.TheVariants.{Go, Take}
use Rattle.unix_calls.specs.declared.World.{World}
use Rattle.pasts.specs.Pasts.{union}
use Rattle.past_lists.specs.Own.{added}
use Rattle.node_state.specs.declared.State.{State}
use Rattle.node_state.specs.declared.Sent.{Sent}
use Rattle.node_state.specs.Wires.{one_taken}
use Rattle.node_core.specs.Advance.{Advanced}
use Rattle.node_core.specs.Turns.{led, going, came}
use Rattle.node_core.specs.Views.{IsTurned}
use Rattle.ops_vector.specs.Answer.{unix_answer}
use Rattle.locked_laws.specs.declared.PlacedTurn.{PlacedTurn}
use Rattle.node_workers.specs.Views.{LetterView, LockedView, letter_of, IsNext}
use Rattle.node_workers.specs.declared.node.Worked.{Worked}
use Rattle.node_workers.specs.declared.node.Worked.TheVariants.{Did, Nothing}

-- ---- with a letter a node takes its message, and without one it goes
abbrev pub turn_of : ℕ → Option LetterView → Turn
turn_of k None = Go k
turn_of k (Some letter) = Take k letter.from.0

-- what comes of it, with so many questions
abbrev pub advanced_by : World → ℕ → State → Option LetterView → Option Advanced
advanced_by world n s None = led world unix_answer n (going world s)
advanced_by world n s (Some letter) = came world unix_answer n (one_taken s letter.from.0) letter.sent.message

-- what the pass knows, and the letter's note
abbrev pub known_with : List (Option Turn) → Option LetterView → List (Option Turn)
known_with seen None = seen
known_with seen (Some letter) = union seen letter.seen

abbrev pub IsNextOf : LockedView → Option LetterView → Type 0
IsNextOf node None = Unit {0}
IsNextOf node (Some letter) = IsNext node letter

-- the node has made this one turn; it has one place, above all that was known, stands last in the list with its line, and its messages are the letters, in order
pub record HasWorked (world : World) (old new : LockedView) (letter : Option LetterView) (letters : List LetterView) : Type 0 where
  pub next : IsNextOf old letter
  pub questions : ℕ
  pub line : Option Entry
  pub sends : List Sent
  pub turned : IsTurned new.state line sends (advanced_by world questions old.state letter)
  pub place : ℕ
  pub above : length (known_with old.pass.seen letter) ≤ place
  pub seen : new.pass.seen ≡ added (known_with old.pass.seen letter) place (turn_of old.id letter)
  pub list : new.list ≡ old.list ++ record { place = place; turn = turn_of old.id letter; line = line } ∷ []
  pub letters_are : letters ≡ map (letter_of old.id new.pass.seen) sends
  pub same : new.id ≡ old.id
  pub runs : new.has_failed ≡ false

-- nobody is ready, or the letter is not the next for this node
abbrev pub HasNothing : LockedView → Option LetterView → Type 0
HasNothing node None = node.state.ready ≡ []
HasNothing node (Some letter) = IsNext node letter → ⊥

abbrev pub Works : {W J : Type 0} → World → LockedView → LockedView → Option LetterView → Worked W J → Type 0
Works world old new letter (Did letters) = HasWorked world old new letter letters
Works world old new letter Nothing = (new ≡ old) × HasNothing old letter
