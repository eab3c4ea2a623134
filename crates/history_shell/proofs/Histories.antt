-- The entries of a history that was read, and of one that is legal.
use Rattle.std.proofs.Common.{◌≡◌, ℕ, Bool, true, false, List, [], ◌∷◌, sym, subst, Option, Some, None, All}
use Rattle.std.specs.Prelude.{MatchBool}
use Rattle.std.proofs.lemmas.List.Elements.{All-nil, All-cons, All-map}
use Rattle.byte_ends.specs.Text.{lines}
use Rattle.unix_calls.specs.Calls.{EntryHasNames}
use Rattle.unix_calls.specs.declared.Entry.{Entry}
use Rattle.unix_calls.specs.declared.World.{World}
use Rattle.kernel_model.specs.Legal.{IsLegal}
use Rattle.file_parts.specs.Parts.{Lines, history_lines}
use Rattle.histories.specs.declared.Stamped.{Stamped}
use Rattle.histories.specs.Reading.{Means, Meanings, is_nothing, is_schedule, is_last, OnLine, IsHistoryOf}
use Rattle.histories.specs.Stamped.{MeansStamped, IsHistoryTwo}
use Rattle.given_files.specs.declared.input.Given.{Given}
use Rattle.history_shell.specs.Hearing.{History, plain, stamped, entries_in, HasHistory, IsGood, HasLegal}
use Rattle.history_shell.specs.MethodHearing.{HaveNames}

either : (b : Bool) (P Q R : Type 0) → (P → R) → (Q → R) → MatchBool b P Q → R
either true P Q R f g h = f h
either false P Q R f g h = g h

-- ---- what is so of each value that a line can mean is so of all values of a history
module _ {X : Type 0} (M : Meanings X) (P : X → Type 0) (each : (line : List _) (x : X) → M line x → P x) where
  none : (xs : List X) → xs ≡ [] → All P xs
  none xs e = subst (All P) (sym e) (All-nil P)

  on_line : (l : List _) (Rest : List X → Type 0) → ((xs : List X) → Rest xs → All P xs) → (xs : List X) → OnLine M l Rest xs → All P xs
  on_line l Rest f [] h = absurd h
  on_line l Rest f (x ∷ xs) h = All-cons P x xs (each l x h.0) (f xs h.1)

  all_so : (ls : Lines) (xs : List X) → IsHistoryOf M ls xs → All P xs
  all_so [] xs h = none xs h
  all_so (l ∷ ls) xs h =
      either (is_nothing l) _ _ (All P xs) (all_so ls xs)
      (either (is_schedule l) _ _ (All P xs) (none xs)
      (either (is_last l) _ _ (All P xs) (λ x. none xs x.0) (on_line l (IsHistoryOf M ls) (all_so ls) xs))) h

-- ---- the numbers of each call of a history can be names
names_two : (ls : Lines) (es : List Stamped) → IsHistoryTwo ls es → All (λ (s : Stamped). EntryHasNames s.entry) es
names_two [] es h = absurd h
names_two (l ∷ ls) es h = all_so MeansStamped (λ (s : Stamped). EntryHasNames s.entry) (λ line s m. m.entry.is_entry.1) ls es h.1

pub has_names : (ls : Option Lines) (h : History) → HasHistory ls h → HaveNames h
has_names None h e = subst HaveNames (sym e) (All-nil EntryHasNames)
has_names (Some ls) (plain es) h = all_so Means EntryHasNames (λ line e m. m.is_entry.1) ls es h.1
has_names (Some ls) (stamped es) h = names_two ls es h

names_in : (h : History) → HaveNames h → All EntryHasNames (entries_in h)
names_in (plain es) n = n
names_in (stamped es) n = All-map EntryHasNames (λ (s : Stamped). s.entry) es n

-- the numbers of each call of a legal history can be names
pub legal_names : (input : List ℕ) (g : Given) (es : List Entry) → HasLegal input g es → All EntryHasNames es
legal_names input g es h = subst (All EntryHasNames) (sym h.are) (names_in h.history (has_names (history_lines (lines input)) h.history h.has))

good_legal : (world : World) (h : History) → IsGood world h → IsLegal world (entries_in h)
good_legal world (plain es) g = g.0
good_legal world (stamped es) g = g.legal

-- the kernel allows each entry of a legal history
pub legal_steps : (input : List ℕ) (g : Given) (es : List Entry) → HasLegal input g es → IsLegal g.world es
legal_steps input g es h = subst (IsLegal g.world) (sym h.are) (good_legal g.world h.history h.good)
