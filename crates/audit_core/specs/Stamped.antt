-- The verdict on a history of format 2: its places rise, its users are those of the processes, and its entries are judged as ever.
use Rattle.std.specs.Prelude.{◌≡◌, ◌==◌, ◌&&◌, ℕ, suc, ◌<◌, Bool, false, not, List, [], ◌∷◌, map, fold, take, slice_get, Option, Some, None, option_map, unwrap_or}
use Rattle.unix_names.specs.declared.Pid.{Pid}
use Rattle.unix_names.specs.States.{is_living}
use Rattle.unix_calls.specs.declared.Entry.{Entry}
use Rattle.unix_calls.specs.declared.World.{World}
use Rattle.process_table.specs.declared.Row.{Row}
use Rattle.process_table.specs.Rows.{row_of}
use Rattle.audit_core.specs.declared.judge.Breach.TheVariants.{UnknownProcess, ScriptOrder, SignalFirst, WrongReply, WrongEvent}
use Rattle.kernel_model.specs.Step.{process_of, after}
use Rattle.kernel_model.specs.Legal.{boot, after_all, IsLegal}
use Rattle.proc_image.specs.Follows.{Running, running_after, Follows}
use Rattle.histories.specs.declared.Stamped.{Stamped}
use Rattle.audit_core.specs.declared.stamps.JudgedTwo.{JudgedTwo}
use Rattle.audit_core.specs.declared.stamps.JudgedTwo.TheVariants.{Legal, PlaceAt, UserAt, IllegalAt}
use Rattle.audit_core.specs.declared.stamps.StampRule.{StampRule}
use Rattle.audit_core.specs.declared.stamps.StampRule.TheVariants.{Place, User, Broken}
use Rattle.audit_core.specs.Judge.{BreaksAt, IsVerdictAt}

-- the entries without their stamps
abbrev pub entries_of : List Stamped → List Entry
entries_of history = map (λ s. s.entry) history

-- the place of the last of some entries, if there is one
abbrev pub last_place : List Stamped → Option ℕ
last_place history = fold (λ last s. Some s.place) None history

-- a place is above the place before, if there is one
abbrev pub IsAbove : Option ℕ → ℕ → Type 0
IsAbove None place = Unit {0}
IsAbove (Some before) place = before < place

-- the user of a process, if the table has it
abbrev pub user_of : List Row → Pid → Option ℕ
user_of rows pid = option_map (λ r. r.uid) (row_of rows pid)

-- the user of an entry's process, where the entry comes after these
abbrev pub user_after : World → List Stamped → Entry → Option ℕ
user_after world before entry = user_of (after_all world (entries_of before)) (process_of entry)

-- the process lives, and its user is another
abbrev pub is_of_other : Option Row → ℕ → Bool
is_of_other None uid = false
is_of_other (Some r) uid = is_living r.life && not (r.uid == uid)

-- ---- the rules
-- the rules are asked in this order
abbrev pub rank : StampRule → ℕ
rank Place = 0
rank (Broken UnknownProcess) = 1
rank User = 2
rank (Broken ScriptOrder) = 3
rank (Broken SignalFirst) = 4
rank (Broken WrongReply) = 5
rank (Broken WrongEvent) = 6

-- the stamped entry breaks the rule, where this is the last place, and the table and the processes are so
abbrev pub BreaksStampAt : World → Option ℕ → List Row → Running → Stamped → StampRule → Type 0
BreaksStampAt world last rows running s Place = ¬ IsAbove last s.place
BreaksStampAt world last rows running s User = ¬ (user_of rows (process_of s.entry) ≡ Some s.uid)
BreaksStampAt world last rows running s (Broken rule) = BreaksAt world rows running s.entry rule

-- the stamped entry breaks the rule, and no rule that is asked before it
pub record IsFirstStampRuleAt (world : World) (last : Option ℕ) (rows : List Row) (running : Running) (s : Stamped) (rule : StampRule) : Type 0 where
  pub broken : BreaksStampAt world last rows running s rule
  pub earlier_hold : (earlier : StampRule) → rank earlier < rank rule → ¬ BreaksStampAt world last rows running s earlier

-- the stamped entry keeps every rule
pub record KeepsRulesAt (world : World) (last : Option ℕ) (rows : List Row) (running : Running) (s : Stamped) : Type 0 where
  pub place : IsAbove last s.place
  pub user : user_of rows (process_of s.entry) ≡ Some s.uid
  pub entry : IsVerdictAt world rows running s.entry None

-- what is said of one stamped entry: nothing, where it keeps every rule, or the first rule that it breaks
abbrev pub IsStampVerdictAt : World → Option ℕ → List Row → Running → Stamped → Option StampRule → Type 0
IsStampVerdictAt world last rows running s None = KeepsRulesAt world last rows running s
IsStampVerdictAt world last rows running s (Some rule) = IsFirstStampRuleAt world last rows running s rule

-- the stamped entry breaks the rule, and no rule that is asked before it, where it comes after these
abbrev pub IsFirstStampRule : World → List Stamped → Stamped → StampRule → Type 0
IsFirstStampRule world before s rule = IsFirstStampRuleAt world (last_place before) (after_all world (entries_of before)) (running_after world (entries_of before)) s rule

-- ---- histories
-- legal for the one kernel and in its scripts' order, with rising places and the users of the processes
pub record IsLegalTwo (world : World) (history : List Stamped) : Type 0 where
  pub legal : IsLegal world (entries_of history)
  pub follows : Follows world (entries_of history)
  pub places : (count : ℕ) (s : Stamped) → slice_get history count ≡ Some s → IsAbove (last_place (take count history)) s.place
  pub users : (count : ℕ) (s : Stamped) → slice_get history count ≡ Some s → user_after world (take count history) s.entry ≡ Some s.uid

-- so many entries are so, and this is the first rule that the next one breaks
pub record IsIllegalTwoAfter (world : World) (history : List Stamped) (count : ℕ) (rule : StampRule) : Type 0 where
  pub stamped : Stamped
  pub next : slice_get history count ≡ Some stamped
  pub legal : IsLegalTwo world (take count history)
  pub first : IsFirstStampRule world (take count history) stamped rule

-- such a history, or the number of the first entry that breaks a rule, counted from 1, with the first rule that it breaks
abbrev pub IsJudgedTwo : World → List Stamped → JudgedTwo → Type 0
IsJudgedTwo world history Legal = IsLegalTwo world history
IsJudgedTwo world history (PlaceAt number) = (count : ℕ) × (number ≡ suc count) × IsIllegalTwoAfter world history count Place
IsJudgedTwo world history (UserAt number) = (count : ℕ) × (number ≡ suc count) × IsIllegalTwoAfter world history count User
IsJudgedTwo world history (IllegalAt number rule) = (count : ℕ) × (number ≡ suc count) × IsIllegalTwoAfter world history count (Broken rule)

-- the judgement that names a rule that the entry of this number breaks
abbrev pub judged_as : ℕ → StampRule → JudgedTwo
judged_as number Place = PlaceAt number
judged_as number User = UserAt number
judged_as number (Broken rule) = IllegalAt number rule

-- ---- stamps
-- the entries with these places and the users of their processes, from a table on
abbrev pub stamped_from : List Row → List Entry → List ℕ → List Stamped
stamped_from rows [] places = []
stamped_from rows (e ∷ es) [] = []
stamped_from rows (e ∷ es) (p ∷ ps) = record { place = p; uid = unwrap_or (user_of rows (process_of e)) 0; entry = e } ∷ stamped_from (after rows e) es ps

-- the entries of a history of a world with these places and the users of their processes
abbrev pub stamped_entries : World → List Entry → List ℕ → List Stamped
stamped_entries world entries places = stamped_from (boot world) entries places
