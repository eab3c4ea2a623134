-- too much work is what the reader finds to be too much
use Rattle.std.proofs.Common.{◌≡◌, ℕ, ◌+◌, ◌<◌, ◌≤◌, Bool, true, false, List, [], take, sym, ap, ◌∙◌, subst, arith, Some}
use Rattle.std.specs.Prelude.{codes, slice_get, map, IsOk}
use Rattle.std.specs.List.{AllZip}
use Rattle.byte_ends.specs.Text.{words}
use Rattle.unix_calls.specs.declared.work.Work.{Work}
use Rattle.unix_calls.specs.Work.{works, total_work, is_little}
use Rattle.script_words.specs.Words.{Row}
use Rattle.script_reader.specs.Files.{begins_with, words_behind, Told, scripts_of}
use Rattle.script_laws.proofs.Parts.{told_of}
use Rattle.fault_laws.specs.Context.{script_names}
use Rattle.fault_laws.specs.Faults.{IsFirst, started_work, Overworks}
use Rattle.fault_laws.proofs.Around.{HasCluster}
use Rattle.fault_laws.proofs.Counted.{starts_behind}
use Rattle.fault_laws.proofs.Weights.{have_same}
use Rattle.fault_laws.proofs.Weighed.{StandAt, have_bodies}
use Rattle.fault_laws.proofs.Started.{scripts_started, started_same, AreNamed, AllOk, told_named, named_one, taken, rows_taken}

-- the lines up to and with this one are read without a fault
abbrev pub AreReadTo : List (List ℕ) → ℕ → Type 0
AreReadTo lines k = (j : ℕ) (t : Told) → j ≤ k → slice_get (told_of lines) j ≡ Some t → IsOk t.1

not_both : (b : Bool) → b ≡ true → b ≡ false → ⊥
not_both b yes' no' = cc

-- ---- the lines up to and with one
module _ (lines : List (List ℕ)) (k : ℕ) where
  abbrev up_to : List Told
  up_to = take (k + 1) (told_of lines)

  all_stand : StandAt lines 0 up_to
  all_stand = λ j t e. let is : j ≡ 0 + j = omega arith in subst (λ (m : ℕ). slice_get (told_of lines) m ≡ Some t) is ((taken (k + 1) (told_of lines) j t e).1)

  all_ok : AreReadTo lines k → AllOk lines up_to
  all_ok read = λ j t e. let h = taken (k + 1) (told_of lines) j t e in read j t (within j h.0) h.1
    where
      within : (j : ℕ) → j < k + 1 → j ≤ k
      within j lt = omega arith

  are_started : AreReadTo lines k → AllZip (IsFirst (script_names (map words lines))) (words_behind (codes "start") 2 (take (k + 1) (map words lines))) (scripts_started up_to)
  are_started read = subst (λ (rows : List Row). AreNamed lines rows (scripts_started up_to)) (rows_taken lines (k + 1)) (told_named lines 0 up_to all_stand (all_ok read))

pub overworks : (lines : List (List ℕ)) (k : ℕ) (row : Row) → HasCluster lines → AreReadTo lines k → slice_get (map words lines) k ≡ Some row → begins_with (codes "start") row ≡ true
    → is_little (total_work (works (scripts_of (told_of lines))) (starts_behind [] (take (k + 1) (told_of lines)))) ≡ false → Overworks lines k
overworks lines k row cluster read there start much = record {
  row = row;
  there = there;
  starts = start;
  scripts = scripts_of (told_of lines);
  bodies = have_bodies lines cluster;
  numbers = scripts_started (take (k + 1) (told_of lines));
  started = are_started lines k read;
  much = ap is_little (sym (started_same (works (scripts_of (told_of lines))) (take (k + 1) (told_of lines)))) ∙ much;
}

pub overworks_not : (lines : List (List ℕ)) (k : ℕ) → HasCluster lines → AreReadTo lines k
    → is_little (total_work (works (scripts_of (told_of lines))) (starts_behind [] (take (k + 1) (told_of lines)))) ≡ true → Overworks lines k → ⊥
overworks_not lines k cluster read little over =
    let scripts : works over.scripts ≡ works (scripts_of (told_of lines)) = have_same lines over.scripts (scripts_of (told_of lines)) over.bodies (have_bodies lines cluster) in
    let numbers : over.numbers ≡ scripts_started (take (k + 1) (told_of lines)) = named_one _ _ over.numbers (scripts_started (take (k + 1) (told_of lines))) over.started (are_started lines k read) in
    let same : started_work (works over.scripts) over.numbers ≡ total_work (works (scripts_of (told_of lines))) (starts_behind [] (take (k + 1) (told_of lines))) =
    ap (λ (ws : List Work). started_work ws over.numbers) scripts ∙ ap (started_work (works (scripts_of (told_of lines)))) numbers ∙ sym (started_same (works (scripts_of (told_of lines))) (take (k + 1) (told_of lines))) in
    not_both _ (ap is_little same ∙ little) over.much
