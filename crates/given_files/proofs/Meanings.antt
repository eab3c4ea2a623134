-- What is read of an input is what it means, and the fault that is told is its least one.
use Rattle.std.proofs.Common.{◌≡◌, inl, inr, ℕ, List, [], ◌∷◌, refl, sym, ap, subst, ◌∙◌, Option, Some, None, Result, Ok, Err}
use Rattle.byte_ends.specs.Text.{lines}
use Rattle.unix_calls.specs.declared.limits.TheConstants.{MOST_TURNS}
use Rattle.unix_calls.specs.declared.Turn.{Turn}
use Rattle.unix_calls.specs.declared.Turn.TheVariants.{Auto}
use Rattle.unix_calls.specs.declared.World.{World}
use Rattle.file_parts.specs.Parts.{Lines, world_lines, schedule_lines}
use Rattle.script_words.specs.declared.faults.Fault.{Fault}
use Rattle.script_words.specs.declared.faults.ReadRefusal.{ReadRefusal}
use Rattle.script_words.specs.declared.faults.ReadRefusal.TheVariants.{Bad, NoMemory}
use Rattle.script_reader.specs.Files.{read_part}
use Rattle.script_laws.proofs.Exact.{read_is_file}
use Rattle.script_laws.proofs.Whole.{file_read}
use Rattle.fault_laws.proofs.Least.{least_told}
use Rattle.run_text.proofs.FaultLaws as turns
use Rattle.given_files.specs.declared.input.Given.{Given}
use Rattle.given_files.specs.MethodFound.{with_turns, with_schedule, meaning}
use Rattle.given_files.specs.MethodReading.{IsReading}
use Rattle.given_files.specs.Laws.{IsOne}
use Rattle.given_files.specs.Input.{schedule_first, turns_given, IfBad, Means, IsFaultOfTurns, IsFault, IsRun, IsFaultOfRun}

ok_same : {A E : Type 0} (x y : A) → ◌≡◌ {A = Result A E} (Ok x) (Ok y) → x ≡ y
ok_same x y e = cc

err_same : {A E : Type 0} (x y : E) → ◌≡◌ {A = Result A E} (Err x) (Err y) → x ≡ y
err_same x y e = cc

ok_err : {A E : Type 0} (x : A) (y : E) → ◌≡◌ {A = Result A E} (Ok x) (Err y) → ⊥
ok_err x y e = cc

none_some : {A : Type 0} (x : A) → ◌≡◌ {A = Option A} None (Some x) → ⊥
none_some x e = cc

-- ---- the faults of a schedule
fault_of_turns : (nodes first : ℕ) (ls : Option Lines) (fault : Fault) → turns_given nodes first ls ≡ Err fault → IsFaultOfTurns nodes first ls fault
fault_of_turns nodes first None fault e = absurd (ok_err (Auto MOST_TURNS ∷ []) fault e)
fault_of_turns nodes first (Some ls) fault e = (turns.least_told nodes first ls fault).0 e

turns_fault_told : (nodes first : ℕ) (ls : Option Lines) (fault : Fault) → IsFaultOfTurns nodes first ls fault → turns_given nodes first ls ≡ Err fault
turns_fault_told nodes first None fault l = absurd l
turns_fault_told nodes first (Some ls) fault l = (turns.least_told nodes first ls fault).1 l

-- ---- the world and the schedule
module _ (input : List ℕ) where
  abbrev world_part : List (List ℕ)
  world_part = world_lines (lines input)

  abbrev turns_of : World → Result (List Turn) Fault
  turns_of world = turns_given world.nodes (schedule_first input) (schedule_lines (lines input))

  means_with : (world : World) (g : Given) → read_part 1 world_part ≡ Ok world → (r : Result (List Turn) Fault) → turns_of world ≡ r → with_turns world r ≡ Ok g → Means input g
  means_with world g e (Ok turns) t h =
      let is : record { world = world; turns = turns } ≡ g = ok_same (record { world = world; turns = turns }) g h in
      subst (Means input) is (record { world = read_is_file 1 world_part world e; turns = t })
  means_with world g e (Err fault) t h = absurd (ok_err g fault (sym h))

  means_of : (g : Given) (r : Result World Fault) → read_part 1 world_part ≡ r → with_schedule (lines input) r ≡ Ok g → Means input g
  means_of g (Ok world) e h = means_with world g e (turns_of world) refl h
  means_of g (Err fault) e h = absurd (ok_err g fault (sym h))

  -- an input that is read means what is read
  pub means : (g : Given) → meaning input ≡ Ok g → Means input g
  means g h = means_of g (read_part 1 world_part) refl h

  -- what an input means is read
  pub means_read : (g : Given) → Means input g → meaning input ≡ Ok g
  means_read g m = rw (file_read 1 world_part g.world m.world, m.turns) refl

  fault_with : (world : World) (fault : Fault) → read_part 1 world_part ≡ Ok world → (r : Result (List Turn) Fault) → turns_of world ≡ r → with_turns world r ≡ Err fault → IsFault input fault
  fault_with world fault e (Ok turns) t h = absurd (ok_err (record { world = world; turns = turns }) fault h)
  fault_with world fault e (Err f) t h =
      let is : f ≡ fault = err_same f fault h in
      inr (record { world = world; spelled = read_is_file 1 world_part world e; least = fault_of_turns world.nodes (schedule_first input) (schedule_lines (lines input)) fault (t ∙ ap (λ (x : Fault). Err x) is) })

  fault_of : (fault : Fault) (r : Result World Fault) → read_part 1 world_part ≡ r → with_schedule (lines input) r ≡ Err fault → IsFault input fault
  fault_of fault (Ok world) e h = fault_with world fault e (turns_of world) refl h
  fault_of fault (Err f) e h =
      let is : f ≡ fault = err_same f fault h in
      inl ((least_told 1 world_part fault).0 (e ∙ ap (λ (x : Fault). Err x) is))

  -- the fault that is told is a fault of the input
  pub is_fault : (fault : Fault) → meaning input ≡ Err fault → IsFault input fault
  is_fault fault h = fault_of fault (read_part 1 world_part) refl h

  -- the least fault is told
  pub fault_told : (fault : Fault) → IsFault input fault → meaning input ≡ Err fault
  fault_told fault (inl l) = rw ((least_told 1 world_part fault).1 l) refl
  fault_told fault (inr s) = rw (file_read 1 world_part s.world s.spelled, turns_fault_told s.world.nodes (schedule_first input) (schedule_lines (lines input)) fault s.least) refl

  -- ---- one meaning
  pub one_meaning : IsOne (Means input) (IsFault input)
  one_meaning = record {
    one = λ g g' a b. ok_same g g' (sym (means_read g a) ∙ means_read g' b);
    one_fault = λ f f' a b. err_same f f' (sym (fault_told f a) ∙ fault_told f' b);
    not_both = λ g f a b. ok_err g f (sym (means_read g a) ∙ fault_told f b);
  }

  one_run_fault : (f f' : Fault) → IsFaultOfRun input f → IsFaultOfRun input f' → f ≡ f'
  one_run_fault f f' (inl a) (inl b) = one_meaning.one_fault f f' a b
  one_run_fault f f' (inl a) (inr b) = absurd (one_meaning.not_both b.given f b.means a)
  one_run_fault f f' (inr a) (inl b) = absurd (one_meaning.not_both a.given f' a.means b)
  one_run_fault f f' (inr a) (inr b) = a.is ∙ sym b.is

  run_or_fault : (g : Given) (f : Fault) → IsRun input g → IsFaultOfRun input f → ⊥
  run_or_fault g f a (inl b) = one_meaning.not_both g f a.means b
  run_or_fault g f a (inr b) = none_some b.history (sym a.no_history ∙ b.there)

  pub one_run : IsOne (IsRun input) (IsFaultOfRun input)
  one_run = record {
    one = λ g g' a b. one_meaning.one g g' a.means b.means;
    one_fault = one_run_fault;
    not_both = run_or_fault;
  }

-- ---- the fault that a reading finds
pub reading_bad : (input : List ℕ) (r : Result Given (ReadRefusal Fault)) → IsReading r (meaning input) → IfBad r (IsFault input)
reading_bad input (Ok g) h = tt
reading_bad input (Err (Bad fault)) h = is_fault input fault h
reading_bad input (Err NoMemory) h = tt
