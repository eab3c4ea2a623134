-- the fault that is told is the least one
use Rattle.std.proofs.Common.{◌≡◌, ◌⊎◌, inl, inr, ℕ, ◌+◌, ◌-◌, ◌==◌, Bool, true, false, cond, List, [], length, refl, sym, ap, ◌∙◌, subst, arith, Some, None, Result, Ok, Err}
use Rattle.std.specs.Prelude.{if◌then◌else◌, map}
use Rattle.std.proofs.lemmas.Bool.{eqb-true, eqb-false}
use Rattle.byte_ends.specs.Text.{words}
use Rattle.unix_calls.specs.declared.World.{World}
use Rattle.unix_calls.specs.declared.Start.{Start}
use Rattle.unix_calls.specs.Work.{works}
use Rattle.script_words.specs.declared.faults.Kind.TheVariants.{UnknownWord, NoStart}
use Rattle.script_words.specs.declared.faults.Fault.{Fault}
use Rattle.script_reader.specs.declared.places.Place.{Place}
use Rattle.script_words.specs.Kinds.{fault_at}
use Rattle.script_reader.specs.Files.{first_place, place_behind, scripts_of, judged, end_kind, silent_kind, ended_world, whole_world, told_part, read_part}
use Rattle.script_laws.specs.Grammar.{IsFile}
use Rattle.script_laws.proofs.Parts.{names_of, told_of, world_of, IsWhole, whole}
use Rattle.script_laws.proofs.Whole.{file_read}
use Rattle.script_laws.proofs.Exact.{read_is_file}
use Rattle.fault_laws.specs.Context.{is_begun, start_names}
use Rattle.fault_laws.specs.Faults.{rank}
use Rattle.fault_laws.specs.Told.{IsNotBefore, IsLeastFault, HasNoFault, LeastIsTold, SpellsOne, HasLeastFault, SpellsOrFails}
use Rattle.fault_laws.proofs.Around.{knows_end}
use Rattle.fault_laws.proofs.Stops.{stops, passes, none_little}
use Rattle.fault_laws.proofs.Earliest.{silent_least, stop_least, AreClean, passes_clean, open_least, idle_least, no_fault}

-- where the line behind a part would stand
abbrev end_place : List (List ℕ) → Place
end_place lines = place_behind first_place (told_of lines)

same_part : (a b : Fault) → ◌≡◌ {A = Result World Fault} (Err a) (Err b) → a ≡ b
same_part a b e = cc

same_world : (a b : World) (r : Result World Fault) → r ≡ Ok a → r ≡ Ok b → a ≡ b
same_world a b r x y = cc

not_both : (a : World) (b : Fault) (r : Result World Fault) → r ≡ Ok a → r ≡ Err b → ⊥
not_both a b r x y = cc

-- ---- what is told is least
clean : (first : ℕ) (lines : List (List ℕ)) (starts : List Start) → judged (works (scripts_of (told_of lines))) [] first (told_of lines) ≡ Ok starts → AreClean lines
clean first lines starts e = passes_clean lines (passes (works (scripts_of (told_of lines))) [] first (told_of lines) starts (none_little (works (scripts_of (told_of lines)))) e)

-- the fault of the whole part
end_least : (first : ℕ) (lines : List (List ℕ)) (starts : List Start) (fault : Fault) (world : World) → is_begun (map words lines) ≡ true → judged (works (scripts_of (told_of lines))) [] first (told_of lines) ≡ Ok starts
    → ended_world (first + length lines - 1) (end_kind (end_place lines)) world ≡ Err fault → IsLeastFault first lines fault
end_least first lines starts fault world begun e h = go (end_place lines).is_open ((end_place lines).starts == 0) refl refl h
  where
    go : (a b : Bool) → (end_place lines).is_open ≡ a → ((end_place lines).starts == 0) ≡ b → ended_world (first + length lines - 1) (if a then Some UnknownWord else (if b then Some NoStart else None)) world ≡ Err fault → IsLeastFault first lines fault
    go true b o n h = subst (IsLeastFault first lines) (same_part _ fault h) (open_least first lines begun (clean first lines starts e) (sym (knows_end lines).open' ∙ o))
    go false true o n h = subst (IsLeastFault first lines) (same_part _ fault h) (idle_least first lines begun (clean first lines starts e) (sym (knows_end lines).open' ∙ o) ((knows_end lines).starts.0 (eqb-true _ 0 n)))
    go false false o n h = cc

part_least : (first : ℕ) (lines : List (List ℕ)) (fault : Fault) → read_part first lines ≡ Err fault → IsLeastFault first lines fault
unfolding read_part told_part
part_least first lines fault e = go (end_place lines).begun (judged (works (scripts_of (told_of lines))) [] first (told_of lines)) refl refl e
  where
    begun : (b : Bool) → (end_place lines).begun ≡ b → is_begun (map words lines) ≡ b
    begun b e = sym (knows_end lines).begun ∙ e

    go : (b : Bool) (r : Result (List Start) Fault) → (end_place lines).begun ≡ b → judged (works (scripts_of (told_of lines))) [] first (told_of lines) ≡ r
        → cond b (whole_world (names_of lines) (first + length lines - 1) (told_of lines) (end_place lines) r) (Err (fault_at first (silent_kind lines))) ≡ Err fault → IsLeastFault first lines fault
    go false r eb er h = silent_least first lines fault (begun false eb) (same_part (fault_at first (silent_kind lines)) fault h)
    go true (Err f) eb er h =
        let same : f ≡ fault = same_part f fault h in
        stop_least first lines fault (begun true eb)
        (stops (works (scripts_of (told_of lines))) [] first (told_of lines) fault (none_little (works (scripts_of (told_of lines)))) (er ∙ ap (λ (x : Fault). Err x) same))
    go true (Ok starts) eb er h = end_least first lines starts fault (world_of lines starts) (begun true eb) er h

-- ---- a part with a meaning has no fault
whole_clean : (first : ℕ) (lines : List (List ℕ)) (world : World) → IsWhole first lines world → HasNoFault lines
whole_clean first lines world w = go (end_place lines).is_open ((end_place lines).starts == 0) refl refl w.ended
  where
    busy : ((end_place lines).starts == 0) ≡ false → start_names (map words lines) ≡ [] → ⊥
    busy n e = eqb-false _ 0 n ((knows_end lines).starts.1 e)

    go : (a b : Bool) → (end_place lines).is_open ≡ a → ((end_place lines).starts == 0) ≡ b → (if a then Some UnknownWord else (if b then Some NoStart else None)) ≡ None → HasNoFault lines
    go true b o n h = cc
    go false true o n h = cc
    go false false o n h = no_fault first lines (sym (knows_end lines).begun ∙ w.begun) (clean first lines w.starts w.judged) (sym (knows_end lines).open' ∙ o) (busy n)

-- ---- one least fault
-- two least faults are one: neither is before the other
one_least : (first : ℕ) (lines : List (List ℕ)) (a b : Fault) → IsLeastFault first lines a → IsLeastFault first lines b → a ≡ b
one_least first lines a b x y = go (x.least y.k y.aspect b.kind y.is) (y.least x.k x.aspect a.kind x.is)
  where
    same : y.k ≡ x.k → b.kind ≡ a.kind → a ≡ b
    same e f =
        let n : a.line ≡ b.line = x.at_line ∙ ap (λ (m : ℕ). first + m) (sym e) ∙ sym y.at_line in
        let is : fault_at a.line a.kind ≡ fault_at b.line b.kind = cc in
        is

    go : IsNotBefore x.k x.aspect a.kind y.k y.aspect b.kind → IsNotBefore y.k y.aspect b.kind x.k x.aspect a.kind → a ≡ b
    go (inr (inr (e, f, g))) q = same e g
    go (inl lt) (inl gt) = absurd (omega arith)
    go (inl lt) (inr (inl (e, r))) = absurd (omega arith)
    go (inl lt) (inr (inr (e, f, g))) = absurd (omega arith)
    go (inr (inl (e, r))) (inl gt) = absurd (omega arith)
    go (inr (inl (e, r))) (inr (inl (f, s))) = absurd (omega arith)
    go (inr (inl (e, r))) (inr (inr (f, g, h))) = let k : rank x.aspect ≡ rank y.aspect = ap rank g in absurd (omega arith)

-- ---- the theorems
pub least_told : LeastIsTold
least_told first lines fault = (part_least first lines fault, told)
  where
    told : IsLeastFault first lines fault → read_part first lines ≡ Err fault
    told l = go (read_part first lines) refl
      where
        go : (r : Result World Fault) → read_part first lines ≡ r → read_part first lines ≡ Err fault
        go (Ok world) e = absurd (whole_clean first lines world (whole first lines world e) l.k l.aspect fault.kind l.is)
        go (Err other) e = e ∙ ap (λ (x : Fault). Err x) (one_least first lines other fault (part_least first lines other e) l)

pub spells_or_fails : SpellsOrFails
spells_or_fails first lines = go (read_part first lines) refl
  where
    go : (r : Result World Fault) → read_part first lines ≡ r → ((world : World) × SpellsOne lines world × HasNoFault lines) ⊎ ((fault : Fault) × HasLeastFault first lines fault × ((world : World) → ¬ IsFile lines world))
    go (Ok world) e = inl (
      world,
      record { spelled = read_is_file first lines world e; one = λ other f. same_world other world (read_part first lines) (file_read first lines other f) e },
      whole_clean first lines world (whole first lines world e),
    )
    go (Err fault) e =
        let least = part_least first lines fault e in
        inr (fault, record { least = least; one = λ other l. one_least first lines other fault l least }, λ world f. not_both world fault (read_part first lines) (file_read first lines world f) e)
