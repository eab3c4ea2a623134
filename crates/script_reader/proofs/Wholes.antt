-- what a whole part means, put together
use Rattle.std.proofs.Common.{◌≡◌, ℕ, ◌+◌, ◌-◌, true, false, List, [], length, map, Option, Some, None, Result, Ok, Err, refl, sym, ap, ◌∙◌}
use Rattle.byte_ends.specs.Text.{words}
use Rattle.unix_calls.specs.declared.Script.{Script}
use Rattle.unix_calls.specs.declared.Start.{Start}
use Rattle.unix_calls.specs.declared.World.{World}
use Rattle.unix_calls.specs.Work.{works}
use Rattle.script_words.specs.declared.faults.Fault.{Fault}
use Rattle.script_words.specs.declared.faults.Kind.{Kind}
use Rattle.script_reader.specs.declared.names.Names.{Names}
use Rattle.script_reader.specs.declared.places.Place.{Place}
use Rattle.script_words.specs.Kinds.{fault_at}
use Rattle.script_reader.specs.Files.{first_place, gather, tells, place_behind, scripts_of, judged, end_kind, silent_kind, ended_world, whole_world, told_part, read_part}

-- names, scripts and place as the lines give them
pub record IsRead (lines : List (List ℕ)) (names : Names) (scripts : List Script) (place : Place) : Type 0 where
  pub names_are : names ≡ gather (map words lines)
  pub scripts_are : scripts ≡ scripts_of (tells names first_place lines)
  pub place_is : place ≡ place_behind first_place (tells names first_place lines)

told-part : (first : ℕ) (lines : List (List ℕ)) (names : Names) → names ≡ gather (map words lines) → read_part first lines ≡ told_part names first lines (tells names first_place lines)
unfolding read_part
told-part first lines names e = ap (λ (n : Names). told_part n first lines (tells n first_place lines)) (sym e)

pub silent : (first : ℕ) (lines : List (List ℕ)) (names : Names) (scripts : List Script) (place : Place) → IsRead lines names scripts place → place.begun ≡ false → read_part first lines ≡ Err (fault_at first (silent_kind lines))
unfolding told_part
silent first lines names scripts place r isnt =
    let begun : (place_behind first_place (tells names first_place lines)).begun ≡ false = ap (λ (p : Place). p.begun) (sym r.place_is) ∙ isnt in
    told-part first lines names r.names_are ∙ rw begun refl

whole : (first : ℕ) (lines : List (List ℕ)) (names : Names) (scripts : List Script) (place : Place) → IsRead lines names scripts place → place.begun ≡ true
    → read_part first lines ≡ whole_world names (first + length lines - 1) (tells names first_place lines) place (judged (works scripts) [] first (tells names first_place lines))
unfolding told_part
whole first lines names scripts place r is =
    let told = tells names first_place lines in
    let last = first + length lines - 1 in
    let begun : (place_behind first_place told).begun ≡ true = ap (λ (p : Place). p.begun) (sym r.place_is) ∙ is in
    told-part first lines names r.names_are ∙ rw begun (ap (λ (p : Place). whole_world names last told p (judged (works (scripts_of told)) [] first told)) (sym r.place_is)) ∙ ap (λ (ss : List Script). whole_world names last told place (judged (works ss) [] first told)) (sym r.scripts_are)

pub whole-bad : (first : ℕ) (lines : List (List ℕ)) (names : Names) (scripts : List Script) (place : Place) (fault : Fault) → IsRead lines names scripts place → place.begun ≡ true
    → judged (works scripts) [] first (tells names first_place lines) ≡ Err fault → read_part first lines ≡ Err fault
whole-bad first lines names scripts place fault r is e =
    whole first lines names scripts place r is ∙ ap (whole_world names (first + length lines - 1) (tells names first_place lines) place) e

pub whole-open : (first : ℕ) (lines : List (List ℕ)) (names : Names) (scripts : List Script) (place : Place) (starts : List Start) (kind : Kind) → IsRead lines names scripts place → place.begun ≡ true
    → judged (works scripts) [] first (tells names first_place lines) ≡ Ok starts → end_kind place ≡ Some kind → read_part first lines ≡ Err (fault_at (first + length lines - 1) kind)
whole-open first lines names scripts place starts kind r is e k =
    let last = first + length lines - 1 in
    let told = tells names first_place lines in
    whole first lines names scripts place r is ∙ ap (whole_world names last told place) e
    ∙ ap (λ (end : Option Kind). ended_world last end (record { nodes = place.nodes; vars = length names.variables; scripts = scripts_of told; starts = starts })) k

-- a world, read
read_world : Names → Place → List Start → List Script → Result World Fault
read_world names place starts scripts = Ok (record { nodes = place.nodes; vars = length names.variables; scripts = scripts; starts = starts })

pub whole-fine : (first : ℕ) (lines : List (List ℕ)) (names : Names) (scripts : List Script) (place : Place) (starts : List Start) → IsRead lines names scripts place → place.begun ≡ true
    → judged (works scripts) [] first (tells names first_place lines) ≡ Ok starts → end_kind place ≡ None
    → read_part first lines ≡ Ok (record { nodes = place.nodes; vars = length names.variables; scripts = scripts; starts = starts })
unfolding read_world
whole-fine first lines names scripts place starts r is e k =
    let last = first + length lines - 1 in
    let told = tells names first_place lines in
    whole first lines names scripts place r is ∙ ap (whole_world names last told place) e
    ∙ ap (λ (end : Option Kind). ended_world last end (record { nodes = place.nodes; vars = length names.variables; scripts = scripts_of told; starts = starts })) k
    ∙ ap (read_world names place starts) (sym r.scripts_are)
