-- A history has one judgement.
use Rattle.std.proofs.Common.{◌≡◌, ◌<◌, ℕ, zero, suc, List, [], ◌∷◌, ◌++◌, take, Option, None, Some, slice_get, inl, inr, ◌∙◌, refl, sym, ap, subst, arith}
use Rattle.std.proofs.lemmas.Bool.{cases_order}
use Rattle.std.proofs.lemmas.List.{take-take}
use Rattle.unix_calls.specs.declared.Entry.{Entry}
use Rattle.unix_calls.specs.declared.World.{World}
use Rattle.process_table.specs.declared.Row.{Row}
use Rattle.audit_core.specs.declared.judge.Breach.{Breach}
use Rattle.audit_core.specs.declared.judge.Breach.TheVariants.{UnknownProcess, ScriptOrder, SignalFirst, WrongReply, WrongEvent}
use Rattle.kernel_model.specs.declared.Verdict.TheVariants as kernel
use Rattle.kernel_model.specs.Step.{verdict, after}
use Rattle.kernel_model.specs.Legal.{boot, after_entries, after_all, IsLegalFrom, IsLegal}
use Rattle.proc_image.specs.Follows.{Running, first_running, after_entry, Follows, running_after}
use Rattle.proc_image.proofs.FollowsLaws.{FollowsFrom-at, FollowsFrom-push, after_entries-push as running-push}
use Rattle.audit_core.specs.declared.judge.Judged.{Judged}
use Rattle.audit_core.specs.declared.judge.Judged.TheVariants.{Legal, IllegalAt}
use Rattle.audit_core.specs.Judge.{place_of, IsVerdictAt, IsFirstRuleAt, IsFirstRule, IsIllegalAfter, IsJudged}
use Rattle.audit_core.proofs.Verdicts.{breaks_none}

-- ---- legal histories, entry by entry
-- one more legal entry
pub IsLegalFrom-push : (rows : List Row) (h : List Entry) (e : Entry) → IsLegalFrom rows h → verdict (after_entries rows h) e ≡ kernel.Legal → IsLegalFrom rows (h ++ e ∷ [])
IsLegalFrom-push rows [] e legal now = (now, tt)
IsLegalFrom-push rows (x ∷ h) e legal now = (legal.0, IsLegalFrom-push (after rows x) h e legal.1 now)

after_entries-push : (rows : List Row) (h : List Entry) (e : Entry) → after_entries rows (h ++ e ∷ []) ≡ after (after_entries rows h) e
after_entries-push rows [] e = refl
after_entries-push rows (x ∷ h) e = after_entries-push (after rows x) h e

-- each entry of a legal history is legal where it stands
pub IsLegalFrom-at : (rows : List Row) (h : List Entry) (i : ℕ) (e : Entry) → slice_get h i ≡ Some e → IsLegalFrom rows h → verdict (after_entries rows (take i h)) e ≡ kernel.Legal
IsLegalFrom-at rows [] i e there legal = absurd (cc there)
IsLegalFrom-at rows (x ∷ h) zero e there legal =
    let same : x ≡ e = cc in
    subst (λ (y : Entry). verdict rows y ≡ kernel.Legal) same legal.0
IsLegalFrom-at rows (x ∷ h) (suc i) e there legal = IsLegalFrom-at (after rows x) h i e there legal.1

-- a history with one more entry that is legal and in order, after a table and processes that are this far
pub record IsGrown (world : World) (rows : List Row) (running : Running) (e : Entry) (longer : List Entry) : Type 0 where
  pub legal : IsLegal world longer
  pub follows : Follows world longer
  pub table : after rows e ≡ after_all world longer
  pub progress : after_entry world running e ≡ running_after world longer

grown : (world : World) (h longer : List Entry) (e : Entry) → longer ≡ h ++ e ∷ [] → IsLegal world h → Follows world h → IsVerdictAt world (after_all world h) (running_after world h) e None
    → IsGrown world (after_all world h) (running_after world h) e longer
grown world h longer e same legal follows said = record {
  legal = subst (IsLegal world) (sym same) (IsLegalFrom-push (boot world) h e legal said.0);
  follows = subst (Follows world) (sym same) (FollowsFrom-push world (first_running world) h e follows said.1);
  table = sym (ap (after_all world) same ∙ after_entries-push (boot world) h e);
  progress = sym (ap (running_after world) same ∙ running-push world (first_running world) h e);
}

-- one more entry of which nothing bad is said
pub grown_there : (world : World) (h longer : List Entry) (e : Entry) (rows : List Row) (running : Running) (v : Option Breach) → longer ≡ h ++ e ∷ [] → IsLegal world h → Follows world h
    → rows ≡ after_all world h → running ≡ running_after world h → IsVerdictAt world rows running e v → v ≡ None → IsGrown world rows running e longer
grown_there world h longer e rows running v same legal follows table progress said good =
    let said_legal = subst (IsVerdictAt world rows running e) good said in
    let said_there = subst (λ (t : List Row). IsVerdictAt world t running e None) table said_legal in
    let said_here = subst (λ (far : Running). IsVerdictAt world (after_all world h) far e None) progress said_there in
    let there = subst (λ (far : Running). IsGrown world (after_all world h) far e longer) (sym progress) (grown world h longer e same legal follows said_here) in
    subst (λ (t : List Row). IsGrown world t running e longer) (sym table) there

-- ---- no two judgements
-- a history with an illegal entry is not legal and in order
illegal_somewhere : (world : World) (h : List Entry) (i : ℕ) (rule : Breach) → IsIllegalAfter world h i rule → IsLegal world h → Follows world h → ⊥
illegal_somewhere world h i rule illegal legal follows =
    breaks_none world (after_all world (take i h)) (running_after world (take i h)) illegal.entry rule
    (IsLegalFrom-at (boot world) h i illegal.entry illegal.next legal) (FollowsFrom-at world (first_running world) h i illegal.entry illegal.next follows) illegal.first.broken

pub slice_get-take : {A : Type 0} (xs : List A) (i j : ℕ) → i < j → slice_get (take j xs) i ≡ slice_get xs i
slice_get-take [] i zero below = refl
slice_get-take [] i (suc j) below = refl
slice_get-take (x ∷ xs) i zero below = absurd (omega arith)
slice_get-take (x ∷ xs) zero (suc j) below = refl
slice_get-take (x ∷ xs) (suc i) (suc j) below = slice_get-take xs i j (omega arith)

-- an illegal entry is illegal in each front of the history that it is in
illegal_in_front : (world : World) (h : List Entry) (i j : ℕ) (rule : Breach) → i < j → IsIllegalAfter world h i rule → IsIllegalAfter world (take j h) i rule
illegal_in_front world h i j rule below illegal =
    let same : take i (take j h) ≡ take i h = take-take i j h (omega arith) in record {
      entry = illegal.entry;
      next = slice_get-take h i j below ∙ illegal.next;
      legal = subst (IsLegal world) (sym same) illegal.legal;
      follows = subst (Follows world) (sym same) illegal.follows;
      first = subst (λ (before : List Entry). IsFirstRule world before illegal.entry rule) (sym same) illegal.first;
    }

-- nothing comes after the first illegal entry
no_later : (world : World) (h : List Entry) (i j : ℕ) (rule other : Breach) → IsIllegalAfter world h i rule → IsIllegalAfter world h j other → i < j → ⊥
no_later world h i j rule other one two below = illegal_somewhere world (take j h) i rule (illegal_in_front world h i j rule below one) two.legal two.follows

place_of-injective : (rule other : Breach) → place_of rule ≡ place_of other → rule ≡ other
place_of-injective UnknownProcess UnknownProcess e = refl
place_of-injective ScriptOrder ScriptOrder e = refl
place_of-injective SignalFirst SignalFirst e = refl
place_of-injective WrongReply WrongReply e = refl
place_of-injective WrongEvent WrongEvent e = refl
place_of-injective _ _ e = absurd (omega arith)

-- an entry breaks one rule first
one_first_rule : (world : World) (rows : List Row) (running : Running) (e : Entry) (rule other : Breach) → IsFirstRuleAt world rows running e rule → IsFirstRuleAt world rows running e other → rule ≡ other
one_first_rule world rows running e rule other one two = elim (cases_order (place_of rule) (place_of other)) [
  | inl same ↦ place_of-injective rule other same
  | inr sides ↦ elim sides [
    | inl below ↦ absurd (two.earlier_hold rule below one.broken)
    | inr above ↦ absurd (one.earlier_hold other above two.broken)
  ]
]

one_rule : (world : World) (h : List Entry) (i : ℕ) (rule other : Breach) → IsIllegalAfter world h i rule → IsIllegalAfter world h i other → rule ≡ other
one_rule world h i rule other one two =
    let same : two.entry ≡ one.entry = cc (one.next, two.next) in
    one_first_rule world (after_all world (take i h)) (running_after world (take i h)) one.entry rule other one.first
    (subst (λ (e : Entry). IsFirstRule world (take i h) e other) same two.first)

one_place : (world : World) (h : List Entry) (i j : ℕ) (rule other : Breach) → IsIllegalAfter world h i rule → IsIllegalAfter world h j other → i ≡ j
one_place world h i j rule other one two = elim (cases_order i j) [
  | inl same ↦ same
  | inr sides ↦ elim sides [
    | inl below ↦ absurd (no_later world h i j rule other one two below)
    | inr above ↦ absurd (no_later world h j i other rule two one above)
  ]
]

-- a history has no two judgements
pub one_judgement : (world : World) (h : List Entry) (one other : Judged) → IsJudged world h one → IsJudged world h other → one ≡ other
one_judgement world h Legal Legal one other = refl
one_judgement world h Legal (IllegalAt n rule) one other = absurd (illegal_somewhere world h other.0 rule other.2 one.0 one.1)
one_judgement world h (IllegalAt n rule) Legal one other = absurd (illegal_somewhere world h one.0 rule one.2 other.0 other.1)
one_judgement world h (IllegalAt n rule) (IllegalAt m wrong) one other =
    let place : one.0 ≡ other.0 = one_place world h one.0 other.0 rule wrong one.2 other.2 in
    let number : n ≡ m = one.1 ∙ (ap suc place ∙ sym other.1) in
    let there : IsIllegalAfter world h other.0 rule = subst (λ (i : ℕ). IsIllegalAfter world h i rule) place one.2 in
    let rules : rule ≡ wrong = one_rule world h other.0 rule wrong there other.2 in
    cc
