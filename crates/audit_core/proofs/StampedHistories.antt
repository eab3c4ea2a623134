-- Histories of format 2, entry by entry: what they come to, and that they have one judgement.
use Rattle.std.proofs.Common.{◌≡◌, ◌⊎◌, ◌<◌, ℕ, zero, suc, List, [], ◌∷◌, ◌++◌, take, Option, None, Some, option_map, slice_get, get_or, inl, inr, ◌∙◌, refl, sym, ap, subst, arith}
use Rattle.std.proofs.lemmas.Bool.{cases_order}
use Rattle.std.proofs.lemmas.List.{take-take, take-map, map-append}
use Rattle.std.proofs.lemmas.List.Sums.{fold-append}
use Rattle.std.proofs.lemmas.Option.{slice_get-map}
use Rattle.unix_calls.specs.declared.Entry.{Entry}
use Rattle.unix_calls.specs.declared.World.{World}
use Rattle.process_table.specs.declared.Row.{Row}
use Rattle.kernel_model.specs.Step.{after}
use Rattle.kernel_model.specs.Legal.{boot, after_all}
use Rattle.proc_image.specs.Follows.{Running, first_running, after_entry, running_after}
use Rattle.proc_image.proofs.FollowsLaws.{FollowsFrom-at}
use Rattle.histories.specs.declared.Stamped.{Stamped}
use Rattle.audit_core.specs.declared.judge.Breach.TheVariants.{UnknownProcess, ScriptOrder, SignalFirst, WrongReply, WrongEvent}
use Rattle.audit_core.specs.declared.stamps.StampRule.{StampRule}
use Rattle.audit_core.specs.declared.stamps.StampRule.TheVariants.{Place, User, Broken}
use Rattle.audit_core.specs.declared.stamps.JudgedTwo.{JudgedTwo}
use Rattle.audit_core.specs.declared.stamps.JudgedTwo.TheVariants.{Legal, PlaceAt, UserAt, IllegalAt}
use Rattle.audit_core.specs.Judge.{IsVerdictAt}
use Rattle.audit_core.specs.Stamped.{entries_of, last_place, IsAbove, user_after, rank, IsFirstStampRuleAt, IsFirstStampRule, KeepsRulesAt, IsStampVerdictAt, IsLegalTwo, IsIllegalTwoAfter, IsJudgedTwo, judged_as}
use Rattle.audit_core.proofs.Judgements.{grown_there, IsLegalFrom-at, slice_get-take}
use Rattle.audit_core.proofs.StampRules.{keeps_none}

-- ---- one more entry
-- something holds of each item after those before it
abbrev EachAfter : {X : Type 0} → (List X → X → Type 0) → List X → Type 0
EachAfter {X} P h = (count : ℕ) (x : X) → slice_get h count ≡ Some x → P (take count h) x

each-push : {X : Type 0} (P : List X → X → Type 0) (h : List X) (y : X) → EachAfter P h → P h y → EachAfter P (h ++ y ∷ [])
each-push P [] y each here zero z e = let same : y ≡ z = cc in subst (P []) same here
each-push P [] y each here (suc n) z e = absurd (cc)
each-push P (x ∷ xs) y each here zero z e = let same : x ≡ z = cc in subst (P []) same (each zero x refl)
each-push P (x ∷ xs) y each here (suc n) z e = each-push (λ l w. P (x ∷ l) w) xs y (λ k w e'. each (suc k) w e') here n z e

-- a history of format 2 with one more entry that keeps every rule, after a last place, a table and processes that are this far
pub record IsGrownTwo (world : World) (rows : List Row) (running : Running) (s : Stamped) (longer : List Stamped) : Type 0 where
  pub legal : IsLegalTwo world longer
  pub last : Some s.place ≡ last_place longer
  pub table : after rows s.entry ≡ after_all world (entries_of longer)
  pub progress : after_entry world running s.entry ≡ running_after world (entries_of longer)

grown_two : (world : World) (h : List Stamped) (s : Stamped) → IsLegalTwo world h
    → KeepsRulesAt world (last_place h) (after_all world (entries_of h)) (running_after world (entries_of h)) s
    → IsGrownTwo world (after_all world (entries_of h)) (running_after world (entries_of h)) s (h ++ s ∷ [])
grown_two world h s legal keeps =
    let plain = grown_there world (entries_of h) (entries_of (h ++ s ∷ [])) s.entry (after_all world (entries_of h)) (running_after world (entries_of h)) None
    (map-append (λ x. x.entry) h (s ∷ [])) legal.legal legal.follows refl refl keeps.entry refl in record {
      legal = record {
        legal = plain.legal;
        follows = plain.follows;
        places = each-push (λ before x. IsAbove (last_place before) x.place) h s legal.places keeps.place;
        users = each-push (λ before x. user_after world before x.entry ≡ Some x.uid) h s legal.users keeps.user;
      };
      last = sym (fold-append (λ last x. Some x.place) None h (s ∷ []));
      table = plain.table;
      progress = plain.progress;
    }

-- one more entry of which nothing bad is said
pub grown_two_there : (world : World) (h longer : List Stamped) (s : Stamped) (last : Option ℕ) (rows : List Row) (running : Running) (v : Option StampRule) → longer ≡ h ++ s ∷ [] → IsLegalTwo world h
    → last ≡ last_place h → rows ≡ after_all world (entries_of h) → running ≡ running_after world (entries_of h) → IsStampVerdictAt world last rows running s v → v ≡ None → IsGrownTwo world rows running s longer
grown_two_there world h longer s last rows running v same legal place table progress said good =
    let keeps = subst (IsStampVerdictAt world last rows running s) good said in
    let placed = subst (λ (l : Option ℕ). KeepsRulesAt world l rows running s) place keeps in
    let there = subst (λ (t : List Row). KeepsRulesAt world (last_place h) t running s) table placed in
    let here = subst (λ (far : Running). KeepsRulesAt world (last_place h) (after_all world (entries_of h)) far s) progress there in
    let grown = subst (IsGrownTwo world (after_all world (entries_of h)) (running_after world (entries_of h)) s) (sym same) (grown_two world h s legal here) in
    let far = subst (λ (far : Running). IsGrownTwo world (after_all world (entries_of h)) far s longer) (sym progress) grown in
    subst (λ (t : List Row). IsGrownTwo world t running s longer) (sym table) far

-- a rule that is the first at a last place, a table and processes that these entries leave
pub first_there : (world : World) (h : List Stamped) (s : Stamped) (last : Option ℕ) (rows : List Row) (running : Running) (v : Option StampRule) (rule : StampRule)
    → last ≡ last_place h → rows ≡ after_all world (entries_of h) → running ≡ running_after world (entries_of h) → IsStampVerdictAt world last rows running s v → v ≡ Some rule → IsFirstStampRule world h s rule
first_there world h s last rows running v rule place table progress said told =
    let first = subst (IsStampVerdictAt world last rows running s) told said in
    let placed = subst (λ (l : Option ℕ). IsFirstStampRuleAt world l rows running s rule) place first in
    let there = subst (λ (t : List Row). IsFirstStampRuleAt world (last_place h) t running s rule) table placed in
    subst (λ (far : Running). IsFirstStampRuleAt world (last_place h) (after_all world (entries_of h)) far s rule) progress there

-- the judgement that names the first rule
pub judged_two : (world : World) (h : List Stamped) (count : ℕ) (rule : StampRule) → IsIllegalTwoAfter world h count rule → IsJudgedTwo world h (judged_as (suc count) rule)
judged_two world h count Place illegal = (count, refl, illegal)
judged_two world h count User illegal = (count, refl, illegal)
judged_two world h count (Broken rule) illegal = (count, refl, illegal)

-- ---- no two judgements
entry_there : (h : List Stamped) (count : ℕ) (s : Stamped) → slice_get h count ≡ Some s → slice_get (entries_of h) count ≡ Some s.entry
entry_there h count s e = slice_get-map (λ x. x.entry) h count ∙ ap (option_map (λ x. x.entry)) e

entries-take : (h : List Stamped) (count : ℕ) → take count (entries_of h) ≡ entries_of (take count h)
entries-take h count = take-map (λ x. x.entry) count h

-- each entry of such a history keeps every rule where it stands
keeps_there : (world : World) (h : List Stamped) (count : ℕ) (s : Stamped) → IsLegalTwo world h → slice_get h count ≡ Some s
    → KeepsRulesAt world (last_place (take count h)) (after_all world (entries_of (take count h))) (running_after world (entries_of (take count h))) s
keeps_there world h count s legal e = record {
  place = legal.places count s e;
  user = legal.users count s e;
  entry = subst (λ (before : List Entry). IsVerdictAt world (after_all world before) (running_after world before) s.entry None) (entries-take h count)
      (IsLegalFrom-at (boot world) (entries_of h) count s.entry (entry_there h count s e) legal.legal, FollowsFrom-at world (first_running world) (entries_of h) count s.entry (entry_there h count s e) legal.follows);
}

-- a history with an entry that breaks a rule is no such history
two_somewhere : (world : World) (h : List Stamped) (i : ℕ) (rule : StampRule) → IsIllegalTwoAfter world h i rule → IsLegalTwo world h → ⊥
two_somewhere world h i rule illegal legal =
    keeps_none world (last_place (take i h)) (after_all world (entries_of (take i h))) (running_after world (entries_of (take i h))) illegal.stamped rule (keeps_there world h i illegal.stamped legal illegal.next) illegal.first.broken

-- an entry that breaks a rule does so in each front of the history that it is in
two_in_front : (world : World) (h : List Stamped) (i j : ℕ) (rule : StampRule) → i < j → IsIllegalTwoAfter world h i rule → IsIllegalTwoAfter world (take j h) i rule
two_in_front world h i j rule below illegal =
    let same : take i (take j h) ≡ take i h = take-take i j h (omega arith) in record {
      stamped = illegal.stamped;
      next = slice_get-take h i j below ∙ illegal.next;
      legal = subst (IsLegalTwo world) (sym same) illegal.legal;
      first = subst (λ (before : List Stamped). IsFirstStampRule world before illegal.stamped rule) (sym same) illegal.first;
    }

no_later_two : (world : World) (h : List Stamped) (i j : ℕ) (rule other : StampRule) → IsIllegalTwoAfter world h i rule → IsIllegalTwoAfter world h j other → i < j → ⊥
no_later_two world h i j rule other one two below = two_somewhere world (take j h) i rule (two_in_front world h i j rule below one) two.legal

-- the rule that stands at a rank
ranked : ℕ → StampRule
ranked n = get_or (Place ∷ Broken UnknownProcess ∷ User ∷ Broken ScriptOrder ∷ Broken SignalFirst ∷ Broken WrongReply ∷ Broken WrongEvent ∷ []) n Place

ranked-rank : (rule : StampRule) → ranked (rank rule) ≡ rule
unfolding ranked
ranked-rank Place = refl
ranked-rank User = refl
ranked-rank (Broken UnknownProcess) = refl
ranked-rank (Broken ScriptOrder) = refl
ranked-rank (Broken SignalFirst) = refl
ranked-rank (Broken WrongReply) = refl
ranked-rank (Broken WrongEvent) = refl

one_first_stamp : (world : World) (before : List Stamped) (s : Stamped) (rule other : StampRule) → IsFirstStampRule world before s rule → IsFirstStampRule world before s other → rule ≡ other
one_first_stamp world before s rule other one two = elim (cases_order (rank rule) (rank other)) [
  | inl same ↦ sym (ranked-rank rule) ∙ (ap ranked same ∙ ranked-rank other)
  | inr sides ↦ elim sides [
    | inl below ↦ absurd (two.earlier_hold rule below one.broken)
    | inr above ↦ absurd (one.earlier_hold other above two.broken)
  ]
]

-- two entries that break a rule first are one, and break one rule
same_place : (world : World) (h : List Stamped) (i j : ℕ) (rule other : StampRule) → IsIllegalTwoAfter world h i rule → IsIllegalTwoAfter world h j other → i ≡ j
same_place world h i j rule other one two = elim (cases_order i j) [
  | inl same ↦ same
  | inr sides ↦ elim sides [
    | inl below ↦ absurd (no_later_two world h i j rule other one two below)
    | inr above ↦ absurd (no_later_two world h j i other rule two one above)
  ]
]

same_rule : (world : World) (h : List Stamped) (j : ℕ) (rule other : StampRule) → IsIllegalTwoAfter world h j rule → IsIllegalTwoAfter world h j other → rule ≡ other
same_rule world h j rule other one two =
    let entry : two.stamped ≡ one.stamped = cc (one.next, two.next) in
    one_first_stamp world (take j h) one.stamped rule other one.first (subst (λ (s : Stamped). IsFirstStampRule world (take j h) s other) entry two.first)

one_breach : (world : World) (h : List Stamped) (i j : ℕ) (rule other : StampRule) → IsIllegalTwoAfter world h i rule → IsIllegalTwoAfter world h j other → (i ≡ j) × (rule ≡ other)
one_breach world h i j rule other one two =
    let same : i ≡ j = same_place world h i j rule other one two in
    (same, same_rule world h j rule other (subst (λ (k : ℕ). IsIllegalTwoAfter world h k rule) same one) two)

-- a judgement says that the history is legal, or which rule it breaks first
abbrev SaysTwo : World → List Stamped → JudgedTwo → Type 0
SaysTwo world h j = (IsLegalTwo world h × (j ≡ Legal)) ⊎ ((count : ℕ) × (rule : StampRule) × IsIllegalTwoAfter world h count rule × (j ≡ judged_as (suc count) rule))

says_two : (world : World) (h : List Stamped) (j : JudgedTwo) → IsJudgedTwo world h j → SaysTwo world h j
says_two world h Legal legal = inl (legal, refl)
says_two world h (PlaceAt n) (count, e, illegal) = inr (count, Place, illegal, ap PlaceAt e)
says_two world h (UserAt n) (count, e, illegal) = inr (count, User, illegal, ap UserAt e)
says_two world h (IllegalAt n rule) (count, e, illegal) = inr (count, Broken rule, illegal, ap (λ m. IllegalAt m rule) e)

-- a history of format 2 has no two judgements
pub one_judgement_two : (world : World) (h : List Stamped) (one other : JudgedTwo) → IsJudgedTwo world h one → IsJudgedTwo world h other → one ≡ other
one_judgement_two world h one other a b = go (says_two world h one a) (says_two world h other b)
  where
    go : SaysTwo world h one → SaysTwo world h other → one ≡ other
    go (inl x) (inl y) = x.1 ∙ sym y.1
    go (inl x) (inr y) = absurd (two_somewhere world h y.0 y.1 y.2 x.0)
    go (inr x) (inl y) = absurd (two_somewhere world h x.0 x.1 x.2 y.0)
    go (inr x) (inr y) =
        let same = one_breach world h x.0 y.0 x.1 y.1 x.2 y.2 in
        x.3 ∙ (ap (λ n. judged_as (suc n) x.1) same.0 ∙ (ap (judged_as (suc y.0)) same.1 ∙ sym y.3))
