-- The kernel's verdict and the rules of one entry.
use Rattle.std.proofs.Common.{◌≡◌, ◌≢◌, ◌<◌, ◌≤◌, ◌↔◌, Bool, true, false, cond, not, IsTrue, List, Option, None, Some, ◌∙◌, refl, sym, ap, subst, arith, lit≤}
use Rattle.unix_names.specs.States.{is_living}
use Rattle.unix_calls.specs.declared.Event.{Event}
use Rattle.unix_calls.specs.declared.Event.TheVariants.{Caught, Discarded, StoppedBy, EndedBy, Continued, Moved}
use Rattle.unix_calls.specs.declared.Entry.{Entry}
use Rattle.unix_calls.specs.declared.Entry.TheVariants.{Called, Happened}
use Rattle.unix_calls.specs.declared.World.{World}
use Rattle.process_table.specs.declared.Row.{Row}
use Rattle.kernel_model.specs.declared.Rule.{Rule}
use Rattle.kernel_model.specs.declared.Rule.TheVariants as rules
use Rattle.audit_core.specs.declared.judge.Breach.{Breach}
use Rattle.audit_core.specs.declared.judge.Breach.TheVariants.{UnknownProcess, ScriptOrder, SignalFirst, WrongReply, WrongEvent}
use Rattle.kernel_model.specs.declared.Verdict.{Verdict}
use Rattle.kernel_model.specs.declared.Verdict.TheVariants.{Legal, Illegal}
use Rattle.process_table.specs.Rows.{row_of}
use Rattle.kernel_rules.specs.Calls.{allows}
use Rattle.kernel_rules.specs.Events.{can_call, may_happen}
use Rattle.kernel_model.specs.Sound.{IsAlive}
use Rattle.kernel_model.specs.Step.{event_verdict, row_verdict, process_of, verdict_at, verdict}
use Rattle.proc_image.specs.Follows.{Running, IsInOrder}
use Rattle.audit_core.specs.Judge.{BreaksAt, place_of, breach_of, breach_told, with_order, IsFirstRuleAt, IsVerdictAt}

-- ---- whether the process is known
-- the rule is one of those that are asked of a living process by the kernel
abbrev IsAskedLast : Rule → Type 0
IsAskedLast rule = 2 ≤ place_of (breach_of rule)

told_or_legal : (b : Bool) (told rule : Rule) → IsAskedLast told → cond b Legal (Illegal told) ≡ Illegal rule → IsAskedLast rule
told_or_legal true told rule last e = absurd (cc e)
told_or_legal false told rule last e = let same : told ≡ rule = cc in subst IsAskedLast same last

told_of_call : (can allowed : Bool) (rule : Rule) → cond (not can) (Illegal rules.SignalFirst) (cond allowed Legal (Illegal rules.WrongReply)) ≡ Illegal rule → IsAskedLast rule
told_of_call false allowed rule e = let same : rules.SignalFirst ≡ rule = cc in subst IsAskedLast same (lit≤ tt)
told_of_call true allowed rule e = told_or_legal allowed rules.WrongReply rule (lit≤ tt) e

told_of_event : (rows : List Row) (r : Row) (event : Event) (rule : Rule) → event_verdict rows r event ≡ Illegal rule → IsAskedLast rule
told_of_event rows r (Caught s) rule e = told_or_legal (may_happen rows r (Caught s)) rules.WrongEvent rule (lit≤ tt) e
told_of_event rows r (Discarded s) rule e = told_or_legal (may_happen rows r (Discarded s)) rules.WrongEvent rule (lit≤ tt) e
told_of_event rows r (StoppedBy s) rule e = told_or_legal (may_happen rows r (StoppedBy s)) rules.WrongEvent rule (lit≤ tt) e
told_of_event rows r (EndedBy s) rule e = told_or_legal (may_happen rows r (EndedBy s)) rules.WrongEvent rule (lit≤ tt) e
told_of_event rows r Continued rule e = told_or_legal (may_happen rows r Continued) rules.WrongEvent rule (lit≤ tt) e
told_of_event rows r Moved rule e = told_or_legal (can_call r) rules.SignalFirst rule (lit≤ tt) e

-- of a living process the kernel tells one of the last three rules
told_of_row : (rows : List Row) (r : Row) (entry : Entry) (rule : Rule) → row_verdict rows r entry ≡ Illegal rule → IsAskedLast rule
told_of_row rows r (Called caller call reply) rule e = told_of_call (can_call r) (allows rows r call reply) rule e
told_of_row rows r (Happened p event) rule e = told_of_event rows r event rule e

unknown_there : (rows : List Row) (entry : Entry) (r : Row) (living : Bool) → cond living (row_verdict rows r entry) (Illegal rules.UnknownProcess) ≡ Illegal rules.UnknownProcess → living ≡ true → ⊥
unknown_there rows entry r true e lives = let last = told_of_row rows r entry rules.UnknownProcess e in omega arith
unknown_there rows entry r false e lives = cc

unknown_at : (rows : List Row) (entry : Entry) (o : Option Row) → verdict_at rows o entry ≡ Illegal rules.UnknownProcess → ¬ IsAlive o
unknown_at rows entry None e alive = alive
unknown_at rows entry (Some r) e alive = unknown_there rows entry r (is_living r.life) e alive

-- a process that the kernel says is unknown has no row, or has ended
unknown_is_not_alive : (rows : List Row) (entry : Entry) → verdict rows entry ≡ Illegal rules.UnknownProcess → ¬ IsAlive (row_of rows (process_of entry))
unknown_is_not_alive rows entry e = unknown_at rows entry (row_of rows (process_of entry)) e

ended_is_unknown : (rows : List Row) (entry : Entry) (r : Row) (living : Bool) → ¬ (living ≡ true) → cond living (row_verdict rows r entry) (Illegal rules.UnknownProcess) ≡ Illegal rules.UnknownProcess
ended_is_unknown rows entry r true ended = absurd (ended refl)
ended_is_unknown rows entry r false ended = refl

not_alive_at : (rows : List Row) (entry : Entry) (o : Option Row) → ¬ IsAlive o → verdict_at rows o entry ≡ Illegal rules.UnknownProcess
not_alive_at rows entry None gone = refl
not_alive_at rows entry (Some r) gone = ended_is_unknown rows entry r (is_living r.life) gone

-- a process that has no row, or has ended, is unknown to the kernel
not_alive_is_unknown : (rows : List Row) (entry : Entry) → ¬ IsAlive (row_of rows (process_of entry)) → verdict rows entry ≡ Illegal rules.UnknownProcess
not_alive_is_unknown rows entry gone = not_alive_at rows entry (row_of rows (process_of entry)) gone

-- ---- the first rule
-- an unknown process is asked first
first_unknown : (world : World) (rows : List Row) (running : Running) (entry : Entry) → verdict rows entry ≡ Illegal rules.UnknownProcess → IsFirstRuleAt world rows running entry UnknownProcess
first_unknown world rows running entry told = record {
  broken = unknown_is_not_alive rows entry told;
  earlier_hold = λ earlier before broken. omega arith;
}

before_order : (world : World) (rows : List Row) (running : Running) (entry : Entry) → verdict rows entry ≢ Illegal rules.UnknownProcess → (earlier : Breach) → place_of earlier < 1 → ¬ BreaksAt world rows running entry earlier
before_order world rows running entry known UnknownProcess before broken = known (not_alive_is_unknown rows entry broken)
before_order world rows running entry known ScriptOrder before broken = omega arith
before_order world rows running entry known SignalFirst before broken = omega arith
before_order world rows running entry known WrongReply before broken = omega arith
before_order world rows running entry known WrongEvent before broken = omega arith

-- the order of the script is asked of a process that is known
first_order : (world : World) (rows : List Row) (running : Running) (entry : Entry) → verdict rows entry ≢ Illegal rules.UnknownProcess → ¬ IsInOrder world running entry → IsFirstRuleAt world rows running entry ScriptOrder
first_order world rows running entry known astray = record {
  broken = astray;
  earlier_hold = before_order world rows running entry known;
}

not_before_itself : (rule earlier : Rule) (v : Verdict) → v ≡ Illegal rule → v ≡ Illegal earlier → place_of (breach_of earlier) < place_of (breach_of rule) → ⊥
not_before_itself rule earlier v told broken before =
    let same : rule ≡ earlier = cc in
    let places = ap (λ r. place_of (breach_of r)) same in
    omega (arith, places)

before_told : (world : World) (rows : List Row) (running : Running) (entry : Entry) (rule : Rule) (earlier : Breach) → verdict rows entry ≡ Illegal rule → IsInOrder world running entry
    → place_of earlier < place_of (breach_of rule) → ¬ BreaksAt world rows running entry earlier
before_told world rows running entry rule UnknownProcess told order before broken = not_before_itself rule rules.UnknownProcess (verdict rows entry) told (not_alive_is_unknown rows entry broken) before
before_told world rows running entry rule ScriptOrder told order before broken = broken order
before_told world rows running entry rule SignalFirst told order before broken = not_before_itself rule rules.SignalFirst (verdict rows entry) told broken before
before_told world rows running entry rule WrongReply told order before broken = not_before_itself rule rules.WrongReply (verdict rows entry) told broken before
before_told world rows running entry rule WrongEvent told order before broken = not_before_itself rule rules.WrongEvent (verdict rows entry) told broken before

-- what the kernel says of an entry in order is said of it
told_in_order : (world : World) (rows : List Row) (running : Running) (entry : Entry) (v : Verdict) → verdict rows entry ≡ v → IsInOrder world running entry → IsVerdictAt world rows running entry (breach_told v)
told_in_order world rows running entry Legal told order = (told, order)
told_in_order world rows running entry (Illegal rules.UnknownProcess) told order = first_unknown world rows running entry told
told_in_order world rows running entry (Illegal rules.SignalFirst) told order = record {
  broken = told;
  earlier_hold = λ earlier. before_told world rows running entry rules.SignalFirst earlier told order;
}
told_in_order world rows running entry (Illegal rules.WrongReply) told order = record {
  broken = told;
  earlier_hold = λ earlier. before_told world rows running entry rules.WrongReply earlier told order;
}
told_in_order world rows running entry (Illegal rules.WrongEvent) told order = record {
  broken = told;
  earlier_hold = λ earlier. before_told world rows running entry rules.WrongEvent earlier told order;
}

told_astray : (world : World) (rows : List Row) (running : Running) (entry : Entry) (v : Verdict) → verdict rows entry ≡ v → ¬ IsInOrder world running entry → IsVerdictAt world rows running entry (with_order false v)
told_astray world rows running entry (Illegal rules.UnknownProcess) told astray = first_unknown world rows running entry told
told_astray world rows running entry Legal told astray = first_order world rows running entry (λ unknown. cc) astray
told_astray world rows running entry (Illegal rules.SignalFirst) told astray = first_order world rows running entry (λ unknown. cc) astray
told_astray world rows running entry (Illegal rules.WrongReply) told astray = first_order world rows running entry (λ unknown. cc) astray
told_astray world rows running entry (Illegal rules.WrongEvent) told astray = first_order world rows running entry (λ unknown. cc) astray

in_order_stays : (v : Verdict) → with_order true v ≡ breach_told v
in_order_stays Legal = refl
in_order_stays (Illegal rules.UnknownProcess) = refl
in_order_stays (Illegal rules.SignalFirst) = refl
in_order_stays (Illegal rules.WrongReply) = refl
in_order_stays (Illegal rules.WrongEvent) = refl

-- what is said of an entry is what the kernel says, with the order of the script asked in its place
pub verdict_with_order : (world : World) (rows : List Row) (running : Running) (entry : Entry) (in_order : Bool) → (IsTrue in_order ↔ IsInOrder world running entry)
    → IsVerdictAt world rows running entry (with_order in_order (verdict rows entry))
verdict_with_order world rows running entry true tells = subst (IsVerdictAt world rows running entry) (sym (in_order_stays (verdict rows entry))) (told_in_order world rows running entry (verdict rows entry) refl (tells.0 refl))
verdict_with_order world rows running entry false tells = told_astray world rows running entry (verdict rows entry) refl (λ order. let told = tells.1 order in cc)

astray_is_illegal : (v : Verdict) → with_order false v ≢ None
astray_is_illegal Legal e = cc
astray_is_illegal (Illegal rules.UnknownProcess) e = cc
astray_is_illegal (Illegal rules.SignalFirst) e = cc
astray_is_illegal (Illegal rules.WrongReply) e = cc
astray_is_illegal (Illegal rules.WrongEvent) e = cc

nothing_told : (v : Verdict) → breach_told v ≡ None → v ≡ Legal
nothing_told Legal e = refl
nothing_told (Illegal rule) e = cc

-- an entry of which nothing is said is legal for the kernel, and in order
pub legal_with_order : (in_order : Bool) (v : Verdict) → with_order in_order v ≡ None → (v ≡ Legal) × IsTrue in_order
legal_with_order true v e = (nothing_told v (sym (in_order_stays v) ∙ e), refl)
legal_with_order false v e = absurd (astray_is_illegal v e)

-- ---- broken rules
-- an entry that is legal and in order breaks none
pub breaks_none : (world : World) (rows : List Row) (running : Running) (entry : Entry) (rule : Breach) → verdict rows entry ≡ Legal → IsInOrder world running entry → ¬ BreaksAt world rows running entry rule
breaks_none world rows running entry UnknownProcess legal order broken = let unknown = not_alive_is_unknown rows entry broken in cc
breaks_none world rows running entry ScriptOrder legal order broken = broken order
breaks_none world rows running entry SignalFirst legal order broken = cc
breaks_none world rows running entry WrongReply legal order broken = cc
breaks_none world rows running entry WrongEvent legal order broken = cc
