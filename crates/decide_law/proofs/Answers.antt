-- from a question to what its decision starts from, and from a decision to an answer
use Rattle.std.proofs.Common.{◌≡◌, ◌≢◌, ◌==◌, inl, inr, ◌&&◌, ◌||◌, ◌<◌, ℕ, Bool, true, false, cond, not, List, [], ◌∷◌, length, refl, sym, ap, ◌∙◌, subst, arith, Option, None, Some, All}
use Rattle.std.specs.Option.{option_map}
use Rattle.list_laws.proofs.Filters.{some_same}
use Rattle.std.proofs.lemmas.Bool.{eqb-true, eq-eqb}
use Rattle.std.proofs.lemmas.List.Elements.{All-nil, All-cons, All-head, All-tail}
use Rattle.list_laws.specs.Keyed.{option_filter}
use Rattle.unix_names.specs.declared.Pid.{Pid}
use Rattle.unix_names.specs.declared.Name.{Name}
use Rattle.unix_names.specs.declared.Name.TheVariants.{V, G}
use Rattle.unix_names.specs.Names.{pid_of}
use Rattle.unix_calls.specs.declared.Call.{Call}
use Rattle.unix_calls.specs.declared.Job.{Job}
use Rattle.unix_calls.specs.declared.Job.TheVariants.{Ask, Look, Push}
use Rattle.unix_calls.specs.declared.Call.TheVariants.{Fork, Migrate}
use Rattle.unix_names.specs.declared.NodeId.{NodeId}
use Rattle.signal_state.specs.declared.Own.{Own}
use Rattle.vproc_record.specs.declared.Vproc.{Vproc}
use Rattle.group_record.specs.declared.Group.{Group}
use Rattle.record_bag.specs.declared.bag.Bag.{Bag}
use Rattle.record_bag.specs.declared.vector.Site.{Site}
use Rattle.record_bag.specs.declared.vector.Outcome.{Outcome}
use Rattle.record_bag.specs.declared.vector.Outcome.TheVariants as outcome
use Rattle.record_bag.specs.Bags.{is_held, present}
use Rattle.record_bag.specs.Decisions.{Answered}
use Rattle.process_table.specs.declared.Row.{Row}
use Rattle.process_table.specs.Rows.{in_group, is_stopped}
use Rattle.decide_law.specs.Agrees.{vproc_at, group_at, IsRecordOf, VprocAgrees, uid_in}
use Rattle.decide_law.specs.Law.{Asks, Based}
use Rattle.decide_law.specs.Needs.{Itself, OfRow, IsNamed, AreTold}
use Rattle.decide_law.specs.Vector.{IsAskedFor, IsAnswer}
use Rattle.decide_law.specs.Effects.{on_group, on_vproc, on_base}
use Rattle.decide_law.specs.Footprints.{is_none}
use Rattle.decide_law.specs.Answer.{is_name, listed, IsNeed, IsRight}
use Rattle.decide_law.proofs.Shell.{in_own}
use Rattle.decide_law.specs.Places.{JobGoes, named_or, call_destination, destination}

-- ---- the base
module _ (nodes : ℕ) (rows : List Row) (p : Pid) (job : Job) (own : Own) (bag : Bag) (site : Site) (a : Asks nodes rows p job own bag site) where
  pub based : (v : Vproc) (g : Group) → vproc_at bag p ≡ Some (Some v) → group_at bag v.group ≡ Some (Some g) → Based rows p own bag a.row v g
  based v g ev eg = record { sound = a.sound; agrees = a.agrees; row = a.there; living = a.living; vproc = ev; group = eg; own_is = a.own_is v g ev eg }

  -- one name that lacks
  one : (n : Name) → is_held bag n ≡ false → IsNamed rows p job (pid_of n) → IsAskedFor rows p job bag (n ∷ [])
  one n lacks told = record {
    some = omega arith;
    lacking = All-cons (λ m. is_held bag m ≡ false) n [] lacks (All-nil (λ m. is_held bag m ≡ false));
    told = All-cons (λ m. IsNamed rows p job (pid_of m)) n [] told (All-nil (λ m. IsNamed rows p job (pid_of m)));
  }

  on_group_right : (answer : Vproc → Group → Answered) (v : Vproc) → vproc_at bag p ≡ Some (Some v) → IsRecordOf rows v a.row →
      ((g : Group) → Based rows p own bag a.row v g → IsAnswer nodes rows p job site bag (answer v g).bag (answer v g).outcome) →
      (o : Option (Option Group)) → group_at bag v.group ≡ o → IsAnswer nodes rows p job site bag (on_group answer bag v (present o)).bag (on_group answer bag v (present o)).outcome
  on_group_right answer v ev of right None e = (one (G v.group) (ap is_there e) (OfRow p a.row a.there (inr (inr (inl (ap (λ (q : Pid). q.0) of.group))))), refl)
    where
      is_there : Option (Option Group) → Bool
      is_there None = false
      is_there (Some x) = true
  on_group_right answer v ev of right (Some None) e =
      let gone : uid_in rows v.group p ≡ None = a.agrees.groups v.group None e p in
      let mine : in_group v.group a.row ≡ true = ap (λ (q : Pid). a.row.group.0 == q.0) of.group ∙ in_own a.row in
      let is : uid_in rows v.group p ≡ Some a.row.uid = ap (λ o. option_map (λ (r : Row). r.uid) (option_filter (in_group v.group) o)) a.there ∙ ap (λ b. option_map (λ (r : Row). r.uid) (cond b (Some a.row) None)) mine in
      let f : None ≡ Some a.row.uid = sym gone ∙ is in cc
  on_group_right answer v ev of right (Some (Some g)) e = right g (based v g ev e)

  on_vproc_right : (answer : Vproc → Group → Answered) → ((v : Vproc) (g : Group) → Based rows p own bag a.row v g → IsAnswer nodes rows p job site bag (answer v g).bag (answer v g).outcome) →
      (o : Option (Option Vproc)) → vproc_at bag p ≡ o → IsAnswer nodes rows p job site bag (on_vproc answer p bag (present o)).bag (on_vproc answer p bag (present o)).outcome
  on_vproc_right answer right None e = (one (V p) (ap is_there e) (Itself refl), refl)
    where
      is_there : Option (Option Vproc) → Bool
      is_there None = false
      is_there (Some x) = true
  on_vproc_right answer right (Some None) e = absurd (subst (VprocAgrees rows None) a.there (a.agrees.vprocs p None e))
  on_vproc_right answer right (Some (Some v)) e =
      let of : IsRecordOf rows v a.row = subst (VprocAgrees rows (Some v)) a.there (a.agrees.vprocs p (Some v) e) in
      on_group_right answer v e of (λ g b. right v g b) (group_at bag v.group) refl

  -- what is answered on the records of the process and of its group is an answer, and so is what asks for them
  pub on_base_right : (answer : Vproc → Group → Answered) → ((v : Vproc) (g : Group) → Based rows p own bag a.row v g → IsAnswer nodes rows p job site bag (answer v g).bag (answer v g).outcome) →
      IsAnswer nodes rows p job site bag (on_base answer p bag).bag (on_base answer p bag).outcome
  on_base_right answer right = on_vproc_right answer right (vproc_at bag p) refl

-- a process whose job is another than to look is not stopped
pub not_stopped : (nodes : ℕ) (rows : List Row) (p : Pid) (job : Job) (own : Own) (bag : Bag) (site : Site) → (a : Asks nodes rows p job own bag site) → job ≢ Look → is_stopped a.row.life ≡ false
not_stopped nodes rows p job own bag site a works = go (is_stopped a.row.life) refl
  where
    go : (b : Bool) → is_stopped a.row.life ≡ b → b ≡ false
    go true e = absurd (works (a.looks e))
    go false e = refl

-- a process that calls is not stopped
pub runs_on : (nodes : ℕ) (rows : List Row) (p : Pid) (call : Call) (at : Option NodeId) (own : Own) (bag : Bag) (site : Site) → (a : Asks nodes rows p (Ask call at) own bag site) → is_stopped a.row.life ≡ false
runs_on nodes rows p call at own bag site a = not_stopped nodes rows p (Ask call at) own bag site a (λ e. cc)

-- ---- needs
pub same_name : (n m : Name) → is_name n m ≡ true → m ≡ n
same_name (V p) (V q) e = ap (λ (i : ℕ). V (record { 0 = i })) (sym (eqb-true _ _ e))
same_name (V p) (G g) e = cc
same_name (G g) (V q) e = cc
same_name (G g) (G h) e = ap (λ (i : ℕ). G (record { 0 = i })) (sym (eqb-true _ _ e))

pub own_name : (n : Name) → is_name n n ≡ true
own_name (V p) = eq-eqb p.0 p.0 refl
own_name (G g) = eq-eqb g.0 g.0 refl

among : (P : Name → Type 0) (ns : List Name) → All P ns → (n : Name) → listed n ns ≡ true → P n
among P [] all n e = cc
among P (m ∷ ms) all n e = go (is_name n m) refl e (among P ms (All-tail P m ms all) n)
  where
    go : (b : Bool) → is_name n m ≡ b → (b || listed n ms) ≡ true → (listed n ms ≡ true → P n) → P n
    go true same e rest = subst P (same_name n m same) (All-head P m ms all)
    go false same e rest = rest e

each : (P : Name → Type 0) (ns : List Name) → ((n : Name) → listed n ns ≡ true → P n) → All P ns
each P [] has = All-nil P
each P (n ∷ ns) has = All-cons P n ns (has n (ap (λ b. b || listed n ns) (own_name n))) (each P ns (λ m e. has m (later (is_name m n) (listed m ns) e)))
  where
    later : (a b : Bool) → b ≡ true → (a || b) ≡ true
    later true b e = refl
    later false b e = e

both_true : (a b : Bool) → (a && b) ≡ true → (a ≡ true) × (b ≡ true)
both_true true b e = (refl, e)
both_true false b e = cc

is_false : (b : Bool) → not b ≡ true → b ≡ false
is_false true e = cc
is_false false e = refl

some_long : (ns : List Name) → is_none ns ≡ false → 0 < length ns
some_long [] e = cc
some_long (n ∷ ns) e = omega arith

-- a need of what lacks of a footprint, each name of which is told, asks rightly
pub need_asks : (rows : List Row) (p : Pid) (job : Job) (bag : Bag) (footprint names : List Name) → AreTold rows p job footprint → IsNeed bag footprint names → IsAskedFor rows p job bag names
need_asks rows p job bag footprint names told need = record {
  some = some_long names need.some;
  lacking = each (λ n. is_held bag n ≡ false) names (λ n e. is_false (is_held bag n) (both_true (listed n footprint) (not (is_held bag n)) (sym (need.exact n) ∙ e)).1);
  told = each (λ n. IsNamed rows p job (pid_of n)) names (λ n e. among (λ m. IsNamed rows p job (pid_of m)) footprint told n (both_true (listed n footprint) (not (is_held bag n)) (sym (need.exact n) ∙ e)).0);
}

-- the node to which a job goes is one
pub inside : (nodes : ℕ) (job : Job) (place node : NodeId) → JobGoes nodes job → place.0 < nodes → destination job place ≡ Some node → node.0 < nodes
inside nodes (Ask call named) place node goes here e = by call e
  where
    of : (named : Option NodeId) → JobGoes nodes (Ask call named) → (named_or named place).0 < nodes
    of None goes = here
    of (Some n) goes = goes

    by : (call : Call) → call_destination call named place ≡ Some node → node.0 < nodes
    by Fork e = subst (λ (n : NodeId). n.0 < nodes) (some_same _ _ e) (of named goes)
    by Migrate e = subst (λ (n : NodeId). n.0 < nodes) (some_same _ _ e) (of named goes)
    by _ e = cc
inside nodes Look place node goes here e = cc
inside nodes (Push n) place node goes here e = subst (λ (n : NodeId). n.0 < nodes) (some_same _ _ e) goes

-- what is right by its footprint is an answer
pub right_answers : (nodes : ℕ) (rows : List Row) (p : Pid) (job : Job) (own : Own) (site : Site) (bag left : Bag) (footprint : List Name) (o : Outcome) → Asks nodes rows p job own bag site → AreTold rows p job footprint → IsRight rows p job site bag footprint left o → IsAnswer nodes rows p job site bag left o
right_answers nodes rows p job own site bag left footprint (outcome.Done d) a told right = right
right_answers nodes rows p job own site bag left footprint (outcome.Need names) a told right = (need_asks rows p job bag footprint names told right.0, right.1)
right_answers nodes rows p job own site bag left footprint (outcome.Away k) a told right = (inside nodes job right.1.vproc.loc k a.goes (a.placed right.1.vproc right.1.held) right.1.goes, right.0, right.1)
