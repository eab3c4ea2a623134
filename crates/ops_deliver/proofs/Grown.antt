-- what is held of a process and its parent, and a log that grows
use Rattle.std.proofs.Common.{◌≡◌, ◌==◌, ◌++◌, ◌≤◌, ℕ, Bool, true, false, List, [], ◌∷◌, length, length-append, refl, sym, ap, ◌∙◌, subst, arith, Option, None, Some, inl, inr, ◌⊎◌}
use Rattle.std.specs.Prelude.{map, filter, is_some}
use Rattle.std.proofs.lemmas.Bool.{eqb-true, eqb-false, ne_eqb, eq-eqb}
use Rattle.std.proofs.lemmas.List.{map-append, drop-append-le}
use Rattle.std.proofs.lemmas.List.Elements.{filter-append}
use Rattle.unix_names.specs.declared.Pid.{Pid}
use Rattle.unix_names.specs.declared.Signal.{Signal}
use Rattle.signal_state.specs.Signals.{Signals}
use Rattle.signal_state.specs.Sig.{generated, generated_all}
use Rattle.vproc_record.specs.declared.Vproc.{Vproc}
use Rattle.group_record.specs.declared.LogEntry.{LogEntry}
use Rattle.group_record.specs.declared.Group.{Group}
use Rattle.group_record.specs.Members.{from_of}
use Rattle.group_record.specs.Log.{concerns, log_part}
use Rattle.record_bag.specs.declared.bag.Bag.{Bag}
use Rattle.record_bag.specs.Bags.{present, vproc_in}
use Rattle.process_table.specs.declared.Row.{Row}
use Rattle.process_table.specs.Rows.{row_of}
use Rattle.decide_law.specs.Agrees.{vproc_at, group_at, VprocAgrees, Agrees}
use Rattle.decide_law.specs.Footprints.{group_shown, with_group}
use Rattle.decide_law.specs.Parts.{EachHeld}
use Rattle.decide_law.proofs.Records.{pid_same}

-- ---- what is held
-- a process of which the record and its group are held
pub record HoldsBoth (bag : Bag) (q : Pid) : Type 0 where
  pub vproc : Vproc
  pub held : vproc_at bag q ≡ Some (Some vproc)
  pub group : is_some (group_at bag vproc.group) ≡ true

pub both_held : (rows : List Row) (bag : Bag) (q : Pid) → Agrees bag rows → EachHeld bag (with_group bag q) → (row_of rows q ≡ None) ⊎ HoldsBoth bag q
both_held rows bag q a h = go (vproc_at bag q) refl h.0 h.1
  where
    none : (o : Option Row) → VprocAgrees rows None o → o ≡ None
    none None k = refl
    none (Some c) k = absurd k

    go : (o : Option (Option Vproc)) → vproc_at bag q ≡ o → is_some (vproc_at bag q) ≡ true → EachHeld bag (group_shown (vproc_in bag q)) → (row_of rows q ≡ None) ⊎ HoldsBoth bag q
    go None e s k = let n : is_some (vproc_at bag q) ≡ false = ap is_some e in absurd cc
    go (Some None) e s k = inl (none (row_of rows q) (a.vprocs q None e))
    go (Some (Some u)) e s k = inr (record { vproc = u; held = e; group = (subst (λ (h : Option Vproc). EachHeld bag (group_shown h)) (ap present e) k).0 })

-- a group that is held is not one that isn't
pub in_other : (bag : Bag) (id g : Pid) → group_at bag id ≡ None → is_some (group_at bag g) ≡ true → (g.0 == id.0) ≡ false
in_other bag id g none held = ne_eqb _ _ (λ e. let h : is_some (group_at bag id) ≡ true = ap (λ (q : Pid). is_some (group_at bag q)) (pid_same id g (sym e)) ∙ held in let n : is_some (group_at bag id) ≡ false = ap is_some none in cc)

-- ---- logs
-- what is ignored stays so
pub ignored_all : (x : Signals) (ss : List Signal) → (generated_all x ss).ignored ≡ x.ignored
unfolding generated
ignored_all x [] = refl
ignored_all x (s ∷ ss) = ignored_all (generated x s) ss

pub longer : (n : ℕ) (l m : List LogEntry) → n ≤ length l → n ≤ length (l ++ m)
longer n l m h = simp length-append (omega arith)

-- the part of a log that grew, where the member's beginning stays
pub part_grown : (p : Pid) (uid : ℕ) (g g' : Group) (new : List LogEntry) → g'.log ≡ g.log ++ new → from_of g'.members p ≡ from_of g.members p → from_of g.members p ≤ length g.log →
    log_part p uid g' ≡ log_part p uid g ++ map (λ e. e.signal) (filter (concerns p uid) new)
part_grown p uid g g' new log from small = rw (from, log, drop-append-le (from_of g.members p) g.log new small, filter-append, map-append)

pub flip : (a b : ℕ) → (a == b) ≡ (b == a)
flip a b = go (a == b) refl
  where
    go : (t : Bool) → (a == b) ≡ t → t ≡ (b == a)
    go true e = sym (eq-eqb _ _ (sym (eqb-true _ _ e)))
    go false e = sym (ne_eqb _ _ (λ h. eqb-false _ _ e (sym h)))
