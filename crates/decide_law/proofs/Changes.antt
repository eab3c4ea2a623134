-- what is found after a change of all that is held
use Rattle.std.proofs.Common.{◌≡◌, ◌≢◌, List, refl, sym, ap, ◌∙◌, subst, Option, None, Some}
use Rattle.std.specs.Option.{option_map}
use Rattle.list_laws.proofs.Filters.{some_same}
use Rattle.unix_names.specs.declared.Pid.{Pid}
use Rattle.vproc_record.specs.declared.Vproc.{Vproc}
use Rattle.group_record.specs.declared.Group.{Group}
use Rattle.ordered_table.proofs.MapLaws.{with_each-at, pids-with_each}
use Rattle.record_bag.specs.declared.bag.Bag.{Bag}
use Rattle.process_table.specs.declared.Row.{Row}
use Rattle.process_table.specs.Rows.{row_of}
use Rattle.decide_law.specs.Agrees.{vproc_at, group_at, VprocAgrees, GroupAgrees, Agrees}
use Rattle.decide_law.specs.Law.{SameNames}
use Rattle.decide_law.specs.Effects.{only, changed}
use Rattle.decide_law.proofs.Records.{only_same, only_other}

pub vproc_changed : (f : Pid → Option Vproc → Option Vproc) (g : Pid → Option Group → Option Group) (bag : Bag) (q : Pid) → vproc_at (changed f g bag) q ≡ option_map (f q) (vproc_at bag q)
vproc_changed f g bag q = with_each-at f bag.vprocs q

pub group_changed : (f : Pid → Option Vproc → Option Vproc) (g : Pid → Option Group → Option Group) (bag : Bag) (q : Pid) → group_at (changed f g bag) q ≡ option_map (g q) (group_at bag q)
group_changed f g bag q = with_each-at g bag.groups q

-- a change under one id
pub only_at_same : {T : Type 0} (p : Pid) (f : T → T) (q : Pid) (o : Option T) → q.0 ≡ p.0 → option_map (only p f q) o ≡ option_map f o
only_at_same p f q None e = refl
only_at_same p f q (Some x) e = ap Some (only_same p f q x e)

pub only_at_other : {T : Type 0} (p : Pid) (f : T → T) (q : Pid) (o : Option T) → q.0 ≢ p.0 → option_map (only p f q) o ≡ o
only_at_other p f q None e = refl
only_at_other p f q (Some x) e = ap Some (only_other p f q x e)

pub mapped_none : {T : Type 0} (f : T → T) (o : Option T) → o ≡ None → option_map f o ≡ None
mapped_none f o e = ap (option_map f) e

-- a change keeps the names
pub names_changed : (f : Pid → Option Vproc → Option Vproc) (g : Pid → Option Group → Option Group) (bag : Bag) → SameNames bag (changed f g bag)
names_changed f g bag = record { vprocs = pids-with_each f bag.vprocs; groups = pids-with_each g bag.groups }

-- a change that keeps agreement under each id
pub agrees_changed : (rows later : List Row) (f : Pid → Option Vproc → Option Vproc) (g : Pid → Option Group → Option Group) (bag : Bag) → Agrees bag rows →
    ((q : Pid) (h : Option Vproc) → vproc_at bag q ≡ Some h → VprocAgrees later (f q h) (row_of later q)) →
    ((id : Pid) (h : Option Group) → group_at bag id ≡ Some h → GroupAgrees later id (g id h)) → Agrees (changed f g bag) later
agrees_changed rows later f g bag a fv fg = record {
  vprocs = λ q h e. vs q h (vproc_at bag q) refl (sym (vproc_changed f g bag q) ∙ e);
  groups = λ q h e. gs q h (group_at bag q) refl (sym (group_changed f g bag q) ∙ e);
}
  where
    vs : (q : Pid) (h : Option Vproc) (o : Option (Option Vproc)) → vproc_at bag q ≡ o → option_map (f q) o ≡ Some h → VprocAgrees later h (row_of later q)
    vs q h None e m = cc
    vs q h (Some x) e m = subst (λ (y : Option Vproc). VprocAgrees later y (row_of later q)) (some_same _ _ m) (fv q x e)

    gs : (q : Pid) (h : Option Group) (o : Option (Option Group)) → group_at bag q ≡ o → option_map (g q) o ≡ Some h → GroupAgrees later q h
    gs q h None e m = cc
    gs q h (Some x) e m = subst (GroupAgrees later q) (some_same _ _ m) (fg q x e)
