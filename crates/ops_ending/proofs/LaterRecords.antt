-- what is told of the records of processes after the end, from those before it
use Rattle.std.proofs.Common.{◌≡◌, Bool, refl, sym, ap, ◌∙◌, Option, None, Some}
use Rattle.std.specs.Option.{option_map}
use Rattle.list_laws.specs.Keyed.{option_filter}
use Rattle.unix_names.specs.declared.Pid.{Pid}
use Rattle.vproc_record.specs.declared.Vproc.{Vproc}
use Rattle.ordered_table.specs.Entries.{value_at}
use Rattle.ordered_table.proofs.MapLaws.{with_each-at}
use Rattle.record_bag.specs.declared.bag.Bag.{Bag}
use Rattle.record_bag.specs.Bags.{present, vproc_in}
use Rattle.decide_law.specs.Counts.{passes}
use Rattle.ops_ending.specs.declared.left_vprocs.End.{End}
use Rattle.ops_ending.specs.Ending.{ended_vproc}
use Rattle.ops_ending.specs.MethodEnding.{stays, left_by, later_by}

later_vproc : (bag : Bag) (e : End) (q : Pid) → vproc_in (later_by bag e) q ≡ ended_vproc e.pid e.vanishes e.status q (vproc_in bag q)
later_vproc bag e q = ap present (with_each-at (ended_vproc e.pid e.vanishes e.status) bag.vprocs q) ∙ go (value_at bag.vprocs q)
  where
    go : (o : Option (Option Vproc)) → present (option_map (ended_vproc e.pid e.vanishes e.status q) o) ≡ ended_vproc e.pid e.vanishes e.status q (present o)
    go None = refl
    go (Some h) = refl

-- what is told of the record that stays
pub told_later : (bag : Bag) (e : End) (q : Pid) (test : Vproc → Bool) (o : Option Vproc) (r : Bool) → o ≡ option_filter (stays e) (vproc_in bag q) → r ≡ passes (λ v. test (left_by e v)) o → r ≡ passes test (vproc_in (later_by bag e) q)
told_later bag e q test o r staying told = told ∙ go o ∙ ap (λ (x : Option Vproc). passes test (option_map (left_by e) x)) staying ∙ ap (passes test) (sym (later_vproc bag e q))
  where
    go : (o : Option Vproc) → passes (λ v. test (left_by e v)) o ≡ passes test (option_map (left_by e) o)
    go None = refl
    go (Some v) = refl
