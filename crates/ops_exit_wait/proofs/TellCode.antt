-- what the code of waitpid writes, one record after another, is one change of what is held
use Rattle.std.proofs.Common.{◌≡◌, refl, sym, ap, ◌∙◌, subst, Option, None, Some, IsSome}
use Rattle.std.specs.Option.{option_map}
use Rattle.list_laws.proofs.Filters.{map-map, map-id}
use Rattle.unix_names.specs.declared.Pid.{Pid}
use Rattle.vproc_record.specs.declared.Vproc.{Vproc}
use Rattle.vproc_record.specs.Vprocs.{without_child}
use Rattle.ordered_table.specs.declared.Entry.{Entry}
use Rattle.ordered_table.specs.Entries.{with_each}
use Rattle.ordered_table.proofs.MapLaws.{with_each-at}
use Rattle.record_bag.specs.declared.bag.Bag.{Bag}
use Rattle.decide_law.specs.Agrees.{vproc_at, group_at}
use Rattle.decide_law.specs.Effects.{only, same, changed}
use Rattle.ops_exit_wait.specs.Waitpid.{reported, leaves, taken_vproc}

-- a change of processes keeps what is held
pub vproc_kept : (f : Pid → Option Vproc → Option Vproc) (bag b : Bag) (q : Pid) → b ≡ record bag { vprocs = with_each f bag.vprocs } → IsSome (vproc_at bag q) → IsSome (vproc_at b q)
vproc_kept f bag b q is h = subst (λ (x : Bag). IsSome (vproc_at x q)) (sym is) (subst IsSome (sym (with_each-at f bag.vprocs q)) (go (vproc_at bag q) h))
  where
    go : (o : Option (Option Vproc)) → IsSome o → IsSome (option_map (f q) o)
    go None e = e
    go (Some x) e = refl

pub group_kept : (f : Pid → Option Vproc → Option Vproc) (bag b : Bag) (q : Pid) → b ≡ record bag { vprocs = with_each f bag.vprocs } → IsSome (group_at bag q) → IsSome (group_at b q)
group_kept f bag b q is h = subst (λ (x : Bag). IsSome (group_at x q)) (sym is) h

pub take_whole : (p c id : Pid) (bag dropped gone left : Bag) → dropped ≡ record bag { vprocs = with_each (only p (option_map (λ v. without_child v c))) bag.vprocs } → gone ≡ record dropped { vprocs = with_each (only c (λ x. None)) dropped.vprocs } →
    left ≡ record gone { groups = with_each (only id (leaves c)) gone.groups } → left ≡ changed (taken_vproc p c) (only id (leaves c)) bag
take_whole p c id bag dropped gone left is then_gone then_left =
    then_left
    ∙ ap (λ (b : Bag). record b { groups = with_each (only id (leaves c)) b.groups }) (then_gone ∙ ap (λ (b : Bag). record b { vprocs = with_each (only c (λ x. None)) b.vprocs }) is)
    ∙ ap (λ vs. record { vprocs = vs; groups = with_each (only id (leaves c)) bag.groups }) (map-map (λ (e : Entry (Option Vproc)). record { pid = e.pid; value = only c (λ x. None) e.pid e.value }) (λ (e : Entry (Option Vproc)). record { pid = e.pid; value = only p (option_map (λ v. without_child v c)) e.pid e.value }) bag.vprocs)

pub change_whole : (c : Pid) (bag left : Bag) → left ≡ record bag { vprocs = with_each (only c (option_map reported)) bag.vprocs } → left ≡ changed (only c (option_map reported)) same bag
change_whole c bag left is = is ∙ ap (λ gs. record { vprocs = with_each (only c (option_map reported)) bag.vprocs; groups = gs }) (sym (map-id bag.groups))
