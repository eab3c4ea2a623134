-- counts of groups are small: no more than the processes that are gone through, or than the rows
use Rattle.std.proofs.Common.{◌≡◌, ◌<◌, ◌≤◌, ℕ, Bool, true, false, cond, List, [], ◌∷◌, length, refl, arith, Option, None, Some}
use Rattle.std.specs.Prelude.{filter}
use Rattle.unix_names.specs.declared.Pid.{Pid}
use Rattle.vproc_record.specs.declared.Vproc.{Vproc}
use Rattle.group_record.specs.declared.Group.{Group}
use Rattle.record_bag.specs.declared.bag.Bag.{Bag}
use Rattle.record_bag.specs.Bags.{present, vproc_in, group_in}
use Rattle.process_table.specs.declared.Row.{Row}
use Rattle.decide_law.specs.Agrees.{group_at, IsGroupOf, Agrees, links_in, stopped_in}
use Rattle.decide_law.specs.Counts.{passes, count_passing}
use Rattle.decide_law.proofs.Shell.{group_is}

few_pass : {X : Type 0} (test : X → Bool) (xs : List X) → length (filter test xs) ≤ length xs
few_pass test [] = omega arith
few_pass test (x ∷ xs) = go (test x) (few_pass test xs)
  where
    go : (b : Bool) → length (filter test xs) ≤ length xs → length (cond b (x ∷ filter test xs) (filter test xs)) ≤ length (x ∷ xs)
    go true h = omega arith
    go false h = omega arith

-- no more pass than are gone through
pub few_passing : (bag : Bag) (test : Vproc → Bool) (near : List Pid) → count_passing bag test near ≤ length near
few_passing bag test near = few_pass (λ q. passes test (vproc_in bag q)) near

pub few_counted : (bag : Bag) (test : Vproc → Bool) (near : List Pid) (n : ℕ) → n ≡ count_passing bag test near → length near ≤ 65 → n ≤ 65
few_counted bag test near n is few = let h = few_passing bag test near in omega arith

-- the counts of a group of the table
pub few_counts : (rows : List Row) (id : Pid) (g : Group) → length rows < 1000000 → IsGroupOf rows id g → (g.links < 1000000) × (g.stopped < 1000000)
few_counts rows id g few is =
    let links = is.links in
    let stopped = is.stopped in
    let a : links_in rows id ≤ length rows = few_pass _ rows in
    let b : stopped_in rows id ≤ length rows = few_pass _ rows in
    (omega arith, omega arith)

-- what is so of each group of the table is so of what is held
pub held_group : (P : Option Group → Type 0) (rows : List Row) (bag : Bag) (id : Pid) → P None → ((g : Group) → IsGroupOf rows id g → P (Some g)) → Agrees bag rows → P (group_in bag id)
held_group P rows bag id none each a = go (group_at bag id) refl
  where
    go : (o : Option (Option Group)) → group_at bag id ≡ o → P (present o)
    go None e = none
    go (Some None) e = none
    go (Some (Some g)) e = each g (group_is rows bag id g a e)
