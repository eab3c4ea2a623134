-- what the code of an end does to one record
use Rattle.std.proofs.Common.{◌≡◌, ◌==◌, ◌&&◌, ◌≤◌, ◌<◌, ℕ, Bool, true, false, not, List, [], length, sym, ap, ◌∙◌, arith, None, if◌then◌else◌}
use Rattle.std.specs.Prelude.{filter}
use Rattle.unix_names.specs.declared.Pid.{Pid}
use Rattle.unix_names.specs.declared.Life.TheVariants.{Ended}
use Rattle.unix_names.specs.declared.WaitStatus.{WaitStatus}
use Rattle.vproc_record.specs.declared.Vproc.{Vproc}
use Rattle.vproc_record.specs.Vprocs.{without_child}
use Rattle.group_record.specs.declared.Group.{Group}
use Rattle.record_bag.specs.declared.bag.Bag.{Bag}
use Rattle.decide_law.specs.Counts.{is_link_to, is_stopped_to, count_passing}
use Rattle.ops_ending.specs.declared.left_vprocs.End.{End}
use Rattle.ops_ending.specs.MethodEnding.{IsCounted, own_left, later_by, recounted_by}
use Rattle.decide_law.proofs.FewCounts.{few_passing}
use Rattle.ops_ending.proofs.EndCode.{children_left}

-- ---- counts
-- the counts after the end are small where those before it are
pub small_links : (bag : Bag) (near : List Pid) (e : End) (id : Pid) (g : Group) (n : ℕ) → IsCounted g → length near ≤ 65 → n ≡ (recounted_by bag near e id g).links → n < 2000000
small_links bag near e id g n counted few is =
    let before = counted.links in
    let more : count_passing (later_by bag e) (is_link_to (later_by bag e) id) near ≤ length near = few_passing (later_by bag e) (is_link_to (later_by bag e) id) near in
    omega arith

pub small_stopped : (bag : Bag) (near : List Pid) (e : End) (id : Pid) (g : Group) (n : ℕ) → IsCounted g → length near ≤ 65 → n ≡ (recounted_by bag near e id g).stopped → n < 2000000
small_stopped bag near e id g n counted few is =
    let before = counted.stopped in
    let more : count_passing (later_by bag e) (is_stopped_to id) near ≤ length near = few_passing (later_by bag e) (is_stopped_to id) near in
    omega arith

-- ---- processes
pub itself_left : (p : Pid) (vanished : Bool) (w : WaitStatus) (v : Vproc) → (v.pid.0 == p.0) ≡ true → record v { life = Ended w; change = None; children = [] } ≡ own_left p vanished w v
itself_left p vanished w v e = sym (ap (λ (b : Bool). record v { life = if b then Ended w else v.life; change = if b then None else v.change; children = if b then [] else filter (λ c. not ((c.0 == p.0) && vanished)) v.children }) e)

other_left : (p : Pid) (vanished : Bool) (w : WaitStatus) (v : Vproc) → (v.pid.0 == p.0) ≡ false → record v { children = filter (λ c. not ((c.0 == p.0) && vanished)) v.children } ≡ own_left p vanished w v
other_left p vanished w v e = sym (ap (λ (b : Bool). record v { life = if b then Ended w else v.life; change = if b then None else v.change; children = if b then [] else filter (λ c. not ((c.0 == p.0) && vanished)) v.children }) e)

pub waited_not : (p : Pid) (vanished : Bool) (w : WaitStatus) (v : Vproc) → (v.pid.0 == p.0) ≡ false → vanished ≡ true → without_child v p ≡ own_left p vanished w v
waited_not p vanished w v e gone =
    ap (λ (cs : List Pid). record v { children = cs }) (sym (ap (λ (b : Bool). if b then (without_child v p).children else v.children) gone) ∙ sym (children_left p vanished v.children)) ∙ other_left p vanished w v e

pub waited_for : (p : Pid) (vanished : Bool) (w : WaitStatus) (v : Vproc) → (v.pid.0 == p.0) ≡ false → vanished ≡ false → v ≡ own_left p vanished w v
waited_for p vanished w v e stays =
    ap (λ (cs : List Pid). record v { children = cs }) (sym (ap (λ (b : Bool). if b then (without_child v p).children else v.children) stays) ∙ sym (children_left p vanished v.children)) ∙ other_left p vanished w v e
