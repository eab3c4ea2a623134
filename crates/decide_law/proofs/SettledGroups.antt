-- what is read of a group once a process was settled
use Rattle.std.proofs.Common.{◌≡◌, ◌==◌, ℕ, length, Bool, true, false, cond, not, refl, ap, ◌∙◌, Option, None, Some}
use Rattle.std.specs.Option.{option_map}
use Rattle.list_laws.proofs.Filters.{views-map}
use Rattle.unix_names.specs.declared.Pid.{Pid}
use Rattle.group_record.specs.declared.Member.{Member}
use Rattle.group_record.specs.declared.Group.{Group}
use Rattle.group_record.specs.Groups.{settled}
use Rattle.group_record.specs.Members.{begun_at}
use Rattle.group_record.proofs.MemberLaws.{begun_at-number}
use Rattle.record_bag.specs.declared.bag.Bag.{Bag}
use Rattle.record_bag.specs.Bags.{present, group_in}
use Rattle.decide_law.specs.Agrees.{group_at}
use Rattle.decide_law.specs.Effects.{only, emptied, settled_for, settled_in}
use Rattle.decide_law.specs.Nudges.{others_of}
use Rattle.decide_law.proofs.Changes.{group_changed}

pub group_seen : (p id : Pid) (bag : Bag) (q : Pid) → group_in (settled_in p id bag) q ≡ only id (option_map (settled_for p)) q (group_in bag q)
group_seen p id bag q = ap present (group_changed (only p (option_map emptied)) (only id (option_map (settled_for p))) bag q) ∙ go (group_at bag q)
  where
    none : (b : Bool) (h : Option Group) → h ≡ None → h ≡ cond b (option_map (settled_for p) h) h
    none true None e = refl
    none true (Some g) e = cc
    none false h e = refl

    go : (o : Option (Option Group)) → present (option_map (only id (option_map (settled_for p)) q) o) ≡ only id (option_map (settled_for p)) q (present o)
    go None = none (q.0 == id.0) None refl
    go (Some h) = refl

-- a view of a group that does not see where the process's part of the log begins
pub group_view_same : {Y : Type 0} (view : Option Group → Y) (p id : Pid) (bag : Bag) (q : Pid) → ((h : Option Group) → view (option_map (settled_for p) h) ≡ view h) → view (group_in (settled_in p id bag) q) ≡ view (group_in bag q)
group_view_same view p id bag q e = ap view (group_seen p id bag q) ∙ go (q.0 == id.0)
  where
    go : (b : Bool) → view (cond b (option_map (settled_for p) (group_in bag q)) (group_in bag q)) ≡ view (group_in bag q)
    go true = e (group_in bag q)
    go false = refl

-- the other members are the same
begun_pid : (from : ℕ) (p : Pid) (m : Member) → (begun_at from p m).pid ≡ m.pid
begun_pid from p m = ap (λ (n : ℕ). record { 0 = n }) (begun_at-number from p m)

pub others_settled : (p q : Pid) (g : Group) → others_of q (settled g p).members ≡ others_of q g.members
others_settled p q g = views-map (λ (m : Member). m.pid) (λ (m : Member). not (m.pid.0 == q.0)) (begun_at (length g.log) p) (λ m. ap (λ (r : Pid). not (r.0 == q.0)) (begun_pid (length g.log) p m)) (λ m. begun_pid (length g.log) p m) g.members
