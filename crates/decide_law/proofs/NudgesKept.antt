-- settling and trimming change nobody who is nudged
use Rattle.std.proofs.Common.{◌≡◌, ◌==◌, ◌++◌, ℕ, Bool, true, false, not, List, [], ◌∷◌, map, filter, cond, refl, sym, ap, ◌∙◌, Option, None, Some}
use Rattle.std.specs.Prelude.{flat_map}
use Rattle.std.specs.Option.{option_map}
use Rattle.unix_names.specs.declared.Pid.{Pid}
use Rattle.unix_names.specs.declared.Signal.{Signal}
use Rattle.unix_calls.specs.declared.Call.{Call}
use Rattle.unix_calls.specs.declared.Call.TheVariants as calls
use Rattle.unix_calls.specs.declared.Reply.{Reply}
use Rattle.unix_calls.specs.declared.Reply.TheVariants as replies
use Rattle.unix_calls.specs.declared.Event.{Event}
use Rattle.unix_calls.specs.declared.Event.TheVariants as events
use Rattle.unix_calls.specs.declared.Entry.{Entry}
use Rattle.unix_calls.specs.declared.Entry.TheVariants.{Called, Happened}
use Rattle.unix_calls.specs.declared.Target.{Target}
use Rattle.unix_calls.specs.declared.Target.TheVariants.{OwnGroup, One, InGroup}
use Rattle.unix_calls.specs.Calls.{target_of}
use Rattle.unix_names.specs.Signals.{signal_of}
use Rattle.group_record.specs.declared.Member.{Member}
use Rattle.group_record.specs.declared.Group.{Group}
use Rattle.group_record.specs.Members.{lowered, begun_at}
use Rattle.group_record.specs.Groups.{spare, trimmed}
use Rattle.ordered_table.specs.declared.Entry.{Entry as Held}
use Rattle.ordered_table.specs.Entries.{with_each}
use Rattle.record_bag.specs.declared.bag.Bag.{Bag}
use Rattle.record_bag.specs.Bags.{present, group_in}
use Rattle.process_table.specs.declared.Row.{Row}
use Rattle.process_table.specs.Rows.{row_of}
use Rattle.kernel_rules.specs.Orphans.{is_newly_orphaned}
use Rattle.decide_law.specs.Agrees.{group_at}
use Rattle.decide_law.specs.Nudges.{others_of, others_in, own_group, target_nudges, signal_nudges, orphan_nudges, end_nudges, fine_nudges, last_nudges, call_nudges, event_nudges, parent_of_row, nudges_of}
use Rattle.decide_law.specs.Effects.{only, emptied, settled_for, settled_in, trimmed_in}
use Rattle.decide_law.proofs.Changes.{group_changed}

-- ---- by what the list depends on
-- two bags that list the same others in each group
abbrev pub SameOthers : Pid → Bag → Bag → Type 0
SameOthers p b c = (id : Pid) → others_in p (group_in c id) ≡ others_in p (group_in b id)

-- two bags that give the same list after an end
abbrev pub SameOrphans : List Row → List Row → Pid → Bag → Bag → Type 0
SameOrphans rows now p b c = flat_map (orphan_nudges rows now p) c.groups ≡ flat_map (orphan_nudges rows now p) b.groups

module _ (rows now : List Row) (p : Pid) (before before' left left' : Bag) (same : SameOthers p before before') (orphans : SameOrphans rows now p left left') where
  target_kept : (target : Target) → target_nudges rows p before' target ≡ target_nudges rows p before target
  target_kept OwnGroup = go (row_of rows p)
    where
      go : (o : Option Row) → others_in p (own_group before' o) ≡ others_in p (own_group before o)
      go None = refl
      go (Some r) = same r.group
  target_kept (One t) = refl
  target_kept (InGroup g) = same g

  signal_kept : (target : Target) (s : Option Signal) → signal_nudges rows p before' target s ≡ signal_nudges rows p before target s
  signal_kept target None = refl
  signal_kept target (Some s) = target_kept target

  end_kept : end_nudges rows now p left' ≡ end_nudges rows now p left
  end_kept = ap (λ l. parent_of_row (row_of rows p) ++ l) orphans

  fine_kept : (call : Call) → fine_nudges rows now p before' call ≡ fine_nudges rows now p before call
  fine_kept (calls.Kill target s) = signal_kept (target_of target) (signal_of s)
  fine_kept (calls.Setpgid t q) = refl
  fine_kept calls.Getpid = refl
  fine_kept calls.Getppid = refl
  fine_kept (calls.Getpgid t) = refl
  fine_kept (calls.Getsid t) = refl
  fine_kept calls.Fork = refl
  fine_kept calls.Exec = refl
  fine_kept (calls.Exit n) = refl
  fine_kept (calls.Waitpid sel stopped continued) = refl
  fine_kept calls.Setsid = refl
  fine_kept (calls.Action s act) = refl
  fine_kept (calls.Mask set) = refl
  fine_kept calls.Pending = refl
  fine_kept calls.Migrate = refl

  last_kept : (call : Call) → last_nudges rows now p left' call ≡ last_nudges rows now p left call
  last_kept (calls.Exit n) = end_kept
  last_kept (calls.Kill target s) = refl
  last_kept (calls.Setpgid t q) = refl
  last_kept calls.Getpid = refl
  last_kept calls.Getppid = refl
  last_kept (calls.Getpgid t) = refl
  last_kept (calls.Getsid t) = refl
  last_kept calls.Fork = refl
  last_kept calls.Exec = refl
  last_kept (calls.Waitpid sel stopped continued) = refl
  last_kept calls.Setsid = refl
  last_kept (calls.Action s act) = refl
  last_kept (calls.Mask set) = refl
  last_kept calls.Pending = refl
  last_kept calls.Migrate = refl

  call_kept : (reply : Reply) (call : Call) → call_nudges rows now p before' left' reply call ≡ call_nudges rows now p before left reply call
  call_kept replies.Fine call = fine_kept call
  call_kept (replies.Number n) call = refl
  call_kept replies.NoReply call = last_kept call
  call_kept (replies.Set set) call = refl
  call_kept (replies.Child c w) call = refl
  call_kept replies.Again call = refl
  call_kept (replies.Refused e) call = refl

  event_kept : (event : Event) → event_nudges rows now p left' event ≡ event_nudges rows now p left event
  event_kept (events.Caught s) = refl
  event_kept (events.Discarded s) = refl
  event_kept (events.StoppedBy s) = refl
  event_kept (events.EndedBy s) = end_kept
  event_kept events.Continued = refl
  event_kept events.Moved = refl

  pub nudges_same : (e : Option Entry) → nudges_of rows now p before' left' e ≡ nudges_of rows now p before left e
  nudges_same None = refl
  nudges_same (Some (Called q call reply)) = call_kept reply call
  nudges_same (Some (Happened q event)) = event_kept event

-- ---- members that are changed, but not which they are
others_map : (p : Pid) (f : Member → Member) → ((m : Member) → (f m).pid ≡ m.pid) → (ms : List Member) → others_of p (map f ms) ≡ others_of p ms
others_map p f keeps [] = refl
others_map p f keeps (m ∷ ms) = step (f m).pid m.pid (keeps m) (others_map p f keeps ms)
  where
    pick : (a : Bool) (x : Member) (l : List Member) → map (λ (y : Member). y.pid) (cond a (x ∷ l) l) ≡ cond a (x.pid ∷ map (λ (y : Member). y.pid) l) (map (λ (y : Member). y.pid) l)
    pick true x l = refl
    pick false x l = refl

    step : (a b : Pid) → a ≡ b → others_of p (map f ms) ≡ others_of p ms →
        map (λ (y : Member). y.pid) (cond (not ((f m).pid.0 == p.0)) (f m ∷ filter (λ (y : Member). not (y.pid.0 == p.0)) (map f ms)) (filter (λ (y : Member). not (y.pid.0 == p.0)) (map f ms)))
        ≡ map (λ (y : Member). y.pid) (cond (not (m.pid.0 == p.0)) (m ∷ filter (λ (y : Member). not (y.pid.0 == p.0)) ms) (filter (λ (y : Member). not (y.pid.0 == p.0)) ms))
    step a b is rest =
        pick (not ((f m).pid.0 == p.0)) (f m) (filter (λ (y : Member). not (y.pid.0 == p.0)) (map f ms)) ∙ ap (λ (q : Pid). cond (not (q.0 == p.0)) (q ∷ others_of p (map f ms)) (others_of p (map f ms))) (keeps m) ∙ ap (λ l. cond (not (m.pid.0 == p.0)) (m.pid ∷ l) l) rest
        ∙ sym (pick (not (m.pid.0 == p.0)) m (filter (λ (y : Member). not (y.pid.0 == p.0)) ms))

others_begun : (q : Pid) (from : ℕ) (p : Pid) (ms : List Member) → others_of q (map (begun_at from p) ms) ≡ others_of q ms
others_begun q from p ms = others_map q (begun_at from p) (λ m. go m (m.pid.0 == p.0)) ms
  where
    go : (m : Member) (b : Bool) → (cond b (record m { from = from }) m).pid ≡ m.pid
    go m true = refl
    go m false = refl

settled_others : (q p : Pid) (h : Option Group) → others_in q (option_map (settled_for p) h) ≡ others_in q h
settled_others q p None = refl
settled_others q p (Some g) = others_begun q _ p g.members

trimmed_others : (q : Pid) (h : Option Group) → others_in q (option_map trimmed h) ≡ others_in q h
trimmed_others q None = refl
trimmed_others q (Some g) = others_map q (lowered (spare g)) (λ m. refl) g.members

only_others : (q : Pid) (f : Option Group → Option Group) → ((h : Option Group) → others_in q (f h) ≡ others_in q h) → (id i : Pid) (h : Option Group) → others_in q (only id f i h) ≡ others_in q h
only_others q f keeps id i h = go (i.0 == id.0)
  where
    go : (b : Bool) → others_in q (cond b (f h) h) ≡ others_in q h
    go true = keeps h
    go false = refl

-- ---- settling and trimming
pub settling_others : (q p id : Pid) (bag : Bag) → SameOthers q bag (settled_in p id bag)
settling_others q p id bag i = ap (λ o. others_in q (present o)) (group_changed (only p (option_map emptied)) (only id (option_map (settled_for p))) bag i) ∙ go (group_at bag i)
  where
    go : (o : Option (Option Group)) → others_in q (present (option_map (only id (option_map (settled_for p)) i) o)) ≡ others_in q (present o)
    go None = refl
    go (Some h) = only_others q (option_map (settled_for p)) (settled_others q p) id i h

trimming_groups : (rows now : List Row) (q id : Pid) (es : List (Held (Option Group))) → flat_map (orphan_nudges rows now q) (with_each (only id (option_map trimmed)) es) ≡ flat_map (orphan_nudges rows now q) es
trimming_groups rows now q id [] = refl
trimming_groups rows now q id (e ∷ es) = ap (λ l. cond (is_newly_orphaned rows now e.pid) l [] ++ flat_map (orphan_nudges rows now q) (with_each (only id (option_map trimmed)) es)) (only_others q (option_map trimmed) (trimmed_others q) id e.pid e.value)
    ∙ ap (λ l. cond (is_newly_orphaned rows now e.pid) (others_in q e.value) [] ++ l) (trimming_groups rows now q id es)

pub trimming_orphans : (rows now : List Row) (q id : Pid) (bag : Bag) → SameOrphans rows now q bag (trimmed_in id bag)
trimming_orphans rows now q id bag = trimming_groups rows now q id bag.groups
