-- settling changes nothing that a footprint is read from
use Rattle.std.proofs.Common.{◌≡◌, ◌==◌, ◌||◌, ◌++◌, ℕ, ℤ, pos, negsuc, Bool, true, false, cond, not, List, [], ◌∷◌, refl, ap, ◌∙◌, Option, None, Some}
use Rattle.std.specs.Prelude.{flat_map, is_some, find, if◌then◌else◌}
use Rattle.std.specs.Option.{option_map}
use Rattle.unix_names.specs.declared.Pid.{Pid}
use Rattle.unix_names.specs.declared.Name.{Name}
use Rattle.unix_names.specs.declared.Name.TheVariants.{V, G}
use Rattle.unix_names.specs.declared.Errno.{Errno}
use Rattle.unix_calls.specs.declared.Selector.{Selector}
use Rattle.unix_calls.specs.declared.Selector.TheVariants as selector
use Rattle.unix_calls.specs.declared.Target.{Target}
use Rattle.unix_calls.specs.declared.Target.TheVariants.{OwnGroup, One, InGroup}
use Rattle.vproc_record.specs.declared.Vproc.{Vproc}
use Rattle.record_bag.specs.declared.bag.Bag.{Bag}
use Rattle.record_bag.specs.Bags.{is_held, present, vproc_in}
use Rattle.process_table.specs.Rows.{is_same}
use Rattle.kernel_rules.specs.Kill.{is_sendable}
use Rattle.decide_law.specs.Agrees.{vproc_at, group_at}
use Rattle.decide_law.specs.Counts.{passes}
use Rattle.decide_law.specs.Effects.{only, emptied, settled_for, settled_in}
use Rattle.decide_law.specs.Told.{target_pid, wanted_group, has_child, target_in, early_refusal, is_ready, record_in, first_child}
use Rattle.decide_law.specs.Footprints.{living_group_shown, with_living_group, living_children_footprint, parent_name, move_footprint_of, setpgid_footprint, selected_footprint, ended_group_shown, lacking, is_none, wait_footprint, target_footprint, kill_footprint, group_shown, with_group, parent_footprint, children_footprint, end_footprint, setsid_rest, call_footprint}
use Rattle.decide_law.proofs.ByName.{held_same_names}
use Rattle.decide_law.proofs.Changes.{vproc_changed, names_changed, group_changed}
use Rattle.group_record.specs.declared.Group.{Group}
use Rattle.unix_calls.specs.declared.Call.{Call}
use Rattle.unix_calls.specs.declared.Call.TheVariants as calls
use Rattle.unix_calls.specs.Calls.{target_of, selector_of}

-- ---- what is there
pub seen : (p id : Pid) (bag : Bag) (q : Pid) → vproc_in (settled_in p id bag) q ≡ only p (option_map emptied) q (vproc_in bag q)
seen p id bag q = ap present (vproc_changed (only p (option_map emptied)) (only id (option_map (settled_for p))) bag q) ∙ go (vproc_at bag q)
  where
    none : (b : Bool) (h : Option Vproc) → h ≡ None → h ≡ cond b (option_map emptied h) h
    none true None e = refl
    none true (Some u) e = cc
    none false h e = refl

    go : (o : Option (Option Vproc)) → present (option_map (only p (option_map emptied) q) o) ≡ only p (option_map emptied) q (present o)
    go None = none (q.0 == p.0) None refl
    go (Some h) = refl

-- a view of a record that does not see the backlog
blind : {Y : Type 0} (view : Option Vproc → Y) (p q : Pid) (h : Option Vproc) → view (option_map emptied h) ≡ view h → view (only p (option_map emptied) q h) ≡ view h
blind view p q h e = go (q.0 == p.0)
  where
    go : (b : Bool) → view (cond b (option_map emptied h) h) ≡ view h
    go true = e
    go false = refl

pub view_same : {Y : Type 0} (view : Option Vproc → Y) (p id : Pid) (bag : Bag) (q : Pid) → ((h : Option Vproc) → view (option_map emptied h) ≡ view h) → view (vproc_in (settled_in p id bag) q) ≡ view (vproc_in bag q)
view_same view p id bag q e = ap view (seen p id bag q) ∙ blind view p q (vproc_in bag q) (e (vproc_in bag q))

living_blind : (h : Option Vproc) → living_group_shown (option_map emptied h) ≡ living_group_shown h
living_blind None = refl
living_blind (Some u) = refl

flat_same : {X Y : Type 0} (f g : X → List Y) (xs : List X) → ((x : X) → f x ≡ g x) → flat_map f xs ≡ flat_map g xs
flat_same f g [] e = refl
flat_same f g (x ∷ xs) e = ap (λ l. l ++ flat_map f xs) (e x) ∙ ap (λ l. g x ++ l) (flat_same f g xs e)

with_living_same : (p id : Pid) (bag : Bag) (q : Pid) → with_living_group (settled_in p id bag) q ≡ with_living_group bag q
with_living_same p id bag q = ap (λ l. V q ∷ l) (view_same living_group_shown p id bag q living_blind)

children_same : (p id : Pid) (bag : Bag) (u : Vproc) → living_children_footprint (settled_in p id bag) u ≡ living_children_footprint bag u
children_same p id bag u = flat_same (with_living_group (settled_in p id bag)) (with_living_group bag) u.children (λ q. with_living_same p id bag q)

-- ---- what is held
held_same : (p id : Pid) (bag : Bag) (n : Name) → is_held (settled_in p id bag) n ≡ is_held bag n
held_same p id bag n = held_same_names (names_changed (only p (option_map emptied)) (only id (option_map (settled_for p))) bag) n

pub lacking_same : (p id : Pid) (bag : Bag) (names : List Name) → lacking (settled_in p id bag) names ≡ lacking bag names
lacking_same p id bag [] = refl
lacking_same p id bag (n ∷ ns) =
    ap (λ (b : Bool). cond (not b) (n ∷ lacking (settled_in p id bag) ns) (lacking (settled_in p id bag) ns)) (held_same p id bag n)
    ∙ ap (λ l. cond (not (is_held bag n)) (n ∷ l) l) (lacking_same p id bag ns)

-- ---- setpgid
target_seen : (p id : Pid) (bag : Bag) (v : Vproc) (t : Pid) → option_map emptied (target_in (settled_in p id bag) (emptied v) t) ≡ option_map emptied (target_in bag v t)
target_seen p id bag v t = go (is_same t v.pid) (has_child v t)
  where
    twice : (h : Option Vproc) → option_map emptied (option_map emptied h) ≡ option_map emptied h
    twice None = refl
    twice (Some u) = refl

    go : (a b : Bool) → option_map emptied (cond a (Some (emptied v)) (cond b (vproc_in (settled_in p id bag) t) None)) ≡ option_map emptied (cond a (Some v) (cond b (vproc_in bag t) None))
    go true b = refl
    go false true = view_same (option_map emptied) p id bag t twice
    go false false = refl

early_blind : (v : Vproc) (o : Option Vproc) → early_refusal (emptied v) o ≡ early_refusal v (option_map emptied o)
early_blind v None = refl
early_blind v (Some u) = refl

early_plain : (v : Vproc) (o : Option Vproc) → early_refusal v (option_map emptied o) ≡ early_refusal v o
early_plain v None = refl
early_plain v (Some u) = refl

early_same : (p id : Pid) (bag : Bag) (v : Vproc) (t : Pid) → early_refusal (emptied v) (target_in (settled_in p id bag) (emptied v) t) ≡ early_refusal v (target_in bag v t)
early_same p id bag v t = early_blind v (target_in (settled_in p id bag) (emptied v) t) ∙ ap (early_refusal v) (target_seen p id bag v t) ∙ early_plain v (target_in bag v t)

move_blind : (p id : Pid) (bag : Bag) (v : Vproc) (o : Option Vproc) (new : Pid) → move_footprint_of (settled_in p id bag) (emptied v) o new ≡ move_footprint_of bag v (option_map emptied o) new
move_blind p id bag v None new = refl
move_blind p id bag v (Some u) new = ap (λ l. G u.group ∷ G new ∷ (if is_same u.pid v.pid then parent_name u else []) ++ l) (children_same p id bag u)

move_plain : (bag : Bag) (v : Vproc) (o : Option Vproc) (new : Pid) → move_footprint_of bag v (option_map emptied o) new ≡ move_footprint_of bag v o new
move_plain bag v None new = refl
move_plain bag v (Some u) new = refl

pub setpgid_footprint_same : (p id : Pid) (bag : Bag) (v : Vproc) (t : ℕ) (q : ℤ) → setpgid_footprint (settled_in p id bag) (emptied v) t q ≡ setpgid_footprint bag v t q
setpgid_footprint_same p id bag v t (negsuc n) = refl
setpgid_footprint_same p id bag v t (pos n) =
    ap (λ (o : Option Errno). (if is_same (target_pid v t) v.pid || has_child v (target_pid v t) then V (target_pid v t) ∷ [] else []) ++ (if is_some o then [] else move_footprint_of (settled_in p id bag) (emptied v) (target_in (settled_in p id bag) (emptied v) (target_pid v t)) (wanted_group v t n)))
    (early_same p id bag v (target_pid v t))
    ∙ ap (λ l. (if is_same (target_pid v t) v.pid || has_child v (target_pid v t) then V (target_pid v t) ∷ [] else []) ++ (if is_some (early_refusal v (target_in bag v (target_pid v t))) then [] else l))
    (move_blind p id bag v (target_in (settled_in p id bag) (emptied v) (target_pid v t)) (wanted_group v t n)
    ∙ ap (λ o. move_footprint_of bag v o (wanted_group v t n)) (target_seen p id bag v (target_pid v t)) ∙ move_plain bag v (target_in bag v (target_pid v t)) (wanted_group v t n))

-- ---- kill
pub kill_footprint_same : (p id : Pid) (bag : Bag) (target : Target) (s : ℕ) → kill_footprint (settled_in p id bag) target s ≡ kill_footprint bag target s
kill_footprint_same p id bag target s = ap (λ l. if is_sendable s then l else []) (go target)
  where
    go : (target : Target) → target_footprint (settled_in p id bag) target ≡ target_footprint bag target
    go OwnGroup = refl
    go (InGroup g) = refl
    go (One t) = ap (λ l. if t.0 == 1 then [] else l) (with_living_same p id bag t)

-- ---- waitpid
ready_blind : (v : Vproc) (sel : Selector) (stopped continued : Bool) (h : Option Vproc) → passes (is_ready (emptied v) sel stopped continued) (option_map emptied h) ≡ passes (is_ready v sel stopped continued) h
ready_blind v sel stopped continued None = refl
ready_blind v selector.Any stopped continued (Some u) = refl
ready_blind v selector.OwnGroup stopped continued (Some u) = refl
ready_blind v (selector.One q) stopped continued (Some u) = refl
ready_blind v (selector.InGroup g) stopped continued (Some u) = refl

shown_blind : (h : Option Vproc) → ended_group_shown (option_map emptied h) ≡ ended_group_shown h
shown_blind None = refl
shown_blind (Some u) = refl

find_pointwise : {X : Type 0} (t u : X → Bool) (xs : List X) → ((x : X) → t x ≡ u x) → find t xs ≡ find u xs
find_pointwise t u [] e = refl
find_pointwise t u (x ∷ xs) e = ap (λ b. cond b (Some x) (find t xs)) (e x) ∙ ap (λ o. cond (u x) (Some x) o) (find_pointwise t u xs e)

ready_same : (p id : Pid) (bag : Bag) (v : Vproc) (sel : Selector) (stopped continued : Bool) (c : Pid) → passes (is_ready (emptied v) sel stopped continued) (vproc_in (settled_in p id bag) c) ≡ passes (is_ready v sel stopped continued) (vproc_in bag c)
ready_same p id bag v sel stopped continued c = ap (passes (is_ready (emptied v) sel stopped continued)) (seen p id bag c) ∙ go (c.0 == p.0)
  where
    plain : (h : Option Vproc) → passes (is_ready (emptied v) sel stopped continued) h ≡ passes (is_ready v sel stopped continued) h
    plain None = refl
    plain (Some u) = by_selector sel
      where
        by_selector : (s : Selector) → is_ready (emptied v) s stopped continued u ≡ is_ready v s stopped continued u
        by_selector selector.Any = refl
        by_selector selector.OwnGroup = refl
        by_selector (selector.One q) = refl
        by_selector (selector.InGroup g) = refl

    go : (b : Bool) → passes (is_ready (emptied v) sel stopped continued) (cond b (option_map emptied (vproc_in bag c)) (vproc_in bag c)) ≡ passes (is_ready v sel stopped continued) (vproc_in bag c)
    go true = ready_blind v sel stopped continued (vproc_in bag c)
    go false = plain (vproc_in bag c)

record_same : (p id : Pid) (bag : Bag) (o : Option Pid) → ended_group_shown (record_in (settled_in p id bag) o) ≡ ended_group_shown (record_in bag o)
record_same p id bag None = refl
record_same p id bag (Some c) = view_same ended_group_shown p id bag c shown_blind

selected_same : (v : Vproc) (sel : Selector) → selected_footprint (emptied v) sel ≡ selected_footprint v sel
selected_same v selector.Any = refl
selected_same v selector.OwnGroup = refl
selected_same v (selector.One q) = refl
selected_same v (selector.InGroup g) = refl

pub wait_footprint_same : (p id : Pid) (bag : Bag) (v : Vproc) (sel : Selector) (stopped continued : Bool) → wait_footprint (settled_in p id bag) (emptied v) sel stopped continued ≡ wait_footprint bag v sel stopped continued
wait_footprint_same p id bag v sel stopped continued =
    ap (λ l. l ++ (if is_none (lacking (settled_in p id bag) l) then ended_group_shown (first_child (settled_in p id bag) (emptied v) (is_ready (emptied v) sel stopped continued)) else [])) (selected_same v sel)
    ∙ ap (λ l. selected_footprint v sel ++ (if is_none l then ended_group_shown (first_child (settled_in p id bag) (emptied v) (is_ready (emptied v) sel stopped continued)) else [])) (lacking_same p id bag (selected_footprint v sel))
    ∙ ap (λ l. selected_footprint v sel ++ (if is_none (lacking bag (selected_footprint v sel)) then l else []))
    (ap (λ o. ended_group_shown (record_in (settled_in p id bag) o)) (find_pointwise (λ c. passes (is_ready (emptied v) sel stopped continued) (vproc_in (settled_in p id bag) c)) (λ c. passes (is_ready v sel stopped continued) (vproc_in bag c)) v.children (λ c. ready_same p id bag v sel stopped continued c))
    ∙ record_same p id bag (find (λ c. passes (is_ready v sel stopped continued) (vproc_in bag c)) v.children))

-- ---- the other calls
group_blind : (h : Option Vproc) → group_shown (option_map emptied h) ≡ group_shown h
group_blind None = refl
group_blind (Some u) = refl

with_group_same : (p id : Pid) (bag : Bag) (q : Pid) → with_group (settled_in p id bag) q ≡ with_group bag q
with_group_same p id bag q = ap (λ l. V q ∷ l) (view_same group_shown p id bag q group_blind)

pub parent_footprint_same : (p id : Pid) (bag : Bag) (v : Vproc) → parent_footprint (settled_in p id bag) (emptied v) ≡ parent_footprint bag v
parent_footprint_same p id bag v = ap (λ l. if v.parent.0 == 1 then [] else l) (with_group_same p id bag v.parent)

pub end_footprint_same : (p id : Pid) (bag : Bag) (v : Vproc) → end_footprint (settled_in p id bag) (emptied v) ≡ end_footprint bag v
end_footprint_same p id bag v =
    ap (λ l. l ++ children_footprint (settled_in p id bag) (emptied v)) (parent_footprint_same p id bag v)
    ∙ ap (λ l. parent_footprint bag v ++ l) (flat_same (with_group (settled_in p id bag)) (with_group bag) v.children (λ q. with_group_same p id bag q))

setsid_same : (p id : Pid) (bag : Bag) (v : Vproc) → setsid_rest (settled_in p id bag) (emptied v) (group_at (settled_in p id bag) v.pid) ≡ setsid_rest bag v (group_at bag v.pid)
setsid_same p id bag v = ap (setsid_rest (settled_in p id bag) (emptied v)) (group_changed (only p (option_map emptied)) (only id (option_map (settled_for p))) bag v.pid) ∙ go (group_at bag v.pid)
  where
    some : (b : Bool) (g : Group) → setsid_rest (settled_in p id bag) (emptied v) (Some (cond b (Some (settled_for p g)) (Some g))) ≡ []
    some true g = refl
    some false g = refl

    none : (b : Bool) → setsid_rest (settled_in p id bag) (emptied v) (Some (cond b (option_map (settled_for p) None) None)) ≡ parent_name v ++ living_children_footprint (settled_in p id bag) (emptied v)
    none true = refl
    none false = refl

    go : (o : Option (Option Group)) → setsid_rest (settled_in p id bag) (emptied v) (option_map (only id (option_map (settled_for p)) v.pid) o) ≡ setsid_rest bag v o
    go None = refl
    go (Some None) = none (v.pid.0 == id.0) ∙ ap (λ l. parent_name v ++ l) (children_same p id bag v)
    go (Some (Some g)) = some (v.pid.0 == id.0) g

-- settling changes the footprint of no call
pub call_footprint_same : (p id : Pid) (bag : Bag) (v : Vproc) (call : Call) → call_footprint (settled_in p id bag) (emptied v) call ≡ call_footprint bag v call
call_footprint_same p id bag v (calls.Getpgid t) = refl
call_footprint_same p id bag v (calls.Getsid t) = refl
call_footprint_same p id bag v (calls.Kill target s) = kill_footprint_same p id bag (target_of target) s
call_footprint_same p id bag v (calls.Setpgid t q) = setpgid_footprint_same p id bag v t q
call_footprint_same p id bag v calls.Setsid = ap (λ l. G v.pid ∷ l) (setsid_same p id bag v)
call_footprint_same p id bag v (calls.Waitpid sel stopped continued) = wait_footprint_same p id bag v (selector_of sel) stopped continued
call_footprint_same p id bag v (calls.Exit n) = end_footprint_same p id bag v
call_footprint_same p id bag v calls.Getpid = refl
call_footprint_same p id bag v calls.Getppid = refl
call_footprint_same p id bag v calls.Fork = refl
call_footprint_same p id bag v calls.Exec = refl
call_footprint_same p id bag v (calls.Action s act) = refl
call_footprint_same p id bag v (calls.Mask set) = refl
call_footprint_same p id bag v calls.Pending = refl
call_footprint_same p id bag v calls.Migrate = refl
