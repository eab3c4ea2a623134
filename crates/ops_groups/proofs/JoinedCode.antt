-- what is held once a process has joined a group
use Rattle.std.proofs.Common.{◌≡◌, ◌==◌, ◌++◌, ◌&&◌, ℕ, Bool, true, false, cond, List, [], ◌∷◌, drop, length, append-nil, refl, sym, ap, ◌∙◌, subst, Option, None, Some}
use Rattle.std.specs.Prelude.{filter, map, is_some, OnOk, OnErr, Result, Ok, Err}
use Rattle.std.specs.Option.{option_map}
use Rattle.std.proofs.lemmas.Bool.{eqb-true, eqb-false}
use Rattle.list_laws.proofs.Filters.{map-id, some_same}
use Rattle.unix_names.specs.declared.Pid.{Pid}
use Rattle.unix_names.specs.declared.Signal.{Signal}
use Rattle.vproc_record.specs.declared.Vproc.{Vproc}
use Rattle.group_record.specs.declared.Member.{Member}
use Rattle.group_record.specs.declared.Group.{Group}
use Rattle.group_record.specs.Groups.{left, settled}
use Rattle.group_record.specs.Members.{member_of, has_member, from_in, begun_at}
use Rattle.group_record.specs.Log.{concerns, log_part}
use Rattle.group_record.proofs.LogLaws.{member_of-settled, log_part-settled_own, log_part-settled_other}
use Rattle.sig_stream.specs.Streams.{stream}
use Rattle.ordered_table.specs.declared.Entry.{Entry}
use Rattle.ordered_table.specs.Entries.{value_at, has_value, with_value, with_each, AllAbove, IsRising}
use Rattle.ordered_table.proofs.MapLaws.{with_value_again, with_each-at}
use Rattle.record_bag.specs.declared.bag.Bag.{Bag}
use Rattle.record_bag.specs.Bags.{present, vproc_in}
use Rattle.process_table.specs.Rows.{is_same}
use Rattle.decide_law.specs.Effects.{only, emptied, settled_for}
use Rattle.decide_law.proofs.Appended.{put_same, each_same}
use Rattle.decide_law.proofs.Tables.{put_is_each}
use Rattle.decide_law.proofs.Records.{pid_same, only_same, only_other}
use Rattle.ops_groups.specs.MethodMove.{backlog_taken}

-- ---- the log
-- what a log has for a process, once the caller has taken its part
settled_part : (p id q group : Pid) (uid : ℕ) (g : Group) → log_part q uid (only id (settled_for p) group g) ≡ cond (is_same p q && (is_same id group && has_member g.members q)) [] (log_part q uid g)
settled_part p id q group uid g = by_group (id.0 == group.0) refl
  where
    absent : (o : Option Member) → member_of g.members q ≡ o → is_some o ≡ false → log_part q uid (settled g p) ≡ log_part q uid g
    absent None e none =
        ap (λ (n : ℕ). map (λ x. x.signal) (filter (concerns q uid) (drop n g.log)))
        (ap from_in (member_of-settled g p q ∙ ap (option_map (begun_at (length g.log) p)) e) ∙ sym (ap from_in e))
    absent (Some m) e none = cc

    by_member : (c : Bool) → has_member g.members q ≡ c → p ≡ q → log_part q uid (settled g p) ≡ cond c [] (log_part q uid g)
    by_member true e same = subst (λ (x : Pid). log_part q uid (settled g x) ≡ []) (sym same) (log_part-settled_own g q uid e)
    by_member false e same = absent (member_of g.members q) refl e

    by_pid : (b : Bool) → (p.0 == q.0) ≡ b → log_part q uid (settled g p) ≡ cond (b && has_member g.members q) [] (log_part q uid g)
    by_pid true e = by_member (has_member g.members q) refl (pid_same p q (eqb-true _ _ e))
    by_pid false e = log_part-settled_other g p q uid (λ h. eqb-false _ _ e (sym h))

    no_group : (b : Bool) → log_part q uid g ≡ cond (b && false) [] (log_part q uid g)
    no_group true = refl
    no_group false = refl

    by_group : (a : Bool) → (id.0 == group.0) ≡ a → log_part q uid (only id (settled_for p) group g) ≡ cond (is_same p q && (a && has_member g.members q)) [] (log_part q uid g)
    by_group true e = ap (log_part q uid) (only_same id (settled_for p) group g (sym (eqb-true _ _ e))) ∙ by_pid (p.0 == q.0) refl
    by_group false e = ap (log_part q uid) (only_other id (settled_for p) group g (λ h. eqb-false _ _ e (sym h))) ∙ no_group (p.0 == q.0)

pub part_taken : (p id group : Pid) (w : Vproc) (g : Group) → (is_same p w.pid && (is_same id group && has_member g.members w.pid)) ≡ true → w ≡ record w { backlog = stream w (only id (settled_for p) group g) }
part_taken p id group w g taken =
    ap (λ (l : List Signal). record w { backlog = l }) (sym (append-nil w.backlog) ∙ ap (λ (l : List Signal). w.backlog ++ l) (sym (settled_part p id w.pid group w.uid g ∙ ap (λ (b : Bool). cond b [] (log_part w.pid w.uid g)) taken)))

pub part_left : (p id group : Pid) (w : Vproc) (g : Group) (backlog : List Signal) → (is_same p w.pid && (is_same id group && has_member g.members w.pid)) ≡ false → backlog ≡ w.backlog ++ log_part w.pid w.uid g →
    record w { backlog = backlog } ≡ record w { backlog = stream w (only id (settled_for p) group g) }
part_left p id group w g backlog left is =
    ap (λ (l : List Signal). record w { backlog = l }) (is ∙ ap (λ (l : List Signal). w.backlog ++ l) (sym (settled_part p id w.pid group w.uid g ∙ ap (λ (b : Bool). cond b [] (log_part w.pid w.uid g)) left)))

-- ---- tables
-- a change under an id that is not there
pub none_there : {T : Type 0} (p : Pid) (f : T → T) (es : List (Entry T)) → IsRising es → has_value es p ≡ false → with_each (only p f) es ≡ es
none_there p f es r none = each_same (only p f) (λ q x. x) es r (λ q x there. go q x there (q.0 == p.0) refl) ∙ map-id es
  where
    go : (q : Pid) (x : _) → value_at es q ≡ Some x → (b : Bool) → (q.0 == p.0) ≡ b → cond b (f x) x ≡ x
    go q x there false e = refl
    go q x there true e = let h : true ≡ false = sym (ap is_some (ap (value_at es) (pid_same p q (sym (eqb-true _ _ e))) ∙ there)) ∙ none in absurd (cc h)

-- or that has no record
pub none_present : {T : Type 0} (p : Pid) (f : T → T) (es : List (Entry (Option T))) → IsRising es → present (value_at es p) ≡ None → with_each (only p (option_map f)) es ≡ es
none_present p f es r none = each_same (only p (option_map f)) (λ q x. x) es r (λ q x there. go q x there (q.0 == p.0) refl) ∙ map-id es
  where
    go : (q : Pid) (x : Option _) → value_at es q ≡ Some x → (b : Bool) → (q.0 == p.0) ≡ b → cond b (option_map f x) x ≡ x
    go q x there false e = refl
    go q x there true e =
        let absent : x ≡ None = sym (ap present (ap (value_at es) (pid_same p q (sym (eqb-true _ _ e))) ∙ there)) ∙ none in
        ap (option_map f) absent ∙ sym absent

-- a table whose ids rise once its values have changed
above_before : {A B : Type 0} (f : Pid → A → B) (p : Pid) (es : List (Entry A)) → AllAbove p (with_each f es) → AllAbove p es
above_before f p [] a = tt
above_before f p (e ∷ es) a = (a.0, above_before f p es a.1)

rose_before : {A B : Type 0} (f : Pid → A → B) (es : List (Entry A)) → IsRising (with_each f es) → IsRising es
rose_before f [] r = tt
rose_before f (e ∷ es) r = (above_before f e.pid es r.0, rose_before f es r.1)

-- a value in its own place
pub put_again : {T : Type 0} (p : Pid) (es : List (Entry T)) (x : T) → IsRising es → value_at es p ≡ Some x → with_value es p x ≡ es
put_again p es x r there = sym (with_value_again es p x x) ∙ put_same p es x x r there

-- a backlog that was taken and is given back
pub given_back : (b bag : Bag) (p : Pid) (v w : Vproc) (backlog : List Signal) (mid new : List (Entry (Option Vproc))) → IsRising bag.vprocs → value_at bag.vprocs p ≡ Some (Some w) → mid ≡ with_value bag.vprocs p None → new ≡ with_value mid p (Some (record w { backlog = backlog })) →
    vproc_in b p ≡ Some v → backlog ≡ v.backlog → bag ≡ backlog_taken p b → record bag { vprocs = new } ≡ b
given_back b bag p v w backlog mid new rising there out back was same taken =
    let first : value_at b.vprocs p ≡ Some (Some v) = held_there (value_at b.vprocs p) v was in
    let rose : IsRising b.vprocs = rose_before (only p (option_map emptied)) b.vprocs (subst (λ (x : Bag). IsRising x.vprocs) taken rising) in
    let emptied_there : value_at bag.vprocs p ≡ Some (Some (emptied v)) = ap (λ (x : Bag). value_at x.vprocs p) taken ∙ with_each-at (only p (option_map emptied)) b.vprocs p ∙ ap (option_map (only p (option_map emptied) p)) first ∙ ap Some (only_same p (option_map emptied) p (Some v) refl) in
    let w_is : w ≡ emptied v = some_same _ _ (some_same _ _ (sym there ∙ emptied_there)) in
    let full : record w { backlog = backlog } ≡ v = ap (λ (x : Vproc). record x { backlog = backlog }) w_is ∙ ap (λ (l : List Signal). record v { backlog = l }) same in
    ap (λ (vs : List (Entry (Option Vproc))). record bag { vprocs = vs })
    (back ∙ ap (λ (l : List (Entry (Option Vproc))). with_value l p (Some (record w { backlog = backlog }))) out ∙ with_value_again bag.vprocs p None _ ∙ ap (λ (x : Vproc). with_value bag.vprocs p (Some x)) full
    ∙ ap (λ (x : Bag). with_value x.vprocs p (Some v)) taken ∙ ap (λ (l : List (Entry (Option Vproc))). with_value l p (Some v)) (sym (put_is_each p (option_map emptied) b.vprocs (Some v) rose first))
    ∙ put_same p b.vprocs (Some v) (Some (emptied v)) rose first)
    ∙ ap (λ (x : Bag). record b { groups = x.groups }) taken
  where
    held_there : (o : Option (Option Vproc)) (x : Vproc) → present o ≡ Some x → o ≡ Some (Some x)
    held_there None x e = cc
    held_there (Some h) x e = ap Some e

pub not_taken : (b bag : Bag) (p : Pid) (v : Vproc) → vproc_in b p ≡ Some v → bag ≡ backlog_taken p b → present (value_at bag.vprocs p) ≡ None → ⊥
not_taken b bag p v was taken none = go (value_at b.vprocs p) was (sym (ap (λ (x : Bag). present (value_at x.vprocs p)) taken ∙ ap present (with_each-at (only p (option_map emptied)) b.vprocs p)) ∙ none)
  where
    emptied_some : (c : Bool) → cond c (option_map emptied (Some v)) (Some v) ≡ None → ⊥
    emptied_some true e = cc
    emptied_some false e = cc

    go : (o : Option (Option Vproc)) → present o ≡ Some v → present (option_map (only p (option_map emptied) p) o) ≡ None → ⊥
    go None e n = cc
    go (Some h) e n = emptied_some (p.0 == p.0) (ap (only p (option_map emptied) p) (sym e) ∙ n)

-- ---- clauses that speak of one outcome alone
pub both_ok : {T E P Q R : Type 0} (r : Result T E) → (P → Q → R) → OnOk r P → OnOk r Q → OnOk r R
both_ok (Ok x) f p q = f p q
both_ok (Err e) f p q = p

pub both_err : {T E P Q R : Type 0} (r : Result T E) → (P → Q → R) → OnErr r P → OnErr r Q → OnErr r R
both_err (Ok x) f p q = p
both_err (Err e) f p q = f p q

pub err_always : {T E P : Type 0} (r : Result T E) → P → OnErr r P
err_always (Ok x) p = tt
err_always (Err e) p = p
