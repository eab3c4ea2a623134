-- the groups that an end leaves orphaned, as the code finds them
use Rattle.std.proofs.Common.{◌≡◌, ◌∙◌, ◌&&◌, ◌||◌, not, Bool, true, false, cond, List, [], ◌∷◌, Some, refl, sym, ap, subst}
use Rattle.std.specs.Prelude.{map, filter, if◌then◌else◌}
use Rattle.std.specs.List.{list_any}
use Rattle.std.proofs.lemmas.Bool.{eqb-true, and_parts}
use Rattle.std.proofs.lemmas.Map.Views.{any-filter_same}
use Rattle.unix_names.specs.declared.Pid.{Pid}
use Rattle.unix_names.specs.declared.WaitStatus.{WaitStatus}
use Rattle.unix_names.specs.declared.Life.{Life}
use Rattle.unix_names.specs.declared.Life.TheVariants.{Ended}
use Rattle.unix_names.specs.States.{is_living}
use Rattle.signal_state.specs.Signals.{Signals}
use Rattle.signal_state.specs.Sig.{generated_all}
use Rattle.list_laws.proofs.Filters.{any-filter}
use Rattle.list_laws.proofs.Finding.{found}
use Rattle.process_table.specs.declared.Row.{Row}
use Rattle.process_table.specs.Rows.{pid, is_pid, is_same, in_group, is_stopped, row_of, is_among}
use Rattle.process_table.specs.Orphans.{is_link_of, is_stopped_in}
use Rattle.kernel_rules.specs.Orphans.{is_newly_orphaned}
use Rattle.process_table.specs.Changes.{received}
use Rattle.kernel_rules.specs.Ending.{rows_left, sent_by_end, after_end}
use Rattle.kernel_rules.specs.MethodEnding.{is_near, is_near_link, is_at_risk, is_left, sent_with}
use Rattle.kernel_rules.proofs.NearLaws.{left, is_kept, all_left, sig_after, rows_left_is, after_end_is, near_link}

or_true : (c : Bool) → (c || true) ≡ true
or_true true = refl
or_true false = refl

or_right : (c d : Bool) → d ≡ true → (c || d) ≡ true
or_right c d e = rw e (or_true c)

any_step : (a b c d : Bool) → (a || b) ≡ true → (a ≡ true → c ≡ true) → (b ≡ true → d ≡ true) → (c || d) ≡ true
any_step true b c d h f g = rw (f refl)
any_step false b c d h f g = or_right c d (g h)

-- a change that adds no row that passes
pub any_map : {X : Type 0} (test : X → Bool) (f : X → X) → ((x : X) → test (f x) ≡ true → test x ≡ true) → (xs : List X) → list_any test (map f xs) ≡ true → list_any test xs ≡ true
any_map test f back [] h = h
any_map test f back (x ∷ xs) h = any_step (test (f x)) _ (test x) _ h (back x) (any_map test f back xs)

filter_step : {X : Type 0} (test : X → Bool) (x : X) (l xs : List X) (k : Bool) → list_any test (cond k (x ∷ l) l) ≡ true → (list_any test l ≡ true → list_any test xs ≡ true) → (test x || list_any test xs) ≡ true
filter_step test x l xs true h ih = any_step (test x) (list_any test l) (test x) (list_any test xs) h (λ e. e) ih
filter_step test x l xs false h ih = or_right (test x) (list_any test xs) (ih h)

pub any_filter : {X : Type 0} (test keep : X → Bool) → (xs : List X) → list_any test (filter keep xs) ≡ true → list_any test xs ≡ true
any_filter test keep [] h = h
any_filter test keep (x ∷ xs) h = filter_step test x (filter keep xs) xs (keep x) h (any_filter test keep xs)

-- ---- the groups that an end leaves orphaned
stopped_step : (here t : Bool) (w : WaitStatus) (life : Life) → (here && is_stopped (cond t (Ended w) life)) ≡ true → (here && is_stopped life) ≡ true
stopped_step here true w life h = cc ((and_parts here false h).1)
stopped_step here false w life h = h

-- who is stopped after an end was so before
stopped_before : (rows : List Row) (r : Row) (w : WaitStatus) (sig : Row → Signals) (g : Pid) → list_any (is_stopped_in g) (all_left rows r w sig) ≡ true → list_any (is_stopped_in g) rows ≡ true
stopped_before rows r w sig g h =
    any_filter (is_stopped_in g) (is_kept rows r w) rows
    (any_map (is_stopped_in g) (left r w sig) (λ c e. stopped_step (in_group g c) (is_pid r.pid c) w c.life e) (filter (is_kept rows r w) rows) h)

-- a link near a process is a link
linked : (rows : List Row) (p g : Pid) → list_any (is_near_link rows p g) rows ≡ true → list_any (is_link_of rows g) rows ≡ true
linked rows p g h = any_filter (is_link_of rows g) (is_near rows p) rows (any-filter (is_link_of rows g) (is_near rows p) rows ∙ h)

sorted_out : (stopped' link' link near stopped : Bool) → (stopped' ≡ true → stopped ≡ true) → (link ≡ true → link' ≡ false → near ≡ true) → (near ≡ true → link ≡ true) →
    ((stopped' && not link') && (near && stopped)) ≡ (not (not link) && (not link' && stopped'))
sorted_out true true true near stopped h lost found = refl
sorted_out true true false near stopped h lost found = refl
sorted_out true false true near stopped h lost found = rw (lost refl refl, h refl) refl
sorted_out true false false true stopped h lost found = cc (found refl)
sorted_out true false false false stopped h lost found = refl
sorted_out false true true near stopped h lost found = refl
sorted_out false true false near stopped h lost found = refl
sorted_out false false true near stopped h lost found = refl
sorted_out false false false near stopped h lost found = refl

newly_by : (rows now : List Row) (p g : Pid) → (list_any (is_stopped_in g) now ≡ true → list_any (is_stopped_in g) rows ≡ true) →
    (list_any (is_link_of rows g) rows ≡ true → list_any (is_link_of now g) now ≡ false → list_any (is_near_link rows p g) rows ≡ true) → (is_left now g && is_at_risk rows p g) ≡ is_newly_orphaned rows now g
newly_by rows now p g stopped lost =
    sorted_out (list_any (is_stopped_in g) now) (list_any (is_link_of now g) now) (list_any (is_link_of rows g) rows) (list_any (is_near_link rows p g) rows) (list_any (is_stopped_in g) rows)
    stopped lost (linked rows p g)

-- no group is newly orphaned where the table stays
pub newly_same : (rows : List Row) (p g : Pid) → (is_left rows g && is_at_risk rows p g) ≡ is_newly_orphaned rows rows g
newly_same rows p g = newly_by rows rows p g (λ e. e) (λ e f. cc)

newly_left : (rows : List Row) (r : Row) (w : WaitStatus) (sig : Row → Signals) (g : Pid) → (is_left (all_left rows r w sig) g && is_at_risk rows r.pid g) ≡ is_newly_orphaned rows (all_left rows r w sig) g
newly_left rows r w sig g = newly_by rows (all_left rows r w sig) r.pid g (stopped_before rows r w sig g) (near_link rows r w sig g)

-- the groups that an end leaves newly orphaned with a stopped member are among those at risk
newly_now : (rows : List Row) (r : Row) (w : WaitStatus) (g : Pid) → (is_left (rows_left rows r w) g && is_at_risk rows r.pid g) ≡ is_newly_orphaned rows (rows_left rows r w) g
newly_now rows r w g = subst (λ now. (is_left now g && is_at_risk rows r.pid g) ≡ is_newly_orphaned rows now g) (sym (rows_left_is rows r w)) (newly_left rows r w (λ c. c.sig) g)

-- a group that an end leaves newly orphaned with a stopped member had a row near the process, which kept it from being orphaned
pub newly_near : (rows : List Row) (r : Row) (w : WaitStatus) (g : Pid) → is_newly_orphaned rows (rows_left rows r w) g ≡ true → list_any (is_near_link rows r.pid g) rows ≡ true
newly_near rows r w g h =
    let parts = and_parts (is_left (rows_left rows r w) g) (is_at_risk rows r.pid g) (newly_now rows r w g ∙ h) in
    (and_parts (list_any (is_near_link rows r.pid g) rows) (list_any (is_stopped_in g) rows) parts.1).0

-- and so they are after the signals
pub newly_after : (rows : List Row) (p : Pid) (r : Row) (w : WaitStatus) (g : Pid) → row_of rows p ≡ Some r → (is_left (after_end rows r w) g && is_at_risk rows p g) ≡ is_newly_orphaned rows (after_end rows r w) g
newly_after rows p r w g here =
    subst (λ q. (is_left (after_end rows r w) g && is_at_risk rows q g) ≡ is_newly_orphaned rows (after_end rows r w) g) (ap pid (found (λ c. c.pid.0) p.0 rows r here))
    (subst (λ now. (is_left now g && is_at_risk rows r.pid g) ≡ is_newly_orphaned rows now g) (sym (after_end_is rows r w)) (newly_left rows r w (sig_after rows r w) g))

-- one id, one answer
same_id : (rows : List Row) (g k : Pid) → is_same g k ≡ true → is_left rows k ≡ is_left rows g
same_id rows g k e = ap (λ n. is_left rows (pid n)) (sym (eqb-true g.0 k.0 e))

newly_found : (rows : List Row) (r : Row) (w : WaitStatus) (groups : List Pid) → ((g : Pid) → is_among groups g ≡ is_at_risk rows r.pid g) →
    (g : Pid) → is_among (filter (is_left (rows_left rows r w)) groups) g ≡ is_newly_orphaned rows (rows_left rows r w) g
newly_found rows r w groups found g =
    any-filter_same (is_same g) (is_left (rows_left rows r w)) (is_left (rows_left rows r w) g) (same_id (rows_left rows r w) g) groups
    ∙ ap (λ b. is_left (rows_left rows r w) g && b) (found g)
    ∙ newly_now rows r w g

pub map_same : {X : Type 0} (f g : X → X) → ((x : X) → f x ≡ g x) → (xs : List X) → map f xs ≡ map g xs
map_same f g same [] = refl
map_same f g same (x ∷ xs) = rw (same x, map_same f g same xs)

sent_same : (rows : List Row) (r : Row) (w : WaitStatus) (groups : List Pid) → ((g : Pid) → is_among groups g ≡ is_newly_orphaned rows (rows_left rows r w) g) → (c : Row) → sent_with r groups c ≡ sent_by_end rows r w c
sent_same rows r w groups found c = rw (found c.group)

pub end_sent : (rows : List Row) (r : Row) (w : WaitStatus) (groups : List Pid) → ((g : Pid) → is_among groups g ≡ is_at_risk rows r.pid g) →
    received (sent_with r (filter (is_left (rows_left rows r w)) groups)) (rows_left rows r w) ≡ after_end rows r w
end_sent rows r w groups found = map_same _ _
    (λ c. ap (λ signals. record c { sig = generated_all c.sig (if is_living c.life then signals else []) })
    (sent_same rows r w (filter (is_left (rows_left rows r w)) groups) (newly_found rows r w groups found) c))
    (rows_left rows r w)
