-- a group that the end of a process leaves orphaned lost a link near that process
use Rattle.std.proofs.Common.{◌≡◌, ◌∙◌, ◌==◌, ◌&&◌, ◌||◌, not, Bool, true, false, cond, ℕ, ◌+◌, ◌<◌, List, [], ◌∷◌, ◌++◌, take, length, get_or, Option, None, Some, refl, sym, ap, rules}
use Rattle.std.specs.Prelude.{map, filter, find}
use Rattle.std.specs.List.{list_any}
use Rattle.std.specs.Option.{option_map}
use Rattle.std.proofs.lemmas.Bool.{eqb-true, eq-eqb, or_parts, or_right}
use Rattle.std.proofs.lemmas.List.{map-append}
use Rattle.std.proofs.lemmas.List.Elements.{filter_more}
use Rattle.std.proofs.lemmas.List.Folds.{list_any_more}
use Rattle.unix_names.specs.declared.Pid.{Pid}
use Rattle.unix_names.specs.declared.Life.TheVariants.{Ended}
use Rattle.unix_names.specs.declared.WaitStatus.{WaitStatus}
use Rattle.unix_names.specs.States.{is_living}
use Rattle.signal_state.specs.Signals.{Signals}
use Rattle.list_laws.proofs.Filters.{and_false, filter-map, filter-filter, map-map}
use Rattle.list_laws.proofs.Finding.{at-map}
use Rattle.process_table.specs.declared.Row.{Row}
use Rattle.process_table.specs.Rows.{pid, is_same, is_pid, is_parent, in_group, row_of, is_ended_child, is_among}
use Rattle.process_table.specs.Orphans.{is_outside_parent, is_link, is_link_of, is_stopped_in}
use Rattle.process_table.specs.Changes.{receives, ended_at, given_up}
use Rattle.kernel_rules.specs.Ending.{is_vanishing, rows_left, sent_by_end, after_end}
use Rattle.kernel_rules.specs.MethodEnding.{ended_children, is_near, is_near_link}

-- ---- lists
find_step : {X : Type 0} (t keep : X → Bool) (x : X) (xs : List X) (b k : Bool) → t x ≡ b → ((b && not k) || list_any (λ y. t y && not (keep y)) xs) ≡ false →
    (list_any (λ y. t y && not (keep y)) xs ≡ false → find t (filter keep xs) ≡ find t xs) → find t (cond k (x ∷ filter keep xs) (filter keep xs)) ≡ cond b (Some x) (find t xs)
find_step t keep x xs true true here h ih = rw here
find_step t keep x xs true false here h ih = cc
find_step t keep x xs false true here h ih = rw here (ih h)
find_step t keep x xs false false here h ih = ih h

-- a filter that takes away nothing of what is looked for
find-filter : {X : Type 0} (t keep : X → Bool) (xs : List X) → list_any (λ x. t x && not (keep x)) xs ≡ false → find t (filter keep xs) ≡ find t xs
find-filter t keep [] h = refl
find-filter t keep (x ∷ xs) h = find_step t keep x xs (t x) (keep x) refl h (find-filter t keep xs)

kept_step : {X : Type 0} (u : X → Bool) (f : X → X) (x : X) (kept : List X) (k : Bool) → list_any u (map f kept) ≡ true → list_any u (map f (cond k (x ∷ kept) kept)) ≡ true
kept_step u f x kept true h = or_right (u (f x)) _ h
kept_step u f x kept false h = h

far_step : {X : Type 0} (t near keep u : X → Bool) (f : X → X) (x : X) (xs : List X) (n b : Bool) → (n ≡ false → (keep x ≡ true) × (u (f x) ≡ b)) → ((n && b) || list_any (λ y. near y && t y) xs) ≡ false → (b || list_any t xs) ≡ true →
    (list_any (λ y. near y && t y) xs ≡ false → list_any t xs ≡ true → list_any u (map f (filter keep xs)) ≡ true) → list_any u (map f (cond (keep x) (x ∷ filter keep xs) (filter keep xs))) ≡ true
far_step t near keep u f x xs true true far h e ih = cc
far_step t near keep u f x xs true false far h e ih = kept_step u f x (filter keep xs) (keep x) (ih h e)
far_step t near keep u f x xs false true far h e ih = let k = far refl in rw (k.0, k.1)
far_step t near keep u f x xs false false far h e ih = kept_step u f x (filter keep xs) (keep x) (ih h e)

-- some element passes after a filter and a map, where one passed before, and each that is not near is kept and passes as before
any_far : {X : Type 0} (t near keep u : X → Bool) (f : X → X) → ((x : X) → near x ≡ false → (keep x ≡ true) × (u (f x) ≡ t x)) → (xs : List X) →
    list_any (λ x. near x && t x) xs ≡ false → list_any t xs ≡ true → list_any u (map f (filter keep xs)) ≡ true
any_far t near keep u f far [] h e = cc
any_far t near keep u f far (x ∷ xs) h e = far_step t near keep u f x xs (near x) (t x) (far x) h e (any_far t near keep u f far xs)

-- ---- the ended children of a process
pids_step : (b : Bool) (c : Row) (rows : List Row) → map (λ (d : Row). d.pid) (rows ++ cond b (c ∷ []) []) ≡ map (λ (d : Row). d.pid) rows ++ cond b (c.pid ∷ []) []
pids_step true c rows = map-append (λ (d : Row). d.pid) rows (c ∷ [])
pids_step false c rows = map-append (λ (d : Row). d.pid) rows []

-- one row more
pub ended_more : (p : Pid) (rows : List Row) (i : ℕ) (c : Row) → i < length rows → c ≡ get_or rows i c →
    ended_children (take (i + 1) rows) p ≡ ended_children (take i rows) p ++ cond (is_ended_child p c) (c.pid ∷ []) []
ended_more p rows i c within is =
    ap (map (λ (d : Row). d.pid)) (filter_more (is_ended_child p) rows i c within ∙ ap (λ (d : Row). filter (is_ended_child p) (take i rows) ++ cond (is_ended_child p d) (d ∷ []) []) (sym is))
    ∙ pids_step (is_ended_child p c) c (filter (is_ended_child p) (take i rows))

-- ---- the groups at risk
flip : (a b : ℕ) → (a == b) ≡ (b == a)
flip a b = search rules

risk_by : (stopped x n m l : Bool) → ((x && stopped) || ((n && l) && (m && stopped))) ≡ ((x || (n && (m && l))) && stopped)
risk_by true true n m l = refl
risk_by true false true true true = refl
risk_by true false true true false = refl
risk_by true false true false true = refl
risk_by true false true false false = refl
risk_by true false false m l = refl
risk_by false x n m l = rw (and_false x, and_false m, and_false (n && l), and_false (x || (n && (m && l)))) refl

-- one row more
pub risk_more : (rows : List Row) (p g : Pid) (i : ℕ) (c : Row) (here before now : Bool) → i < length rows → c ≡ get_or rows i c → here ≡ (is_near rows p c && is_link rows c) →
    before ≡ (list_any (is_near_link rows p g) (take i rows) && list_any (is_stopped_in g) rows) → now ≡ (before || (here && (is_same g c.group && list_any (is_stopped_in g) rows))) →
    now ≡ (list_any (is_near_link rows p g) (take (i + 1) rows) && list_any (is_stopped_in g) rows)
risk_more rows p g i c here before now within is links old new =
    let stopped = list_any (is_stopped_in g) rows in
    let x = list_any (is_near_link rows p g) (take i rows) in
    new
    ∙ ap (λ b. b || (here && (is_same g c.group && stopped))) old
    ∙ ap (λ b. (x && stopped) || (b && (is_same g c.group && stopped))) links
    ∙ risk_by stopped x (is_near rows p c) (is_same g c.group) (is_link rows c)
    ∙ ap (λ b. (x || (is_near rows p c && (b && is_link rows c))) && stopped) (flip g.0 c.group.0)
    ∙ ap (λ (d : Row). (x || is_near_link rows p g d) && stopped) is
    ∙ ap (λ b. b && stopped) (sym (list_any_more (is_near_link rows p g) rows i c within))

-- ---- the rows that are left
-- a row that is left, with other signals
abbrev pub left : Row → WaitStatus → (Row → Signals) → Row → Row
left r w sig c = record (given_up r.pid (ended_at r.pid w c)) { sig = sig c }

abbrev pub is_kept : List Row → Row → WaitStatus → Row → Bool
is_kept rows r w c = not (is_vanishing rows r c) && not (is_ended_child r.pid (ended_at r.pid w c))

-- the table that an end leaves, with other signals
abbrev pub all_left : List Row → Row → WaitStatus → (Row → Signals) → List Row
all_left rows r w sig = map (left r w sig) (filter (is_kept rows r w) rows)

pub rows_left_is : (rows : List Row) (r : Row) (w : WaitStatus) → rows_left rows r w ≡ all_left rows r w (λ c. c.sig)
rows_left_is rows r w =
    ap (map (given_up r.pid)) (filter-filter (λ c. not (is_ended_child r.pid c)) (λ c. not (is_vanishing rows r c)) (map (ended_at r.pid w) rows)
    ∙ filter-map (λ c. not (is_vanishing rows r c) && not (is_ended_child r.pid c)) (ended_at r.pid w) rows)
    ∙ map-map (given_up r.pid) (ended_at r.pid w) (filter (is_kept rows r w) rows)

-- the signals that a row has after an end
abbrev pub sig_after : List Row → Row → WaitStatus → Row → Signals
sig_after rows r w c = (receives (sent_by_end rows r w) (left r w (λ d. d.sig) c)).sig

pub after_end_is : (rows : List Row) (r : Row) (w : WaitStatus) → after_end rows r w ≡ all_left rows r w (sig_after rows r w)
after_end_is rows r w = ap (map (receives (sent_by_end rows r w))) (rows_left_is rows r w) ∙ map-map (receives (sent_by_end rows r w)) (left r w (λ c. c.sig)) (filter (is_kept rows r w) rows)

removed_step : (rows : List Row) (r : Row) (w : WaitStatus) (q : Pid) (c : Row) (ended : List Row) (rest b e : Bool) → (q.0 == r.pid.0) ≡ false → is_pid q c ≡ b → is_ended_child r.pid c ≡ e →
    is_among (map (λ (d : Row). d.pid) (cond e (c ∷ ended) ended)) q ≡ false → (is_among (map (λ (d : Row). d.pid) ended) q ≡ false → rest ≡ false) → ((b && not (is_kept rows r w c)) || rest) ≡ false
removed_step rows r w q c ended rest true true other here ends h ih =
    let same : is_same q c.pid ≡ true = eq-eqb _ _ (sym (eqb-true _ _ here)) in
    let apart : is_same q c.pid ≡ false = (or_parts (is_same q c.pid) (is_among (map (λ (d : Row). d.pid) ended) q) h).0 in
    cc
removed_step rows r w q c ended rest true false other here ends h ih = let apart : is_pid r.pid c ≡ false = ap (λ n. n == r.pid.0) (eqb-true _ _ here) ∙ other in rw (apart, ends) (ih h)
removed_step rows r w q c ended rest false true other here ends h ih = ih ((or_parts (is_same q c.pid) (is_among (map (λ (d : Row). d.pid) ended) q) h).1)
removed_step rows r w q c ended rest false false other here ends h ih = ih h

-- no row goes of a process that neither ends nor is an ended child of it
none_removed : (rows : List Row) (r : Row) (w : WaitStatus) (q : Pid) (xs : List Row) → (q.0 == r.pid.0) ≡ false → is_among (ended_children xs r.pid) q ≡ false → list_any (λ c. is_pid q c && not (is_kept rows r w c)) xs ≡ false
none_removed rows r w q [] other h = refl
none_removed rows r w q (c ∷ xs) other h = removed_step rows r w q c (filter (is_ended_child r.pid) xs) _ (is_pid q c) (is_ended_child r.pid c) other refl refl h (none_removed rows r w q xs other)

row_left : (rows : List Row) (r : Row) (w : WaitStatus) (sig : Row → Signals) (q : Pid) → (q.0 == r.pid.0) ≡ false → is_among (ended_children rows r.pid) q ≡ false → row_of (all_left rows r w sig) q ≡ option_map (left r w sig) (row_of rows q)
row_left rows r w sig q other h =
    at-map (λ c. c.pid.0) (λ c. c.pid.0) (left r w sig) (λ c. refl) q.0 (filter (is_kept rows r w) rows)
    ∙ ap (option_map (left r w sig)) (find-filter (is_pid q) (is_kept rows r w) rows (none_removed rows r w q rows other h))

-- ---- links
outside_same : (r : Row) (w : WaitStatus) (sig : Row → Signals) (c : Row) (o : Option Row) → is_outside_parent (left r w sig c) (option_map (left r w sig) o) ≡ is_outside_parent c o
outside_same r w sig c None = refl
outside_same r w sig c (Some parent) = refl

-- a row that is not near is left, and is a link as before
far_left : (rows : List Row) (r : Row) (w : WaitStatus) (sig : Row → Signals) (g : Pid) (c : Row) → is_near rows r.pid c ≡ false →
    (is_kept rows r w c ≡ true) × (is_link_of (all_left rows r w sig) g (left r w sig c) ≡ is_link_of rows g c)
far_left rows r w sig g c h =
    let parts = or_parts (is_pid r.pid c) (is_parent r.pid c || is_among (ended_children rows r.pid) c.parent) h in
    let others = or_parts (is_parent r.pid c) (is_among (ended_children rows r.pid) c.parent) parts.1 in
    let now = all_left rows r w sig in (
      rw (parts.0, others.0) refl,
      ap (λ life. in_group g c && (is_living life && is_outside_parent (left r w sig c) (row_of now (left r w sig c).parent))) (ap (λ b. cond b (Ended w) c.life) parts.0)
          ∙ ap (λ q. in_group g c && (is_living c.life && is_outside_parent (left r w sig c) (row_of now q))) (ap (λ b. cond b (pid 1) c.parent) others.0)
          ∙ ap (λ o. in_group g c && (is_living c.life && is_outside_parent (left r w sig c) o)) (row_left rows r w sig c.parent others.0 others.1)
          ∙ ap (λ b. in_group g c && (is_living c.life && b)) (outside_same r w sig c (row_of rows c.parent)),
    )

-- a group that had links and has none after an end had one near the process that ended
pub near_link : (rows : List Row) (r : Row) (w : WaitStatus) (sig : Row → Signals) (g : Pid) → list_any (is_link_of rows g) rows ≡ true → list_any (is_link_of (all_left rows r w sig) g) (all_left rows r w sig) ≡ false →
    list_any (is_near_link rows r.pid g) rows ≡ true
near_link rows r w sig g before after = go (list_any (is_near_link rows r.pid g) rows) refl
  where
    go : (b : Bool) → list_any (is_near_link rows r.pid g) rows ≡ b → b ≡ true
    go true e = refl
    go false e =
        let still = any_far (is_link_of rows g) (is_near rows r.pid) (is_kept rows r w) (is_link_of (all_left rows r w sig) g) (left r w sig) (far_left rows r w sig g) rows e before in
        cc
