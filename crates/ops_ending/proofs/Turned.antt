-- a table after a filter and a change of what stays: counts told by records, where only a process and its children have changed
use Rattle.std.proofs.Common.{◌≡◌, ◌&&◌, ◌+◌, ◌-◌, ℕ, Bool, true, false, cond, List, ◌∷◌, length, refl, sym, ap, ◌∙◌, arith, Option, None, Some, ◌⊎◌}
use Rattle.std.specs.Prelude.{map, filter, is_some}
use Rattle.std.specs.Option.{option_map}
use Rattle.list_laws.specs.Keyed.{option_filter}
use Rattle.list_laws.proofs.Filters.{filter-filter, length-filter-map}
use Rattle.unix_names.specs.declared.Pid.{Pid}
use Rattle.record_bag.specs.declared.bag.Bag.{Bag}
use Rattle.record_bag.specs.Bags.{vproc_in}
use Rattle.process_table.specs.declared.Row.{Row}
use Rattle.process_table.specs.Rows.{row_of}
use Rattle.process_table.specs.Orphans.{is_link_of, is_stopped_in}
use Rattle.kernel_model.specs.Sound.{IsSound}
use Rattle.kernel_laws.proofs.Rows.{row_moved}
use Rattle.decide_law.specs.Agrees.{vproc_at, children_of, VprocsAgree, links_in, stopped_in}
use Rattle.decide_law.specs.Counts.{passes, is_link_to, is_stopped_to, count_passing}
use Rattle.decide_law.proofs.Counts.{is_near, told_none, passes_link, passes_stopped, count_near, recount}

-- the table after: the rows that stay, each changed, under their pids
abbrev pub turned : (Row → Bool) → (Row → Row) → List Row → List Row
turned keep f rows = map f (filter keep rows)

pub count_turned : (keep : Row → Bool) (f : Row → Row) (t : Row → Bool) (rows : List Row) → length (filter t (turned keep f rows)) ≡ length (filter (λ c. keep c && t (f c)) rows)
count_turned keep f t rows = length-filter-map t f (filter keep rows) ∙ ap length (filter-filter (λ c. t (f c)) keep rows)

-- of a process near the change: it is held, and its parent is held or has no row, before and after
pub record NearHeld (rows : List Row) (keep : Row → Bool) (f : Row → Row) (bag : Bag) (bag' : Bag) (c : Row) : Type 0 where
  pub held : is_some (vproc_at bag c.pid) ≡ true
  pub parent : (row_of rows c.parent ≡ None) ⊎ (is_some (vproc_at bag c.parent) ≡ true)
  pub later : is_some (vproc_at bag' c.pid) ≡ true
  pub up : keep c ≡ true → (row_of (turned keep f rows) (f c).parent ≡ None) ⊎ (is_some (vproc_at bag' (f c).parent) ≡ true)

-- a change of a table and of what is held, near one process
pub record IsTurn (rows : List Row) (keep : Row → Bool) (f : Row → Row) (bag bag' : Bag) (p : Pid) (r : Row) : Type 0 where
  pub sound : IsSound rows
  pub before : VprocsAgree bag rows
  pub after : VprocsAgree bag' (turned keep f rows)
  pub row : row_of rows p ≡ Some r
  pub pids : (c : Row) → (f c).pid ≡ c.pid
  pub near : (c : Row) → row_of rows c.pid ≡ Some c → is_near p c ≡ true → NearHeld rows keep f bag bag' c

pub row_turned : (rows : List Row) (keep : Row → Bool) (f : Row → Row) → IsSound rows → ((c : Row) → (f c).pid ≡ c.pid) → (q : Pid) → row_of (turned keep f rows) q ≡ option_map f (option_filter keep (row_of rows q))
row_turned rows keep f k same q = row_moved rows keep f same k.distinct q

kept_row : (rows : List Row) (keep : Row → Bool) (f : Row → Row) (c : Row) → IsSound rows → ((c : Row) → (f c).pid ≡ c.pid) → row_of rows c.pid ≡ Some c → (b : Bool) → keep c ≡ b → row_of (turned keep f rows) c.pid ≡ option_map f (cond b (Some c) None)
kept_row rows keep f c k same here b e = row_turned rows keep f k same c.pid ∙ ap (λ (o : Option Row). option_map f (option_filter keep o)) here ∙ ap (λ (t : Bool). option_map f (cond t (Some c) None)) e

-- what a record tells afterwards of a process near the change
later_link : (rows : List Row) (keep : Row → Bool) (f : Row → Row) (bag bag' : Bag) (p id : Pid) (r c : Row) → IsTurn rows keep f bag bag' p r → row_of rows c.pid ≡ Some c → is_near p c ≡ true → (b : Bool) → keep c ≡ b →
    passes (is_link_to bag' id) (vproc_in bag' c.pid) ≡ (b && is_link_of (turned keep f rows) id (f c))
later_link rows keep f bag bag' p id r c t here n true e =
    let now = kept_row rows keep f c t.sound t.pids here true e in
    let h = t.near c here n in
    ap (λ (q : Pid). passes (is_link_to bag' id) (vproc_in bag' q)) (sym (t.pids c))
    ∙ passes_link (turned keep f rows) bag' id (f c) t.after (ap (row_of (turned keep f rows)) (t.pids c) ∙ now) (ap (λ (q : Pid). is_some (vproc_at bag' q)) (t.pids c) ∙ h.later) (h.up e)
later_link rows keep f bag bag' p id r c t here n false e = ap (passes (is_link_to bag' id)) (told_none (turned keep f rows) bag' c.pid t.after (kept_row rows keep f c t.sound t.pids here false e))

later_stopped : (rows : List Row) (keep : Row → Bool) (f : Row → Row) (bag bag' : Bag) (p id : Pid) (r c : Row) → IsTurn rows keep f bag bag' p r → row_of rows c.pid ≡ Some c → is_near p c ≡ true → (b : Bool) → keep c ≡ b →
    passes (is_stopped_to id) (vproc_in bag' c.pid) ≡ (b && is_stopped_in id (f c))
later_stopped rows keep f bag bag' p id r c t here n true e =
    let now = kept_row rows keep f c t.sound t.pids here true e in
    let h = t.near c here n in
    ap (λ (q : Pid). passes (is_stopped_to id) (vproc_in bag' q)) (sym (t.pids c))
    ∙ passes_stopped (turned keep f rows) bag' id (f c) t.after (ap (row_of (turned keep f rows)) (t.pids c) ∙ now) (ap (λ (q : Pid). is_some (vproc_at bag' q)) (t.pids c) ∙ h.later)
later_stopped rows keep f bag bag' p id r c t here n false e = ap (passes (is_stopped_to id)) (told_none (turned keep f rows) bag' c.pid t.after (kept_row rows keep f c t.sound t.pids here false e))

sum : (l a b c d e f : ℕ) → l ≡ c → a ≡ d → b ≡ e → (c + e) - d ≡ f → (l + b) - a ≡ f
sum l a b c d e f h i j w = omega arith

-- the links of a group, counted again, are those of the table after, where no other link changes
pub links_turned : (rows : List Row) (keep : Row → Bool) (f : Row → Row) (bag bag' : Bag) (p id : Pid) (r : Row) (n : ℕ) → IsTurn rows keep f bag bag' p r →
    ((c : Row) → row_of rows c.pid ≡ Some c → is_near p c ≡ false → is_link_of rows id c ≡ (keep c && is_link_of (turned keep f rows) id (f c))) → n ≡ links_in rows id →
    (n + count_passing bag' (is_link_to bag' id) (p ∷ children_of rows p)) - count_passing bag (is_link_to bag id) (p ∷ children_of rows p) ≡ links_in (turned keep f rows) id
links_turned rows keep f bag bag' p id r n t far e =
    let s : Row → Bool = λ c. keep c && is_link_of (turned keep f rows) id (f c) in
    let was = count_near rows p r (λ q. passes (is_link_to bag id) (vproc_in bag q)) (is_link_of rows id) t.sound t.row (λ c here m. let h = t.near c here m in passes_link rows bag id c t.before here h.held h.parent) in
    let now = count_near rows p r (λ q. passes (is_link_to bag' id) (vproc_in bag' q)) s t.sound t.row (λ c here m. later_link rows keep f bag bag' p id r c t here m (keep c) refl) in
    sum n _ _ _ _ _ _ e was now (recount rows (is_near p) (is_link_of rows id) s t.sound far) ∙ sym (count_turned keep f (is_link_of (turned keep f rows) id) rows)

-- and so are the stopped members
pub stopped_turned : (rows : List Row) (keep : Row → Bool) (f : Row → Row) (bag bag' : Bag) (p id : Pid) (r : Row) (n : ℕ) → IsTurn rows keep f bag bag' p r →
    ((c : Row) → row_of rows c.pid ≡ Some c → is_near p c ≡ false → is_stopped_in id c ≡ (keep c && is_stopped_in id (f c))) → n ≡ stopped_in rows id →
    (n + count_passing bag' (is_stopped_to id) (p ∷ children_of rows p)) - count_passing bag (is_stopped_to id) (p ∷ children_of rows p) ≡ stopped_in (turned keep f rows) id
stopped_turned rows keep f bag bag' p id r n t far e =
    let s : Row → Bool = λ c. keep c && is_stopped_in id (f c) in
    let was = count_near rows p r (λ q. passes (is_stopped_to id) (vproc_in bag q)) (is_stopped_in id) t.sound t.row (λ c here m. let h = t.near c here m in passes_stopped rows bag id c t.before here h.held) in
    let now = count_near rows p r (λ q. passes (is_stopped_to id) (vproc_in bag' q)) s t.sound t.row (λ c here m. later_stopped rows keep f bag bag' p id r c t here m (keep c) refl) in
    sum n _ _ _ _ _ _ e was now (recount rows (is_near p) (is_stopped_in id) s t.sound far) ∙ sym (count_turned keep f (is_stopped_in id) rows)
