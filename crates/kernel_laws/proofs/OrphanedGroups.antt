-- an orphaned group stays orphaned
use Rattle.std.proofs.Common.{◌≡◌, ◌==◌, ◌&&◌, ◌||◌, ◌⊎◌, inl, inr, ◌++◌, ℕ, pos, negsuc, Bool, true, false, cond, not, List, [], ◌∷◌, refl, sym, ap, ◌∙◌, subst, arith, Option, None, Some}
use Rattle.std.specs.Prelude.{map, filter}
use Rattle.std.specs.List.{list_any}
use Rattle.std.specs.Option.{option_map, option_or}
use Rattle.std.proofs.lemmas.Bool.{eqb-true, eq-eqb, ne_eqb, and_parts}
use Rattle.std.proofs.lemmas.List.Folds.{list_any-append}
use Rattle.unix_names.specs.declared.Pid.{Pid}
use Rattle.unix_names.specs.States.{is_living}
use Rattle.unix_calls.specs.declared.Call.TheVariants.{Setpgid}
use Rattle.unix_calls.specs.declared.Reply.TheVariants.{Fine}
use Rattle.unix_calls.specs.declared.Entry.{Entry}
use Rattle.unix_calls.specs.declared.Entry.TheVariants.{Called, Happened}
use Rattle.process_table.specs.declared.Row.{Row}
use Rattle.process_table.specs.Rows.{is_pid, in_group, in_session, row_of, AreDistinct}
use Rattle.process_table.specs.Orphans.{is_outside_parent, is_link_of}
use Rattle.kernel_model.specs.Step.{process_of}
use Rattle.kernel_rules.specs.Fork.{newborn}
use Rattle.process_table.specs.Changes.{regrouped_at, leading_at}
use Rattle.kernel_model.specs.Sound.{IsAlive, IsSound}
use Rattle.list_laws.specs.Keyed.{at, option_filter}
use Rattle.list_laws.proofs.Filters.{filter-all, any-map, any-filter, mapped_some}
use Rattle.list_laws.proofs.Finding.{at-append, same_number}
use Rattle.list_laws.proofs.Elements.{any_no, any_found, any_none_found}
use Rattle.kernel_laws.specs.Effects.{IsUnused}
use Rattle.kernel_laws.specs.Groups.{HaveLeaders, IsRegroupingIn, OrphanedStays}
use Rattle.kernel_laws.proofs.Rows.{number, distinct_from, row_pid, row_here, one_row, row_map, row_moved}
use Rattle.kernel_laws.proofs.Plain.{all_stay}
use Rattle.kernel_laws.proofs.Legal.{not_true, not_false, actor, after_is}
use Rattle.kernel_laws.proofs.Steps.{Regroups}
use Rattle.kernel_laws.proofs.Forms.{IsQuiet, RegroupsTo, Form, quiet, forked, regrouped, leading, step_form}

-- ---- links
-- a link: a living member whose parent has a row, is in another group, and is in its session
pub record Link (rows : List Row) (g : Pid) (c : Row) : Type 0 where
  pub member : in_group g c ≡ true
  pub lives : is_living c.life ≡ true
  pub parent : Row
  pub there : row_of rows c.parent ≡ Some parent
  pub outside : in_group c.group parent ≡ false
  pub session : in_session c.session parent ≡ true

link_from : (rows : List Row) (g : Pid) (c : Row) → is_link_of rows g c ≡ true → Link rows g c
link_from rows g c e =
    let a = and_parts (in_group g c) (is_living c.life && is_outside_parent c (row_of rows c.parent)) e in
    let b = and_parts (is_living c.life) (is_outside_parent c (row_of rows c.parent)) a.1 in
    go a.0 b.0 (row_of rows c.parent) refl b.1
  where
    go : in_group g c ≡ true → is_living c.life ≡ true → (o : Option Row) → row_of rows c.parent ≡ o → is_outside_parent c o ≡ true → Link rows g c
    go m l None h e = cc
    go m l (Some d) h e =
        let p = and_parts (not (in_group c.group d)) (in_session c.session d) e in
        record { member = m; lives = l; parent = d; there = h; outside = not_true _ p.0; session = p.1 }

link_to : (rows : List Row) (g : Pid) (c d : Row) → in_group g c ≡ true → is_living c.life ≡ true → row_of rows c.parent ≡ Some d → in_group c.group d ≡ false → in_session c.session d ≡ true → is_link_of rows g c ≡ true
link_to rows g c d m l h o s = rw (m, l, h, o, s) refl

-- where each link of the new table was one before, an orphaned group stays orphaned
no_new_link : (rows now : List Row) (keep : Row → Bool) (f : Row → Row) (g : Pid) → AreDistinct rows →
    ((c : Row) → row_of rows c.pid ≡ Some c → is_link_of now g (f c) ≡ true → is_link_of rows g c ≡ true) →
    list_any (is_link_of rows g) rows ≡ false → list_any (is_link_of now g) (map f (filter keep rows)) ≡ false
no_new_link rows now keep f g distinct was none =
    any-map (is_link_of now g) f (filter keep rows)
    ∙ any-filter (λ c. is_link_of now g (f c)) keep rows
    ∙ any_none_found number (λ c. keep c && is_link_of now g (f c)) rows (distinct_from rows distinct)
    (λ c here. still (keep c) (is_link_of now g (f c)) (was c here) (any_no number (is_link_of rows g) c.pid.0 rows c none here))
  where
    still : {x : Bool} → (k b : Bool) → (b ≡ true → x ≡ true) → x ≡ false → (k && b) ≡ false
    still true true h e = let t = h refl in cc
    still true false h e = refl
    still false b h e = refl

-- ---- quiet steps
-- no row has the system process's pid
no_system : (rows : List Row) (p : Pid) → IsSound rows → p.0 ≡ 1 → row_of rows p ≡ None
no_system rows p sound e = go (row_of rows p) refl
  where
    go : (o : Option Row) → row_of rows p ≡ o → o ≡ None
    go None h = refl
    go (Some c) h = absurd ((sound.each p c h).not_system (ap (λ q. q.0) (row_pid rows p c h) ∙ e))

-- what was found before it was kept and changed
was_found : (keep : Row → Bool) (f : Row → Row) (o : Option Row) (d' : Row) → option_map f (option_filter keep o) ≡ Some d' → (d : Row) × (o ≡ Some d) × (d' ≡ f d)
was_found keep f None d' e = cc
was_found keep f (Some d) d' e = go (keep d) e
  where
    go : (b : Bool) → option_map f (cond b (Some d) None) ≡ Some d' → (x : Row) × (Some d ≡ Some x) × (d' ≡ f x)
    go true h = (d, refl, cc)
    go false h = cc

quiet_link : (rows : List Row) (keep : Row → Bool) (f : Row → Row) (g : Pid) → IsSound rows → IsQuiet rows f → (c : Row) → row_of rows c.pid ≡ Some c →
    is_link_of (map f (filter keep rows)) g (f c) ≡ true → is_link_of rows g c ≡ true
quiet_link rows keep f g sound q c here e =
    let k = link_from (map f (filter keep rows)) g (f c) e in
    let found = sym (row_moved rows keep f q.pid sound.distinct (f c).parent) ∙ k.there in
    let d = was_found keep f (row_of rows (f c).parent) k.parent found in
    elim (q.parent c) [
      | inl one ↦ (let none : row_of rows (f c).parent ≡ None = no_system rows (f c).parent sound one in absurd (cc (d.1, none)))
      | inr same ↦ link_to rows g c d.0
          (ap (λ p. p.0 == g.0) (sym (q.group c)) ∙ k.member)
          (q.lived c here k.lives)
          (ap (row_of rows) (sym same) ∙ d.1)
          (ap (λ p. p.0 == c.group.0) (sym (q.group d.0)) ∙ ap (λ x. x.group.0 == c.group.0) (sym d.2) ∙ ap (λ p. k.parent.group.0 == p.0) (sym (q.group c)) ∙ k.outside)
          (ap (λ p. p.0 == c.session.0) (sym (q.session d.0)) ∙ ap (λ x. x.session.0 == c.session.0) (sym d.2) ∙ ap (λ p. k.parent.session.0 == p.0) (sym (q.session c)) ∙ k.session)
    ]

-- ---- a fork
-- the parents of old rows are found as before
old_parent : (rows : List Row) (r c : Row) (n : ℕ) → IsSound rows → IsUnused rows n → row_of rows c.pid ≡ Some c → row_of (rows ++ newborn r n ∷ []) c.parent ≡ row_of rows c.parent
old_parent rows r c n sound unused here = at-append number c.parent.0 rows (newborn r n ∷ []) ∙ go (row_of rows c.parent) refl
  where
    go : (o : Option Row) → row_of rows c.parent ≡ o → option_or o (row_of (newborn r n ∷ []) c.parent) ≡ o
    go (Some d) h = refl
    go None h = elim ((sound.each c.pid c here).parent_lives) [
      | inl one ↦ (let least = unused.least in let ne : (n == c.parent.0) ≡ false = ne_eqb _ _ (λ s. absurd (omega arith)) in rw ne)
      | inr alive ↦ absurd (subst IsAlive h alive)
    ]

forked_orphaned : (rows : List Row) (r : Row) (n : ℕ) (g : Pid) → IsSound rows → row_of rows r.pid ≡ Some r → IsUnused rows n →
    list_any (is_link_of rows g) rows ≡ false → list_any (is_link_of (rows ++ newborn r n ∷ []) g) (rows ++ newborn r n ∷ []) ≡ false
forked_orphaned rows r n g sound there unused none =
    let now = rows ++ newborn r n ∷ [] in
    list_any-append (is_link_of now g) rows (newborn r n ∷ []) ∙ both (list_any (is_link_of now g) rows) (is_link_of now g (newborn r n)) old new
  where
    both : (a b : Bool) → a ≡ false → b ≡ false → (a || (b || false)) ≡ false
    both a b x y = rw (x, y) refl

    old : list_any (is_link_of (rows ++ newborn r n ∷ []) g) rows ≡ false
    old = any_none_found number (is_link_of (rows ++ newborn r n ∷ []) g) rows (distinct_from rows sound.distinct)
        (λ c here. ap (λ o. in_group g c && (is_living c.life && is_outside_parent c o)) (old_parent rows r c n sound unused here) ∙ any_no number (is_link_of rows g) c.pid.0 rows c none here)

    found : row_of (rows ++ newborn r n ∷ []) r.pid ≡ Some r
    found = at-append number r.pid.0 rows (newborn r n ∷ []) ∙ ap (λ o. option_or o (row_of (newborn r n ∷ []) r.pid)) there

    inside : (a b s : Bool) → b ≡ true → (a && (not b && s)) ≡ false
    inside true b s e = rw e refl
    inside false b s e = refl

    new : is_link_of (rows ++ newborn r n ∷ []) g (newborn r n) ≡ false
    new = ap (λ o. in_group g (newborn r n) && is_outside_parent (newborn r n) o) found ∙ inside (in_group g (newborn r n)) (r.group.0 == r.group.0) (r.session.0 == r.session.0) (same_number r.group.0)

-- ---- a setpgid of another group
regrouped_link : (rows : List Row) (r : Row) (p h g : Pid) → IsSound rows → (t : Regroups rows r p h) → (t.target.group.0 == g.0) ≡ false → (h.0 == g.0) ≡ false → (c : Row) → row_of rows c.pid ≡ Some c →
    is_link_of (map (regrouped_at p h) rows) g (regrouped_at p h c) ≡ true → is_link_of rows g c ≡ true
regrouped_link rows r p h g sound t from into c here e =
    let k = link_from (map (regrouped_at p h) rows) g (regrouped_at p h c) e in
    let d = mapped_some (regrouped_at p h) (row_of rows c.parent) k.parent (sym (row_map rows (regrouped_at p h) (λ x. refl) c.parent) ∙ k.there) in
    go (is_pid p c) (is_pid p d.0) d.0 refl refl k.member k.lives d.1 (ap (λ x. x.group.0 == (regrouped_at p h c).group.0) (sym d.2) ∙ k.outside) (ap (λ x. x.session.0 == c.session.0) (sym d.2) ∙ k.session)
  where
    is_target : (x : Row) → row_of rows x.pid ≡ Some x → is_pid p x ≡ true → x ≡ t.target
    is_target x hx s = one_row rows t.target.pid x t.target t.there hx (ap (λ q. x.pid.0 == q.0) t.is ∙ s)

    go : (b a : Bool) (d : Row) → is_pid p c ≡ b → is_pid p d ≡ a → ((cond b h c.group).0 == g.0) ≡ true → is_living c.life ≡ true → row_of rows c.parent ≡ Some d →
        ((cond a h d.group).0 == (cond b h c.group).0) ≡ false → in_session c.session d ≡ true → is_link_of rows g c ≡ true
    go true a d sc sd m l hd o s = cc
    go false false d sc sd m l hd o s = link_to rows g c d m l hd o s
    go false true d sc sd m l hd o s =
        let n : c.group.0 ≡ g.0 = eqb-true _ _ m in
        let is : d ≡ t.target = is_target d (row_here rows c.parent d hd) sd in
        link_to rows g c d m l hd (ap (λ k. d.group.0 == k) n ∙ ap (λ x. x.group.0 == g.0) is ∙ from) s

-- ---- a setsid
leading_link : (rows : List Row) (r : Row) (g : Pid) → HaveLeaders rows → row_of rows r.pid ≡ Some r → list_any (in_group r.pid) rows ≡ false → (r.pid.0 == g.0) ≡ false → (c : Row) → row_of rows c.pid ≡ Some c →
    is_link_of (map (leading_at r.pid) rows) g (leading_at r.pid c) ≡ true → is_link_of rows g c ≡ true
leading_link rows r g leads there free ne c here e =
    let k = link_from (map (leading_at r.pid) rows) g (leading_at r.pid c) e in
    let d = mapped_some (leading_at r.pid) (row_of rows c.parent) k.parent (sym (row_map rows (leading_at r.pid) (λ x. refl) c.parent) ∙ k.there) in
    go (is_pid r.pid c) (is_pid r.pid d.0) d.0 refl refl k.member k.lives d.1 (ap (λ x. x.group.0 == (leading_at r.pid c).group.0) (sym d.2) ∙ k.outside) (ap (λ x. x.session.0 == (leading_at r.pid c).session.0) (sym d.2) ∙ k.session)
  where
    -- no row is in a session of the caller's pid
    no_session : (x : Row) → row_of rows x.pid ≡ Some x → r.pid.0 ≡ x.session.0 → ⊥
    no_session x hx s =
        let was = leads x r hx (ap (λ n. at number n rows) (sym s) ∙ there) in
        let y : in_group r.pid r ≡ true = eq-eqb _ _ (ap (λ q. q.0) was.1) in
        let no : in_group r.pid r ≡ false = any_no number (in_group r.pid) r.pid.0 rows r free there in
        cc

    go : (b a : Bool) (d : Row) → is_pid r.pid c ≡ b → is_pid r.pid d ≡ a → ((cond b r.pid c.group).0 == g.0) ≡ true → is_living c.life ≡ true → row_of rows c.parent ≡ Some d →
        ((cond a r.pid d.group).0 == (cond b r.pid c.group).0) ≡ false → ((cond a r.pid d.session).0 == (cond b r.pid c.session).0) ≡ true → is_link_of rows g c ≡ true
    go true a d sc sd m l hd o s = cc
    go false false d sc sd m l hd o s = link_to rows g c d m l hd o s
    go false true d sc sd m l hd o s = absurd (no_session c here (eqb-true _ _ s))

-- ---- every step
-- a map of every row
every_link : (rows : List Row) (f : Row → Row) (g : Pid) → AreDistinct rows → ((c : Row) → row_of rows c.pid ≡ Some c → is_link_of (map f rows) g (f c) ≡ true → is_link_of rows g c ≡ true) →
    list_any (is_link_of rows g) rows ≡ false → list_any (is_link_of (map f rows) g) (map f rows) ≡ false
every_link rows f g distinct was none =
    ap (λ t. list_any (is_link_of (map f rows) g) (map f t)) (sym (filter-all rows)) ∙ no_new_link rows (map f rows) all_stay f g distinct was none

-- the entry, told by the form of its step
regrouping : (rows : List Row) (r : Row) (entry : Entry) (p h g : Pid) → row_of rows (process_of entry) ≡ Some r → RegroupsTo r entry p h → (t : Regroups rows r p h) → (t.target.group.0 ≡ g.0) ⊎ (h.0 ≡ g.0) → IsRegroupingIn rows g entry
regrouping rows r (Called caller (Setpgid n (pos q)) Fine) p h g there is t which =
    (r, t.target, there, ap (row_of rows) (sym is.0 ∙ sym t.is) ∙ t.there, elim which [ inl from ↦ inl from | inr into ↦ inr (ap (λ x. x.0) (sym is.1) ∙ into) ])
regrouping rows r (Called caller (Setpgid n (pos q)) _) p h g there is t which = absurd is
regrouping rows r (Called caller (Setpgid n (negsuc q)) reply) p h g there is t which = absurd is
regrouping rows r (Called caller _ reply) p h g there is t which = absurd is
regrouping rows r (Happened q event) p h g there is t which = absurd is

-- an orphaned group is so after the step, or the step set the group of a member, or made one
form_orphaned : (rows : List Row) (r : Row) (entry : Entry) (now : List Row) (g : Pid) → IsSound rows → HaveLeaders rows → row_of rows r.pid ≡ Some r → row_of rows (process_of entry) ≡ Some r → list_any (in_group g) rows ≡ true →
    list_any (is_link_of rows g) rows ≡ false → Form rows r entry now → (list_any (is_link_of now g) now ≡ false) ⊎ IsRegroupingIn rows g entry
form_orphaned rows r entry now g sound leads there actor_ member none (quiet keep f q stays e) =
    inl (subst (λ t. list_any (is_link_of t g) t ≡ false) (sym e) (no_new_link rows (map f (filter keep rows)) keep f g sound.distinct (quiet_link rows keep f g sound q) none))
form_orphaned rows r entry now g sound leads there actor_ member none (forked n is unused e) =
    inl (subst (λ t. list_any (is_link_of t g) t ≡ false) (sym e) (forked_orphaned rows r n g sound there unused none))
form_orphaned rows r entry now g sound leads there actor_ member none (leading free e) =
    let m = any_found number (in_group g) rows (distinct_from rows sound.distinct) member in
    inl (subst (λ t. list_any (is_link_of t g) t ≡ false) (sym e) (every_link rows (leading_at r.pid) g sound.distinct
    (leading_link rows r g leads there free (other (r.pid.0 == g.0) refl m.0 m.1 m.2)) none))
  where
    other : (b : Bool) → (r.pid.0 == g.0) ≡ b → (x : Row) → row_of rows x.pid ≡ Some x → in_group g x ≡ true → b ≡ false
    other false s x h i = refl
    other true s x h i =
        let n : r.pid.0 ≡ g.0 = eqb-true _ _ s in
        let y : in_group r.pid x ≡ true = ap (λ k. x.group.0 == k) n ∙ i in
        let no : in_group r.pid x ≡ false = any_no number (in_group r.pid) x.pid.0 rows x free h in
        cc
form_orphaned rows r entry now g sound leads there actor_ member none (regrouped p h is t e) = go (t.target.group.0 == g.0) (h.0 == g.0) refl refl
  where
    go : (a b : Bool) → (t.target.group.0 == g.0) ≡ a → (h.0 == g.0) ≡ b → (list_any (is_link_of now g) now ≡ false) ⊎ IsRegroupingIn rows g entry
    go true b ea eb = inr (regrouping rows r entry p h g actor_ is t (inl (eqb-true _ _ ea)))
    go false true ea eb = inr (regrouping rows r entry p h g actor_ is t (inr (eqb-true _ _ eb)))
    go false false ea eb = inl (subst (λ x. list_any (is_link_of x g) x ≡ false) (sym e) (every_link rows (regrouped_at p h) g sound.distinct (regrouped_link rows r p h g sound t ea eb) none))

pub orphaned : OrphanedStays
orphaned rows entry g sound leads legal member was now =
    let a = actor rows entry legal in
    let here = row_here rows (process_of entry) a.row a.there in
    let form = step_form rows a.row entry here a.lives a.legal in
    elim (form_orphaned rows a.row entry _ g sound leads here a.there member (not_true _ was) form) [
      | inl still ↦ absurd (cc (ap (λ t. list_any (is_link_of t g) t) (after_is rows entry a.row a.there) ∙ still, not_false _ now))
      | inr set ↦ set
    ]
