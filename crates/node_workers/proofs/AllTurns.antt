-- the lists of all nodes are the list of all turns
use Rattle.std.proofs.Common.{◌≡◌, ◌⊎◌, inl, inr, ⊎_elim, ◌+◌, ◌<◌, ◌≤◌, ◌^◌, ◌==◌, ℕ, zero, suc, Bool, true, false, cond, List, [], ◌∷◌, ◌++◌, All, filter, length, map, refl, sym, ap, ◌∙◌, subst, arith, eq-eqb, ne_eqb, Option, None, Some}
use Rattle.std.proofs.lemmas.List.{length-map, map-append}
use Rattle.std.proofs.Common.{length-append, append_assoc, Vec, Global}
use Rattle.std.specs.Prelude.{slice_index_or}
use mathlib.Core.List.{IsPrefix}
use mathlib.Core.Option.{some, some-injective, some-ne-none}
use mathlib.Core.Logic.{dite}
use native.Mathlib.Decide.{ℕ_discrete}
use lib.ListN.{get_elem?}
use Rattle.atomic_table.specs.Seated.{TableId}
use Rattle.unix_calls.specs.declared.Turn.{Turn}
use Rattle.unix_calls.specs.declared.World.{World}
use Rattle.pasts.specs.Pasts.{Knows, Stands}
use Rattle.past_lists.specs.Own.{pick, own_list, own_of}
use Rattle.past_lists.proofs.Own.{picked, some_some}
use Rattle.past_lists.proofs.Seen.{get_lt, snoc_cases}
use Rattle.cluster_state.specs.Possible.{node_of, Possible}
use Rattle.cluster_core.specs.RunOn.{turns_of, AreFew}
use Rattle.ops_vector.specs.Answer.{unix_answer}
use Rattle.commit_log.specs.Passes.{Known, AreAllOf}
use Rattle.locked_laws.specs.declared.PlacedTurn.{PlacedTurn}
use Rattle.locked_laws.specs.Locked.{step_of, IsNode}
use Rattle.locked_laws.specs.Merged.{IsListed, AreMerged}
use Rattle.locked_laws.proofs.Locked.{node_ends}
use Rattle.locked_laws.proofs.Merging.{listed_stands, merged}
use Rattle.node_workers.specs.Views.{LockedView, IsKept}
use Rattle.node_workers.specs.MethodMerging.{all_laid_out, IsPart, AreParts}
use Rattle.node_workers.proofs.Laying.{ListsStand, long_all, put_all, at_place, places_within}

-- ---- lists
there_at : {A : Type 0} (xs : List A) (k : ℕ) → k < length xs → (x : A) × (get_elem? xs k ≡ some x)
there_at [] k lt = absurd (omega arith)
there_at (x ∷ xs) zero lt = (x, refl)
there_at (x ∷ xs) (suc k) lt = there_at xs k (omega arith)

from_step : (list : List PlacedTurn) (i : ℕ) (e : ℕ × Turn) → get_elem? (map step_of list) i ≡ some e → (t : PlacedTurn) × (get_elem? list i ≡ some t) × (step_of t ≡ e)
from_step [] i e is = absurd (some-ne-none e (sym is))
from_step (t ∷ list) zero e is = (t, refl, some-injective (step_of t) e is)
from_step (t ∷ list) (suc i) e is = from_step list i e is

-- a known turn of a node is in the node's list
own_at : (n d : ℕ) (seen : List (Option Turn)) (j : ℕ) (x : Turn) → node_of x ≡ n → Knows seen j x → (i : ℕ) × (get_elem? (own_list node_of n d seen) i ≡ some (d + j, x))
own_at n d [] j x own k = absurd (some-ne-none (Some x) (sym k))
own_at n d (None ∷ seen) zero x own k = absurd (cc k)
own_at n d (None ∷ seen) (suc j) x own k =
    let r = own_at n (suc d) seen j x own k in
    let z : suc d + j ≡ d + suc j = omega arith in
    (r.0, r.1 ∙ ap (λ (m : ℕ). some (m, x)) z)
own_at n d (Some y ∷ seen) zero x own k =
    let same : y ≡ x = some_some node_of y x k in
    let z : d ≡ d + 0 = omega arith in
    (zero, ap (λ (l : List (ℕ × Turn)). get_elem? l zero) (picked node_of y n (d, y) (own_list node_of n (suc d) seen) (ap node_of same ∙ own)) ∙ (ap (λ (t : Turn). some (d, t)) same ∙ ap (λ (m : ℕ). some (m, x)) z))
own_at n d (Some y ∷ seen) (suc j) x own k = go (node_of y == n) (own_at n (suc d) seen j x own k)
  where
    go : (b : Bool) → (i : ℕ) × (get_elem? (own_list node_of n (suc d) seen) i ≡ some (suc d + j, x)) → (i : ℕ) × (get_elem? (pick b (d, y) (own_list node_of n (suc d) seen)) i ≡ some (d + suc j, x))
    go true r = let z : suc d + j ≡ d + suc j = omega arith in (suc r.0, r.1 ∙ ap (λ (m : ℕ). some (m, x)) z)
    go false r = let z : suc d + j ≡ d + suc j = omega arith in (r.0, r.1 ∙ ap (λ (m : ℕ). some (m, x)) z)

get_front : {A : Type 0} (xs ys : List A) (k : ℕ) (x : A) → get_elem? xs k ≡ some x → get_elem? (xs ++ ys) k ≡ some x
get_front [] ys k x e = absurd (some-ne-none x (sym e))
get_front (z ∷ xs) ys zero x e = e
get_front (z ∷ xs) ys (suc k) x e = get_front xs ys k x e

get_back : {A : Type 0} (xs : List A) (y : A) → get_elem? (xs ++ y ∷ []) (length xs) ≡ some y
get_back [] y = refl
get_back (x ∷ xs) y = get_back xs y

-- ---- what the nodes leave
pub parts_none : (world : World) (id : TableId) → AreParts world id 0 [] []
parts_none world id = record { many_passes = refl; many_lists = refl; each = λ k pass list e f. absurd (some-ne-none pass (sym e)) }

-- one node more
pub parts_more : (world : World) (id : TableId) (passes : List (Known Turn)) (lists : List (List PlacedTurn)) (pass : Known Turn) (list : List PlacedTurn) → AreParts world id (length passes) passes lists → IsPart world id pass list → AreParts world id (length (passes ++ pass ∷ [])) (passes ++ pass ∷ []) (lists ++ list ∷ [])
parts_more world id passes lists pass list parts part = record { many_passes = refl; many_lists = length-append lists (list ∷ []) ∙ (ap (λ (n : ℕ). n + 1) parts.many_lists ∙ sym (length-append passes (pass ∷ []))); each = each }
  where
    each : (k : ℕ) (p : Known Turn) (l : List PlacedTurn) → get_elem? (passes ++ pass ∷ []) k ≡ some p → get_elem? (lists ++ list ∷ []) k ≡ some l → IsPart world id p l
    each k p l e f = ⊎_elim
        (λ old. ⊎_elim (λ old'. parts.each k p l old old') (λ new. absurd (let a = get_lt passes k p old in let b = new.0 in let m = parts.many_lists in omega (arith, a, b, m))) (snoc_cases lists list l k f))
        (λ new. ⊎_elim (λ old'. absurd (let a = get_lt lists k l old' in let b = new.0 in let m = parts.many_lists in omega (arith, a, b, m)))
        (λ new'. subst (λ (q : Known Turn). IsPart world id q l) new.1 (subst (λ (m : List PlacedTurn). IsPart world id pass m) new'.1 part)) (snoc_cases lists list l k f))
        (snoc_cases passes pass p k e)

pub parts_pushed : (world : World) (id : TableId) (passes passes' : List (Known Turn)) (lists lists' : List (List PlacedTurn)) (pass : Known Turn) (list : List PlacedTurn) → passes' ≡ passes ++ pass ∷ [] → lists' ≡ lists ++ list ∷ [] → AreParts world id (length passes) passes lists → IsPart world id pass list → AreParts world id (length passes') passes' lists'
parts_pushed world id passes passes' lists lists' pass list e f parts part =
    subst (λ (ps : List (Known Turn)). AreParts world id (length ps) ps lists') (sym e) (subst (λ (ls : List (List PlacedTurn)). AreParts world id (length (passes ++ pass ∷ [])) (passes ++ pass ∷ []) ls) (sym f) (parts_more world id passes lists pass list parts part))

pub part_of : (world : World) (id : TableId) (node : LockedView) (pass : Known Turn) (list : List PlacedTurn) (failed : Bool) → IsKept world id node → failed ≡ node.has_failed → failed ≡ false → pass ≡ node.pass → list ≡ node.list → IsPart world id pass list
part_of world id node pass list failed kept is runs e f =
    subst (λ (p : Known Turn). IsPart world id p list) (sym e) (subst (λ (l : List PlacedTurn). IsPart world id node.pass l) (sym f)
    (record { log_is = kept.log_is; few = kept.few; state = node.state; is = subst (λ (k : ℕ). IsNode world unix_answer node.pass.seen k node.state node.list) (sym kept.node_is) (kept.is (sym is ∙ runs)) }))

-- the items of a vector
abbrev pub items_of : Vec PlacedTurn Global → List PlacedTurn
items_of v = v.items

pub items_last : (vs ws : List (Vec PlacedTurn Global)) (v : Vec PlacedTurn Global) → vs ≡ ws ++ v ∷ [] → map items_of vs ≡ map items_of ws ++ items_of v ∷ []
items_last vs ws v e = ap (map items_of) e ∙ map-append items_of ws (v ∷ [])

pub prefix_back : (left rest whole : List (List PlacedTurn)) (list : List PlacedTurn) → left ≡ rest ++ list ∷ [] → IsPrefix left whole → IsPrefix rest whole
prefix_back left rest whole list e p = (list ∷ p.0, sym (append_assoc rest (list ∷ []) p.0) ∙ (ap (λ (l : List (List PlacedTurn)). l ++ p.0) (sym e) ∙ p.1))

pub logs_are : (world : World) (id log : TableId) (many : ℕ) (passes : List (Known Turn)) (lists : List (List PlacedTurn)) → log ≡ id → AreParts world id many passes lists → All (λ (p : Known Turn). p.log ≡ log) passes
logs_are world id log many passes lists same parts = λ k d lt.
    let l = there_at lists k (let a = parts.many_passes in let b = parts.many_lists in omega (arith, a, b, lt)) in
    (parts.each k (slice_index_or passes k d) l.0 (at_place passes k d lt) l.1).log_is ∙ sym same

-- ---- how many turns a node has made
own_many : (n d : ℕ) (log : List Turn) → length (own_of node_of n d log) ≡ turns_of n log
own_many n d [] = refl
own_many n d (x ∷ log) = go (node_of x == n) (own_many n (suc d) log)
  where
    go : (b : Bool) → length (own_of node_of n (suc d) log) ≡ turns_of n log → length (pick b (d, x) (own_of node_of n (suc d) log)) ≡ length (cond b (x ∷ filter (λ (y : Turn). node_of y == n) log) (filter (λ (y : Turn). node_of y == n) log))
    go true r = ap suc r
    go false r = r

one_or_none : (n : ℕ) (log : List Turn) → (turns_of n log ≡ 0) ⊎ ((j : ℕ) × (x : Turn) × Stands log j x × (node_of x ≡ n))
one_or_none n [] = inl refl
one_or_none n (x ∷ log) = dite (ℕ_discrete (node_of x) n) (λ e. inr (zero, x, refl, e))
    (λ ne. ⊎_elim (λ none. inl (ap (λ (b : Bool). length (cond b (x ∷ filter (λ (y : Turn). node_of y == n) log) (filter (λ (y : Turn). node_of y == n) log))) (ne_eqb (node_of x) n ne) ∙ none)) (λ r. inr (suc r.0, r.1, r.2, r.3)) (one_or_none n log))

module _ (world : World) (id : TableId) (log : List Turn) (passes : List (Known Turn)) (lists : List (List PlacedTurn)) (all : AreAllOf node_of (Possible world unix_answer) log world.nodes passes) (parts : AreParts world id world.nodes passes lists) where
  -- the k-th pass with its list
  pub record Part (k : ℕ) : Type 0 where
    pub pass : Known Turn
    pub list : List PlacedTurn
    pub pass_there : get_elem? passes k ≡ some pass
    pub list_there : get_elem? lists k ≡ some list
    pub is : IsPart world id pass list

  part_at : (k : ℕ) → k < world.nodes → Part k
  part_at k lt =
      let p = there_at passes k (let m = parts.many_passes in omega (arith, m, lt)) in
      let l = there_at lists k (let m = parts.many_lists in omega (arith, m, lt)) in
      record { pass = p.0; list = l.0; pass_there = p.1; list_there = l.1; is = parts.each k p.0 l.0 p.1 l.1 }

  listed : (k : ℕ) (p : Part k) (i : ℕ) (t : PlacedTurn) → get_elem? p.list i ≡ some t → IsListed world unix_answer log t
  listed k p i t there =
      let own = all.own_steps k p.pass p.pass_there in
      record { node = p.pass.node; seen = p.pass.seen; state = p.is.state; list = p.list; index = i; past = own.past.past; all = own.whole; is = p.is.is; there = there }

  run : Possible world unix_answer log
  run = all.legal

  lists_stand : ListsStand log lists
  lists_stand k list e i t there =
      let lt : k < world.nodes = (let a = get_lt lists k list e in let m = parts.many_lists in omega (arith, a, m)) in
      let p = part_at k lt in
      listed_stands world unix_answer log run.cluster run.entries run.ran t (listed k p i t (subst (λ (l : List PlacedTurn). get_elem? l i ≡ some t) (some-injective list p.list (sym e ∙ p.list_there)) there))

  pub all_merged : (blank : List Turn) → length blank ≡ length log → all_laid_out lists blank ≡ log
  all_merged blank long = merged world unix_answer log run.cluster run.entries run.ran (all_laid_out lists blank) (record { many = long_all log lists blank ∙ long; each = each })
    where
      each : (j : ℕ) → j < length log → (t : PlacedTurn) × IsListed world unix_answer log t × (t.place ≡ j) × Stands (all_laid_out lists blank) j t.turn
      each j lt =
          let drawn = all.drawn j lt in
          let d = drawn.1 in
          let inside : drawn.0 < world.nodes = (let a = get_lt passes drawn.0 d.pass d.stands in let m = parts.many_passes in omega (arith, a, m)) in
          let p = part_at drawn.0 inside in
          let same : d.pass ≡ p.pass = some-injective d.pass p.pass (sym d.stands ∙ p.pass_there) in
          let own : node_of d.step ≡ p.pass.node = d.own ∙ ap (λ (q : Known Turn). q.node) same in
          let knows : Knows p.pass.seen j d.step = subst (λ (q : Known Turn). Knows q.seen j d.step) same d.knows in
          let at = own_at p.pass.node 0 p.pass.seen j d.step own knows in
          let t = from_step p.list at.0 (0 + j, d.step) (ap (λ (l : List (ℕ × Turn)). get_elem? l at.0) p.is.is.own ∙ at.1) in
          let here : 0 + j ≡ j = omega arith in
          let place : t.0.place ≡ j = ap (λ (e : ℕ × Turn). e.0) t.2 ∙ here in
          (t.0, listed drawn.0 p at.0 t.0 t.1, place, subst (λ (i : ℕ). Stands (all_laid_out lists blank) i t.0.turn) place (put_all log lists blank drawn.0 p.list at.0 t.0 lists_stand long p.list_there t.1))

  pub all_few : AreFew log
  all_few n = ⊎_elim (λ none. omega (arith, none)) (λ r. few_of n (subst (λ (m : ℕ). m < world.nodes) r.3 (all.inside r.0 r.1 r.2))) (one_or_none n log)
    where
      few_of : (n : ℕ) → n < world.nodes → turns_of n log ≤ 2 ^ 40
      few_of n lt =
          let e = all.each n lt in
          let inside : e.0 < world.nodes = (let a = get_lt passes e.0 e.1 e.2 in let m = parts.many_passes in omega (arith, a, m)) in
          let p = part_at e.0 inside in
          let same : e.1 ≡ p.pass = some-injective e.1 p.pass (sym e.2 ∙ p.pass_there) in
          let own = all.own_steps e.0 p.pass p.pass_there in
          let ends = node_ends world unix_answer log p.pass.seen p.pass.node p.is.state p.list run.cluster run.entries own.past.past own.whole run.ran p.is.is in
          let many : length p.list ≡ turns_of p.pass.node log = sym (length-map p.list step_of) ∙ (ap (λ (l : List (ℕ × Turn)). length l) ends.1 ∙ own_many p.pass.node 0 log) in
          let at : p.pass.node ≡ n = ap (λ (q : Known Turn). q.node) (sym same) ∙ e.3 in
          let most = p.is.few in
          subst (λ (m : ℕ). turns_of m log ≤ 2 ^ 40) at (omega (arith, many, most))

  -- while the lists are laid out from the last on
  module _ (left : List (List PlacedTurn)) (begins : IsPrefix left lists) where
    left_stand : ListsStand log left
    left_stand k list e = lists_stand k list (subst (λ (ls : List (List PlacedTurn)). get_elem? ls k ≡ some list) begins.1 (get_front left begins.0 k list e))

    pub last_within : (rest : List (List PlacedTurn)) (list : List PlacedTurn) (most : ℕ) → left ≡ rest ++ list ∷ [] → length log ≡ most → All (λ (t : PlacedTurn). t.place < most) list
    last_within rest list most e long = places_within log most list (left_stand (length rest) list (ap (λ (ls : List (List PlacedTurn)). get_elem? ls (length rest)) e ∙ get_back rest list)) long

  -- once all are laid out
  pub turns_are : (left : List (List PlacedTurn)) (steps blank : List Turn) → left ≡ [] → all_laid_out left steps ≡ all_laid_out lists blank → length blank ≡ length log → steps ≡ log
  turns_are left steps blank none laid long = ap (λ (ls : List (List PlacedTurn)). all_laid_out ls steps) (sym none) ∙ (laid ∙ all_merged blank long)
