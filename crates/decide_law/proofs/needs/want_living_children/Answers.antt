use Rattle.std.proofs.Common.{◌≡◌, ◌+◌, ◌<◌, ◌++◌, ◌∷◌, [], ℕ, suc, List, length, take, drop, get_or, min, ap, sym, ◌∙◌, add-one}
use Rattle.std.proofs.Math.Seq.{take-suc, take-append-add, drop-cons}
use Rattle.std.proofs.Math.Nat.{min-le_right}
use Rattle.std.proofs.lemmas.List.{append-nil, take-append-drop, take-append-le, take_min}
use Rattle.std.proofs.lemmas.Grind.{flat_map-append}
use Rattle.std.specs.Prelude.{flat_map, Result, Ok, Err, OnErr}
use Rattle.unix_names.specs.declared.Pid.{Pid}
use Rattle.unix_names.specs.declared.Name.{Name}
use Rattle.record_bag.specs.declared.bag.Bag.{Bag}
use Rattle.decide_law.specs.Footprints.{with_living_group}
use Rattle.decide_law.specs.MethodNeeds.{wanted}
use Rattle.decide_law.proofs.Gathered.{wanted_more}
use Rattle.decide_law.proofs.needs.want_living_children.Goals as goal

module _ (bag : Bag) (f : Pid → List Name) (all : List Pid) (k : ℕ) (d : Pid) (inside : k < length all) (acc now new : List Name) (come : now ≡ wanted bag (flat_map f (take k all)) acc) where
  -- one more piece has come
  one_more : new ≡ wanted bag (f (get_or all k d)) now → new ≡ wanted bag (flat_map f (take (k + 1) all)) acc
  one_more is =
      is ∙ ap (wanted bag (f (get_or all k d))) come
      ∙ sym (wanted_more bag (flat_map f (take k all)) (f (get_or all k d)) acc)
      ∙ sym (ap (λ l. wanted bag l acc) (ap (λ (m : ℕ). flat_map f (take m all)) (add-one k) ∙ ap (flat_map f) (take-suc all k d inside) ∙ flat_map-append f (take k all) (get_or all k d ∷ []) ∙ ap (λ l. flat_map f (take k all) ++ l) (append-nil (f (get_or all k d)))))

  pieces : flat_map f all ≡ flat_map f (take k all) ++ (f (get_or all k d) ++ flat_map f (drop (suc k) all))
  pieces = ap (flat_map f) (sym (take-append-drop k all) ∙ ap (λ l. take k all ++ l) (drop-cons all k d inside)) ∙ flat_map-append f (take k all) (get_or all k d ∷ drop (suc k) all)

  -- the first of one more piece have come
  first_come : (n : ℕ) → new ≡ wanted bag (take n (f (get_or all k d))) now → new ≡ wanted bag (take (length (flat_map f (take k all)) + min n (length (f (get_or all k d)))) (flat_map f all)) acc
  first_come n is =
      let piece = f (get_or all k d) in
      let rest = flat_map f (drop (suc k) all) in
      let before = flat_map f (take k all) in
      is ∙ ap (wanted bag (take n piece)) come
      ∙ sym (wanted_more bag before (take n piece) acc)
      ∙ sym (ap (λ l. wanted bag l acc) (ap (take (length before + min n (length piece))) pieces ∙ take-append-add before (piece ++ rest) (min n (length piece)) ∙ ap (λ l. before ++ l) (take-append-le (min n (length piece)) piece rest (min-le_right n (length piece)) ∙ take_min n piece)))

on_err : {T E P : Type 0} (r : Result T E) → P → OnErr r P
on_err (Ok x) p = tt
on_err (Err e) p = p

pub returns-in_err-want_living_group-clause-err : goal.returns-in_err-want_living_group-clause-err
returns-in_err-want_living_group-clause-err c =
    let h = c.in_err-want_living_group.ensures.err in
    on_err c.from_residual.result (_, first_come c.args.bag.now (with_living_group c.args.bag.now) c.args.children.now c.loop-child.child-index (record { 0 = 0 }) c.loop-child-test.true c.args.names.now c.loop-child.names c.want_living_group.new.names c.loop-child.invariant h.0 h.1)

pub loop-child-preserved : goal.loop-child-preserved
loop-child-preserved c =
    one_more c.args.bag.now (with_living_group c.args.bag.now) c.args.children.now c.loop-child.child-index (record { 0 = 0 }) c.loop-child-test.true c.args.names.now c.loop-child.names c.want_living_group.new.names c.loop-child.invariant c.in_ok-want_living_group.ensures.ok
