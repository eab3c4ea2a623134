-- the first image that is not stopped, behind those whom a push passes over
use Rattle.std.proofs.Common.{◌≡◌, ◌∙◌, ◌+◌, ℕ, suc, Bool, true, false, not, cond, List, [], ◌∷◌, ◌++◌, length, Option, None, Some, is_some, ◌-◌, if◌then◌else◌, refl, sym, ap, arith}
use Rattle.std.specs.Prelude.{filter}
use Rattle.proc_image.specs.declared.Image.{Image}
use Rattle.node_state.specs.declared.ready.Waiting.{Waiting}
use Rattle.node_state.specs.declared.ready.Waiting.TheVariants as waiting
use Rattle.node_state.specs.Ready.{is_stopped_phase, first_movable, without_movable, is_movable, movable_count}

first_by : (image : Image) (ws rest : List Waiting) (b : Bool) → (if b then first_movable ws else Some image) ≡ None → (first_movable ws ≡ None → first_movable (ws ++ rest) ≡ first_movable rest) →
    (if b then first_movable (ws ++ rest) else Some image) ≡ first_movable rest
first_by image ws rest true none later = later none
first_by image ws rest false none later = absurd (cc none)

pub first-behind : (passed rest : List Waiting) → first_movable passed ≡ None → first_movable (passed ++ rest) ≡ first_movable rest
first-behind [] rest none = refl
first-behind (waiting.Courier c ∷ ws) rest none = first-behind ws rest none
first-behind (waiting.Image image ∷ ws) rest none = first_by image ws rest (is_stopped_phase image.phase) none (first-behind ws rest)

without_by : (image : Image) (ws rest : List Waiting) (b : Bool) → (if b then first_movable ws else Some image) ≡ None → (first_movable ws ≡ None → without_movable (ws ++ rest) ≡ ws ++ without_movable rest) →
    (if b then waiting.Image image ∷ without_movable (ws ++ rest) else (ws ++ rest)) ≡ waiting.Image image ∷ (ws ++ without_movable rest)
without_by image ws rest true none later = ap (λ xs. waiting.Image image ∷ xs) (later none)
without_by image ws rest false none later = absurd (cc none)

pub without-behind : (passed rest : List Waiting) → first_movable passed ≡ None → without_movable (passed ++ rest) ≡ passed ++ without_movable rest
without-behind [] rest none = refl
without-behind (waiting.Courier c ∷ ws) rest none = ap (λ xs. waiting.Courier c ∷ xs) (without-behind ws rest none)
without-behind (waiting.Image image ∷ ws) rest none = without_by image ws rest (is_stopped_phase image.phase) none (without-behind ws rest)

-- ---- one more is passed over
passes_by : (image : Image) (b : Bool) → b ≡ true → (if b then first_movable [] else Some image) ≡ None
passes_by image b e = rw e

pub stopped-more : (passed : List Waiting) (image : Image) → first_movable passed ≡ None → is_stopped_phase image.phase ≡ true → first_movable (passed ++ waiting.Image image ∷ []) ≡ None
stopped-more passed image none e = first-behind passed (waiting.Image image ∷ []) none ∙ passes_by image (is_stopped_phase image.phase) e

pub courier-more : (passed : List Waiting) (w : Waiting) → first_movable passed ≡ None → first_movable (w ∷ []) ≡ None → first_movable (passed ++ w ∷ []) ≡ None
courier-more passed w none e = first-behind passed (w ∷ []) none ∙ e

-- ---- the first behind them moves
moves_by : (image : Image) (rest : List Waiting) (b : Bool) → b ≡ false → ((if b then first_movable rest else Some image) ≡ Some image) × ((if b then waiting.Image image ∷ without_movable rest else rest) ≡ rest)
moves_by image rest b e = (rw e, rw e)

pub first-moves : (passed rest : List Waiting) (image : Image) → first_movable passed ≡ None → is_stopped_phase image.phase ≡ false → first_movable (passed ++ waiting.Image image ∷ rest) ≡ Some image
first-moves passed rest image none e = first-behind passed (waiting.Image image ∷ rest) none ∙ (moves_by image rest (is_stopped_phase image.phase) e).0

pub rest-stays : (passed rest : List Waiting) (image : Image) → first_movable passed ≡ None → is_stopped_phase image.phase ≡ false → without_movable (passed ++ waiting.Image image ∷ rest) ≡ passed ++ rest
rest-stays passed rest image none e = without-behind passed (waiting.Image image ∷ rest) none ∙ ap (λ xs. passed ++ xs) (moves_by image rest (is_stopped_phase image.phase) e).1

-- a list with nothing in it has nothing at its front
pub front-empty : (ws rest : List Waiting) → ws ++ rest ≡ [] → ws ≡ []
front-empty [] rest empty = refl
front-empty (w ∷ ws) rest empty = absurd (cc empty)

-- without an image that can move nothing leaves
pub without-none : (ws : List Waiting) → first_movable ws ≡ None → without_movable ws ≡ ws
without-none [] none = refl
without-none (waiting.Courier c ∷ ws) none = ap (λ xs. waiting.Courier c ∷ xs) (without-none ws none)
without-none (waiting.Image image ∷ ws) none = stay_by image ws (is_stopped_phase image.phase) none (without-none ws)
  where
    stay_by : (image : Image) (ws : List Waiting) (b : Bool) → (if b then first_movable ws else Some image) ≡ None → (first_movable ws ≡ None → without_movable ws ≡ ws) →
        (if b then waiting.Image image ∷ without_movable ws else ws) ≡ waiting.Image image ∷ ws
    stay_by image ws true none rest = ap (λ xs. waiting.Image image ∷ xs) (rest none)
    stay_by image ws false none rest = absurd (cc none)

-- ---- in the terms of a queue in two parts
pub image-leaves : (passed others now : List Waiting) (image : Image) → first_movable passed ≡ None → others ≡ waiting.Image image ∷ now → is_stopped_phase image.phase ≡ false → first_movable (passed ++ others) ≡ Some image
image-leaves passed others now image none e moves = ap (λ xs. first_movable (passed ++ xs)) e ∙ first-moves passed now image none moves

pub others-stay : (passed others now : List Waiting) (image : Image) → first_movable passed ≡ None → others ≡ waiting.Image image ∷ now → is_stopped_phase image.phase ≡ false → without_movable (passed ++ others) ≡ passed ++ now
others-stay passed others now image none e moves = ap (λ xs. without_movable (passed ++ xs)) e ∙ rest-stays passed now image none moves

-- one who is passed over goes from one part to the other
pub passes : (passed others now : List Waiting) (w : Waiting) → others ≡ w ∷ now → (passed ++ w ∷ []) ++ now ≡ passed ++ others
passes [] others now w e = sym e
passes (x ∷ xs) others now w e = ap (λ ys. x ∷ ys) (passes xs others now w e)

pub nobody-moves : (passed others : List Waiting) → first_movable passed ≡ None → others ≡ [] → first_movable (passed ++ others) ≡ None
nobody-moves passed others none e = ap (λ xs. first_movable (passed ++ xs)) e ∙ first-behind passed [] none

pub nobody-leaves : (passed others now : List Waiting) → first_movable passed ≡ None → others ≡ [] → now ≡ [] → passed ++ now ≡ without_movable (passed ++ others)
nobody-leaves passed others now none before after = ap (λ xs. passed ++ xs) after ∙ sym (ap (λ xs. without_movable (passed ++ xs)) before ∙ without-behind passed [] none)

later_by : (image : Image) (ws : List Waiting) (b : Bool) → (if b then first_movable ws else Some image) ≡ None → first_movable ws ≡ None
later_by image ws true none = none
later_by image ws false none = absurd (cc none)

-- behind one who is passed over
pub later-passed : (w : Waiting) (ws : List Waiting) → first_movable (w ∷ ws) ≡ None → first_movable ws ≡ None
later-passed (waiting.Courier c) ws none = none
later-passed (waiting.Image image) ws none = later_by image ws (is_stopped_phase image.phase) none

-- ---- how many can be moved
movable-cons-by : (w : Waiting) (ws : List Waiting) (b : Bool) → length (cond b (w ∷ filter is_movable ws) (filter is_movable ws)) ≡ length (cond b (w ∷ []) []) + movable_count ws
movable-cons-by w ws true = omega arith
movable-cons-by w ws false = omega arith

pub movable-cons : (w : Waiting) (ws : List Waiting) → movable_count (w ∷ ws) ≡ movable_count (w ∷ []) + movable_count ws
movable-cons w ws = movable-cons-by w ws (is_movable w)

pub movable-append : (xs ys : List Waiting) → movable_count (xs ++ ys) ≡ movable_count xs + movable_count ys
movable-append [] ys = omega arith
movable-append (x ∷ xs) ys =
    let a = movable-cons x (xs ++ ys) in
    let b = movable-cons x xs in
    let c = movable-append xs ys in
    omega arith

-- who cannot be moved counts nothing in any place
pub movable-lost : (xs ys : List Waiting) (w : Waiting) → movable_count (w ∷ []) ≡ 0 → movable_count (xs ++ ys) ≡ movable_count (xs ++ w ∷ ys)
movable-lost xs ys w none =
    let a = movable-append xs (w ∷ ys) in
    let b = movable-cons w ys in
    let c = movable-append xs ys in
    omega arith

stopped-counts-by : (w : Waiting) (b : Bool) → b ≡ true → length (cond (not b) (w ∷ []) []) ≡ 0
stopped-counts-by w b e = rw e

pub stopped-counts : (image : Image) → is_stopped_phase image.phase ≡ true → movable_count (waiting.Image image ∷ []) ≡ 0
stopped-counts image e = stopped-counts-by (waiting.Image image) (is_stopped_phase image.phase) e

-- the first that can be moved leaves
pub movable-leaves : (ws : List Waiting) (moved : Image) → first_movable ws ≡ Some moved → movable_count ws ≡ suc (movable_count (without_movable ws))
movable-leaves [] moved first = absurd (cc first)
movable-leaves (waiting.Courier c ∷ ws) moved first = movable-leaves ws moved first
movable-leaves (waiting.Image image ∷ ws) moved first = go (is_stopped_phase image.phase) refl first (movable-leaves ws moved)
  where
    stays : is_stopped_phase image.phase ≡ true → movable_count ws ≡ suc (movable_count (without_movable ws)) → movable_count ws ≡ suc (movable_count (waiting.Image image ∷ without_movable ws))
    stays e later =
        let a = movable-cons (waiting.Image image) (without_movable ws) in
        let b = stopped-counts image e in
        omega arith

    go : (b : Bool) → is_stopped_phase image.phase ≡ b → (if b then first_movable ws else Some image) ≡ Some moved → (first_movable ws ≡ Some moved → movable_count ws ≡ suc (movable_count (without_movable ws))) →
        length (cond (not b) (waiting.Image image ∷ filter is_movable ws) (filter is_movable ws)) ≡ suc (movable_count (if b then waiting.Image image ∷ without_movable ws else ws))
    go true e first later = stays e (later first)
    go false e first later = refl

pub movable-less : (old new : List Waiting) (o : Option Image) (n : ℕ) → o ≡ first_movable old → new ≡ without_movable old → is_some o ≡ true → n ≡ movable_count old → n - 1 ≡ movable_count new
movable-less old new None n first rest some count = absurd (cc some)
movable-less old new (Some moved) n first rest some count =
    let a = movable-leaves old moved (sym first) in
    let b : movable_count new ≡ movable_count (without_movable old) = ap movable_count rest in
    omega arith

-- one joins the end
pub movable-more : (passed others : List Waiting) (w : Waiting) (n : ℕ) → n ≡ movable_count (passed ++ others) → n + movable_count (w ∷ []) ≡ movable_count (passed ++ (others ++ w ∷ []))
movable-more passed others w n count =
    let a = movable-append passed others in
    let b = movable-append passed (others ++ w ∷ []) in
    let c = movable-append others (w ∷ []) in
    omega arith
