-- Names and stages, read one word after the other.
use Rattle.std.proofs.Common.{◌≡◌, ℕ, ◌+◌, ◌<◌, ◌≤◌, Bool, cond, List, [], ◌∷◌, ◌++◌, length, map, drop, get_or, Bor, refl, sym, ap, ◌∙◌, append_assoc, Some, None, Result, Ok, Err, ltb}
use Rattle.std.specs.List.{position, position_or_len, prefix_len}
use Rattle.std.specs.Prelude.{not}
use Rattle.std.proofs.lemmas.List.{at_drop_more, at_drop_all, append-nil, length-map}
use Rattle.script_words.specs.Words.{Word, Row}
use Rattle.job_plans.specs.declared.Stage.{Stage}
use Rattle.job_files.specs.declared.faults.JobKind.{JobKind}
use Rattle.job_files.specs.MethodReading.{◌>>=◌, stage, stages}

prefix_map : {X Y : Type 0} (p : Y → Bool) (f : X → Y) (xs : List X) → prefix_len p (map f xs) ≡ prefix_len (λ x. p (f x)) xs
prefix_map p f [] = refl
prefix_map p f (x ∷ xs) = ap (λ n. cond (p (f x)) (1 + n) 0) (prefix_map p f xs)

pub position_map : {X Y : Type 0} (p : Y → Bool) (f : X → Y) (xs : List X) → position p (map f xs) ≡ position (λ x. p (f x)) xs
position_map p f xs =
    ap (λ n. cond (ltb n (length (map f xs))) (Some n) None) (prefix_map (λ y. not (p y)) f xs)
    ∙ ap (λ m. cond (ltb (position_or_len (λ x. p (f x)) xs) m) (Some (position_or_len (λ x. p (f x)) xs)) None) (length-map xs f)

-- stages behind those that were read
abbrev pub behind : List Stage → Result (List Stage) JobKind → Result (List Stage) JobKind
behind front read = read >>= λ ss. Ok (front ++ ss)

pub behind_none : (read : Result (List Stage) JobKind) → behind [] read ≡ read
behind_none (Ok ss) = refl
behind_none (Err k) = refl

step : (front : List Stage) (s : Stage) (read : Result (List Stage) JobKind) → behind (front ++ s ∷ []) read ≡ behind front (read >>= λ ss. Ok (s ∷ ss))
step front s (Ok ss) = ap Ok (append_assoc front (s ∷ []) ss)
step front s (Err k) = refl

next_is : (nodes : ℕ) (front : List Stage) (w : Word) (ws : Row) (s : Stage) → stage nodes w ≡ Ok s → behind (front ++ s ∷ []) (stages nodes ws) ≡ behind front (stages nodes (w ∷ ws))
next_is nodes front w ws s e = step front s (stages nodes ws) ∙ ap (λ (r : Result Stage JobKind). behind front (r >>= λ s. (stages nodes ws >>= λ ss. Ok (s ∷ ss)))) (sym e)

bad_is : (nodes : ℕ) (front : List Stage) (w : Word) (ws : Row) (k : JobKind) → stage nodes w ≡ Err k → Err k ≡ behind front (stages nodes (w ∷ ws))
bad_is nodes front w ws k e = ap (λ (r : Result Stage JobKind). behind front (r >>= λ s. (stages nodes ws >>= λ ss. Ok (s ∷ ss)))) (sym e)

abbrev rest_of : ℕ → List Stage → List (Bor (List ℕ)) → Result (List Stage) JobKind
rest_of nodes front ws = behind front (stages nodes (map (λ w. w.now) ws))

pub stages_more : (nodes : ℕ) (front : List Stage) (ws : List (Bor (List ℕ))) (i : ℕ) (d : Bor (List ℕ)) (s : Stage) (total : Result (List Stage) JobKind) → i < length ws → stage nodes (get_or ws i d).now ≡ Ok s
    → behind front (stages nodes (map (λ w. w.now) (drop i ws))) ≡ total → behind (front ++ s ∷ []) (stages nodes (map (λ w. w.now) (drop (i + 1) ws))) ≡ total
stages_more nodes front ws i d s total lt e so_far =
    next_is nodes front (get_or ws i d).now (map (λ w. w.now) (drop (i + 1) ws)) s e ∙ sym (at_drop_more (rest_of nodes front) ws i d lt) ∙ so_far

pub stages_bad : (nodes : ℕ) (front : List Stage) (ws : List (Bor (List ℕ))) (i : ℕ) (d : Bor (List ℕ)) (k : JobKind) (total : Result (List Stage) JobKind) → i < length ws → stage nodes (get_or ws i d).now ≡ Err k
    → behind front (stages nodes (map (λ w. w.now) (drop i ws))) ≡ total → Err k ≡ total
stages_bad nodes front ws i d k total lt e so_far =
    bad_is nodes front (get_or ws i d).now (map (λ w. w.now) (drop (i + 1) ws)) k e ∙ sym (at_drop_more (rest_of nodes front) ws i d lt) ∙ so_far

pub stages_all : (nodes : ℕ) (front : List Stage) (ws : List (Bor (List ℕ))) (i : ℕ) (total : Result (List Stage) JobKind) → length ws ≤ i
    → behind front (stages nodes (map (λ w. w.now) (drop i ws))) ≡ total → Ok front ≡ total
stages_all nodes front ws i total le so_far = ap Ok (sym (append-nil front)) ∙ sym (at_drop_all (rest_of nodes front) ws i le) ∙ so_far
