-- reading signals one after the other, as a loop does
use Rattle.std.proofs.Common.{◌≡◌, ℕ, ◌+◌, ◌<◌, ◌≤◌, List, length, get_or, drop, map, Result, Ok, Err, Bor, sym, refl, ◌∙◌}
use Rattle.std.proofs.lemmas.List.{at_drop_more, at_drop_all}
use Rattle.unix_names.specs.declared.signals.Signal.{Signal}
use Rattle.unix_names.specs.Sets.{added}
use Rattle.script_words.specs.declared.faults.Kind.{Kind}
use Rattle.script_words.specs.Words.{signal}
use Rattle.script_reader.specs.Statements.{signals}

rest : ℕ → List (Bor (List ℕ)) → Result ℕ Kind
rest set ws = signals set (map (λ w. w.now) ws)

pub goes_on : (ws : List (Bor (List ℕ))) (i set : ℕ) (d : Bor (List ℕ)) (s : Signal) (total : Result ℕ Kind) → i < length ws
    → Ok s ≡ signal (get_or ws i d).now → signals set (map (λ w. w.now) (drop i ws)) ≡ total → signals (added set s) (map (λ w. w.now) (drop (i + 1) ws)) ≡ total
unfolding signals rest
goes_on ws i set d s total lt e so_far =
    let step = at_drop_more (rest set) ws i d lt in
    sym (step ∙ rw (← e) refl) ∙ so_far

pub stops : (ws : List (Bor (List ℕ))) (i set : ℕ) (d : Bor (List ℕ)) (kind : Kind) (total : Result ℕ Kind) → i < length ws
    → Err kind ≡ signal (get_or ws i d).now → signals set (map (λ w. w.now) (drop i ws)) ≡ total → Err kind ≡ total
unfolding signals rest
stops ws i set d kind total lt e so_far =
    let step = at_drop_more (rest set) ws i d lt in
    sym (step ∙ rw (← e) refl) ∙ so_far

pub ends : (ws : List (Bor (List ℕ))) (i set : ℕ) (total : Result ℕ Kind) → length ws ≤ i → signals set (map (λ w. w.now) (drop i ws)) ≡ total → Ok set ≡ total
unfolding signals rest
ends ws i set total le so_far = sym (at_drop_all (rest set) ws i le) ∙ so_far
