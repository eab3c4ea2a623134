-- reading a schedule line by line
use Rattle.std.proofs.Common.{◌≡◌, ℕ, List, [], ◌∷◌, fold, Option, Result, Ok, Err, refl, ap, sym, ◌∙◌}
use Rattle.script_words.specs.declared.Kind.{Kind}
use Rattle.script_words.specs.declared.Fault.{Fault}
use Rattle.run_text.specs.Schedule.{SoFar, added, after_line, read_turn, turns_of}

fault-stays : (nodes : ℕ) (fault : Fault) (ls : List (List ℕ)) → fold (after_line nodes) (Err fault) ls ≡ Err fault
fault-stays nodes fault [] = refl
fault-stays nodes fault (l ∷ ls) = fault-stays nodes fault ls

-- the state behind a line goes on with the lines behind it
pub goes_on : (nodes : ℕ) (s t : SoFar) (l : List ℕ) (ls rest : List (List ℕ)) (all : Result SoFar Fault) → ls ≡ l ∷ rest → added s (read_turn nodes s.count l) ≡ Ok t
    → fold (after_line nodes) (Ok s) ls ≡ all → fold (after_line nodes) (Ok t) rest ≡ all
goes_on nodes s t l ls rest all e step before =
    ap (λ (r : Result SoFar Fault). fold (after_line nodes) r rest) (sym step) ∙ ap (fold (after_line nodes) (Ok s)) (sym e) ∙ before

-- the first fault is the answer
pub stops : (nodes : ℕ) (s : SoFar) (l : List ℕ) (ls rest : List (List ℕ)) (all : Result SoFar Fault) (kind : Kind) → ls ≡ l ∷ rest → read_turn nodes s.count l ≡ Err kind
    → fold (after_line nodes) (Ok s) ls ≡ all → turns_of all ≡ Err (record { line = s.number; kind = kind })
stops nodes s l ls rest all kind e bad before =
    ap turns_of (sym before ∙ ap (fold (after_line nodes) (Ok s)) e ∙ ap (λ (r : Result (Option _) Kind). fold (after_line nodes) (added s r) rest) bad ∙ fault-stays nodes (record { line = s.number; kind = kind }) rest)

-- behind the last line the turns are the answer
pub ends : (nodes : ℕ) (s : SoFar) (ls : List (List ℕ)) (all : Result SoFar Fault) → ls ≡ [] → fold (after_line nodes) (Ok s) ls ≡ all → turns_of all ≡ Ok s.turns
ends nodes s ls all e before = ap turns_of (sym before ∙ ap (fold (after_line nodes) (Ok s)) e)
