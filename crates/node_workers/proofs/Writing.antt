-- letters that are written one after the other
use Rattle.std.proofs.Common.{◌≡◌, ◌+◌, ◌<◌, ℕ, zero, suc, List, [], ◌∷◌, ◌++◌, All, length, map, refl, sym, ap, ◌∙◌, subst, arith, append_assoc}
use Rattle.std.specs.Prelude.{slice_index_or}
use Rattle.atomic_table.specs.Seated.{TableId}
use Rattle.node_state.specs.declared.Sent.{Sent}
use Rattle.commit_log.specs.Passes.{Known, first_passes}
use Rattle.node_workers.specs.Views.{LetterView}

pub written_on : (old new : List LetterView) (f : Sent → LetterView) (sent : Sent) (before rest : List Sent) (letter : LetterView) (whole : List LetterView) → before ≡ sent ∷ rest → letter ≡ f sent → new ≡ old ++ letter ∷ [] → old ++ map f before ≡ whole → new ++ map f rest ≡ whole
written_on old new f sent before rest letter whole popped is put h =
    ap (λ (l : List LetterView). l ++ map f rest) (put ∙ ap (λ (x : LetterView). old ++ x ∷ []) is)
    ∙ (append_assoc old (f sent ∷ []) (map f rest) ∙ (ap (λ (l : List Sent). old ++ map f l) (sym popped) ∙ h))

pub all_rest : (P : Sent → Type 0) (sent : Sent) (before rest : List Sent) → before ≡ sent ∷ rest → All P before → All P rest
all_rest P sent before rest e all = λ k d lt. (subst (All P) e all) (suc k) d (omega (arith, lt))

pub many_passes : (S : Type 0) (log : TableId) (k n : ℕ) → length (first_passes {S = S} log k n) ≡ n
many_passes S log k zero = refl
many_passes S log k (suc n) = ap suc (many_passes S log (suc k) n)
