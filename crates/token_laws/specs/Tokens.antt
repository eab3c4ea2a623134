-- tokens that node 0 gives and node 1 takes: each take comes after its give
use Rattle.std.specs.Prelude.{◌≡◌, ℕ, ◌+◌, ◌<◌, List, [], ◌∷◌}
use Rattle.token_laws.specs.declared.Move.{Move}
use Rattle.token_laws.specs.declared.Move.TheVariants.{Give, Take}

abbrev pub node_of : Move → ℕ
node_of Give = 0
node_of Take = 1

abbrev pub gives : Move → ℕ
gives Give = 1
gives Take = 0

abbrev pub takes : Move → ℕ
takes Give = 0
takes Take = 1

abbrev pub sum_of : (Move → ℕ) → List Move → ℕ
sum_of f [] = 0
sum_of f (x ∷ xs) = f x + sum_of f xs

-- lawful after so many gives and takes
abbrev pub lawful_from : ℕ → ℕ → List Move → Type 0
lawful_from g t [] = Unit {0}
lawful_from g t (Give ∷ xs) = lawful_from (g + 1) t xs
lawful_from g t (Take ∷ xs) = (t < g) × lawful_from g (t + 1) xs

abbrev pub lawful : List Move → Type 0
lawful xs = lawful_from 0 0 xs
