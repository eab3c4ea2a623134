-- The words of a command say one number.
use Rattle.std.proofs.Common.{◌≡◌, ℕ, List, [], ◌∷◌, sym, ◌∙◌}
use Rattle.cluster_cli.specs.declared.commands.Command.TheVariants.{Table, Why}
use Rattle.cluster_cli.specs.Commands.{Says}

pub one_table : (words : List (List ℕ)) (a b : ℕ) → Says words (Table a) → Says words (Table b) → a ≡ b
one_table [] a b h k = absurd h
one_table (w ∷ []) a b h k = absurd h
one_table (w ∷ n ∷ []) a b h k = h.1.1 ∙ sym k.1.1
one_table (w ∷ n ∷ x ∷ []) a b h k = absurd h
one_table (w ∷ n ∷ x ∷ y ∷ []) a b h k = absurd h
one_table (w ∷ n ∷ x ∷ y ∷ z ∷ ws) a b h k = absurd h

pub one_why : (words : List (List ℕ)) (a b : ℕ) → Says words (Why a) → Says words (Why b) → a ≡ b
one_why [] a b h k = absurd h
one_why (w ∷ []) a b h k = absurd h
one_why (w ∷ n ∷ []) a b h k = h.1.1 ∙ sym k.1.1
one_why (w ∷ n ∷ x ∷ []) a b h k = absurd h
one_why (w ∷ n ∷ x ∷ y ∷ []) a b h k = absurd h
one_why (w ∷ n ∷ x ∷ y ∷ z ∷ ws) a b h k = absurd h
