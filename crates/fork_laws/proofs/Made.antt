-- how many processes a history made
use Rattle.std.proofs.Common.{◌≡◌, ◌≤◌, ◌+◌, ◌∙◌, ap, suc, ℕ, List, [], ◌∷◌, ◌++◌, refl, arith, Option, None, Some}
use Rattle.unix_calls.specs.declared.Call.TheVariants.{Fork}
use Rattle.unix_calls.specs.declared.Reply.TheVariants.{Number}
use Rattle.unix_calls.specs.declared.Entry.{Entry}
use Rattle.unix_calls.specs.declared.Entry.TheVariants.{Called, Happened}
use Rattle.fork_laws.specs.Made.{made_by, made_if, made_from}

pub made-push : (m : ℕ) (history : List Entry) (e : Entry) → made_from m (history ++ e ∷ []) ≡ made_by e (made_from m history)
made-push m [] e = refl
made-push m (x ∷ history) e = made-push (made_by x m) history e

pub made-more : (e : Entry) (m : ℕ) → m ≤ made_by e m
made-more (Called p Fork (Number n)) m = omega arith
made-more (Called p Fork _) m = omega arith
made-more (Called p _ reply) m = omega arith
made-more (Happened p event) m = omega arith

pub made_if-more : (o : Option Entry) (m : ℕ) → m ≤ made_if o m
made_if-more None m = omega arith
made_if-more (Some e) m = made-more e m

-- counting from another number
by-plus : (n m : ℕ) (e : Entry) → made_by e (n + m) ≡ n + made_by e m
by-plus n m (Called p Fork (Number k)) = let is : suc (n + m) ≡ n + suc m = omega arith in is
by-plus n m (Called p Fork _) = refl
by-plus n m (Called p _ reply) = refl
by-plus n m (Happened p event) = refl

pub made-plus : (n m : ℕ) (history : List Entry) → made_from (n + m) history ≡ n + made_from m history
made-plus n m [] = refl
made-plus n m (e ∷ history) = ap (λ k. made_from k history) (by-plus n m e) ∙ made-plus n (made_by e m) history
