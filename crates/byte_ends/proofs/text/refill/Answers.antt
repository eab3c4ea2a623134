use Rattle.std.proofs.Common.{◌≡◌, ◌==◌, ◌++◌, [], List, Option, Result, OnOk, MatchResult, not, length, map, refl, ap, ◌∙◌, rules, tests}
use Rattle.std.specs.Iterator.{Yields, Drains}
use Rattle.std.proofs.lemmas.Iterator.{YieldsList}
use Rattle.std.proofs.lemmas.Iterator.Adapters.{fact_from_extend}
use Rattle.std.proofs.lemmas.Iterator.Consumers.{YieldsList-from_filter, YieldsList-at}
use Rattle.std.proofs.lemmas.Iterator.Splits.{YieldsList-from_slice_split}
use Rattle.byte_ends.specs.Text.{is_blank}
use Rattle.byte_ends.proofs.text.refill.Goals as goal

-- what `extend` adds from a chain that yields a list
chain_added : {T A C E Q : Type 0} {steps : T → Option A → T → Type 0} {all : List C} {P : List A → Type 0} {s : T} (v : A → C) (r : Result (Unit {0}) E)
    → ((it : T) × (xs : List A) × (it ≡ s) × P xs × MatchResult r (λ _. Drains steps it xs) (λ _. (t : T) × Yields steps it xs t))
    → YieldsList steps v s all → ((xs : List A) → map v xs ≡ all → P xs → Q) → OnOk r Q
chain_added v r ran road q = fact_from_extend v r ran (λ it same. YieldsList-at same road) q

pub returns : goal.returns
returns c =
    chain_added (λ w. w.now) c.extend.result c.extend.ensures.ran
    (YieldsList-from_filter _ (λ word. not (length word == 0))
    (YieldsList-at c.filter.ensures.source (YieldsList-from_slice_split _ is_blank c.args.line.now c.split.ensures.rest c.split.ensures.done c.split.ensures.closure (λ x b q k. search (rules, tests))))
    c.filter.ensures.closure (λ x b q k. search (rules, tests)))
    (λ xs e h. ap (map (λ w. w.now)) (h.0 ∙ rw c.clear.ensures.items refl) ∙ e)
