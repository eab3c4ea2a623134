use Rattle.std.proofs.Common.{rules, ◌≡◌, ℕ, List, [], ◌∷◌, ◌++◌, length, map, sym, ap, ◌∙◌, subst}
use Rattle.unix_calls.specs.declared.Turn.{Turn}
use Rattle.cluster_state.specs.Possible.{node_of, Possible}
use Rattle.cluster_core.specs.RunOn.{AreFew}
use Rattle.ops_vector.specs.Answer.{unix_answer}
use Rattle.commit_log.specs.Passes.{AreAllOf}
use Rattle.locked_laws.specs.declared.PlacedTurn.{PlacedTurn}
use Rattle.node_workers.specs.MethodMerging.{all_laid_out, AreParts}
use Rattle.node_workers.proofs.Laying.{long_out, last_first}
use Rattle.node_workers.proofs.AllTurns.{logs_are, items_of, items_last, prefix_back, last_within, turns_are, all_few}
use Rattle.node_workers.proofs.merging.merged_turns.Goals as goal

pub close-places-requires-clause-logs : goal.close-places-requires-clause-logs
close-places-requires-clause-logs g c = logs_are g.W.WorldName.world g.J.LogName.log c.args.log.log (length c.args.stations.items) c.in_ok-passes.field-0.passes.items (map items_of c.in_ok-passes.field-0.lists.items) c.requires.log c.in_ok-passes.ensures

pub lay_out-requires : goal.lay_out-requires
lay_out-requires g c =
    let world = g.W.WorldName.world in
    let id = g.J.LogName.log in
    let passes = c.in_ok-passes.field-0.passes.items in
    let lists = map items_of c.in_ok-passes.field-0.lists.items in
    let log = c.close-places.ensures.0 in
    let all : AreAllOf node_of (Possible world unix_answer) log world.nodes passes = subst (λ (n : ℕ). AreAllOf node_of (Possible world unix_answer) log n passes) c.requires.all.1 c.close-places.ensures.2 in
    let parts : AreParts world id world.nodes passes lists = subst (λ (n : ℕ). AreParts world id n passes lists) c.requires.all.0 c.in_ok-passes.ensures in
    let i = c.loop-list.invariant in
    let popped : c.loop-list.lists.items ≡ c.pop.new.self.items ++ c.in-Some.list ∷ [] = search rules in
    let rest = map items_of c.pop.new.self.items in
    let list = c.as_slice.result.now in
    let left : map items_of c.loop-list.lists.items ≡ rest ++ list ∷ [] = items_last c.loop-list.lists.items c.pop.new.self.items c.in-Some.list popped ∙ ap (λ (l : List PlacedTurn). rest ++ l ∷ []) (sym c.as_slice.ensures.value) in
    last_within world id log passes lists all parts (map items_of c.loop-list.lists.items) i.begins rest list (length c.loop-list.steps.items) left (c.close-places.ensures.1 ∙ (sym c.in_ok-steps.ensures ∙ sym i.long))

pub loop-list-preserved : goal.loop-list-preserved
loop-list-preserved g c =
    let i = c.loop-list.invariant in
    let popped : c.loop-list.lists.items ≡ c.pop.new.self.items ++ c.in-Some.list ∷ [] = search rules in
    let rest = map items_of c.pop.new.self.items in
    let list = c.as_slice.result.now in
    let left : map items_of c.loop-list.lists.items ≡ rest ++ list ∷ [] = items_last c.loop-list.lists.items c.pop.new.self.items c.in-Some.list popped ∙ ap (λ (l : List PlacedTurn). rest ++ l ∷ []) (sym c.as_slice.ensures.value) in
    let steps = c.loop-list.steps.items in
    record {
      laid = ap (all_laid_out rest) c.lay_out.ensures ∙ (sym (last_first rest list steps) ∙ (ap (λ (ls : List (List PlacedTurn)). all_laid_out ls steps) (sym left) ∙ i.laid));
      long = ap (λ (l : List Turn). length l) c.lay_out.ensures ∙ (long_out [] list steps ∙ i.long);
      begins = prefix_back (map items_of c.loop-list.lists.items) rest _ list left i.begins;
    }

pub returns-clause-possible : goal.returns-clause-possible
returns-clause-possible g c =
    let world = g.W.WorldName.world in
    let id = g.J.LogName.log in
    let passes = c.in_ok-passes.field-0.passes.items in
    let lists = map items_of c.in_ok-passes.field-0.lists.items in
    let log = c.close-places.ensures.0 in
    let all : AreAllOf node_of (Possible world unix_answer) log world.nodes passes = subst (λ (n : ℕ). AreAllOf node_of (Possible world unix_answer) log n passes) c.requires.all.1 c.close-places.ensures.2 in
    let parts : AreParts world id world.nodes passes lists = subst (λ (n : ℕ). AreParts world id n passes lists) c.requires.all.0 c.in_ok-passes.ensures in
    let none : c.loop-list.lists.items ≡ [] = search rules in
    subst (λ (l : List Turn). Possible world unix_answer l) (sym (turns_are world id log passes lists all parts (map items_of c.loop-list.lists.items) c.loop-list.steps.items c.in_ok-steps.steps.items (ap (map items_of) none) c.loop-list.invariant.laid (c.in_ok-steps.ensures ∙ sym c.close-places.ensures.1))) all.legal

pub returns-clause-few : goal.returns-clause-few
returns-clause-few g c =
    let world = g.W.WorldName.world in
    let id = g.J.LogName.log in
    let passes = c.in_ok-passes.field-0.passes.items in
    let lists = map items_of c.in_ok-passes.field-0.lists.items in
    let log = c.close-places.ensures.0 in
    let all : AreAllOf node_of (Possible world unix_answer) log world.nodes passes = subst (λ (n : ℕ). AreAllOf node_of (Possible world unix_answer) log n passes) c.requires.all.1 c.close-places.ensures.2 in
    let parts : AreParts world id world.nodes passes lists = subst (λ (n : ℕ). AreParts world id n passes lists) c.requires.all.0 c.in_ok-passes.ensures in
    let none : c.loop-list.lists.items ≡ [] = search rules in
    subst AreFew (sym (turns_are world id log passes lists all parts (map items_of c.loop-list.lists.items) c.loop-list.steps.items c.in_ok-steps.steps.items (ap (map items_of) none) c.loop-list.invariant.laid (c.in_ok-steps.ensures ∙ sym c.close-places.ensures.1))) (all_few world id log passes lists all parts)
