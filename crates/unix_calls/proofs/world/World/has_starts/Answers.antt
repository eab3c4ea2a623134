use Rattle.std.proofs.Common.{◌≡◌, ℕ, ◌<◌, Some, List, length, get_or, slice_get, take, below_more, subst, ap, refl, arith}
use Rattle.std.proofs.lemmas.Option.{get_or_from_slice_get, slice_get_within}
use Rattle.unix_calls.specs.declared.world.Start.{Start}
use Rattle.unix_calls.specs.declared.world.World.{World}
use Rattle.unix_calls.specs.Valid.{IsStart}
use Rattle.unix_calls.proofs.world.World.has_starts.Goals as goal

-- what is said of the start that the loop is at
at_start : (world : World) (read starts : List Start) (k : ℕ) (x d : Start) → read ≡ starts → slice_get starts k ≡ Some x → IsStart world (take k read) (get_or read k d) → IsStart world (take k starts) x
at_start world read starts k x d same e h =
    let there = subst (λ (s : List Start). IsStart world (take k s) (get_or s k d)) same h in
    subst (λ (y : Start). IsStart world (take k starts) y) (get_or_from_slice_get starts k x d e) there

pub loop-k-preserved : goal.loop-k-preserved
loop-k-preserved c = below_more _ _ c.loop-k.invariant (λ x e. at_start _ _ _ _ x _ c.as_slice-starts.ensures e (c.if-not-is_start.ensures.0 refl))

pub returns : goal.returns
returns c =
    let same : length c.as_slice-starts.result.now ≡ length c.args.self.now.starts = ap length c.as_slice-starts.ensures in
    (λ _ k x e. let inside = slice_get_within c.args.self.now.starts k x e in c.loop-k.invariant k (omega arith) x e, λ _. refl)
