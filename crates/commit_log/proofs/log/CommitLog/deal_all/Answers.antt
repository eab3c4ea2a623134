use Rattle.std.proofs.Common.{rules, ◌≡◌, ℕ, ◌+◌, ◌-◌, ◌≤◌, [], ◌∷◌, ◌++◌, List, ap, sym, ◌∙◌, arith, subst}
use Rattle.commit_log.specs.declared.word.Knower.{Knower}
use Rattle.commit_log.specs.Passes.{Known, first_passes}
use Rattle.commit_log.specs.MethodWord.{rest_knowers, fresh}
use Rattle.commit_log.proofs.Keeps.{fresh_next, known_snoc}
use Rattle.commit_log.proofs.log.CommitLog.deal_all.Goals as goal

pub loop-k-preserved : goal.loop-k-preserved
loop-k-preserved g c =
    let k = c.loop-k.k in
    let log = c.args.self.now.log in
    let me = c.loop-k.invariant.2 in
    let knowers : rest_knowers c.loop-k.seat.me.0 ≡ fresh (k + 1) (c.args.nodes - (k + 1)) = ap (λ m. rest_knowers m.0) me ∙ fresh_next k c.args.nodes c.loop-k-test.true in
    let zero_k : k ≡ 0 + k = omega arith in
    let known : c.deal.result ≡ record { log = log; node = 0 + k; seen = [] } = c.deal.ensures.pass ∙ (ap (λ t. record { log = t; node = k; seen = [] }) c.loop-k.invariant.1 ∙ ap (λ n. record { log = log; node = n; seen = [] }) zero_k) in (
      omega arith,
      c.deal.ensures.seat.0 ∙ c.loop-k.invariant.1,
      c.deal.ensures.seat.1 ∙ ap (λ (p : List (Knower g.row.M-Step.Denot)). (p, [])) knowers,
      c.in_ok-push.ensures.items ∙ (ap (λ (l : List (Known g.row.M-Step.Denot)). l ++ c.deal.result ∷ []) c.loop-k.invariant.3 ∙ known_snoc log 0 k c.deal.result known),
    )
