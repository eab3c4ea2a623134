use Rattle.std.proofs.Common.{◌≡◌, ℕ, ◌+◌, ◌++◌, min, ap, subst, ◌∙◌}
use Rattle.std.specs.List.{flat_map}
use Rattle.std.specs.String.{string_bytes}
use Rattle.load_maker.specs.Made.{line_of, leader_rows, all_leaders}
use Rattle.load_maker.proofs.Lines.{appended, leader_more, leader_state_more}
use Rattle.load_maker.proofs.made.put_leaders.Goals as goal

pub loop-number-preserved : goal.loop-number-preserved
loop-number-preserved c =
    let x = c.args.draws.now.state in
    let j = c.loop-number.number in
    let s = c.loop-number.draws.state in
    let n = c.args.nodes in
    let f = c.args.followers in
    let w = min f 8 in
    let children = c.min-children.result in
    let children_is = c.min-children.ensures ∙ ap (λ t. min t 8) c.saturating_sub.ensures in
    let written = subst (λ (v : ℕ). string_bytes c.put_leader.new.text ≡ string_bytes c.loop-number.text ++ flat_map line_of (leader_rows v n children j s)) c.min-workers.ensures c.in_ok-put_leader.ensures.text in (
      appended (string_bytes c.args.text.now) (flat_map line_of (all_leaders w n f j x)) (flat_map line_of (leader_rows w n children j s)) (flat_map line_of (all_leaders w n f (j + 1) x))
          (string_bytes c.loop-number.text) (string_bytes c.put_leader.new.text)
          c.loop-number.invariant.0 written (leader_more w n f children j x s children_is c.loop-number.invariant.1),
      c.in_ok-put_leader.ensures.state ∙ leader_state_more f children j x s children_is c.loop-number.invariant.1,
    )
