use Rattle.std.proofs.Common.{◌≡◌, ◌++◌, codes}
use Rattle.std.specs.List.{flat_map}
use Rattle.std.specs.String.{string_bytes}
use Rattle.load_maker.specs.Made.{line_of, fork_rows, wait_rows, leader_head, leader_rows}
use Rattle.load_maker.proofs.Lines.{follows_ok, four_pieces, leader_text}
use Rattle.load_maker.proofs.made.put_leader.Goals as goal

pub returns-clause-text : goal.returns-clause-text
returns-clause-text c =
    let front = string_bytes c.args.text.now in
    let forks = fork_rows c.args.workers c.args.nodes c.args.children c.args.draws.now.state in
    let waits = wait_rows c.args.children in
    let whole = flat_map line_of (leader_rows c.args.workers c.args.nodes c.args.children c.args.number c.args.draws.now.state) in
    let t3 = string_bytes c.put_waits.new.text in
    let t4 = string_bytes c.put.new.text in
    follows_ok c.put.result (t4 ≡ t3 ++ codes "end\n") (t4 ≡ front ++ whole)
    (λ e. four_pieces front (flat_map line_of (leader_head c.args.number)) (flat_map line_of forks) (flat_map line_of waits) (codes "end\n")
    (string_bytes c.put_leader_head.new.text) (string_bytes c.put_forks.new.text) t3 t4 whole
    c.in_ok-put_leader_head.ensures c.in_ok-put_forks.ensures.text c.in_ok-put_waits.ensures e
    (leader_text c.args.number forks waits))
    c.put.ensures
