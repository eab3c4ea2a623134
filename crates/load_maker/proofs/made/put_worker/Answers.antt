use Rattle.std.proofs.Common.{◌≡◌, ◌++◌}
use Rattle.std.specs.List.{flat_map}
use Rattle.std.specs.String.{string_bytes}
use Rattle.load_maker.specs.Made.{line_of, statement_row, after_statement, worker_head, worker_tail, worker_rows}
use Rattle.load_maker.proofs.Lines.{follows_ok, four_pieces, worker_text}
use Rattle.load_maker.proofs.made.put_worker.Goals as goal

pub returns-clause-text : goal.returns-clause-text
returns-clause-text c =
    let front = string_bytes c.args.text.now in
    let x = c.args.draws.now.state in
    let first = statement_row c.args.nodes x in
    let second = statement_row c.args.nodes c.put_statement.new.draws.state in
    let tail = flat_map line_of (worker_tail c.args.number) in
    let t3 = string_bytes c.put_statement-2.new.text in
    let t4 = string_bytes c.put_worker_tail.new.text in
    let second' = statement_row c.args.nodes (after_statement x) in
    follows_ok c.put_worker_tail.result (t4 ≡ t3 ++ tail) (t4 ≡ front ++ flat_map line_of (worker_rows c.args.nodes c.args.number x))
    (λ e. four_pieces front (flat_map line_of (worker_head c.args.number)) (line_of first) (line_of second') tail
    (string_bytes c.put_worker_head.new.text) (string_bytes c.put_statement.new.text) t3 t4 (flat_map line_of (worker_rows c.args.nodes c.args.number x))
    c.in_ok-put_worker_head.ensures c.in_ok-put_statement.ensures.text
    (rw c.in_ok-put_statement.ensures.state at c.in_ok-put_statement-2.ensures.text) e
    (worker_text c.args.number first second'))
    c.put_worker_tail.ensures
