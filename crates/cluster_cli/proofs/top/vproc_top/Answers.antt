use Rattle.std.proofs.Common.{◌≡◌, ℕ, List, map, Bor}
use Rattle.cluster_cli.proofs.Words.{one_table, one_why}
use Rattle.cluster_cli.proofs.top.vproc_top.Goals as goal

pub returns-in-Some-Table-clause-table : goal.returns-in-Some-Table-clause-table
returns-in-Some-Table-clause-table g c = λ at says.
    let e : c.in-Some-Table.at ≡ at = one_table (map (λ (w : Bor (List ℕ)). w.now) c.args.words.now) c.in-Some-Table.at at (rw c.in-Some-Table.field-0-is at c.in-Some-Table.ensures.said) says in
    rw (← e) c.table_top.ensures.answered

pub returns-in-Some-Why-clause-why : goal.returns-in-Some-Why-clause-why
returns-in-Some-Why-clause-why g c = λ at says.
    let e : c.in-Some-Why.at ≡ at = one_why (map (λ (w : Bor (List ℕ)). w.now) c.args.words.now) c.in-Some-Why.at at (rw c.in-Some-Why.field-0-is at c.in-Some-Why.ensures.said) says in
    rw (← e) c.why_top.ensures.answered
