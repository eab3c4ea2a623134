use Rattle.std.proofs.Common.{◌∙◌, rules, tests}
use Rattle.std.proofs.lemmas.Bool.{and_parts}
use Rattle.std.proofs.lemmas.Iterator.{YieldsList-from_slice}
use Rattle.std.proofs.lemmas.Iterator.Search.{any_from_yields_List}
use Rattle.process_table.specs.Rows.{is_parent, row_of, passes}
use Rattle.kernel_rules.specs.Wait.{selects, is_match}
use Rattle.kernel_rules.proofs.wait.has_match.Goals as goal

pub returns-in-Some : goal.returns-in-Some
returns-in-Some c =
    any_from_yields_List (λ q. passes (is_match c.args.caller.now c.args.selector) (row_of c.args.table.now q)) _ _ _ c.any.ensures.ran (YieldsList-from_slice c.in-Some.pids.now cc) (λ x b q k. search (rules, tests))
    ∙ c.in-Some.ensures (is_match c.args.caller.now c.args.selector) (λ row matched. (and_parts (is_parent c.args.caller.now.pid row) (selects c.args.caller.now c.args.selector row) matched).0)
