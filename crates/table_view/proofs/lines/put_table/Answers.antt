use Rattle.std.specs.String.{string_bytes}
use Rattle.table_view.specs.Rows.{row_line}
use Rattle.table_view.proofs.Texts.{row_more}
use Rattle.table_view.proofs.lines.put_table.Goals as goal

pub loop-row-preserved : goal.loop-row-preserved
loop-row-preserved c =
    row_more row_line c.args.rows.now c.loop-row.row-index c.row-item.result (string_bytes c.loop-row.text) (string_bytes c.put_row.new.text)
    c.loop-row-test.true c.row-item.is c.loop-row.invariant c.in_ok-put_row.ensures
