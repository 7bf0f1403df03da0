use Rattle.std.proofs.Common.{ℕ, ◌≡◌, ◌<◌, length, arith}
use Rattle.tab_csv.proofs.RowLemmas.{table_begun, table_more, table_ended}
use Rattle.tab_csv.proofs.exporting.write_table.Goals as goal

pub loop-index-init : goal.loop-index-init
loop-index-init g c = table_begun g.W.Write.contents c.args.rows.now c.args.table.now c.args.records.now c.requires

pub loop-index-preserved : goal.loop-index-preserved
loop-index-preserved g c =
    let lt : c.loop-index.index < length c.args.records.now = omega (arith, c.len-index-end.ensures.len, c.loop-index-test.true) in
    table_more g.W.Write.contents c.args.rows.now c.loop-index.rows c.write_before.new.rows c.args.table.now c.args.records.now c.loop-index.begin c.loop-index.index c.in-Ok.next lt c.loop-index.invariant c.in-Ok.ensures

pub returns : goal.returns
returns g c =
    let end : c.loop-index.index ≡ c.len.result = omega (arith, c.len-index-end.ensures.len, c.len.ensures.len, c.loop-index-test.false, c.loop-index.auto.index-end) in
    table_ended g.W.Write.contents c.args.rows.now c.loop-index.rows c.write_run.new.rows c.args.table.now c.args.records.now c.loop-index.begin c.loop-index.index c.len.result c.write_run.result end c.len.ensures.len c.loop-index.invariant c.write_run.ensures
