use Rattle.std.proofs.Common.{ℕ, ◌<◌, ◌-◌}
use Rattle.tab_csv.proofs.RowLemmas.{run_ended, run_written}
use Rattle.tab_csv.proofs.exporting.write_run.Goals as goal

pub loop-index-preserved : goal.loop-index-preserved
loop-index-preserved g c =
    let i : ℕ = c.loop-index.index in
    let lt : i < c.args.end - c.args.begin = c.loop-index-test.true in
    run_written g.W.Write.contents c.args.rows.now c.loop-index.rows c.write_record.new.rows c.args.table.now c.args.records.now c.args.begin c.args.end i c.get.result lt c.requires.within c.get.ensures c.loop-index.invariant c.in-Ok.ensures

pub returns : goal.returns
returns g c =
    run_ended g.W.Write.contents c.args.rows.now c.loop-index.rows c.args.table.now c.args.records.now c.args.begin c.args.end c.loop-index.index c.loop-index-test.false c.requires.within c.loop-index.invariant
