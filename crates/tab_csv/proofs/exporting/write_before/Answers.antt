use Rattle.std.proofs.Common.{sym, ◌∙◌}
use Rattle.tab_csv.proofs.RowLemmas.{kept_on, run_out}
use Rattle.tab_csv.proofs.exporting.write_before.Goals as goal

pub returns-then-goes_on : goal.returns-then-goes_on
returns-then-goes_on g c =
    kept_on g.W.Write.contents c.args.rows.now c.args.table.now c.args.records.now c.args.begin c.args.index (sym c.goes_on.ensures ∙ c.if-goes_on.true) c.requires.between

pub returns : goal.returns
returns g c =
    run_out g.W.Write.contents c.args.rows.now c.write_run.new.rows c.args.table.now c.args.records.now c.args.begin c.args.index (sym c.goes_on.ensures ∙ c.if-goes_on.false) c.in_ok-write_run.ensures
