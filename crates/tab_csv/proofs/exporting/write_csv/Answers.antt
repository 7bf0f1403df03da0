use Rattle.tab_csv.specs.CsvTexts.{csv_text}
use Rattle.tab_csv.proofs.RowLemmas.{given_back}
use Rattle.tab_csv.proofs.exporting.write_csv.Goals as goal

pub returns-in-Ok : goal.returns-in-Ok
returns-in-Ok g c =
    given_back g.W.Write.contents c.args.writer c.in-Ok.last c.from_writer-rows.result c.write_image.new.rows (csv_text c.args.image.now) c.from_writer-rows.ensures.wtr c.from_writer-rows.ensures.empty c.in_ok-write_image.ensures c.in-Ok.ensures.ok
