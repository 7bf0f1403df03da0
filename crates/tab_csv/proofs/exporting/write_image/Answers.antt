use Rattle.std.proofs.Common.{◌≡◌, List, ◌++◌, subst}
use Rattle.std.specs.List.{flat_map}
use Rattle.tab_image.specs.declared.table.ImageTable.{ImageTable}
use Rattle.tab_csv.specs.CsvTexts.{csv_row, csv_text, names, table_csv}
use Rattle.tab_csv.specs.Rows.{Writes}
use Rattle.tab_csv.proofs.RowLemmas.{more_written, on_ok}
use Rattle.tab_csv.proofs.exporting.write_image.Goals as goal

pub returns : goal.returns
unfolding csv_text
returns g c =
    let tables : List ImageTable = c.as_slice.result.now in
    let is : tables ≡ c.args.image.now.tables = c.as_slice.ensures in
    on_ok c.write_tables.result (λ (w : Writes g.W.Write.contents c.write_names.new.rows c.write_tables.new.rows (flat_map table_csv tables)).
    subst (λ (ts : List ImageTable). Writes g.W.Write.contents c.args.rows.now c.write_tables.new.rows (csv_row names ++ flat_map table_csv ts)) is
    (more_written g.W.Write.contents c.args.rows.now c.write_names.new.rows c.write_tables.new.rows (csv_row names) (flat_map table_csv tables) c.in_ok-write_names.ensures w)) c.write_tables.ensures
