use Rattle.tab_mem.proofs.RowIndexing.{fronts_rise}
use Rattle.tab_table.specs.SortedTables.{records}
use Rattle.tab_table.proofs.sorted_table.SortedTableOrdered.narrowed.Goals as goal

pub narrow-requires-clause-rising : goal.narrow-requires-clause-rising
narrow-requires-clause-rising c = fronts_rise c.args.self.now.row_index.numbers.items (records c.args.self.now) c.args.self.now.indexed c.requires.rising
