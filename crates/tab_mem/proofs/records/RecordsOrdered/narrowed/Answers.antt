use Rattle.std.proofs.Common.{subst}
use Rattle.tab_mem.specs.RowIndex.{IsRowIndex}
use Rattle.tab_mem.proofs.RowIndexing.{fronts_rise}
use Rattle.tab_mem.proofs.records.RecordsOrdered.narrowed.Goals as goal

pub narrow-requires-clause-rising : goal.narrow-requires-clause-rising
narrow-requires-clause-rising c = fronts_rise c.self.inside.row_index.numbers.items c.args.self.now (subst (IsRowIndex c.self.inside.row_index.numbers.items) c.self.view_is c.self.invariant.row_index) c.requires.rising
