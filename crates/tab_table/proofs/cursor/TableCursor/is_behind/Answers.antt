-- The window has the record at the place.
use Rattle.std.proofs.Common.{◌≡◌, ◌<◌, true, sym, ◌∙◌, length, arith}
use Rattle.std.specs.List.{slice_index_or}
use Rattle.tab_mem.specs.Starts.{is_before}
use Rattle.tab_mem.proofs.Seeking.{blank, before_earlier}
use Rattle.tab_table.specs.Blocks.{block_records}
use Rattle.tab_table.proofs.cursor.TableCursor.is_behind.Goals as goal

pub precedes-requires : goal.precedes-requires
precedes-requires g c = c.args.self.now.here (omega arith)

pub returns-then-self : goal.returns-then-self
returns-then-self g c = λ t.
    let self = c.args.self.now in
    let packed = (g.T.HasSortedTable.table self.table).packed in
    let rs = block_records packed.bytes packed.count in
    let inside : self.at < length rs = omega (arith, self.inside) in
    let here : is_before c.args.target.now.start (slice_index_or rs self.at blank) ≡ true = sym (c.precedes.ensures packed.bytes packed.count blank self.decoded) ∙ t in
    record { low = omega arith; passed = before_earlier c.args.target.now.start rs (g.T.HasSortedTable.table self.table).rising self.at blank inside here }
