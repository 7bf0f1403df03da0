-- No verdict is wrong where there is none.
use Rattle.std.proofs.Common.{◌≡◌, List, map, subst}
use Rattle.std.specs.Prelude.{IfOk}
use Rattle.tab_key.specs.Records.{Record, cell_of}
use Rattle.tab_key.specs.declared.range.Bounds.{Bounds}
use Rattle.tab_cells.specs.SessionState.{cells_within}
use Rattle.tab_session.proofs.chunks.read_chunk.Goals as goal

pub unread-source-requires : goal.unread-source-requires
unread-source-requires c = c.none-verdicts.ensures c.args.asked.now.auths

pub returns : goal.returns
returns c = subst (λ (shown : List Record). IfOk c.take_ranges.result (λ v. v.items ≡ map (λ (rows : Bounds). cells_within rows (map cell_of shown)) c.args.chunk.now)) c.unread-source.ensures c.take_ranges.ensures
