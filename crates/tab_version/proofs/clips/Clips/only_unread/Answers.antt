-- The only clip's records are all.
use Rattle.std.proofs.Common.{◌∙◌, ap, rules}
use Rattle.tab_mem.proofs.Parts.{part_rises}
use Rattle.tab_table.specs.SortedTables.{records}
use Rattle.tab_key.specs.Sorted.{sorted}
use Rattle.tab_version.specs.Sources.{records_of}
use Rattle.tab_version.proofs.Alone.{alone_run, alone_table}
use Rattle.tab_version.proofs.clips.Clips.only_unread.Goals as goal

pub returns-in-1-eq0 : goal.returns-in-1-eq0
returns-in-1-eq0 c =
    alone_run (record { runs = c.self.inside.runs.items; tables = c.self.inside.tables.items }) c.index.result.now _ (search rules) (search rules) c.index.ensures c.cursor.ensures.whole c.cursor.result.rising
    ∙ ap (λ s. sorted (records_of s)) c.self.view_is

pub returns-in-0-eq1 : goal.returns-in-0-eq1
returns-in-0-eq1 c =
    let table = c.unread_cursor.result.table.now in
    alone_table (record { runs = c.self.inside.runs.items; tables = c.self.inside.tables.items }) c.index-in-0-eq1.result.now _ (search rules) (search rules) c.index-in-0-eq1.ensures c.unread_cursor.ensures (part_rises c.unread_cursor.result.from c.unread_cursor.result.end (records table) table.rising)
    ∙ ap (λ s. sorted (records_of s)) c.self.view_is
