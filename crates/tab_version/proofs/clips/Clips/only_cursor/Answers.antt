-- The only clip's records are all.
use Rattle.std.proofs.Common.{◌∙◌, ap, rules}
use Rattle.tab_mem.proofs.Parts.{part_rises}
use Rattle.tab_table.specs.SortedTables.{records}
use Rattle.tab_key.specs.Sorted.{sorted}
use Rattle.tab_version.specs.Sources.{records_of}
use Rattle.tab_version.proofs.Alone.{alone_run, alone_table}
use Rattle.tab_version.proofs.clips.Clips.only_cursor.Goals as goal

pub returns-in-1-eq0-clause-whole : goal.returns-in-1-eq0-clause-whole
returns-in-1-eq0-clause-whole c =
    alone_run (record { runs = c.self.inside.runs.items; tables = c.self.inside.tables.items }) c.index.result.now _ (search rules) (search rules) c.index.ensures c.cursor.ensures.whole c.cursor.result.rising
    ∙ ap (λ s. sorted (records_of s)) c.self.view_is

pub returns-in_ok-cursor-in-0-eq1-clause-whole : goal.returns-in_ok-cursor-in-0-eq1-clause-whole
returns-in_ok-cursor-in-0-eq1-clause-whole c =
    let table = c.in_ok-cursor-in-0-eq1.cursor.table.now in
    alone_table (record { runs = c.self.inside.runs.items; tables = c.self.inside.tables.items }) c.index-in-0-eq1.result.now _ (search rules) (search rules) c.index-in-0-eq1.ensures c.in_ok-cursor-in-0-eq1.ensures.whole (part_rises c.in_ok-cursor-in-0-eq1.cursor.from c.in_ok-cursor-in-0-eq1.cursor.end (records table) table.rising)
    ∙ ap (λ s. sorted (records_of s)) c.self.view_is
