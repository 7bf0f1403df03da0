-- From the first record whose key isn't before this one.
use Rattle.std.proofs.Common.{◌≡◌, ◌∙◌, ◌-◌, ◌≤◌, max, min, ap, sym, drop, arith}
use Rattle.tab_key.specs.KeyOf.{key_of}
use Rattle.tab_mem.specs.Lists.{part}
use Rattle.std.specs.List.{prefix_len}
use Rattle.tab_mem.specs.Starts.{from_start, is_before}
use Rattle.tab_mem.specs.declared.start.Start.TheVariants.{AtKey}
use Rattle.tab_mem.proofs.Parts.{part_from_start}
use Rattle.tab_iter.specs.Lists.{from_key}
use Rattle.tab_table.specs.SortedTables.{records}
use Rattle.tab_table.proofs.Standing.{sought}
use Rattle.tab_table.proofs.cursor.TableCursorSource.seek.Goals as goal

pub returns-clause-rest : goal.returns-clause-rest
unfolding from_start
returns-clause-rest g c =
    let self = c.args.self.now in
    let went = c.find.ensures in
    let rs = records (g.T.HasSortedTable.table self.table) in
    let at = c.find.new.self.at in
    let is = c.in_ok-find.ensures.at ∙ sym c.part_of-part.ensures.count ∙ ap (λ s. max self.from (min (prefix_len (is_before s) rs) self.end)) c.of-target.ensures in
    let ends : self.from ≤ self.end = omega (arith, self.ordered, self.upto) in
    let low : self.from ≤ at = omega (arith, is) in
    let found : part at self.end rs ≡ from_key (key_of c.args.key) (part self.from self.end rs) = part_from_start (AtKey c.args.key) rs (g.T.HasSortedTable.table self.table).rising self.from self.end at ends self.inside is in
    (λ i. drop (at - went.from i) (part (went.from i) (went.end i) (records (g.T.HasSortedTable.table (went.table i)))))
    ∙ sought rs rs self.from at self.end (key_of c.args.key) (λ i. rs) low found
