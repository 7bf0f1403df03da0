use Rattle.tab_mem.specs.Starts.{from_start}
use Rattle.tab_mem.proofs.Parts.{part_in_rows}
use Rattle.tab_mem.proofs.searching.rows_in.Goals as goal

pub returns-clause-rows : goal.returns-clause-rows
unfolding from_start
returns-clause-rows g c = part_in_rows c.args.bounds.now (g.R.Ordered.listed c.args.records.now) c.first_at-first.result c.past_rows-past.result c.args.from c.args.end c.first_at-first.ensures.found c.past_rows-past.ensures.rows
