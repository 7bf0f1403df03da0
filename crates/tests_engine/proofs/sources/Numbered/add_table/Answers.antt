-- A table of a later number.
use Rattle.tests_engine.proofs.Numbered.{table_added}
use Rattle.tests_engine.proofs.sources.Numbered.add_table.Goals as goal

pub invariant_of-self-2 : goal.invariant_of-self-2
invariant_of-self-2 g c = table_added c.self.inside.sources c.add_table.new.self c.self.inside.count c.in_ok-tabled.field-0 c.args.run.now
    c.in_ok-add_table.ensures.ok c.in_ok-tabled.ensures c.self.invariant c.check_numbered.ensures.rising c.check_numbered.ensures.numbers
