-- A run of a later number.
use Rattle.tests_engine.proofs.Numbered.{run_added}
use Rattle.tests_engine.proofs.sources.Numbered.add_run.Goals as goal

pub invariant_of-self-2 : goal.invariant_of-self-2
invariant_of-self-2 g c = run_added c.self.inside.sources c.add_run.new.self c.self.inside.count c.whole.result c.deref.result.now c.args.run.value
    c.in_ok-add_run.ensures.ok c.whole.ensures c.deref.ensures c.self.invariant c.check_numbered.ensures.rising c.check_numbered.ensures.numbers
