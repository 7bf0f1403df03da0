use Rattle.tests_engine.proofs.reading.unjudged.Goals as goal

pub returns : goal.returns
returns c = c.none.ensures c.args.auths.now
