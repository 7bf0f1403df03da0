use Rattle.tests_engine.proofs.Later.{still_distinct, still_older}
use Rattle.tests_engine.proofs.writing.add.Goals as goal

pub returns-clause-distinct : goal.returns-clause-distinct
returns-clause-distinct g c = still_distinct _ _ _ c.args.from c.args.to c.in_ok-push.ensures.items c.requires.distinct c.requires.older c.in_ok-check_between.ensures.rising c.in_ok-check_between.ensures.between

pub returns-clause-older : goal.returns-clause-older
returns-clause-older g c = still_older _ _ _ c.args.from c.args.to c.in_ok-push.ensures.items c.in_ok-check_between.ensures.order c.requires.older c.in_ok-check_between.ensures.between
