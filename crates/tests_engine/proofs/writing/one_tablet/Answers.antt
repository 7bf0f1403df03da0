use Rattle.tests_engine.proofs.Cuts.{one_rises}
use Rattle.tests_engine.proofs.writing.one_tablet.Goals as goal

pub of-requires : goal.of-requires
of-requires c = one_rises c.push.new.self.items c.new-tablets.result.items c.args.clips c.new-tablets.ensures.items c.in_ok-push.ensures.items c.requires
