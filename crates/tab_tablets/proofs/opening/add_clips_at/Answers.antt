use Rattle.tab_tablet.specs.Tablets.{frozen}
use Rattle.tab_tablets.specs.Places.{tablet_at}
use Rattle.tab_tablets.proofs.Bare.{adds_none}
use Rattle.tab_tablets.proofs.Idle.{idle_settled}
use Rattle.tab_tablets.proofs.PutIn.{makes_none}
use Rattle.tab_tablets.proofs.opening.add_clips_at.Goals as goal

pub returns-then-holds_nothing-clause-clips : goal.returns-then-holds_nothing-clause-clips
returns-then-holds_nothing-clause-clips c = adds_none c.args.bounds.now (tablet_at c.args.tablet_list.now c.args.place) c.tablet.result.now c.args.clips.now.items c.tablet.ensures (c.holds_nothing.ensures.frozen c.if-holds_nothing.true) (c.holds_nothing.ensures.none c.if-holds_nothing.true)

pub returns-then-holds_nothing-clause-more : goal.returns-then-holds_nothing-clause-more
returns-then-holds_nothing-clause-more c = makes_none frozen c.args.tablet_list.now c.args.made.now.items

pub returns-then-holds_nothing-clause-settled : goal.returns-then-holds_nothing-clause-settled
returns-then-holds_nothing-clause-settled c = idle_settled c.args.tablet_list.now c.args.made.now.items c.args.place c.tablet.result.now c.tablet.ensures (c.holds_nothing.ensures.frozen c.if-holds_nothing.true)
