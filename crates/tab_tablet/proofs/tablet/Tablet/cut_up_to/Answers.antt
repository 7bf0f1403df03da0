use Rattle.std.proofs.Common.{◌≡◌, IfOk, subst}
use Rattle.tab_version.specs.Sources.{clipped}
use Rattle.tab_tablet.specs.Tablets.{Tablet, no_jobs}
use Rattle.tab_tablet.proofs.tablet.Tablet.cut_up_to.Goals as goal

pub returns : goal.returns
returns c = subst (λ p. IfOk c.cut.result (λ (t : Tablet). t ≡ record (c.args.self.now) { number = c.args.number; sources = clipped p c.args.self.now.sources; jobs = no_jobs })) c.in_ok-up_to.ensures c.cut.ensures
