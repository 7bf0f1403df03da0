use Rattle.std.proofs.Common.{ap}
use Rattle.tab_tablet.specs.Tablets.{Tablet}
use Rattle.tab_tablets.proofs.EndPrefixes.{prefixes_put}
use Rattle.tab_tablets.proofs.tablet_list.TabletList.make_run.Goals as goal

pub invariant_of-self : goal.invariant_of-self
invariant_of-self c = prefixes_put c.self.inside.prefixes.items c.self.inside.lower.items c.args.place c.index_mut.result.now c.make_run.new.self c.index_mut.ensures.value
    (ap (λ (t : Tablet). t.end) c.make_run.ensures) c.self.invariant
