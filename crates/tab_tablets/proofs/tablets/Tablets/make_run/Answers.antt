use Rattle.std.proofs.Common.{List, sym, subst}
use Rattle.tab_tablet.specs.Tablets.{Tablet}
use Rattle.tab_tablets.specs.Places.{AreKept}
use Rattle.tab_tablets.proofs.tablets.Tablets.make_run.Goals as goal

pub invariant_of-self : goal.invariant_of-self
invariant_of-self c = subst (λ (ts : List Tablet). AreKept ts c.self.inside.written.items) (sym c.make_run.ensures) c.self.invariant
