use Rattle.std.proofs.Common.{◌<◌, length, List, ℕ, sym, subst}
use Rattle.std.specs.List.{AllByRecursion}
use Rattle.tab_tablet.specs.Tablets.{Tablet}
use Rattle.tab_tablets.specs.Places.{AreKept}
use Rattle.tab_tablets.proofs.tablets.Tablets.make_runs.Goals as goal

pub make_runs-requires : goal.make_runs-requires
make_runs-requires c = subst (λ (ws : List ℕ). AllByRecursion (λ w. w < length c.self.inside.tablet_list) ws) (sym c.deref.ensures.value) c.self.invariant.inside

pub invariant_of-self : goal.invariant_of-self
invariant_of-self c = subst (λ (ts : List Tablet). AreKept ts c.self.inside.written.items) (sym c.make_runs.ensures) c.self.invariant
