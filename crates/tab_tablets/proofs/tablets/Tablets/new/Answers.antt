use Rattle.std.proofs.Common.{None, [], ◌∷◌, sym, subst}
use Rattle.tab_tablet.specs.Tablets.{new_tablet}
use Rattle.tab_tablets.specs.Places.{AreKept}
use Rattle.tab_tablets.proofs.Kept.{kept_new}
use Rattle.tab_tablets.proofs.tablets.Tablets.new.Goals as goal

pub invariant_of-result : goal.invariant_of-result
invariant_of-result c =
    subst (λ ts. AreKept ts c.new-2.result.items) (sym c.new.ensures)
    (subst (AreKept (new_tablet c.args.number None ∷ [])) (sym c.new-2.ensures.items) (kept_new c.args.number))
