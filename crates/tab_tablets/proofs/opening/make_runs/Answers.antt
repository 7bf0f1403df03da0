use Rattle.std.proofs.Common.{◌<◌, length, get_or, List, sym, subst}
use Rattle.std.proofs.lemmas.List.Elements.{All-from_recursion}
use Rattle.tab_tablet.specs.Tablets.{Tablet}
use Rattle.tab_tablets.proofs.opening.make_runs.Goals as goal

pub make_run-requires : goal.make_run-requires
make_run-requires c =
    subst (λ (ts : List Tablet). get_or c.args.places.now c.loop-place.place-index 0 < length ts) (sym c.loop-place.invariant)
    (All-from_recursion (λ w. w < length c.args.tablet_list.now) c.args.places.now c.requires c.loop-place.place-index 0 c.loop-place-test.true)
