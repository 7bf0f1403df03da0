use Rattle.std.proofs.Common.{◌≡◌, ◌≢◌, ◌∙◌, ◌<◌, List, [], length, sym, ap, subst, rules}
use Rattle.tab_tablet.specs.Tablets.{Tablet}
use Rattle.tab_tablets.specs.Places.{tablet_at}
use Rattle.tab_tablets.proofs.Kept.{only_one}
use Rattle.tab_tablets.proofs.tablets.Tablets.open.Goals as goal

pub open_one-requires-clause-inside : goal.open_one-requires-clause-inside
open_one-requires-clause-inside c =
    let one : length c.self.inside.written.items ≡ 1 = search rules in
    subst (λ (ts : List Tablet). c.index-place.result.now < length ts) c.self.view_is (only_one c.self.inside.tablet_list c.self.inside.written.items c.self.invariant one c.index-place.result.now c.index-place.ensures).0

pub open_one-requires-clause-waits : goal.open_one-requires-clause-waits
open_one-requires-clause-waits c =
    let one : length c.self.inside.written.items ≡ 1 = search rules in
    subst (λ (ts : List Tablet). (tablet_at ts c.index-place.result.now).active ≢ []) c.self.view_is (only_one c.self.inside.tablet_list c.self.inside.written.items c.self.invariant one c.index-place.result.now c.index-place.ensures).1

pub open_one-requires-clause-idle : goal.open_one-requires-clause-idle
open_one-requires-clause-idle c =
    let one : length c.self.inside.written.items ≡ 1 = search rules in
    λ k ne. ap (λ (ts : List Tablet). (tablet_at ts k).active) (sym c.self.view_is) ∙ (only_one c.self.inside.tablet_list c.self.inside.written.items c.self.invariant one c.index-place.result.now c.index-place.ensures).2 k ne
