-- What is frozen keeps its numbers.
use Rattle.std.proofs.Common.{◌≡◌, ◌<◌, sym, subst, rules}
use Rattle.std.specs.Prelude.{Contains}
use Rattle.tab_key.specs.Records.{Record}
use Rattle.tab_key.proofs.Rising.{in_from, in_to}
use Rattle.tab_tablet.specs.Tablets.{Tablet, records_in, frozen}
use Rattle.tab_tablet.proofs.Compacted.{frozen_in}
use Rattle.tests_engine.proofs.tablets.merged_runs.Numbered.freeze.Goals as goal

pub invariant_of-self : goal.invariant_of-self
invariant_of-self g c =
    let t : Tablet = c.self.inside.tablet in
    let is : c.expect.result ≡ frozen t = search rules in
    subst (λ (x : Tablet). (u : Record) → Contains (records_in x) u → u.seq < c.self.inside.next) (sym is)
    (λ u k. c.self.invariant u (in_to (records_in t) u (frozen_in t u (in_from (records_in (frozen t)) u k))))
