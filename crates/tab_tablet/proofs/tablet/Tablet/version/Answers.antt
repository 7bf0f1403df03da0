use Rattle.std.proofs.Common.{◌≡◌, [], subst, rules}
use Rattle.std.specs.Prelude.{None, IfOk}
use Rattle.tab_key.specs.Sorted.{sorted, IsDistinct}
use Rattle.tab_tablet.specs.Tablets.{Tablet, records_in, frozen}
use Rattle.tab_tablet.proofs.Compacted.{frozen_distinct_in}
use Rattle.tab_tablet.proofs.Listings.{lists}
use Rattle.tab_tablet.proofs.tablet.Tablet.version.Goals as goal

pub version_of-requires : goal.version_of-requires
version_of-requires c =
    let bare : Tablet = record { number = c.self.inside.number; end = None; active = c.self.inside.active; sources = c.self.inside.sources; jobs = c.self.inside.jobs } in
    let is : frozen bare ≡ record { number = c.self.inside.number; end = None; active = []; sources = c.add_frozen.new.sources; jobs = c.self.inside.jobs } = search rules in
    subst (λ (t : Tablet). IsDistinct (records_in t)) is (frozen_distinct_in bare c.self.invariant)

pub returns-clause-held : goal.returns-clause-held
returns-clause-held c =
    let bare : Tablet = record { number = c.self.inside.number; end = None; active = c.self.inside.active; sources = c.self.inside.sources; jobs = c.self.inside.jobs } in
    let is : record { number = c.self.inside.number; end = None; active = []; sources = c.add_frozen.new.sources; jobs = c.self.inside.jobs } ≡ frozen bare = search rules in
    subst (λ (t : Tablet). IfOk c.version_of.result (λ v. v ≡ records_in (frozen t))) c.self.view_is
    (subst (λ (t : Tablet). IfOk c.version_of.result (λ v. v ≡ records_in t)) is c.version_of.ensures)

pub returns-clause-listed : goal.returns-clause-listed
returns-clause-listed c =
    let bare : Tablet = record { number = c.self.inside.number; end = None; active = c.self.inside.active; sources = c.self.inside.sources; jobs = c.self.inside.jobs } in
    let is : record { number = c.self.inside.number; end = None; active = []; sources = c.add_frozen.new.sources; jobs = c.self.inside.jobs } ≡ frozen bare = search rules in
    subst (λ (t : Tablet). IfOk c.version_of.result (λ v. sorted v ≡ sorted (records_in t))) c.self.view_is
    (lists c.version_of.result bare c.self.invariant (subst (λ (t : Tablet). IfOk c.version_of.result (λ v. v ≡ records_in t)) is c.version_of.ensures))
