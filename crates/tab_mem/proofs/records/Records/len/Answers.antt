use Rattle.std.proofs.Common.{◌≡◌, subst, rules, arith, length}
use Rattle.tab_iter.specs.Lists.{HasI64Timestamps}
use Rattle.tab_mem.specs.Lists.{HasShortParts}
use Rattle.tab_mem.proofs.ShortParts.{all_short}
use Rattle.tab_mem.proofs.records.Records.len.Goals as goal

pub returns-clause-timestamps : goal.returns-clause-timestamps
returns-clause-timestamps c = subst HasI64Timestamps c.self.view_is c.self.invariant.packed.timestamps

pub returns-clause-short : goal.returns-clause-short
returns-clause-short c = subst HasShortParts c.self.view_is (all_short c.self.inside.body.items c.self.inside.places.items c.self.invariant.packed.at)

pub returns-clause-few : goal.returns-clause-few
returns-clause-few c =
    let body = c.self.inside.body in
    let places = c.self.inside.places in
    let count : c.len.result ≡ length places.items = search rules in
    omega (arith, count, c.self.invariant.room, body.ok.0, body.ok.1, body.small)
