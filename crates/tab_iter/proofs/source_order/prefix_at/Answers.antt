-- There is no such source, and so no record.
use Rattle.std.proofs.Common.{◌≤◌, length, refl}
use Rattle.tab_iter.proofs.PrefixLaws.{prefix_beyond}
use Rattle.tab_iter.proofs.source_order.prefix_at.Goals as goal

pub returns-in-None : goal.returns-in-None
returns-in-None g c =
    let beyond : length c.args.sources.now ≤ c.args.place = c.in-None.ensures.lookup.3 in
    prefix_beyond g.S.Source.rest c.args.sources.now c.args.place _ refl beyond
