-- The place found by halves parts the order.
use Rattle.std.proofs.Common.{map, not, rules}
use Rattle.std.proofs.lemmas.List.Sorted.{IsPartitionPoint-from_clause}
use Rattle.tab_iter.specs.Bags.{is_ahead, first_in}
use Rattle.tab_iter.proofs.Orders.{parted_by, parted_at}
use Rattle.tab_iter.proofs.source_order.count_behind.Goals as goal

pub returns-clause-parted : goal.returns-clause-parted
returns-clause-parted g c =
    let xss = map g.S.Source.rest c.args.sources.now in
    parted_at xss c.args.place c.args.order.now c.partition_point.result
    (IsPartitionPoint-from_clause (λ o. not (is_ahead (first_in xss o) (first_in xss c.args.place))) _ _ c.partition_point.ensures.partitioned (parted_by xss c.args.place c.args.order.now c.requires) (λ a r q k. search rules))
