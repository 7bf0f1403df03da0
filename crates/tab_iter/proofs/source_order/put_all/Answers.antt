-- One source more is put in; at the end all are.
use Rattle.std.proofs.Common.{map, length, arith, ◌≤◌}
use Rattle.std.proofs.lemmas.List.{length-map}
use Rattle.tab_iter.proofs.Orders.{covers_more, covers_all}
use Rattle.tab_iter.proofs.source_order.put_all.Goals as goal

pub loop-i-preserved : goal.loop-i-preserved
loop-i-preserved g c = record {
  descending = c.in_ok-put.ensures.descending;
  ahead = λ k h. c.in_ok-put.ensures.others k (omega arith) (c.loop-i.invariant.ahead k (omega arith));
  covers = covers_more (map g.S.Source.rest c.args.sources.now) c.loop-i.order.items c.put.new.order.items c.loop-i.i c.loop-i.invariant.covers c.in_ok-put.ensures.kept c.in_ok-put.ensures.inside;
}

pub returns-clause-covers : goal.returns-clause-covers
returns-clause-covers g c =
    let upto : length (map g.S.Source.rest c.args.sources.now) ≤ c.loop-i.i = omega (arith, length-map c.args.sources.now g.S.Source.rest) in
    covers_all (map g.S.Source.rest c.args.sources.now) c.loop-i.order.items c.loop-i.i upto c.loop-i.invariant.covers
