-- Nothing in a descending order stands before what its last doesn't stand before.
use Rattle.std.proofs.Common.{map, sym, ◌∙◌}
use Rattle.tab_iter.proofs.Orders.{none_ahead, on_not}
use Rattle.tab_iter.proofs.source_order.is_first.Goals as goal

pub returns-in-Some : goal.returns-in-Some
returns-in-Some g c = on_not c.is_ahead.result (λ t. none_ahead (map g.S.Source.rest c.args.sources.now) c.args.order.now c.in-Some.first.now c.args.place c.in-Some.ensures.value c.requires (sym c.is_ahead.ensures ∙ t))
