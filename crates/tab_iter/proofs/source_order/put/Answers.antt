-- A place that is put in keeps the order descending.
use Rattle.std.proofs.Common.{map, length, rules}
use Rattle.tab_iter.proofs.Orders.{descending_pushed, descending_inserted, pushed, outside_kept, not_outside, outside_inserted}
use Rattle.tab_iter.proofs.source_order.put.Goals as goal

pub returns-then-is_first-clause-descending : goal.returns-then-is_first-clause-descending
returns-then-is_first-clause-descending g c = descending_pushed (map g.S.Source.rest c.args.sources.now) c.args.order.now.items c.deref.result.now c.push.new.self.items c.args.place c.deref.ensures.value c.in_ok-push.ensures.items c.requires.descending c.if-is_first.ensures c.requires.outside (search rules)

pub returns-then-is_first-clause-inside : goal.returns-then-is_first-clause-inside
returns-then-is_first-clause-inside g c = λ out. absurd (not_outside c.args.order.now.items c.push.new.self.items c.args.place (length c.args.order.now.items) (pushed c.args.order.now.items c.push.new.self.items c.args.place c.in_ok-push.ensures.items) out)

pub returns-then-is_first-clause-kept : goal.returns-then-is_first-clause-kept
returns-then-is_first-clause-kept g c = λ k. outside_kept c.args.order.now.items c.push.new.self.items c.args.place (length c.args.order.now.items) k (pushed c.args.order.now.items c.push.new.self.items c.args.place c.in_ok-push.ensures.items)

pub returns-then-is_first-clause-others : goal.returns-then-is_first-clause-others
returns-then-is_first-clause-others g c = λ k. outside_inserted c.args.order.now.items c.push.new.self.items c.args.place (length c.args.order.now.items) k (pushed c.args.order.now.items c.push.new.self.items c.args.place c.in_ok-push.ensures.items)

pub returns-clause-descending : goal.returns-clause-descending
returns-clause-descending g c = descending_inserted (map g.S.Source.rest c.args.sources.now) c.args.order.now.items c.deref-2.result.now c.insert.new.self.items c.args.place c.count_behind-at.result c.deref-2.ensures.value c.in_ok-insert.ensures.items c.requires.descending c.count_behind-at.ensures.within c.count_behind-at.ensures.parted c.requires.outside (search rules)

pub returns-clause-inside : goal.returns-clause-inside
returns-clause-inside g c = λ out. absurd (not_outside c.args.order.now.items c.insert.new.self.items c.args.place c.count_behind-at.result c.in_ok-insert.ensures.items out)

pub returns-clause-kept : goal.returns-clause-kept
returns-clause-kept g c = λ k. outside_kept c.args.order.now.items c.insert.new.self.items c.args.place c.count_behind-at.result k c.in_ok-insert.ensures.items

pub returns-clause-others : goal.returns-clause-others
returns-clause-others g c = λ k. outside_inserted c.args.order.now.items c.insert.new.self.items c.args.place c.count_behind-at.result k c.in_ok-insert.ensures.items
