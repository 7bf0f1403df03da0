-- Two numbers that differ decide.
use Rattle.std.proofs.Common.{map, sym, ◌∙◌}
use Rattle.tab_iter.specs.Bags.{first_in}
use Rattle.tab_iter.proofs.PrefixLaws.{prefix_ahead, prefix_behind}
use Rattle.tab_iter.proofs.source_order.is_ahead.Goals as goal

pub returns-in-Less : goal.returns-in-Less
returns-in-Less g c =
    let xss = map g.S.Source.rest c.args.sources.now in
    prefix_ahead (first_in xss c.args.place) (first_in xss c.args.other) c.prefix_at-prefix.result c.prefix_at-rival.result c.prefix_at-rival.type_inv c.prefix_at-prefix.ensures c.prefix_at-rival.ensures (sym c.cmp.ensures ∙ c.in-Less.is)

pub returns-in-Greater : goal.returns-in-Greater
returns-in-Greater g c =
    let xss = map g.S.Source.rest c.args.sources.now in
    prefix_behind (first_in xss c.args.place) (first_in xss c.args.other) c.prefix_at-prefix.result c.prefix_at-rival.result c.prefix_at-prefix.type_inv c.prefix_at-prefix.ensures c.prefix_at-rival.ensures (sym c.cmp.ensures ∙ c.in-Greater.is)
