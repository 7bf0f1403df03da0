use Rattle.std.proofs.Common.{◌≡◌, ◌-◌, refl, ap, arith}
use Rattle.tab_key.specs.Ranges.{is_in_range}
use Rattle.tab_version.specs.Sources.{records_of}
use Rattle.tab_tablet.specs.Selecting.{count_upto}
use Rattle.tab_tablet.proofs.Searching.{count_by_test, cut_upper}
use Rattle.tab_tablet.proofs.selecting.Search.cut_above.Goals as goal

pub returns-then-self-count : goal.returns-then-self-count
returns-then-self-count c =
    let count : c.count_rows-count.result ≡ count_upto c.args.row.now (records_of c.args.self.now.left) = count_by_test (records_of c.args.self.now.left) (is_in_range c.in_ok-up_to.up_to) _ c.count_rows-count.result c.count_rows-count.ensures c.in_ok-up_to.ensures in
    (refl, omega (arith, count, c.if-self-count.true))

pub returns : goal.returns
returns c =
    let left = c.args.self.now.left in
    let count : c.count_rows-count.result ≡ count_upto c.args.row.now (records_of left) = count_by_test (records_of left) (is_in_range c.in_ok-up_to.up_to) _ c.count_rows-count.result c.count_rows-count.ensures c.in_ok-up_to.ensures in
    cut_upper left c.keep.new.self.left c.requires.distinct c.args.row.now c.args.self.now.place (c.keep.new.self.place - c.count_rows-count.result) (is_in_range c.in_ok-above.above)
    (ap (λ s. s.left) c.in_ok-keep.ensures) c.requires.held c.in_ok-above.ensures (λ i. (c.in_ok-keep.ensures i).place - count i) c.requires.inside (omega (arith, count, c.if-self-count.false))
