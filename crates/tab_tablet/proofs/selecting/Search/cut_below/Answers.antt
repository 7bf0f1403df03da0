use Rattle.std.proofs.Common.{◌≡◌, refl, ap, arith}
use Rattle.tab_key.specs.Ranges.{is_in_range}
use Rattle.tab_version.specs.Sources.{records_of}
use Rattle.tab_tablet.specs.Selecting.{count_below}
use Rattle.tab_tablet.proofs.Searching.{count_by_test, cut_lower}
use Rattle.tab_tablet.proofs.selecting.Search.cut_below.Goals as goal

pub returns-then-count_rows-self : goal.returns-then-count_rows-self
returns-then-count_rows-self c =
    let count : c.count_rows.result ≡ count_below c.args.row.now (records_of c.args.self.now.left) = count_by_test (records_of c.args.self.now.left) (is_in_range c.in_ok-below.below) _ c.count_rows.result c.count_rows.ensures c.in_ok-below.ensures in
    (refl, omega (arith, count, c.if-count_rows-self.true))

pub returns : goal.returns
returns c =
    let left = c.args.self.now.left in
    let count : c.count_rows.result ≡ count_below c.args.row.now (records_of left) = count_by_test (records_of left) (is_in_range c.in_ok-below.below) _ c.count_rows.result c.count_rows.ensures c.in_ok-below.ensures in
    cut_lower left c.keep.new.self.left c.requires.distinct c.args.row.now c.args.self.now.place c.keep.new.self.place (is_in_range c.in_ok-below.below)
    (ap (λ s. s.left) c.in_ok-keep.ensures) c.requires.held c.in_ok-below.ensures (ap (λ s. s.place) c.in_ok-keep.ensures) (omega (arith, count, c.if-count_rows-self.false))
