use Rattle.std.proofs.Common.{◌≡◌, ◌-◌, ◌∙◌, sym, ap, arith}
use Rattle.std.specs.Prelude.{slice_get}
use Rattle.tab_key.specs.Ranges.{is_in_range}
use Rattle.tab_version.specs.Sources.{records_of}
use Rattle.tab_tablet.specs.Selecting.{rows_of, count_below}
use Rattle.tab_tablet.proofs.MiddleRow.{none_lower, lower_found}
use Rattle.tab_tablet.proofs.Probed.{below_within}
use Rattle.tab_tablet.proofs.Searching.{count_by_test}
use Rattle.tab_tablet.proofs.middle.row_below.Goals as goal

pub returns-then-count-eq0 : goal.returns-then-count-eq0
returns-then-count-eq0 c =
    let us = records_of c.args.sources.now in
    let count : c.count_rows-count.result ≡ count_below c.args.row.now us = count_by_test us (is_in_range c.in_ok-below.below) _ c.count_rows-count.result c.count_rows-count.ensures c.in_ok-below.ensures in
    none_lower us c.requires c.args.row.now (sym count ∙ c.if-count-eq0.true)

pub row_at-requires-clause-inside : goal.row_at-requires-clause-inside
row_at-requires-clause-inside c =
    let us = records_of c.args.sources.now in
    let count : c.count_rows-count.result ≡ count_below c.args.row.now us = count_by_test us (is_in_range c.in_ok-below.below) _ c.count_rows-count.result c.count_rows-count.ensures c.in_ok-below.ensures in
    omega (arith, count, below_within c.args.row.now us, c.if-count-eq0.false)

pub returns : goal.returns
returns c =
    let us = records_of c.args.sources.now in
    let count : c.count_rows-count.result ≡ count_below c.args.row.now us = count_by_test us (is_in_range c.in_ok-below.below) _ c.count_rows-count.result c.count_rows-count.ensures c.in_ok-below.ensures in
    lower_found us c.requires c.args.row.now c.in_ok-found.found (omega (arith, count, c.if-count-eq0.false)) (ap (λ n. slice_get (rows_of us) (n - 1)) (sym count) ∙ c.in_ok-found.ensures)
