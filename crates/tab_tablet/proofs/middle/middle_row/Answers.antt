use Rattle.std.proofs.Common.{◌≡◌, ◌/◌, ◌∙◌, Some, sym, ap, subst, arith, length}
use Rattle.std.specs.Prelude.{IfOk, slice_get}
use Rattle.tab_key.specs.Ranges.{is_in_range}
use Rattle.tab_version.specs.Sources.{records_of}
use Rattle.tab_tablet.specs.Selecting.{rows_of, count_upto}
use Rattle.tab_tablet.proofs.MiddleRow.{middle_found, middle_greatest}
use Rattle.tab_tablet.proofs.Searching.{count_by_test}
use Rattle.tab_tablet.proofs.middle.middle_row.Goals as goal

pub returns-then-count_rows-count : goal.returns-then-count_rows-count
returns-then-count_rows-count c =
    let us = records_of c.args.sources.now in
    let middle = c.in_ok-middle.middle in
    let at : slice_get (rows_of us) (length us / 2) ≡ Some middle = ap (λ n. slice_get (rows_of us) (n / 2)) (sym c.count_all-count.ensures) ∙ c.in_ok-middle.ensures in
    let up_to : c.count_rows.result ≡ count_upto middle us = count_by_test us (is_in_range c.in_ok-up_to.up_to) _ c.count_rows.result c.count_rows.ensures c.in_ok-up_to.ensures in
    middle_found us c.requires middle at (omega (arith, up_to, c.count_all-count.ensures, c.if-count_rows-count.true))

pub returns : goal.returns
returns c =
    let us = records_of c.args.sources.now in
    let middle = c.in_ok-middle.middle in
    let at : slice_get (rows_of us) (length us / 2) ≡ Some middle = ap (λ n. slice_get (rows_of us) (n / 2)) (sym c.count_all-count.ensures) ∙ c.in_ok-middle.ensures in
    let up_to : c.count_rows.result ≡ count_upto middle us = count_by_test us (is_in_range c.in_ok-up_to.up_to) _ c.count_rows.result c.count_rows.ensures c.in_ok-up_to.ensures in
    subst (λ x. IfOk c.row_below.result (λ row. row ≡ x)) (middle_greatest us c.requires middle at (omega (arith, up_to, c.count_all-count.ensures, c.if-count_rows-count.false))) c.row_below.ensures
