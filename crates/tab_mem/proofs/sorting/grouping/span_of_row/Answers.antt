use Rattle.std.proofs.Common.{rules, ◌≡◌, ◌∙◌, ◌-◌, suc, sym, subst, arith}
use Rattle.std.specs.Prelude.{true}
use Rattle.tab_key.specs.Encoding.{record_at}
use Rattle.tab_key.specs.RowPrefix.{IsRowPrefix}
use Rattle.tab_mem.specs.Groups.{IsRowSpan}
use Rattle.tab_mem.proofs.Filled.{first_at}
use Rattle.tab_mem.proofs.Spanned.{span_first, span_next, span_more}
use Rattle.tab_mem.proofs.sorting.grouping.span_of_row.Goals as goal

pub row_in-row-requires : goal.row_in-row-requires
row_in-row-requires c =
    let more : c.args.left ≡ suc (c.args.left - 1) = omega (arith, c.requires.some) in
    first_at c.args.body.now c.args.place c.args.left (c.args.left - 1) more c.requires.at

pub prefix_at-prefix-requires : goal.prefix_at-prefix-requires
prefix_at-prefix-requires c =
    let more : c.args.left ≡ suc (c.args.left - 1) = omega (arith, c.requires.some) in
    first_at c.args.body.now c.args.place c.args.left (c.args.left - 1) more c.requires.at

pub end_of-end-requires : goal.end_of-end-requires
end_of-end-requires c =
    let more : c.args.left ≡ suc (c.args.left - 1) = omega (arith, c.requires.some) in
    first_at c.args.body.now c.args.place c.args.left (c.args.left - 1) more c.requires.at

pub loop-count-init : goal.loop-count-init
loop-count-init c =
    subst (λ e. IsRowSpan c.args.body.now c.args.place c.args.left e 1) (sym c.end_of-end.ensures) (span_first c.args.body.now c.args.place c.args.left c.requires.at c.requires.some)

pub has_row-requires-clause-at : goal.has_row-requires-clause-at
has_row-requires-clause-at c = span_next c.args.body.now c.args.place c.args.left c.loop-count.end c.loop-count.count c.loop-count.invariant c.loop-count-test.true

pub has_row-requires-clause-prefix : goal.has_row-requires-clause-prefix
has_row-requires-clause-prefix c = subst (IsRowPrefix c.prefix_at-prefix.result) (sym c.row_in-row.ensures) c.prefix_at-prefix.ensures

pub end_of-next-requires : goal.end_of-next-requires
end_of-next-requires c = span_next c.args.body.now c.args.place c.args.left c.loop-count.end c.loop-count.count c.loop-count.invariant c.loop-count-test.true

pub loop-count-preserved : goal.loop-count-preserved
loop-count-preserved c =
    let body = c.args.body.now in
    let alike : c.has_row.result ≡ true = search rules in
    let same : (record_at body c.loop-count.end).key.row ≡ (record_at body c.args.place).key.row = c.has_row.ensures alike ∙ c.row_in-row.ensures in
    span_more body c.args.place c.args.left c.loop-count.end c.loop-count.count c.loop-count.invariant c.loop-count-test.true c.end_of-next.result c.end_of-next.ensures same

pub returns-then-not-has_row : goal.returns-then-not-has_row
returns-then-not-has_row c = c.loop-count.invariant

pub returns : goal.returns
returns c = c.loop-count.invariant
