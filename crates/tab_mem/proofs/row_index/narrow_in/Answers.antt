use Rattle.std.proofs.Common.{◌+◌, ◌/◌, length, arith, refl}
use Rattle.std.specs.List.{prefix_len}
use Rattle.std.proofs.lemmas.List.Sums.{prefix_len-le-length}
use Rattle.tab_mem.specs.Numbers.{count_below}
use Rattle.tab_mem.specs.Starts.{is_before}
use Rattle.tab_mem.proofs.RowIndexing.{low_count, high_count, low_part, high_part}
use Rattle.tab_mem.proofs.row_index.narrow_in.Goals as goal

pub returns-clause-count : goal.returns-clause-count
returns-clause-count c rs h rise inside =
    let s = c.args.target.now.start in
    let q = c.prefix.result in
    let ns = c.args.numbers.now in
    let n = prefix_len (is_before s) rs in
    let first = c.args.low / 16 in
    let past = c.min-past.result in
    let low = low_part c.args.low n (count_below q ns) first past (low_count s q ns rs h rise c.prefix.ensures) refl in
    let high = high_part c.args.high n (count_below (q + 1) ns) first past (length ns) (length rs) (high_count s q ns rs h rise c.prefix.ensures (λ k. let item = c.type_inv.numbers k in item.fits)) (prefix_len-le-length (is_before s) rs) h.all c.min-past.ensures in
    c.between.ensures.count n (omega (arith, low, c.alike_in.ensures.low)) (omega (arith, high, c.alike_in.ensures.high))
