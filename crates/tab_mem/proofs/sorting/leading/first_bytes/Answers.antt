use Rattle.std.proofs.Common.{◌≡◌, ◌-◌, ◌*◌, arith}
use Rattle.tab_mem.proofs.CutPrefix.{cut_prefix}
use Rattle.tab_mem.proofs.sorting.leading.first_bytes.Goals as goal

pub returns : goal.returns
returns c =
    let gap : 128 - 8 * c.min.result ≡ 8 * (16 - c.args.count) = omega (arith, c.min.ensures) in
    cut_prefix c.args.count (128 - 8 * c.min.result) c.number_of.result c.cut.result c.args.bytes.now c.requires.long (λ i. (c.type_inv.bytes i).fits) gap c.number_of.ensures c.cut.ensures
