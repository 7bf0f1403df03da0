use Rattle.std.proofs.Common.{◌≡◌, subst, sym, take, arith}
use Rattle.std.proofs.lemmas.Grind.{div_ceil_times}
use Rattle.std.specs.Int.{div_ceil}
use Rattle.tab_mem.specs.RowIndex.{IsRowIndex}
use Rattle.tab_mem.proofs.Shortened.{fronts_cut}
use Rattle.tab_mem.proofs.row_index.RowIndex.truncate.Goals as goal

pub returns : goal.returns
returns c rs h =
    let near = div_ceil_times c.args.count 16 (omega arith) in
    let is : c.div_ceil.result ≡ div_ceil c.args.count 16 = c.div_ceil.ensures in
    subst (λ ns. IsRowIndex ns (take c.args.count rs)) (sym c.truncate.ensures.items)
    (fronts_cut c.args.self.now.numbers.items rs c.args.count c.div_ceil.result (omega (arith, near.0, is)) (omega (arith, near.1, is)) h)
