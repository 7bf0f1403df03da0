use Rattle.std.proofs.Common.{◌≡◌, drop, arith}
use Rattle.tab_table.specs.Sizes.{shared}
use Rattle.tab_table.proofs.Shares.{shared_ended}
use Rattle.tab_table.proofs.sharing.shared.Goals as goal

pub returns-clause-shared : goal.returns-clause-shared
returns-clause-shared c =
    let i = c.loop-index.index in
    let none : shared (drop i c.args.first.now) (drop i c.args.second.now) ≡ 0 = shared_ended c.args.first.now c.args.second.now i (omega arith) in
    omega (arith, none, c.loop-index.invariant)
