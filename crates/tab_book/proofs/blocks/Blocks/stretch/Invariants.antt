use Rattle.std.proofs.Common.{◌≡◌}
use Rattle.tab_book.proofs.Stretches.{up_to}
use Rattle.tab_book.proofs.blocks.Blocks.stretch.Given as goal

abbrev pub invariant-loop-number : goal.invariant-loop-number
invariant-loop-number l = l.shared.items ≡ up_to l.self.entries l.from l.number
