use Rattle.std.proofs.Common.{subst, sym}
use Rattle.tab_mem.specs.Starts.{IsPrefixOf}
use Rattle.tab_mem.proofs.StartPrefixes.{key_prefix, low_prefix, high_prefix}
use Rattle.tab_mem.proofs.start.Start.prefix.Goals as goal

pub returns-in-AtKey : goal.returns-in-AtKey
returns-in-AtKey c = subst (λ s. IsPrefixOf s c.row_prefix.result) (sym c.in-AtKey.is) (key_prefix c.in-AtKey.key c.row_prefix.result c.row_prefix.ensures)

pub returns-in-AtLow : goal.returns-in-AtLow
returns-in-AtLow c = subst (λ s. IsPrefixOf s c.prefix_or.result) (sym c.in-AtLow.is) (low_prefix c.in-AtLow.low c.prefix_or.result c.prefix_or.ensures)

pub returns-in-PastHigh : goal.returns-in-PastHigh
returns-in-PastHigh c = subst (λ s. IsPrefixOf s c.prefix_or-in-PastHigh.result) (sym c.in-PastHigh.is) (high_prefix c.in-PastHigh.high c.prefix_or-in-PastHigh.result c.prefix_or-in-PastHigh.ensures)
