-- The first record is the one on top.
use Rattle.std.proofs.Common.{refl, rules}
use Rattle.tab_iter.proofs.PrefixLaws.{prefix_of_none, prefix_of_some}
use Rattle.tab_iter.proofs.source.Source.top_prefix.Goals as goal

pub returns-in-None : goal.returns-in-None
returns-in-None g c = prefix_of_none _ _ refl (search rules)

pub returns-in-Some : goal.returns-in-Some
returns-in-Some g c = prefix_of_some c.row_prefix.result _ c.in-Some.record _ c.row.ensures (search rules) c.row_prefix.ensures
