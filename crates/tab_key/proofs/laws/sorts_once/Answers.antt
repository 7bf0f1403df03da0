use Rattle.tab_key.proofs.Listing.{sorts_once}
use Rattle.tab_key.proofs.laws.sorts_once.Goals as goal

pub returns : goal.returns
returns c = sorts_once
