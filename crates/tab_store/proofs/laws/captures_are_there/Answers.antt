use Rattle.tab_tablets.proofs.Captures.{captures_leave}
use Rattle.tab_store.proofs.laws.captures_are_there.Goals as goal

pub returns : goal.returns
returns c = captures_leave
