use Rattle.tab_store.proofs.DueList.{due_is_first}
use Rattle.tab_store.proofs.laws.due_is_first.Goals as goal

pub returns : goal.returns
returns c = due_is_first
