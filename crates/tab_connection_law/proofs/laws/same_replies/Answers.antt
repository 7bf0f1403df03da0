use Rattle.tab_connection_law.proofs.Same.{all_alike}
use Rattle.tab_connection_law.proofs.laws.same_replies.Goals as goal

pub returns : goal.returns
returns c = all_alike
