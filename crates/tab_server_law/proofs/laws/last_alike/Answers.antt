use Rattle.tab_server_law.proofs.LastAlike.{newest_told}
use Rattle.tab_server_law.proofs.laws.last_alike.Goals as goal

pub returns : goal.returns
returns c = newest_told
