use Rattle.tab_server_law.proofs.TwoBases.{two_worlds_over}
use Rattle.tab_server_law.proofs.laws.noninterference_over.Goals as goal

pub returns : goal.returns
returns c = two_worlds_over
