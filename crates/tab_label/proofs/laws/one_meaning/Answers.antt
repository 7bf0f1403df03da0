use Rattle.tab_label.proofs.Complete as complete
use Rattle.tab_label.proofs.laws.one_meaning.Goals as goal

pub returns : goal.returns
returns c = complete.one_meaning
