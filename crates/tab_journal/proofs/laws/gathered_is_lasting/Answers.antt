use Rattle.tab_journal.proofs.Stretching.{gathered_is_lasting}
use Rattle.tab_journal.proofs.laws.gathered_is_lasting.Goals as goal

pub returns : goal.returns
returns c = gathered_is_lasting
