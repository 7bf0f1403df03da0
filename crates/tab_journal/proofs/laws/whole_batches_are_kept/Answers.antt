use Rattle.tab_journal.proofs.Whole.{whole_batches_are_kept}
use Rattle.tab_journal.proofs.laws.whole_batches_are_kept.Goals as goal

pub returns : goal.returns
returns c = whole_batches_are_kept
