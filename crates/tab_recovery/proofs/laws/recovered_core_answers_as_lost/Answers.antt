use Rattle.tab_recovery.proofs.Answered.{recovered_core_answers_as_lost}
use Rattle.tab_recovery.proofs.laws.recovered_core_answers_as_lost.Goals as goal

pub returns : goal.returns
returns c = recovered_core_answers_as_lost
