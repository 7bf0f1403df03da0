use Rattle.tab_lasting.proofs.Recovered.{recovered_answers_as_lost}
use Rattle.tab_lasting.proofs.laws.recovered_answers_as_lost.Goals as goal

pub returns : goal.returns
returns c = recovered_answers_as_lost
