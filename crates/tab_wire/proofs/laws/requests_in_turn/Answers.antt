use Rattle.tab_wire.proofs.ReasonLaw as lemma
use Rattle.tab_wire.proofs.laws.requests_in_turn.Goals as goal

pub returns : goal.returns
returns c = lemma.requests_in_turn
