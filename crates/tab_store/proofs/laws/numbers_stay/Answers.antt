use Rattle.tab_store.proofs.Numbering.{numbers_stay}
use Rattle.tab_store.proofs.laws.numbers_stay.Goals as goal

pub returns : goal.returns
returns c = numbers_stay
