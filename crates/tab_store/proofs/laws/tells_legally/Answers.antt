use Rattle.tab_store.proofs.Telling.{tells_legally}
use Rattle.tab_store.proofs.laws.tells_legally.Goals as goal

pub returns : goal.returns
returns c = tells_legally
