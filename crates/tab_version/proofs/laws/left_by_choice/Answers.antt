use Rattle.tab_version.proofs.Choosing.{left_by_choice}
use Rattle.tab_version.proofs.laws.left_by_choice.Goals as goal

pub returns : goal.returns
returns c = left_by_choice
