use Rattle.tab_cells.proofs.OneAnswer.{one_answer_list}
use Rattle.tab_cells.proofs.laws.one_answer_list.Goals as goal

pub returns : goal.returns
returns c = one_answer_list
