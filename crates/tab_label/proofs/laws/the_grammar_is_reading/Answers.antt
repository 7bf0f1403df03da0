use Rattle.tab_label.proofs.LabelOf as label_of
use Rattle.tab_label.proofs.laws.the_grammar_is_reading.Goals as goal

pub returns : goal.returns
returns c = label_of.the_grammar_is_reading
