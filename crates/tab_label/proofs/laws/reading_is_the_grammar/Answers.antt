use Rattle.tab_label.proofs.LabelOf as label_of
use Rattle.tab_label.proofs.laws.reading_is_the_grammar.Goals as goal

pub returns : goal.returns
returns c = label_of.reading_is_the_grammar
