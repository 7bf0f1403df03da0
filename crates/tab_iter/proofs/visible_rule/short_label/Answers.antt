-- A label of at most seven bytes has a small number.
use Rattle.tab_iter.proofs.ShortLabels.{small_if_short}
use Rattle.tab_iter.proofs.visible_rule.short_label.Goals as goal

pub returns-clause-small : goal.returns-clause-small
returns-clause-small c = small_if_short c.args.next.now.key.label c.label_word.result c.label_word.ensures.short c.label_word.ensures.word
