use Rattle.std.proofs.Common.{[], ◌∷◌, rules}
use Rattle.std.specs.Prelude.{map}
use Rattle.tab_text.specs.Lines.{after_spaces}
use Rattle.tab_replies.specs.Texts.{violation_word}
use Rattle.tab_io.proofs.Putting.{puts_more, part_longer}
use Rattle.tab_replies.proofs.refusal.put_violation_line.Goals as goal

pub returns : goal.returns
returns g c = puts_more g.W.Output c.args.output.now c.put_violation_words.new.output c.put_byte.new.output (after_spaces (map violation_word c.args.violations.now)) (10 ∷ []) c.put_byte.result c.in_ok-put_violation_words.ensures c.put_byte.ensures

pub returns-in_err-put_violation_words : goal.returns-in_err-put_violation_words
returns-in_err-put_violation_words g c =
    let part = part_longer {t = after_spaces (map violation_word c.args.violations.now)} (10 ∷ []) c.in_err-put_violation_words.ensures in
    search (rules, part)
