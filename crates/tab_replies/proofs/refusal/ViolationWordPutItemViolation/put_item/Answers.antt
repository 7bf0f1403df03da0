use Rattle.std.proofs.Common.{[], ◌∷◌}
use Rattle.tab_io.proofs.Putting.{puts_more, part_longer}
use Rattle.tab_replies.specs.Texts.{violation_word}
use Rattle.tab_replies.proofs.refusal.ViolationWordPutItemViolation.put_item.Goals as goal

pub returns-in-Ok : goal.returns-in-Ok
returns-in-Ok g c = puts_more _ _ _ _ (32 ∷ []) (violation_word c.args.violation.now) c.put_one_violation.result c.in-Ok.ensures c.put_one_violation.ensures

pub returns-in-Err : goal.returns-in-Err
returns-in-Err g c = part_longer {t = 32 ∷ []} (violation_word c.args.violation.now) c.in-Err.ensures
