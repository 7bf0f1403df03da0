use Rattle.std.proofs.Common.{◌∷◌}
use Rattle.std.specs.Prelude.{decimal}
use Rattle.tab_io.proofs.Putting.{puts_more, part_longer}
use Rattle.tab_replies.proofs.refusal.put_code_and_update.Goals as goal

pub returns-in-Ok : goal.returns-in-Ok
returns-in-Ok g c = puts_more _ _ _ _ (58 ∷ decimal c.args.code) (58 ∷ decimal c.args.update) c.put_after_colon-in-Ok.result c.in-Ok.ensures c.put_after_colon-in-Ok.ensures

pub returns-in-Err : goal.returns-in-Err
returns-in-Err g c = part_longer {t = 58 ∷ decimal c.args.code} (58 ∷ decimal c.args.update) c.in-Err.ensures
