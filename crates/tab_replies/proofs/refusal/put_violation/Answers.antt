use Rattle.std.proofs.Common.{[], ◌∷◌, ◌++◌}
use Rattle.std.specs.Prelude.{map, codes}
use Rattle.tab_io.proofs.Putting.{puts_more, part_longer}
use Rattle.tab_text.specs.Lines.{after_spaces}
use Rattle.tab_replies.specs.Texts.{violation_word}
use Rattle.tab_replies.proofs.refusal.put_violation.Goals as goal

pub returns-in-Ok : goal.returns-in-Ok
returns-in-Ok g c =
    puts_more g.W.Output c.args.output.now c.put.new.self c.put_violation_line.new.output (codes "refused 6 ConstraintViolation") (after_spaces (map violation_word c.args.violations.now) ++ 10 ∷ []) c.put_violation_line.result
    (record { bytes = c.in-Ok.ensures.bytes; faults = c.in-Ok.ensures.faults }) c.put_violation_line.ensures

pub returns-in-Err : goal.returns-in-Err
returns-in-Err g c =
    part_longer {t = codes "refused 6 ConstraintViolation"} (after_spaces (map violation_word c.args.violations.now) ++ 10 ∷ []) (record { bytes = c.in-Err.ensures.bytes; failed = c.in-Err.ensures.faults })
