use Rattle.std.proofs.Common.{ℕ, ◌∷◌, ◌++◌, subst, rules}
use Rattle.std.specs.Prelude.{decimal}
use Rattle.tab_io.specs.Writing.{HasPut, HasPutPart}
use Rattle.tab_io.proofs.Putting.{puts_more, part_longer}
use Rattle.tab_replies.proofs.refusal.put_one_violation.Goals as goal

pub returns : goal.returns
returns g c =
    let first = subst (λ (n : ℕ). HasPut g.W.Output c.args.output.now c.put_decimal.new.output (decimal n)) c.number.ensures c.in_ok-put_decimal.ensures in
    puts_more _ _ _ _ _ (58 ∷ decimal c.args.violation.now.code ++ (58 ∷ decimal c.args.violation.now.update)) c.put_code_and_update.result first c.put_code_and_update.ensures

pub returns-in_err-put_decimal : goal.returns-in_err-put_decimal
returns-in_err-put_decimal g c =
    let first = subst (λ (n : ℕ). HasPutPart g.W.Output c.args.output.now c.put_decimal.new.output (decimal n)) c.number.ensures c.in_err-put_decimal.ensures in
    let part = part_longer (58 ∷ decimal c.args.violation.now.code ++ (58 ∷ decimal c.args.violation.now.update)) first in
    search (rules, part)
