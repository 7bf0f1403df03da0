use Rattle.std.proofs.Common.{[], ◌∷◌, rules}
use Rattle.std.specs.Prelude.{decimal}
use Rattle.tab_io.proofs.Putting.{puts_more, part_longer}
use Rattle.tab_replies.proofs.refusal.put_after_colon.Goals as goal

pub returns : goal.returns
returns g c = puts_more g.W.Output c.args.output.now c.put_byte.new.output c.put_decimal.new.output (58 ∷ []) (decimal c.args.number) c.put_decimal.result c.in_ok-put_byte.ensures c.put_decimal.ensures

pub returns-in_err-put_byte : goal.returns-in_err-put_byte
returns-in_err-put_byte g c =
    let part = part_longer {t = 58 ∷ []} (decimal c.args.number) c.in_err-put_byte.ensures in
    search (rules, part)
