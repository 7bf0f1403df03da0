use Rattle.std.proofs.Common.{[], ◌∷◌, rules}
use Rattle.tab_io.proofs.Putting.{puts, puts_more, part_longer}
use Rattle.tab_replies.proofs.rights.put_after_space.Goals as goal

pub returns : goal.returns
returns g c = puts_more g.W.Output c.args.output.now c.put_byte.new.output c.put.new.self (32 ∷ []) (c.args.name.now) c.put.result c.in_ok-put_byte.ensures (puts g.W.Output c.put_byte.new.output c.put.new.self (c.args.name.now) c.put.result c.put.ensures.bytes c.put.ensures.faults)

pub returns-in_err-put_byte : goal.returns-in_err-put_byte
returns-in_err-put_byte g c =
    let part = part_longer {t = 32 ∷ []} (c.args.name.now) c.in_err-put_byte.ensures in
    search (rules, part)
