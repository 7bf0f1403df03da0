use Rattle.std.proofs.Common.{rules}
use Rattle.std.specs.Prelude.{codes}
use Rattle.std.specs.List.{flat_map}
use Rattle.tab_replies.specs.Texts.{auth_text}
use Rattle.tab_io.proofs.Putting.{puts, puts_more, part_longer}
use Rattle.tab_replies.proofs.rights.put_behind_table.Goals as goal

pub returns : goal.returns
returns g c = puts_more g.W.Output c.args.output.now c.put_auths.new.output c.put.new.self (flat_map auth_text c.args.auths.now) (codes "end\n") c.put.result c.in_ok-put_auths.ensures (puts g.W.Output c.put_auths.new.output c.put.new.self (codes "end\n") c.put.result c.put.ensures.bytes c.put.ensures.faults)

pub returns-in_err-put_auths : goal.returns-in_err-put_auths
returns-in_err-put_auths g c =
    let part = part_longer {t = flat_map auth_text c.args.auths.now} (codes "end\n") c.in_err-put_auths.ensures in
    search (rules, part)
