use Rattle.std.proofs.Common.{[], ◌∷◌, rules}
use Rattle.std.specs.List.{flat_map}
use Rattle.tab_io.proofs.Putting.{puts_more, part_longer}
use Rattle.tab_replies.proofs.rights.put_end_of_held.Goals as goal

pub returns : goal.returns
returns g c = puts_more g.W.Output c.args.output.now c.put_each.new.output c.put_byte.new.output (flat_map (g.P.PutItem.text c.args.held.now) c.args.all.now) (10 ∷ []) c.put_byte.result c.in_ok-put_each.ensures c.put_byte.ensures

pub returns-in_err-put_each : goal.returns-in_err-put_each
returns-in_err-put_each g c =
    let part = part_longer {t = flat_map (g.P.PutItem.text c.args.held.now) c.args.all.now} (10 ∷ []) c.in_err-put_each.ensures in
    search (rules, part)
