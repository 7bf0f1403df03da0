use Rattle.std.proofs.Common.{[], ◌∷◌, ◌++◌, rules}
use Rattle.std.specs.List.{flat_map}
use Rattle.tab_io.specs.Writing.{HasPutPart}
use Rattle.tab_io.proofs.Putting.{puts_more, part_longer}
use Rattle.tab_replies.proofs.rights.put_held.Goals as goal

pub returns : goal.returns
returns g c = puts_more g.W.Output c.args.output.now c.put.new.self c.put_end_of_held.new.output (c.args.kind.now) (flat_map (g.P.PutItem.text c.args.held.now) c.args.all.now ++ 10 ∷ []) c.put_end_of_held.result (record { bytes = c.in_ok-put.ensures.bytes; faults = c.in_ok-put.ensures.faults }) c.put_end_of_held.ensures

pub returns-in_err-put : goal.returns-in_err-put
returns-in_err-put g c =
    let part : HasPutPart g.W.Output c.args.output.now c.put.new.self (c.args.kind.now ++ (flat_map (g.P.PutItem.text c.args.held.now) c.args.all.now ++ 10 ∷ [])) = part_longer {t = c.args.kind.now} (flat_map (g.P.PutItem.text c.args.held.now) c.args.all.now ++ 10 ∷ []) (record { bytes = c.in_err-put.ensures.bytes; failed = c.in_err-put.ensures.faults }) in
    search (rules, part)
