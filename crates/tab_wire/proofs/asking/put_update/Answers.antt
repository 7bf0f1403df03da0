use Rattle.std.proofs.Common.{rules, [], ◌∷◌, ◌++◌}
use Rattle.tab_io.specs.Writing.{HasPutPart}
use Rattle.tab_io.proofs.Putting.{puts_more, part_longer}
use Rattle.tab_codec.specs.Parts.{kind_byte}
use Rattle.tab_wire.specs.Replies.{field}
use Rattle.tab_wire.specs.Sending.{timestamp_bytes, value_part}
use Rattle.tab_wire.proofs.asking.put_update.Goals as goal

pub returns : goal.returns
returns g c = puts_more g.W.Output c.args.output.now c.put_kind.new.output c.put_key.new.output (kind_byte c.args.update.now.kind ∷ []) (field c.args.update.now.family ++ (field c.args.update.now.qualifier ++ (field c.args.update.now.label ++ (timestamp_bytes c.args.update.now.timestamp ++ value_part c.args.update.now.kind c.args.update.now.value)))) c.put_key.result c.in_ok-put_kind.ensures c.put_key.ensures

pub returns-in_err-put_kind : goal.returns-in_err-put_kind
returns-in_err-put_kind g c =
    let part : HasPutPart g.W.Output c.args.output.now c.put_kind.new.output ((kind_byte c.args.update.now.kind ∷ []) ++ (field c.args.update.now.family ++ (field c.args.update.now.qualifier ++ (field c.args.update.now.label ++ (timestamp_bytes c.args.update.now.timestamp ++ value_part c.args.update.now.kind c.args.update.now.value))))) = part_longer {t = kind_byte c.args.update.now.kind ∷ []} (field c.args.update.now.family ++ (field c.args.update.now.qualifier ++ (field c.args.update.now.label ++ (timestamp_bytes c.args.update.now.timestamp ++ value_part c.args.update.now.kind c.args.update.now.value)))) c.in_err-put_kind.ensures in
    search (rules, part)
