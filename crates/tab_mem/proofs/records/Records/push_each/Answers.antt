use Rattle.std.proofs.Common.{◌∙◌, ap, length, take}
use Rattle.std.proofs.Math.Seq.{take-append_seam}
use Rattle.tab_mem.proofs.records.Records.push_each.Goals as goal

pub returns-in_err-push_item-clause-front : goal.returns-in_err-push_item-clause-front
returns-in_err-push_item-clause-front c =
    let old = c.args.self.now in
    ap (take (length old)) (c.in_err-push_item.ensures.err ∙ c.loop-item.invariant) ∙ take-append_seam old (take c.loop-item.item-index c.args.items.now)

pub returns-clause-front : goal.returns-clause-front
returns-clause-front c =
    let old = c.args.self.now in
    ap (take (length old)) c.loop-item.invariant ∙ take-append_seam old (take c.loop-item.item-index c.args.items.now)
