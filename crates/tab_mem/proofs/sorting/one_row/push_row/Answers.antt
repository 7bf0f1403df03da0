use Rattle.std.proofs.Common.{◌∙◌, ◌++◌, ◌∷◌, [], ap, sym, length, take, append_assoc}
use Rattle.std.proofs.Math.Seq.{take-append_seam}
use Rattle.std.proofs.lemmas.List.{take_more}
use Rattle.tab_key.specs.Records.{Record}
use Rattle.tab_mem.proofs.Columned.{item_prefix}
use Rattle.tab_mem.proofs.sorting.one_row.push_row.Goals as goal

pub with_row-requires : goal.with_row-requires
with_row-requires c = item_prefix c.args.prefix c.args.items.now c.loop-item.item-index c.item-item.result c.requires c.loop-item-test.true c.item-item.is

pub loop-item-preserved : goal.loop-item-preserved
loop-item-preserved c =
    let old = c.args.records.now in
    let items = c.args.items.now in
    let index = c.loop-item.item-index in
    let u = c.item-item.result in
    c.in_ok-push_item.ensures.ok
    ∙ ap (λ (v : Record). c.loop-item.records ++ v ∷ []) c.with_row.ensures
    ∙ ap (λ l. l ++ u ∷ []) c.loop-item.invariant
    ∙ append_assoc old (take index items) (u ∷ [])
    ∙ ap (λ l. old ++ l) (sym (take_more items index u c.loop-item-test.true ∙ ap (λ x. take index items ++ x ∷ []) (sym c.item-item.is)))

pub returns-in_err-push_item-clause-front : goal.returns-in_err-push_item-clause-front
returns-in_err-push_item-clause-front c =
    let old = c.args.records.now in
    ap (take (length old)) (c.in_err-push_item.ensures.err ∙ c.loop-item.invariant) ∙ take-append_seam old (take c.loop-item.item-index c.args.items.now)

pub returns-clause-front : goal.returns-clause-front
returns-clause-front c =
    let old = c.args.records.now in
    ap (take (length old)) c.loop-item.invariant ∙ take-append_seam old (take c.loop-item.item-index c.args.items.now)
