use Rattle.std.proofs.Common.{rules, ◌≡◌, ◌∙◌, ◌∷◌, [], ◌++◌, ◌<◌, sym, ap, take, map, length, get_or, append_assoc}
use Rattle.std.proofs.lemmas.List.{take_more, map-append}
use Rattle.tab_export.specs.Places.{place}
use Rattle.tab_export.proofs.order.add_records.Goals as goal

pub loop-index-preserved : goal.loop-index-preserved
loop-index-preserved c =
    let f = place c.args.table.now in
    let rs = c.args.records.now in
    let before = c.args.order.now.items in
    let index = c.loop-index.index in
    let r = get_or rs index c.get.result in
    let there : index < length rs = search rules in
    let pushed : c.push.new.self.items ≡ c.loop-index.order.items ++ f c.get.result ∷ [] = search rules in
    pushed
    ∙ ap (λ x. c.loop-index.order.items ++ f x ∷ []) c.get.ensures
    ∙ ap (λ l. l ++ f r ∷ []) c.loop-index.invariant
    ∙ append_assoc before (map f (take index rs)) (f r ∷ [])
    ∙ ap (λ l. before ++ l) (sym (ap (map f) (take_more rs index c.get.result there) ∙ map-append f (take index rs) (r ∷ [])))
