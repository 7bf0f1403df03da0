use Rattle.std.proofs.Common.{rules, ◌≡◌, ◌++◌, ◌∷◌, [], ◌+◌, ◌<◌, ap, sym, ◌∙◌, take, length}
use Rattle.std.specs.List.{enumerate_from}
use Rattle.std.proofs.lemmas.List.{take_more}
use Rattle.tab_session.proofs.Placing.{one_more}
use Rattle.tab_session.proofs.order.as_asked.Goals as goal

pub loop-place-preserved : goal.loop-place-preserved
loop-place-preserved c =
    let ranges = c.args.ranges.now in
    let place = c.loop-place.place in
    let rows = c.index-ranges-place.result in
    let inside : place < length ranges = search rules in
    let more : take (place + 1) ranges ≡ take place ranges ++ rows ∷ [] = take_more ranges place rows inside ∙ ap (λ r. take place ranges ++ r ∷ []) (sym c.index-ranges-place.is) in
    let pushed : c.push.new.self.items ≡ c.loop-place.order.items ++ (place, rows) ∷ [] = search rules in
    let counted : 0 + length (take place ranges) ≡ place = search rules in
    pushed
    ∙ ap (λ l. l ++ (place, rows) ∷ []) c.loop-place.invariant
    ∙ ap (λ k. enumerate_from 0 (take place ranges) ++ (k, rows) ∷ []) (sym counted)
    ∙ sym (ap (enumerate_from 0) more ∙ one_more (take place ranges) 0 rows)
