use Rattle.std.proofs.Common.{rules, ◌≡◌, ◌∙◌, ◌∷◌, [], ◌++◌, sym, ap, take, get_or, append_assoc}
use Rattle.std.proofs.lemmas.List.{take_more, map-append}
use Rattle.std.proofs.lemmas.List.Elements.{All-from_recursion}
use Rattle.tab_key.specs.Encoding.{record_at, records_at, IsAt}
use Rattle.tab_mem.proofs.partitions.lending.lend_at.Goals as goal

pub end_of-end-requires : goal.end_of-end-requires
end_of-end-requires c = All-from_recursion (IsAt c.args.body.now) c.args.places.now c.requires c.loop-place.place-index 0 c.loop-place-test.true

pub item_at-requires-clause-within : goal.item_at-requires-clause-within
item_at-requires-clause-within c = All-from_recursion (IsAt c.args.body.now) c.args.places.now c.requires c.loop-place.place-index 0 c.loop-place-test.true

pub loop-place-preserved : goal.loop-place-preserved
loop-place-preserved c =
    let body = c.args.body.now in
    let places = c.args.places.now in
    let before = c.args.items.now.items in
    let index = c.loop-place.place-index in
    let r = record_at body (get_or places index 0) in
    let pushed : c.push.new.self.items ≡ c.loop-place.items.items ++ r ∷ [] = search rules in
    pushed
    ∙ ap (λ l. l ++ r ∷ []) c.loop-place.invariant
    ∙ append_assoc before (records_at body (take index places)) (r ∷ [])
    ∙ ap (λ l. before ++ l) (sym (ap (records_at body) (take_more places index 0 c.loop-place-test.true) ∙ map-append (record_at body) (take index places) (get_or places index 0 ∷ [])))
