use Rattle.std.proofs.Common.{◌≡◌, ◌+◌, ℕ, List, [], ◌∷◌, ◌++◌, ◌∙◌, ap, sym, subst}
use Rattle.std.proofs.lemmas.List.{map-append}
use Rattle.tab_label.specs.Sets.{byte_lists}
use Rattle.tab_codec.specs.Reading.{field_at, parts_at}
use Rattle.tab_image.specs.Streams.{HasRead}
use Rattle.tab_image.proofs.PartsLemmas.{read_pushed, stops_short}
use Rattle.tab_image.proofs.sets.read_so_many.Goals as goal

pub returns-in-Err : goal.returns-in-Err
returns-in-Err g c = stops_short g.R.Input field_at c.args.count c.loop.counter _ _ _ _ _ c.loop-test.true c.loop.invariant c.in-Err.ensures

pub loop-preserved : goal.loop-preserved
loop-preserved g c =
    let old = c.loop.texts.items in
    let text = c.in-Ok.text in
    let more : byte_lists c.push.new.self.items ≡ byte_lists old ++ text.items ∷ [] = ap byte_lists c.in_ok-push-in-Ok.ensures.items ∙ map-append (λ v. v.items) old (text ∷ []) in
    subst (λ (xs : List (List ℕ)). HasRead g.R.Input c.args.input.now c.read_field.new.input (parts_at field_at (c.loop.counter + 1)) xs) (sym more)
    (read_pushed g.R.Input field_at c.loop.counter _ _ _ (byte_lists old) text.items c.loop.invariant c.in-Ok.ensures)
