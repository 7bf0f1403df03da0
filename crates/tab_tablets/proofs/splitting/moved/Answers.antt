use Rattle.std.proofs.Common.{◌∙◌, ◌<◌, [], ◌∷◌, ◌++◌, get_or, take, sym, ap}
use Rattle.std.specs.List.{filter_map}
use Rattle.std.proofs.lemmas.List.{take_more}
use Rattle.std.proofs.lemmas.List.Elements.{All-from_recursion, filter_map-append}
use Rattle.tab_tablets.specs.Places.{moved_from}
use Rattle.tab_tablets.proofs.splitting.moved.Goals as goal

pub add_moved-requires : goal.add_moved-requires
add_moved-requires c = All-from_recursion (λ w. w < c.args.count) c.args.places.now c.requires c.loop-other.other-index 0 c.loop-other-test.true

pub loop-other-preserved : goal.loop-other-preserved
loop-other-preserved c =
    c.in_ok-add_moved.ensures ∙ ap (λ l. l ++ filter_map (moved_from c.args.place) (get_or c.args.places.now c.loop-other.other-index 0 ∷ [])) c.loop-other.invariant
    ∙ sym (ap (filter_map (moved_from c.args.place)) (take_more c.args.places.now c.loop-other.other-index 0 c.loop-other-test.true) ∙ filter_map-append (moved_from c.args.place) (take c.loop-other.other-index c.args.places.now) (get_or c.args.places.now c.loop-other.other-index 0 ∷ []))
