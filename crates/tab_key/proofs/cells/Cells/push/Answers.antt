use Rattle.std.proofs.Common.{◌≡◌, ◌∙◌, ap, subst, map, ◌++◌, ◌∷◌, [], take, length, arith}
use Rattle.std.proofs.lemmas.List.{map-append}
use Rattle.std.specs.Prelude.{sum_by}
use Rattle.std.proofs.lemmas.List.Sums.{sum_by-append}
use Rattle.tab_key.specs.Encoding.{records_at, cell_size}
use Rattle.tab_key.specs.Records.{cell_of}
use Rattle.tab_key.proofs.Placed.{pushed_at, pushed_records}
use Rattle.tab_key.proofs.cells.Cells.push.Goals as goal

pub invariant_of-self-in-Ok : goal.invariant_of-self-in-Ok
invariant_of-self-in-Ok c =
    let front : take (length c.self.inside.body.items) c.append_copy.new.body.items ≡ c.self.inside.body.items = subst (λ b. take (length b) c.append_copy.new.body.items ≡ b) c.make_room.ensures.body c.append_copy.ensures.front in
    let places : c.push_reserved.new.self.items ≡ c.self.inside.places.items ++ c.in-Ok.place ∷ [] = c.push_reserved.ensures.items ∙ ap (λ xs. xs ++ c.in-Ok.place ∷ []) c.make_room.ensures.places in
    let cells : map cell_of (records_at c.append_copy.new.body.items c.push_reserved.new.self.items) ≡ map cell_of (records_at c.self.inside.body.items c.self.inside.places.items) ++ cell_of c.args.shown.now ∷ [] =
    ap (map cell_of) (pushed_records _ _ _ _ c.in-Ok.place c.args.shown.now places front c.self.invariant.within c.in-Ok.ensures.copy)
    ∙ map-append cell_of (records_at c.self.inside.body.items c.self.inside.places.items) (c.args.shown.now ∷ []) in
    record {
      within = pushed_at _ _ _ _ c.in-Ok.place places front c.self.invariant.within c.in-Ok.ensures.within;
      size = omega (arith, c.in-Ok.ensures.size, ap length c.make_room.ensures.body, c.self.invariant.size, ap (sum_by cell_size) cells, sum_by-append cell_size (map cell_of (records_at c.self.inside.body.items c.self.inside.places.items)) (cell_of c.args.shown.now ∷ []));
    }

pub returns-in-Ok-clause-ok : goal.returns-in-Ok-clause-ok
returns-in-Ok-clause-ok c =
    let front : take (length c.self.inside.body.items) c.append_copy.new.body.items ≡ c.self.inside.body.items = subst (λ b. take (length b) c.append_copy.new.body.items ≡ b) c.make_room.ensures.body c.append_copy.ensures.front in
    let places : c.push_reserved.new.self.items ≡ c.self.inside.places.items ++ c.in-Ok.place ∷ [] = c.push_reserved.ensures.items ∙ ap (λ xs. xs ++ c.in-Ok.place ∷ []) c.make_room.ensures.places in
    ap (map cell_of) (pushed_records _ _ _ _ c.in-Ok.place c.args.shown.now places front c.self.invariant.within c.in-Ok.ensures.copy)
    ∙ map-append cell_of (records_at c.self.inside.body.items c.self.inside.places.items) (c.args.shown.now ∷ [])
    ∙ ap (λ cells. cells ++ cell_of c.args.shown.now ∷ []) c.self.view_is
