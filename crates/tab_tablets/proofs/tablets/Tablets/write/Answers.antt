use Rattle.std.proofs.Common.{◌≡◌, ◌∙◌, ◌<◌, List, [], length, sym, ap, subst, rules, to_z, of_z, w64}
use Rattle.std.specs.Prelude.{Contains, ◌==◌}
use Rattle.std.proofs.lemmas.Result.{on_ok_weaker}
use Rattle.tab_key.specs.Records.{Record}
use Rattle.tab_cells.specs.Written.{mutation_records}
use Rattle.tab_tablet.specs.Tablets.{Tablet, written}
use Rattle.tab_tablets.specs.ByRow.{records_of_all, at_row}
use Rattle.tab_tablets.specs.Places.{tablet_at, IsPlaceOf, at_place, AreKept}
use Rattle.tab_tablets.proofs.At.{one}
use Rattle.tab_tablets.proofs.EndRows.{row_at_place}
use Rattle.tab_tablets.proofs.Idle.{idle}
use Rattle.tab_tablets.proofs.Kept.{kept_again, either, own_rows}
use Rattle.tab_tablets.proofs.Rows.{held_below}
use Rattle.tab_tablets.proofs.tablets.Tablets.write.Goals as goal

pub write_first-requires-clause-idle : goal.write_first-requires-clause-idle
write_first-requires-clause-idle c =
    subst (λ ts. (tablet_at ts c.place_of-place.result).active ≡ []) c.self.view_is
    (idle (tablet_at c.self.inside.tablet_list c.place_of-place.result) c.tablet.result.now c.tablet.ensures (sym c.is_frozen.ensures.frozen ∙ c.if-is_frozen.true))

pub write-requires-clause-unused : goal.write-requires-clause-unused
write-requires-clause-unused c = held_below c.self.inside.tablet_list c.place_of-place.result c.args.seq (subst (λ ts. (u : Record) → Contains (records_of_all ts) u → u.seq < c.args.seq) (sym c.self.view_is) c.requires.unused)

pub invariant_of-self : goal.invariant_of-self
invariant_of-self c =
    let tablet_list : List Tablet = c.self.inside.tablet_list in
    let us : List Record = mutation_records c.args.seq (to_z w64 (of_z w64 c.args.clock)) c.args.mutation.now in
    let place : IsPlaceOf c.args.mutation.now.row tablet_list c.place_of-place.result = subst (λ r. IsPlaceOf r tablet_list c.place_of-place.result) c.row.ensures c.place_of-place.ensures in
    either (λ ts. AreKept ts c.self.inside.written.items) c.write.result (at_place c.place_of-place.result (one (written us)) tablet_list) tablet_list c.write.new.self c.write.ensures.ok c.write.ensures.err
    (kept_again tablet_list c.self.inside.written.items c.self.invariant c.args.mutation.now.row us (own_rows c.args.seq (to_z w64 (of_z w64 c.args.clock)) c.args.mutation.now) c.place_of-place.result place
    (ap (λ (t : Tablet). length t.active == 0) (sym c.tablet.ensures) ∙ sym c.is_frozen.ensures.frozen ∙ c.if-is_frozen.false))
    c.self.invariant

pub returns-clause-ok : goal.returns-clause-ok
returns-clause-ok c =
    let tablet_list : List Tablet = c.self.inside.tablet_list in
    let trip : to_z w64 (of_z w64 c.args.clock) ≡ c.args.clock = search rules in
    let us : List Record = mutation_records c.args.seq c.args.clock c.args.mutation.now in
    let place : IsPlaceOf c.args.mutation.now.row tablet_list c.place_of-place.result = subst (λ r. IsPlaceOf r tablet_list c.place_of-place.result) c.row.ensures c.place_of-place.ensures in
    on_ok_weaker c.write.result
    (λ e. e ∙ (λ i. at_place c.place_of-place.result (one (written (mutation_records c.args.seq (trip i) c.args.mutation.now))) tablet_list)
    ∙ sym (row_at_place c.args.mutation.now.row (one (written us)) tablet_list c.place_of-place.result place)
    ∙ ap (at_row c.args.mutation.now.row (one (written us))) c.self.view_is)
    c.write.ensures.ok
