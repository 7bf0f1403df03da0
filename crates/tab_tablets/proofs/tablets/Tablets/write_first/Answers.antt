use Rattle.std.proofs.Common.{◌≡◌, ◌∙◌, ◌<◌, List, [], ◌∷◌, ◌++◌, sym, ap, subst, rules, to_z, of_z, w64}
use Rattle.std.specs.Prelude.{Contains}
use Rattle.tab_key.specs.Records.{Record}
use Rattle.tab_cells.specs.Written.{mutation_records}
use Rattle.tab_tablet.specs.Tablets.{Tablet, written}
use Rattle.tab_tablets.specs.ByRow.{records_of_all, at_row}
use Rattle.tab_tablets.specs.Places.{tablet_at, IsPlaceOf, at_place, AreKept}
use Rattle.tab_tablets.proofs.At.{one}
use Rattle.tab_tablets.proofs.EndRows.{row_at_place}
use Rattle.tab_tablets.proofs.Kept.{kept_first, own_rows, some_records}
use Rattle.tab_tablets.proofs.Rows.{held_below}
use Rattle.tab_tablets.proofs.tablets.Tablets.write_first.Goals as goal

pub write-requires-clause-unused : goal.write-requires-clause-unused
write-requires-clause-unused c = held_below c.self.inside.tablet_list c.args.place c.args.seq (subst (λ ts. (u : Record) → Contains (records_of_all ts) u → u.seq < c.args.seq) (sym c.self.view_is) c.requires.unused)

pub invariant_of-self-2 : goal.invariant_of-self-2
invariant_of-self-2 c =
    let tablet_list : List Tablet = c.self.inside.tablet_list in
    let us : List Record = mutation_records c.args.seq (to_z w64 (of_z w64 c.args.clock)) c.args.mutation.now in
    let place : IsPlaceOf c.args.mutation.now.row tablet_list c.args.place = subst (λ ts. IsPlaceOf c.args.mutation.now.row ts c.args.place) (sym c.self.view_is) c.requires.place in
    let idle : (tablet_at tablet_list c.args.place).active ≡ [] = subst (λ ts. (tablet_at ts c.args.place).active ≡ []) (sym c.self.view_is) c.requires.idle in
    subst (λ ts. AreKept ts c.push_reserved.new.self.items) (sym c.in_ok-write.ensures.ok)
    (subst (AreKept (at_place c.args.place (one (written us)) tablet_list)) (sym (c.push_reserved.ensures.items ∙ ap (λ ws. ws ++ c.args.place ∷ []) c.in_ok-reserve.ensures.items))
    (kept_first tablet_list c.self.inside.written.items c.self.invariant c.args.mutation.now.row us (own_rows c.args.seq (to_z w64 (of_z w64 c.args.clock)) c.args.mutation.now) c.args.place place
    idle (some_records c.args.seq (to_z w64 (of_z w64 c.args.clock)) c.args.mutation.now c.keeps.ensures)))

pub returns-clause-ok : goal.returns-clause-ok
returns-clause-ok c =
    let tablet_list : List Tablet = c.self.inside.tablet_list in
    let trip : to_z w64 (of_z w64 c.args.clock) ≡ c.args.clock = search rules in
    let us : List Record = mutation_records c.args.seq c.args.clock c.args.mutation.now in
    let place : IsPlaceOf c.args.mutation.now.row tablet_list c.args.place = subst (λ ts. IsPlaceOf c.args.mutation.now.row ts c.args.place) (sym c.self.view_is) c.requires.place in
    c.in_ok-write.ensures.ok ∙ (λ i. at_place c.args.place (one (written (mutation_records c.args.seq (trip i) c.args.mutation.now))) tablet_list)
    ∙ sym (row_at_place c.args.mutation.now.row (one (written us)) tablet_list c.args.place place)
    ∙ ap (at_row c.args.mutation.now.row (one (written us))) c.self.view_is
