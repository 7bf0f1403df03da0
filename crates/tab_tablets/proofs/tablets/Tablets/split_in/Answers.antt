use Rattle.std.proofs.Common.{◌≡◌, ◌∙◌, List, false, sym, ap}
use Rattle.tab_tablet.specs.Splitting.{split_at}
use Rattle.tab_tablet.specs.Tablets.{Tablet}
use Rattle.tab_tablets.specs.Places.{at_place}
use Rattle.tab_tablets.specs.Splits.{is_full}
use Rattle.tab_tablets.specs.declared.splitting.Split.{Split}
use Rattle.tab_tablets.proofs.EndRows.{row_at_place}
use Rattle.tab_tablets.proofs.Told.{done}
use Rattle.tab_tablets.proofs.tablets.Tablets.split_in.Goals as goal

pub returns-clause-tablets : goal.returns-clause-tablets
returns-clause-tablets c =
    let some_room : is_full c.args.self.now ≡ false = ap is_full (sym c.self.view_is) ∙ sym c.is_full.ensures ∙ c.if-is_full.false in
    c.in_ok-divide.ensures.ok ∙ ap (at_place c.args.place (split_at c.args.row c.args.number)) c.make_run.ensures
    ∙ sym (row_at_place c.args.row (split_at c.args.row c.args.number) c.args.self.now c.args.place c.requires.place) ∙ sym (ap (λ (x : Split × List Tablet). x.1) (done c.args.row c.args.number c.args.self.now some_room))
