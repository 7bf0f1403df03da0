use Rattle.std.proofs.Common.{◌≡◌, ◌∙◌, true, false, cond, sym, ap}
use Rattle.std.specs.Prelude.{Some, None}
use Rattle.tab_tablet.specs.Due.{is_due}
use Rattle.tab_tablet.specs.Tablets.{Tablet}
use Rattle.tab_tablets.specs.Due.{number_due}
use Rattle.tab_tablets.specs.Places.{tablet_at}
use Rattle.tab_tablets.proofs.FirstDue.{due_ended}
use Rattle.tab_tablets.proofs.tablets.Tablets.due_at.Goals as goal

pub returns-then-is_due : goal.returns-then-is_due
returns-then-is_due c =
    let there : Tablet = tablet_at c.self.inside.tablet_list c.args.place in
    let due : is_due c.args.kind there ≡ true = sym (due_ended c.args.kind there.end c.tablet-tablet.result.now there c.tablet-tablet.ensures) ∙ sym c.is_due.ensures ∙ c.if-is_due.true in
    ap Some (c.number.ensures ∙ ap (λ (t : Tablet). t.number) c.tablet-tablet.ensures)
    ∙ sym (ap (λ v. cond v (Some there.number) None) due)
    ∙ ap (λ ts. number_due c.args.kind (tablet_at ts c.args.place)) c.self.view_is

pub returns : goal.returns
returns c =
    let there : Tablet = tablet_at c.self.inside.tablet_list c.args.place in
    let idle : is_due c.args.kind there ≡ false = sym (due_ended c.args.kind there.end c.tablet-tablet.result.now there c.tablet-tablet.ensures) ∙ sym c.is_due.ensures ∙ c.if-is_due.false in
    sym (ap (λ v. cond v (Some there.number) None) idle) ∙ ap (λ ts. number_due c.args.kind (tablet_at ts c.args.place)) c.self.view_is
