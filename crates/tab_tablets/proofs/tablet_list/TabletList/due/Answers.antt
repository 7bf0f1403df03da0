use Rattle.std.proofs.Common.{◌≡◌, ◌∙◌, ◌<◌, sym, ap, length, arith, below_more, rules}
use Rattle.std.specs.Prelude.{Some}
use Rattle.tab_tablet.specs.Tablets.{Tablet}
use Rattle.tab_tablets.specs.Places.{tablet_at}
use Rattle.tab_tablets.proofs.FirstDue.{due_ended, due_there, due_nowhere}
use Rattle.tab_tablets.proofs.tablet_list.TabletList.due.Goals as goal

pub loop-place-preserved : goal.loop-place-preserved
loop-place-preserved c = below_more _ _ c.loop-place.invariant
    (sym (due_ended c.args.kind (tablet_at c.args.self.now c.loop-place.place).end c.tablet-tablet.result.now (tablet_at c.args.self.now c.loop-place.place) c.tablet-tablet.ensures) ∙ sym c.is_due.ensures ∙ c.if-is_due.false)

pub returns-then-is_due : goal.returns-then-is_due
returns-then-is_due c =
    let inside : c.loop-place.place < length c.args.self.now = search rules in
    ap Some (c.number.ensures ∙ ap (λ (t : Tablet). t.number) c.tablet-tablet.ensures)
    ∙ sym (due_there c.args.kind c.args.self.now c.loop-place.place inside c.loop-place.invariant
    (sym (due_ended c.args.kind (tablet_at c.args.self.now c.loop-place.place).end c.tablet-tablet.result.now (tablet_at c.args.self.now c.loop-place.place) c.tablet-tablet.ensures) ∙ sym c.is_due.ensures ∙ c.if-is_due.true))

pub returns : goal.returns
returns c =
    let all : c.len-place-end.result ≡ length c.args.self.now = c.len-place-end.ensures in
    let over = c.loop-place-test.false in
    sym (due_nowhere c.args.kind c.args.self.now (λ j lt. c.loop-place.invariant j (omega (arith, all, over, lt))))
