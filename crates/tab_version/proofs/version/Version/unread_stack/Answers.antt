use Rattle.std.proofs.Common.{◌∙◌, sym, subst}
use Rattle.tab_key.specs.Sorted.{IsDistinct}
use Rattle.tab_version.specs.InTurn.{AreInTurn, in_order}
use Rattle.tab_version.proofs.InOrder.{one_by_one, all_distinct, shown_sorted}
use Rattle.tab_version.proofs.version.Version.unread_stack.Goals as goal

pub unpositioned-all-requires : goal.unpositioned-all-requires
unpositioned-all-requires c = subst (λ l. AreInTurn (in_order l)) (sym c.as_slice.ensures.value) c.self.invariant.in_turn

pub returns-clause-shown : goal.returns-clause-shown
returns-clause-shown c =
    let ts = c.self.inside.tablets.items in
    let up = c.self.invariant.in_turn.rising in
    c.stack_unread.ensures.shown ∙ shown_sorted c.args.self.now _ c.args.versions c.args.columns.now c.args.auths.now (subst IsDistinct c.self.view_is (all_distinct ts up)) (one_by_one ts _ _ _ up c.unpositioned-all.ensures.whole c.as_slice.ensures.value c.self.view_is)
