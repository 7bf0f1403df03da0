-- The next record, in the same list or the next one.
use Rattle.std.proofs.Common.{◌≡◌, ◌≤◌, true, false, sym, ◌∙◌, ap, subst, length}
use Rattle.std.specs.Prelude.{is_some}
use mathlib.Core.Bool.{true≢false}
use Rattle.tab_iter.specs.Bags.{flat, IsEnding}
use Rattle.tab_iter.specs.Lists.{first_of, tail}
use Rattle.tab_iter.proofs.MergingLaws.{ending_tail}
use Rattle.tab_version.specs.InTurn.{AreInTurn, of_current, before, left_in}
use Rattle.tab_version.proofs.InTurnLaws.{stepped, advanced, some_first}
use Rattle.tab_version.proofs.in_turn.InTurnSource.advance.Goals as goal

pub invariant_of-self-then-is_some : goal.invariant_of-self-then-is_some
invariant_of-self-then-is_some g c =
    let some : is_some (first_of (of_current g.S.Source.rest c.advance_in.new.current)) ≡ true = ap is_some (sym c.top_of.ensures) ∙ sym c.is_some.ensures ∙ c.if-is_some.true in
    record {
      in_turn = c.args.self.now.in_turn;
      over = c.advance_in.ensures.whole ∙ c.args.self.now.over;
      synced = λ e. ending_tail _ _ _ (c.args.self.now.synced e) (stepped g.S.Source.rest c.args.self.now.current c.advance_in.new.current _ _ (c.args.self.now.ended e) c.in_default.ensures.rest);
      ended = λ e none. absurd (some_first _ some none);
      lost = λ e. c.in_default.ensures.rest ∙ ap tail (c.args.self.now.lost e);
    }

pub invariant_of-self-2 : goal.invariant_of-self-2
invariant_of-self-2 g c =
    let none : is_some (first_of (of_current g.S.Source.rest c.advance_in.new.current)) ≡ false = ap is_some (sym c.top_of.ensures) ∙ sym c.is_some.ensures ∙ c.if-is_some.false in
    let same = sym c.go_on.ensures.same in
    let next = c.go_on.new.next in
    record {
      in_turn = subst AreInTurn same c.args.self.now.in_turn;
      over = c.go_on.ensures.over ∙ ap (before next) same;
      synced = λ _. subst (λ xss. IsEnding (left_in g.S.Source.rest c.go_on.new.current next xss) (flat xss)) same (ending_tail _ _ _ (c.args.self.now.synced c.if-self.false) (advanced g.S.Source.rest c.args.self.now.current c.advance_in.new.current _ _ _ _ (c.args.self.now.ended c.if-self.false) c.in_default.ensures.rest none c.in_ok-go_on.ensures.left));
      ended = λ _ none. subst (λ xss. length xss ≤ next) same (c.in_ok-go_on.ensures.ended none);
      lost = λ e. absurd (true≢false (sym e));
    }
