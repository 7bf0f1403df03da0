use Rattle.std.proofs.Common.{◌≤◌, ◌∙◌, ap, subst, sym, length}
use mathlib.Core.Bool.{true≢false}
use Rattle.tab_iter.specs.Bags.{flat, IsEnding}
use Rattle.tab_version.specs.InTurn.{AreInTurn, before, left_in}
use Rattle.tab_version.proofs.InTurnLaws.{ending_whole}
use Rattle.tab_version.proofs.in_turn.InTurn.new.Goals as goal

pub invariant_of-result : goal.invariant_of-result
invariant_of-result g c =
    let same = sym c.go_on.ensures.same in
    let next = c.go_on.new.next in
    record {
      in_turn = subst AreInTurn same c.requires;
      over = c.go_on.ensures.over ∙ ap (before next) same;
      synced = λ _. subst (λ xss. IsEnding (left_in g.S.Source.rest c.go_on.new.current next xss) (flat xss)) same (ending_whole _ _ c.in_ok-go_on.ensures.left);
      ended = λ _ none. subst (λ xss. length xss ≤ next) same (c.in_ok-go_on.ensures.ended none);
      lost = λ e. absurd (true≢false (sym e));
    }
