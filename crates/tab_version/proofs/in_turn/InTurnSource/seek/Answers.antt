use Rattle.std.proofs.Common.{◌≤◌, ◌∙◌, ap, subst, sym, length}
use mathlib.Core.Bool.{true≢false}
use Rattle.tab_iter.specs.Bags.{flat, IsEnding}
use Rattle.tab_key.specs.KeyOf.{key_of}
use Rattle.tab_version.specs.InTurn.{AreInTurn, before, left_in}
use Rattle.tab_version.proofs.InTurnLaws.{ending_key}
use Rattle.tab_version.proofs.in_turn.InTurnSource.seek.Goals as goal

pub invariant_of-self-2 : goal.invariant_of-self-2
invariant_of-self-2 g c =
    let same = sym c.go_to.ensures.same in
    let next = c.go_to.new.next in
    record {
      in_turn = subst AreInTurn same c.args.self.now.in_turn;
      over = c.go_to.ensures.over ∙ ap (before next) same;
      synced = λ _. subst (λ xss. IsEnding (left_in g.S.Source.rest c.go_to.new.current next xss) (flat xss)) same (ending_key (key_of c.args.key) _ _ c.in_ok-go_to.ensures.left);
      ended = λ _ none. subst (λ xss. length xss ≤ next) same (c.in_ok-go_to.ensures.ended none);
      lost = λ e. absurd (true≢false (sym e));
    }
