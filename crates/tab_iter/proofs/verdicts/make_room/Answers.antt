-- Where nothing is noted, nothing is told.
use Rattle.std.proofs.Common.{ℕ, List, subst, sym}
use Rattle.tab_iter.specs.Verdicts.{AreTold}
use Rattle.tab_iter.proofs.ShortLabels.{zeros_told}
use Rattle.tab_iter.proofs.verdicts.make_room.Goals as goal

pub returns-in_ok-numbers : goal.returns-in_ok-numbers
returns-in_ok-numbers c = λ auths told. subst (λ (ns : List ℕ). AreTold auths ns) (sym (c.in_ok-numbers.ensures.items_if_clones_equal (λ y e. e))) (zeros_told auths 128)
