-- What is read of a policy once a table of an image was put into it, with the rights on it.
use Rattle.std.proofs.Common.{◌≡◌, true, false, cond, List, ◌∙◌}
use Rattle.std.specs.Prelude.{bytes_eq}
use Rattle.std.specs.List.{fold}
use Rattle.tab_policy.specs.State.{State, readings, table_granted, table_exists}
use Rattle.tab_image.specs.declared.table.ImageRight.{ImageRight}
use Rattle.tab_image.specs.declared.table.TableHead.{TableHead}
use Rattle.tab_loading.specs.Policies.{with_right, with_head}

-- what the calls leave that put it there
pub puts_head : (head : TableHead) (rights : List ImageRight) (old one new : State) → rights ≡ head.rights
    → readings one ≡ record (readings old) {
      rights = λ n p t. cond (bytes_eq head.name t) false (table_granted old n p t);
      tables = λ t. cond (bytes_eq head.name t) true (table_exists old t);
    }
    → readings new ≡ fold (with_right head.name) (readings one) rights → readings new ≡ with_head (readings old) head
unfolding readings
puts_head head rights old one new same first second = second ∙ (λ i. fold (with_right head.name) (first i) (same i))
