use Rattle.std.proofs.Common.{ℕ, List, ◌∷◌, ◌++◌, ◌<◌, ◌∙◌, ap, length, subst, arith}
use Rattle.std.specs.List.{flat_map}
use Rattle.std.proofs.lemmas.Bool.Decides.{nat_tests}
use Rattle.tab_io.specs.Writing.{Puts}
use Rattle.tab_audit.proofs.Writing.{list_first}
use Rattle.tab_audit.proofs.list.put_list.Goals as goal

pub returns : goal.returns
returns g c =
    let f = g.P.PutItem.text c.args.how.now in
    let later = c.split_at.result.1.now in
    let some : 0 < length c.args.members.now = grind (arith, nat_tests, c.if-is_empty.ensures) in
    subst (λ (t : List ℕ). Puts g.W.Output c.args.output.now c.put_members.new.output t c.put_members.result)
    (ap (λ x. f x ++ flat_map (λ y. 44 ∷ f y) later) c.index-members-0.is ∙ list_first f c.args.members.now later c.index-members-0.result some c.split_at.ensures.back) c.put_members.ensures
