use Rattle.std.proofs.Common.{◌≡◌, ◌∙◌, rules}
use Rattle.std.proofs.lemmas.List.Elements.{same_from_all_zip}
use Rattle.tab_label.specs.Sets.{byte_lists}
use Rattle.tab_label.proofs.AuthLemmas.{cloned_lists}
use Rattle.tab_label.proofs.auths.AuthSetClone.clone.Goals as goal

same : (c : goal.In_ok-members) → byte_lists c.in_ok-members.members.items ≡ byte_lists c.self.inside.members.items
same c = cloned_lists _ c.self.inside.members.items c.in_ok-members.members.items c.in_ok-members.ensures.cases.0 (λ v w h. same_from_all_zip _ v.items w.items h.0 (λ x y e. search rules))

pub invariant_of-result : goal.invariant_of-result
invariant_of-result c = rw (same c) c.self.invariant

pub returns : goal.returns
returns c = record { cases = same c ∙ c.self.view_is }
