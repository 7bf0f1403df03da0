use Rattle.std.proofs.Common.{rules, ◌≡◌, ◌==◌, ◌∙◌, List, ap, length}
use Rattle.tab_key.specs.Records.{Record}
use Rattle.tab_version.proofs.InOrder.{none_of_all}
use Rattle.tab_version.proofs.version.Version.is_empty.Goals as goal

pub returns : goal.returns
returns c =
    let count : c.is_empty.result ≡ (length c.self.inside.tablets.items == 0) = search rules in
    count ∙ none_of_all c.self.inside.tablets.items c.self.invariant.in_turn ∙ ap (λ (us : List Record). length us == 0) c.self.view_is
