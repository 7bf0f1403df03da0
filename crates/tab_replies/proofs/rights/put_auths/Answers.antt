use Rattle.std.proofs.Common.{ℕ, List, ◌∙◌, ap, subst}
use Rattle.std.specs.List.{flat_map}
use Rattle.tab_io.specs.Writing.{Puts}
use Rattle.tab_replies.specs.Texts.{auth_text}
use Rattle.tab_replies.proofs.Spelling.{auth_lines}
use Rattle.tab_replies.proofs.rights.put_auths.Goals as goal

pub returns : goal.returns
returns g c =
    subst (λ (t : List ℕ). Puts g.W.Output c.args.output.now c.put_each.new.output t c.put_each.result)
    (auth_lines c.terms.result.now ∙ ap (flat_map auth_text) c.terms.ensures.all) c.put_each.ensures
