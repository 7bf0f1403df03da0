use Rattle.std.proofs.Common.{ℕ, List, ◌∙◌, ap, subst}
use Rattle.tab_io.specs.Writing.{Puts}
use Rattle.tab_audit.specs.Words.{part_word, list_word}
use Rattle.tab_audit.proofs.Writing.{list_terms}
use Rattle.tab_audit.proofs.list.put_terms.Goals as goal

pub returns : goal.returns
returns g c =
    subst (λ (t : List ℕ). Puts g.W.Output c.args.output.now c.put_list.new.output t c.put_list.result)
    (list_terms c.terms.result.now ∙ ap (list_word part_word) c.terms.ensures.all) c.put_list.ensures
