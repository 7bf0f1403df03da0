use Rattle.std.proofs.Common.{ℕ, List, ◌∙◌, ap, subst}
use Rattle.tab_io.specs.Writing.{Puts}
use Rattle.tab_accumulo.specs.Words.{term_bytes, listed}
use Rattle.tab_accumulo.proofs.Listing.{listed_terms}
use Rattle.tab_accumulo.proofs.quoting.put_authorizations.Goals as goal

pub returns : goal.returns
returns g c =
    subst (λ (t : List ℕ). Puts g.W.Output c.args.output.now c.put_terms.new.output t c.put_terms.result)
    (listed_terms term_bytes c.terms.result.now ∙ ap (listed term_bytes) c.terms.ensures.all) c.put_terms.ensures
