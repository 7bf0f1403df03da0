use Rattle.std.proofs.Common.{ℕ, List, ◌∷◌, ◌<◌, ◌∙◌, ap, length, subst, arith}
use Rattle.std.specs.Prelude.{Vec}
use Rattle.std.specs.declared.alloc.Global.{Global}
use Rattle.std.proofs.lemmas.Bool.Decides.{nat_tests}
use Rattle.tab_io.specs.Writing.{Puts}
use Rattle.tab_accumulo.specs.Words.{term_bytes, listed}
use Rattle.tab_accumulo.proofs.Listing.{listed_first}
use Rattle.tab_accumulo.proofs.quoting.put_terms.Goals as goal

pub returns : goal.returns
returns g c =
    let f : Vec ℕ Global → List ℕ = λ v. term_bytes v.items in
    let later = c.split_at.result.1.now in
    let some : 0 < length c.args.terms.now = grind (arith, nat_tests, c.if-is_empty.ensures) in
    subst (λ (t : List ℕ). Puts g.W.Output c.args.output.now c.put_some.new.output t c.put_some.result)
    (ap (λ x. listed f (x ∷ later)) c.index-terms-0.is ∙ listed_first f c.args.terms.now later c.index-terms-0.result some c.split_at.ensures.back) c.put_some.ensures
