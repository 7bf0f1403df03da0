use Rattle.std.proofs.Common.{ℕ, List, subst}
use Rattle.tab_io.specs.Writing.{Puts}
use Rattle.tab_wire.proofs.Lengths.{terms_each}
use Rattle.tab_wire.proofs.value.put_each_term.Goals as goal

pub returns : goal.returns
returns g c = subst (λ (t : List ℕ). Puts g.W.Output c.args.output.now c.put_each.new.output t c.put_each.result) (terms_each c.args.terms.now) c.put_each.ensures
