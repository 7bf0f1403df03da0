use Rattle.std.proofs.Common.{ℕ, subst}
use Rattle.tab_io.specs.Writing.{Puts}
use Rattle.tab_wire.specs.Replies.{u32}
use Rattle.tab_wire.proofs.Lengths.{terms_count}
use Rattle.tab_wire.proofs.value.put_count_of_terms.Goals as goal

pub returns : goal.returns
returns g c = subst (λ (n : ℕ). Puts g.W.Output c.args.output.now c.put_length.new.output (u32 n) c.put_length.result) (terms_count c.args.terms.now) c.put_length.ensures
