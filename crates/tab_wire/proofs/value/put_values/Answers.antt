use Rattle.std.proofs.Common.{ℕ, List, subst}
use Rattle.tab_io.specs.Writing.{Puts}
use Rattle.tab_wire.specs.Values.{value_bytes}
use Rattle.tab_wire.proofs.Lengths.{joined_each}
use Rattle.tab_wire.proofs.value.put_values.Goals as goal

pub returns : goal.returns
returns g c = subst (λ (t : List ℕ). Puts g.W.Output c.args.output.now c.put_each.new.output t c.put_each.result) (joined_each value_bytes c.args.values.now) c.put_each.ensures
