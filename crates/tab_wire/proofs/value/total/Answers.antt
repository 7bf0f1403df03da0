use Rattle.std.proofs.Common.{◌≡◌, ◌%◌, ◌^◌, length, subst}
use Rattle.tab_wire.specs.Values.{value_bytes}
use Rattle.tab_wire.proofs.Lengths.{more_bytes}
use Rattle.tab_wire.proofs.value.total.Goals as goal

pub loop-value-preserved : goal.loop-value-preserved
loop-value-preserved c =
    more_bytes value_bytes c.args.values.now c.loop-value.value-index c.value-item.result c.loop-value.total c.length_of-total.result c.loop-value-test.true c.loop-value.invariant
    (subst (λ x. c.length_of-total.result ≡ length (value_bytes x) % 2 ^ 32) c.value-item.is c.length_of-total.ensures)
