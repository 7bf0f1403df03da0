use Rattle.std.proofs.Common.{◌≡◌, ◌%◌, ◌^◌, length, take}
use Rattle.std.specs.List.{flat_map}
use Rattle.tab_wire.specs.Values.{value_bytes}
use Rattle.tab_wire.proofs.value.total.Given as goal

abbrev pub invariant-loop-value : goal.invariant-loop-value
invariant-loop-value l = l.total ≡ length (flat_map value_bytes (take l.value-index l.values)) % 2 ^ 32
