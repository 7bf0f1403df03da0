use Rattle.std.proofs.Common.{◌≡◌, ◌%◌, ◌^◌, length, take}
use Rattle.std.specs.List.{flat_map}
use Rattle.tab_wire.specs.Replies.{field}
use Rattle.tab_wire.proofs.value.length_of_terms.Given as goal

abbrev pub invariant-loop-term : goal.invariant-loop-term
invariant-loop-term l = l.length ≡ length (flat_map (λ t. field t.items) (take l.term-index l.terms)) % 2 ^ 32
